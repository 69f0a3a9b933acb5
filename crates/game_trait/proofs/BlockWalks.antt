-- The steps of a search in a tree of blocks.
use Rattle.std.proofs.Common.{◌≡◌, subst, ℕ, zero, suc, ◌+◌, ◌-◌, ◌/◌, ◌%◌, ◌<◌, List, length, Some, arith}
use Rattle.std.specs.List.{slice_get}
use Rattle.std.specs.Prelude.{slice_index}
use Rattle.game_trait.specs.BlockTree.{route_of, next_link, Leads, IsRoute, IsRouteTo, IsBlockTree, linked, IsOpen}
use Rattle.game_trait.proofs.BlockTrees.{none-named, set-link, kept-link}

-- a search stands at a link: the block that is sought is ahead, if it is there, and whatever is ahead
-- once a link more is set is led to from the root
pub record IsSearched (blocks : List (ℕ × ℕ)) (links : List ℕ) (from block rest link : ℕ) : Type 0 where
  pub within : link < length links
  pub ahead : (end : ℕ) → slice_get blocks end ≡ Some (from, block) → IsRoute links rest link end
  pub behind :
      (free to n end : ℕ) → slice_index links free ≡ 0 → Leads (linked links free to) n rest link end
      → IsRouteTo (linked links free to) (route_of from block) end

-- a route has a next step, from which it goes on where it is to elsewhere
some-step : (links : List ℕ) (n rest link end : ℕ) → Leads links n rest link end → 0 < slice_index links link
unfolding Leads
some-step links zero rest link end h = omega arith
some-step links (suc n) rest link end h = h.0

next-step :
    (links : List ℕ) (n rest link end : ℕ) → Leads links n rest link end → (slice_index links link ≡ end + 1 → ⊥)
    → IsRoute links (rest / 4) (next_link (slice_index links link) rest) end
unfolding Leads
next-step links zero rest link end h other = absurd (other h)
next-step links (suc n) rest link end h other = (n, h.1)

module _ {blocks : List (ℕ × ℕ)} {links : List ℕ} (tree : IsBlockTree blocks links) where
  -- it begins at a root
  pub search-first :
      (from block : ℕ) → IsSearched blocks links from block (route_of from block / 4096) (route_of from block % 4096)
  search-first from block =
      let four = tree.four in
      let root : route_of from block % 4096 < 4096 = omega arith in
      record {
        within = omega arith;
        ahead = λ end e. tree.found from block end e;
        behind = λ free to n end none h. (n, h);
      }

  -- a link leads to a block that is there, whose links are behind it
  pub link-there : (link : ℕ) → 0 < slice_index links link → slice_index links link - 1 < length blocks
  link-there link some = let high = (tree.rise link some).1 in omega arith

  pub link-rises : (rest link : ℕ) → 0 < slice_index links link → link < next_link (slice_index links link) rest
  link-rises rest link some = let low = (tree.rise link some).0 in omega arith

  module _ {from block rest link : ℕ} (h : IsSearched blocks links from block rest link) where
    -- where a link leads to another block it goes on
    pub search-next :
        0 < slice_index links link → (slice_get blocks (slice_index links link - 1) ≡ Some (from, block) → ⊥)
        → IsSearched blocks links from block (rest / 4) (next_link (slice_index links link) rest)
    unfolding Leads
    search-next some other =
        let four = tree.four in
        let high = (tree.rise link some).1 in
        record {
          within = omega arith;
          ahead = λ end e. (let way = h.ahead end e in
              next-step links way.0 rest link end way.1
              (λ same. other (subst (λ (i : ℕ). slice_get blocks i ≡ Some (from, block)) (omega arith) e)));
          behind = λ free to n end none way.
              h.behind free to (suc n) end none (rw (kept-link links free to link none some) (some, way));
        }

    -- and where it leads nowhere the search ends
    pub search-last : slice_index links link ≡ 0 → IsOpen blocks links from block link
    unfolding Leads
    search-last none = record {
      new = none-named blocks from block (λ end e.
          (let way = h.ahead end e in let some = some-step links way.0 rest link end way.1 in omega arith));
      free = none;
      leads = h.behind link (length blocks + 1) 0 (length blocks) none (set-link links link (length blocks + 1) h.within);
    }
