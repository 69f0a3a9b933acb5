-- The names of a roster, which a set of keys holds.
use Rattle.std.proofs.Common.{◌≡◌, ℕ, true, false, if◌then◌else◌, List, [], ◌∷◌, ◌++◌, map, refl}
use Rattle.std.specs.List.{list_any, IsDistinct}
use Rattle.std.specs.Str.{bytes_eq}
use Rattle.std.proofs.lemmas.Cmp.{nat_list_eq_equiv}
use Rattle.std.proofs.lemmas.List.{map-append}
use Rattle.std.proofs.lemmas.Map.Keys.{IsDistinct-push}
use Rattle.indexmap.specs.IndexSet.{insert_key}
use Rattle.match_setup.specs.Roster.{is_known, with_name, PlayerNamesDiffer}
use Rattle.tss_base.proofs.ListLaws.{any_map}

-- no name stands twice among no names
pub PlayerNamesDiffer-nil : PlayerNamesDiffer []
unfolding IsDistinct
PlayerNamesDiffer-nil = tt

-- nor after a name is put last that isn't there
pub PlayerNamesDiffer-with_name : (names : List (List ℕ)) (name : List ℕ) → PlayerNamesDiffer names → PlayerNamesDiffer (with_name names name)
PlayerNamesDiffer-with_name names name differ =
    elim (is_known names name) as (λ known. is_known names name ≡ known → PlayerNamesDiffer (if known then names else names ++ name ∷ [])) [
      | true ↦ λ _. differ
      | false ↦ λ unknown. IsDistinct-push nat_list_eq_equiv names name differ unknown
    ] refl

-- a set of keys holds a name
pub is_known-keys : {K : Type 0} (name : K → List ℕ) (keys : List K) (word : List ℕ) → is_known (map name keys) word ≡ list_any (λ k. bytes_eq word (name k)) keys
is_known-keys name keys word = any_map (bytes_eq word) name keys

-- the names after a key is put into the set
pub names-insert_key : {K : Type 0} (name : K → List ℕ) (keys : List K) (key : K) → map name (insert_key (λ x y. bytes_eq (name x) (name y)) keys key) ≡ with_name (map name keys) (name key)
names-insert_key name keys key =
    rw (is_known-keys name keys (name key))
    (elim (list_any (λ k. bytes_eq (name key) (name k)) keys) as (λ known. map name (if known then keys else keys ++ key ∷ []) ≡ (if known then map name keys else map name keys ++ name key ∷ [])) [
      | true ↦ refl
      | false ↦ map-append name keys (key ∷ [])
    ])
