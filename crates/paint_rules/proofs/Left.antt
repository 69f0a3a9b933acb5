-- What an act leaves as it is, and whose a cell may become; what a beat leaves as it is.
use Rattle.std.proofs.Common.{◌≡◌, ◌∙◌, ◌⊎◌, inl, inr, ℕ, zero, suc, ◌<◌, Bool, true, false, if◌then◌else◌}
use Rattle.std.proofs.Common.{Option, Some, None, List, [], ◌∷◌, length, set, get_or, refl, ap, length-set}
use Rattle.std.specs.List.{All, list_any, slice_get}
use Rattle.std.specs.Option.{option_map_or}
use Rattle.std.proofs.lemmas.Bool.{or_parts}
use Rattle.std.proofs.lemmas.List.{get_or-set_other}
use Rattle.std.proofs.lemmas.List.Elements.{All-head, All-tail}
use Rattle.game_trait.specs.declared.command.Act.{Act}
use Rattle.game_trait.specs.declared.command.Act.TheVariants.{Go, Left, Right, Shoot, Dash}
use Rattle.game_trait.specs.declared.command.Command.{Command}
use Rattle.match_setup.specs.Ground.{Grid}
use Rattle.match_setup.specs.Setup.{Cell, same_cell, spot_cell, pickup_cell}
use Rattle.match_setup.specs.Facing.{turned_left, turned_right, open_ahead}
use Rattle.match_setup.specs.declared.pickup.PickupSpot.{PickupSpot}
use Rattle.match_setup.specs.declared.spot.Spot.{Spot}
use Rattle.paint_rules.specs.Owners.{cell_place, owner_of, painted}
use Rattle.paint_rules.specs.World.{PaintWorld}
use Rattle.paint_rules.specs.Command.{by_one, by_player, with_spot, is_held, come, moved_to, moved, painted_ahead, shot, dashed, acted, applied}
use Rattle.paint_rules.specs.Beat.{wiped}
use Rattle.paint_rules.proofs.Homes.{apart}

-- a cell stays whose it was, or becomes the player's
abbrev IsTheirs : ℕ → List ℕ → List ℕ → Type 0
IsTheirs number old new = (cell : Cell) → (owner_of new cell ≡ owner_of old cell) ⊎ (owner_of new cell ≡ number)

-- what an act of the player of this number leaves
pub record Leaves (number : ℕ) (old new : PaintWorld) : Type 0 where
  pub grid : new.grid ≡ old.grid
  pub pickups : new.pickups ≡ old.pickups
  pub time : new.time ≡ old.time
  pub as_many : length new.players ≡ length old.players
  pub others : (k : ℕ) → (k ≡ number → ⊥) → slice_get new.players k ≡ slice_get old.players k
  pub theirs : IsTheirs number old.owners new.owners

-- one cell painted
set-theirs : (owners : List ℕ) (i j n : ℕ) → (get_or {A = ℕ} (set owners i n) j 32 ≡ get_or {A = ℕ} owners j 32) ⊎ (get_or {A = ℕ} (set owners i n) j 32 ≡ n)
set-theirs [] i j n = inl refl
set-theirs (o ∷ os) zero zero n = inr refl
set-theirs (o ∷ os) zero (suc j) n = inl refl
set-theirs (o ∷ os) (suc i) zero n = inl refl
set-theirs (o ∷ os) (suc i) (suc j) n = set-theirs os i j n

-- one change after another
theirs-then : (n : ℕ) (a b c : List ℕ) → IsTheirs n a b → IsTheirs n b c → IsTheirs n a c
theirs-then n a b c first second = λ cell. at cell (first cell) (second cell)
  where
    at : (cell : Cell) → (owner_of b cell ≡ owner_of a cell) ⊎ (owner_of b cell ≡ n) → (owner_of c cell ≡ owner_of b cell) ⊎ (owner_of c cell ≡ n)
        → (owner_of c cell ≡ owner_of a cell) ⊎ (owner_of c cell ≡ n)
    at cell h (inr own) = inr own
    at cell (inl same) (inl still) = inl (still ∙ same)
    at cell (inr own) (inl still) = inr (still ∙ own)

-- the cell ahead painted, if there is one, and then some
next-theirs : (grid : Grid) (n cells : ℕ) (owners : List ℕ) → ((spot : Spot) (l : List ℕ) → IsTheirs n l (painted_ahead grid n cells spot l)) → (o : Option Spot)
    → IsTheirs n owners (option_map_or (λ next. painted_ahead grid n cells next (painted owners (spot_cell next) n)) o owners)
next-theirs grid n cells owners more None = λ cell. inl refl
next-theirs grid n cells owners more (Some next) = theirs-then n owners (painted owners (spot_cell next) n) (painted_ahead grid n cells next (painted owners (spot_cell next) n))
    (λ cell. set-theirs owners (cell_place (spot_cell next)) (cell_place cell) n)
    (more next (painted owners (spot_cell next) n))

-- some cells ahead painted
ahead-theirs : (grid : Grid) (n cells : ℕ) (spot : Spot) (owners : List ℕ) → IsTheirs n owners (painted_ahead grid n cells spot owners)
unfolding painted_ahead
ahead-theirs grid n zero spot owners = λ cell. inl refl
ahead-theirs grid n (suc cells) spot owners = next-theirs grid n cells owners (ahead-theirs grid n cells) (open_ahead grid spot)

-- another player than the one who is put
get-set_other : {X : Type 0} (xs : List X) (i k : ℕ) (x : X) → (k ≡ i → ⊥) → slice_get (set xs i x) k ≡ slice_get xs k
get-set_other [] i k x other = refl
get-set_other (y ∷ ys) zero zero x other = absurd (other refl)
get-set_other (y ∷ ys) zero (suc k) x other = refl
get-set_other (y ∷ ys) (suc i) zero x other = refl
get-set_other (y ∷ ys) (suc i) (suc k) x other = get-set_other ys i k x (λ same. other (ap suc same))

leaves-all : (n : ℕ) (w : PaintWorld) → Leaves n w w
leaves-all n w = record { grid = refl; pickups = refl; time = refl; as_many = refl; others = λ k other. refl; theirs = λ cell. inl refl }

leaves-then : (n : ℕ) (a b c : PaintWorld) → Leaves n a b → Leaves n b c → Leaves n a c
leaves-then n a b c first second = record {
  grid = second.grid ∙ first.grid;
  pickups = second.pickups ∙ first.pickups;
  time = second.time ∙ first.time;
  as_many = second.as_many ∙ first.as_many;
  others = λ k other. second.others k other ∙ first.others k other;
  theirs = theirs-then n a.owners b.owners c.owners first.theirs second.theirs;
}

leaves-one : (n : ℕ) (w : PaintWorld) (change : Spot → PaintWorld) → ((spot : Spot) → Leaves n w (change spot)) → (o : Option Spot) → Leaves n w (by_one w o change)
leaves-one n w change each None = leaves-all n w
leaves-one n w change each (Some spot) = each spot

leaves-by : (n : ℕ) (w : PaintWorld) (change : Spot → PaintWorld) → ((spot : Spot) → Leaves n w (change spot)) → Leaves n w (by_player w n change)
leaves-by n w change each = leaves-one n w change each (slice_get w.players n)

leaves-put : (n : ℕ) (w : PaintWorld) (spot : Spot) → Leaves n w (with_spot w n spot)
leaves-put n w spot = record {
  grid = refl;
  pickups = refl;
  time = refl;
  as_many = length-set w.players n spot;
  others = λ k other. get-set_other w.players n k spot other;
  theirs = λ cell. inl refl;
}

leaves-come : (n : ℕ) (w : PaintWorld) (spot : Spot) → Leaves n w (come w n spot)
leaves-come n w spot = record {
  grid = refl;
  pickups = refl;
  time = refl;
  as_many = length-set w.players n spot;
  others = λ k other. get-set_other w.players n k spot other;
  theirs = λ cell. set-theirs w.owners (cell_place (spot_cell spot)) (cell_place cell) n;
}

leaves-free : (n : ℕ) (w : PaintWorld) (spot : Spot) (held : Bool) → Leaves n w (if held then w else come w n spot)
leaves-free n w spot true = leaves-all n w
leaves-free n w spot false = leaves-come n w spot

leaves-to : (n : ℕ) (w : PaintWorld) (o : Option Spot) → Leaves n w (moved_to w n o)
leaves-to n w None = leaves-all n w
leaves-to n w (Some spot) = leaves-free n w spot (is_held w.players (spot_cell spot))

leaves-moved : (n : ℕ) (w : PaintWorld) → Leaves n w (moved w n)
unfolding moved
leaves-moved n w = leaves-by n w (λ spot. moved_to w n (open_ahead w.grid spot)) (λ spot. leaves-to n w (open_ahead w.grid spot))

leaves-shot : (n : ℕ) (w : PaintWorld) → Leaves n w (shot w n)
leaves-shot n w = leaves-by n w (λ spot. record w { owners = painted_ahead w.grid n 3 spot w.owners }) (λ spot. record {
  grid = refl;
  pickups = refl;
  time = refl;
  as_many = refl;
  others = λ k other. refl;
  theirs = ahead-theirs w.grid n 3 spot w.owners;
})

leaves-acted : (n : ℕ) (w : PaintWorld) (act : Act) → Leaves n w (acted w n act)
leaves-acted n w Go = leaves-moved n w
leaves-acted n w Left = leaves-by n w (λ spot. with_spot w n (record spot { face = turned_left spot.face })) (λ spot. leaves-put n w (record spot { face = turned_left spot.face }))
leaves-acted n w Right = leaves-by n w (λ spot. with_spot w n (record spot { face = turned_right spot.face })) (λ spot. leaves-put n w (record spot { face = turned_right spot.face }))
leaves-acted n w Shoot = leaves-shot n w
leaves-acted n w Dash = leaves-then n w (moved w n) (dashed w n) (leaves-moved n w) (leaves-moved n (moved w n))

-- what a command leaves
pub leaves-applied : (w : PaintWorld) (x : Command) → Leaves x.player w (applied w x)
unfolding applied
leaves-applied w x = leaves-acted x.player w x.act

-- a cell where no pickup lies is not wiped
pub wiped-other : (pickups : List PickupSpot) (owners : List ℕ) (cell : Cell) → cell.x < 64
    → All (λ p. (p.x < 64) × (p.y < 64)) pickups
    → list_any (λ p. same_cell cell (pickup_cell p)) pickups ≡ false
    → owner_of (wiped pickups owners) cell ≡ owner_of owners cell
unfolding wiped
wiped-other [] owners cell near all_near free = refl
wiped-other (p ∷ ps) owners cell near all_near free =
    let parts = or_parts (same_cell cell (pickup_cell p)) (list_any (λ q. same_cell cell (pickup_cell q)) ps) free in
    wiped-other ps (painted owners (pickup_cell p) 32) cell near (All-tail (λ q. (q.x < 64) × (q.y < 64)) p ps all_near) parts.1
    ∙ get_or-set_other owners (cell_place (pickup_cell p)) (cell_place cell) 32 32 (apart cell (pickup_cell p) near (All-head (λ q. (q.x < 64) × (q.y < 64)) p ps all_near).0 parts.0)
