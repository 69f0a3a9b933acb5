-- Two worlds of the arena are one or not: some answer says which, and one alone.
use Rattle.std.proofs.Common.{◌≡◌, Bool, ◌&&◌, ap, refl, rules}
use Rattle.std.specs.Prelude.{◌==◌, bytes_eq}
use Rattle.std.specs.Bool.{Decides}
use Rattle.std.specs.Cmp.Lexicographic.{pointwise}
use Rattle.std.proofs.lemmas.Bool.Decides.{Decides-and, Decides-like, Decides-eqb}
use Rattle.std.proofs.lemmas.Slice.Eq.{slice_eq-Decides, bytes_eq-Decides}
use Rattle.arena_rules.specs.contracts.player.PlayerPartialEq.TheImpl.{ghosts as of_players}
use Rattle.arena_rules.specs.contracts.pickup.PickupPartialEq.TheImpl.{ghosts as of_pickups}
use Rattle.arena_rules.specs.contracts.shot.ShotPartialEq.TheImpl.{ghosts as of_shots}
use Rattle.arena_rules.specs.declared.pickup.Pickup.{Pickup}
use Rattle.arena_rules.specs.declared.shot.Shot.{Shot}
use Rattle.match_setup.specs.Ground.{Grid}
use Rattle.arena_rules.specs.Scene.{World}
use Rattle.arena_rules.proofs.Same.{players}

shots : (a b : Shot) → Decides (of_shots.eq a b) (a ≡ b)
shots a b = search rules

pickups : (a b : Pickup) → Decides (of_pickups.eq a b) (a ≡ b)
pickups a b = search rules

-- whether two grids are one
abbrev same_grid : Grid → Grid → Bool
same_grid a b = (a.width == b.width) && ((a.height == b.height) && bytes_eq a.walls b.walls)

grids : (a b : Grid) → Decides (same_grid a b) (a ≡ b)
grids a b =
    Decides-like _
    (λ (all : (a.width ≡ b.width) × ((a.height ≡ b.height) × (a.walls ≡ b.walls))).
    let width = all.0 in let height = all.1.0 in let walls = all.1.1 in
    λ i. record { width = width i; height = height i; walls = walls i })
    (λ e. (ap (λ (g : Grid). g.width) e, (ap (λ (g : Grid). g.height) e, ap (λ (g : Grid). g.walls) e)))
    (Decides-and _ _ (Decides-eqb a.width b.width) (Decides-and _ _ (Decides-eqb a.height b.height) (bytes_eq-Decides a.walls b.walls)))

-- whether two worlds are one
abbrev pub same_world : World → World → Bool
same_world a b =
    same_grid a.grid b.grid
    && (pointwise of_players.eq a.players b.players
    && (pointwise of_shots.eq a.shots b.shots && (pointwise of_pickups.eq a.pickups b.pickups && (a.time == b.time))))

pub worlds : (a b : World) → Decides (same_world a b) (a ≡ b)
worlds a b =
    Decides-like _
    (λ (all : (a.grid ≡ b.grid) × ((a.players ≡ b.players) × ((a.shots ≡ b.shots) × ((a.pickups ≡ b.pickups) × (a.time ≡ b.time))))).
    let grid = all.0 in let players = all.1.0 in let shots = all.1.1.0 in let pickups = all.1.1.1.0 in let time = all.1.1.1.1 in
    λ i. record { grid = grid i; players = players i; shots = shots i; pickups = pickups i; time = time i })
    (λ e. (ap (λ (w : World). w.grid) e, (ap (λ (w : World). w.players) e, (ap (λ (w : World). w.shots) e, (ap (λ (w : World). w.pickups) e, ap (λ (w : World). w.time) e)))))
    (Decides-and _ _ (grids a.grid b.grid)
    (Decides-and _ _ (slice_eq-Decides players a.players b.players _ refl)
    (Decides-and _ _ (slice_eq-Decides shots a.shots b.shots _ refl)
    (Decides-and _ _ (slice_eq-Decides pickups a.pickups b.pickups _ refl) (Decides-eqb a.time b.time)))))
