-- The tests of equality decide equality.
use Rattle.std.proofs.Common.{◌≡◌, ap, rules}
use Rattle.std.proofs.lemmas.Bool.Decides.{Decides-and, Decides-like, Decides-int_eq}
use Rattle.std.specs.Bool.{Decides}
use Rattle.arena_rules.specs.contracts.player.BodyPartialEq.TheImpl.{ghosts as of_bodies}
use Rattle.arena_rules.specs.contracts.player.StatePartialEq.TheImpl.{ghosts as of_states}
use Rattle.arena_rules.specs.contracts.player.PlayerPartialEq.TheImpl.{ghosts as of_players}
use Rattle.match_setup.specs.contracts.spot.SpotPartialEq.TheImpl.{ghosts as of_spots}
use Rattle.match_setup.specs.declared.spot.Spot.{Spot}
use Rattle.arena_rules.specs.declared.player.Body.{Body}
use Rattle.arena_rules.specs.declared.player.Player.{Player}
use Rattle.arena_rules.specs.declared.player.State.{State}
use Rattle.arena_rules.specs.declared.player.State.TheVariants.{Live, Dead}

spots : (a b : Spot) → Decides (of_spots.eq a b) (a ≡ b)
spots a b = search rules

bodies : (a b : Body) → Decides (of_bodies.eq a b) (a ≡ b)
bodies a b = search rules

states : (a b : State) → Decides (of_states.eq a b) (a ≡ b)
states (Live a) (Live b) = search (rules, bodies a b)
states (Live a) (Dead w) = search rules
states (Dead v) (Live b) = search rules
states (Dead v) (Dead w) = search rules

pub players : (a b : Player) → Decides (of_players.eq a b) (a ≡ b)
players a b =
    Decides-like _
    (λ (all : (a.home ≡ b.home) × ((a.score ≡ b.score) × (a.state ≡ b.state))).
    let home = all.0 in let score = all.1.0 in let state = all.1.1 in
    λ i. record { home = home i; score = score i; state = state i })
    (λ e. (ap (λ (p : Player). p.home) e, (ap (λ (p : Player). p.score) e, ap (λ (p : Player). p.state) e)))
    (Decides-and _ _ (spots a.home b.home) (Decides-and _ _ (Decides-int_eq a.score b.score) (states a.state b.state)))
