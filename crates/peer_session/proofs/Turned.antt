-- What a turn leaves.
use Rattle.std.proofs.Common.{◌≡◌, ℕ, ◌-◌, ap, ◌∙◌}
use Rattle.game_trait.specs.Game.{Rules}
use Rattle.rolling_mirror.specs.Rolling.{RollState, last_tick, turned}
use Rattle.peer_model.specs.Queue.{Queue, trimmed}
use Rattle.peer_calls.specs.declared.config.Config.{Config}
use Rattle.peer_calls.specs.State.{State}
use Rattle.peer_calls.specs.Moving.{after_turn}

pub turned-state :
    {W : Type 0} (rules : Rules W) (c : Config) (s : State W) (queues : ℕ → Queue) (roll : RollState W) (bound : ℕ)
    → roll ≡ turned rules s.roll → bound ≡ last_tick roll - c.keep → ((o : ℕ) → queues o ≡ trimmed bound (s.queues o))
    → record s { queues = queues; roll = roll } ≡ after_turn rules c s
turned-state rules c s queues roll bound is at trims =
    let due : bound ≡ last_tick (turned rules s.roll) - c.keep = at ∙ ap (λ (r : RollState _). last_tick r - c.keep) is in
    let each = λ (o : ℕ). trims o ∙ ap (λ (n : ℕ). trimmed n (s.queues o)) due in
    λ i. record {
      me = s.me;
      start = s.start;
      queues = λ o. each o i;
      known = s.known;
      newest = s.newest;
      cursor = s.cursor;
      marks = s.marks;
      roll = is i;
    }
