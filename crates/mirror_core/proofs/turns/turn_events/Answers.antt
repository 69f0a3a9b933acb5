use Rattle.std.proofs.Common.{ℕ, List, ◌+◌, ◌-◌, ◌++◌, ◌∷◌, [], ap, sym, ◌∙◌, append_assoc, arith}
use Rattle.game_trait.specs.declared.event.Event.{Event}
use Rattle.game_trait.specs.declared.event.Event.TheVariants.{Step}
use Rattle.sync_model.specs.Turns.{steps_from}
use Rattle.sync_model.proofs.Turning.{steps-more}
use Rattle.mirror_core.proofs.turns.turn_events.Goals as goal

pub loop-copy-preserved : goal.loop-copy-preserved
loop-copy-preserved c =
    let copy = c.loop-copy.copy in
    let end = c.args.copies in
    record {
      count = c.push-in-loop-copy.ensures.len ∙ ap (λ (n : ℕ). n + 1) c.loop-copy.invariant.count;
      all =
          ap (λ (es : List Event). es ++ steps_from (copy + 1) (end - (copy + 1))) c.push-in-loop-copy.ensures.items
          ∙ append_assoc c.loop-copy.events.items (Step copy ∷ []) (steps_from (copy + 1) (end - (copy + 1)))
          ∙ ap (λ (es : List Event). c.loop-copy.events.items ++ es) (sym (steps-more copy end (omega arith)))
          ∙ c.loop-copy.invariant.all;
    }
