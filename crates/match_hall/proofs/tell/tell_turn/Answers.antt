use Rattle.std.proofs.Common.{List, length, ap, sym, ◌∙◌}
use Rattle.std.proofs.lemmas.Result.{on_ok_weaker}
use Rattle.game_trait.specs.declared.event.Event.{Event}
use Rattle.game_trait.specs.declared.event.Reply.{Reply}
use Rattle.sync_model.specs.Change.{after, answers}
use Rattle.sync_model.specs.Turns.{turn_events}
use Rattle.sync_model.proofs.Room.{from_history_reached}
use Rattle.match_hall.proofs.Telling.{answers-count, told-together}
use Rattle.match_hall.proofs.tell.tell_turn.Goals as goal

pub tell_changes-requires : goal.tell_changes-requires
tell_changes-requires g c =
    let events = c.as_slice-events.ensures.value ∙ c.turn_events-turn.ensures ∙ ap turn_events c.copies.ensures in
    rw events (ap (λ (rs : List Reply). length rs) c.turn-replies.ensures.replies ∙ answers-count _ c.args.mirror.now)

pub returns-clause-told : goal.returns-clause-told
returns-clause-told g c =
    let events = c.as_slice-events.ensures.value ∙ c.turn_events-turn.ensures ∙ ap turn_events c.copies.ensures in
    on_ok_weaker c.tell_changes.result
    (λ told. told-together c.args.number c.args.mirror.now c.turn-replies.new.self c.as_slice-events.result.now _ _ _ _ _
    (from_history_reached c.args.mirror.now c.always.ensures.from_history)
    (c.turn-replies.ensures.state ∙ ap (λ (es : List Event). after c.args.mirror.now es) (sym events))
    (c.turn-replies.ensures.replies ∙ ap (λ (es : List Event). answers c.args.mirror.now es) (sym events)) told)
    c.tell_changes.ensures
