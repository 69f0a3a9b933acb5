use Rattle.std.proofs.Common.{List, length, ap, ◌∙◌}
use Rattle.std.proofs.lemmas.Result.{on_ok_weaker}
use Rattle.game_trait.specs.declared.event.Reply.{Reply}
use Rattle.sync_model.proofs.Room.{from_history_reached}
use Rattle.match_hall.proofs.Telling.{answers-count, told-together}
use Rattle.match_hall.proofs.tell.tell_line.Goals as goal

pub tell_changes-requires : goal.tell_changes-requires
tell_changes-requires g c =
    ap (λ (rs : List Reply). length rs) c.make_each-replies.ensures.replies ∙ answers-count c.as_slice-events.result.now c.args.mirror.now

pub returns-clause-told : goal.returns-clause-told
returns-clause-told g c =
    on_ok_weaker c.tell_changes.result
    (λ told. told-together c.args.number c.args.mirror.now c.make_each-replies.new.self c.as_slice-events.result.now _ _ _ _ _
    (from_history_reached c.args.mirror.now c.always.ensures.from_history) c.make_each-replies.ensures.state c.make_each-replies.ensures.replies told)
    c.tell_changes.ensures
