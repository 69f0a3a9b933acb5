use Rattle.std.proofs.lemmas.Result.{on_ok_weaker}
use Rattle.match_hall.proofs.Telling.{told-more}
use Rattle.match_hall.proofs.tell.tell_mirror.Goals as goal

pub returns-clause-told : goal.returns-clause-told
returns-clause-told g c =
    on_ok_weaker c.tell_turns.result
    (λ told. told-more c.args.number c.args.mirror.now _ c.tell_turns.new.mirror _ _ _ _ _ _ c.in_ok-tell_script.ensures.told told)
    c.tell_turns.ensures.told
