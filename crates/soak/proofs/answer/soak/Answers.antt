use Rattle.std.proofs.lemmas.Result.{IfOk-weaker}
use Rattle.soak.proofs.answer.soak.Goals as goal

pub returns-clause-same : goal.returns-clause-same
returns-clause-same c =
    IfOk-weaker c.make_and_play.result _ _ (λ s told. c.the_text_says_same_yes.ensures c.args.number s.text told) c.make_and_play.ensures.told
