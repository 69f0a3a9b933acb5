-- What passed between a run and its peer, as the peer shows it.
use Rattle.std.specs.Prelude.{ℕ, List}
use Rattle.tss_io.specs.Streams.{Yields}
use Rattle.line_talk.specs.declared.said.Said.{Said}
use Rattle.line_talk.specs.Talk.{Notes, AnswersAtOnce, silence}
use Rattle.tss_mirror.specs.Peers.{all_heard}
use Rattle.tss_mirror.specs.Run.{Side}

-- this was said, and nothing else: what was heard stood in front of what was left, it stands behind
-- what was said before, and before something was heard all that was due was told and flushed
pub record Passing (due : List ℕ → List ℕ) (old new : Side) : Type 0 where
  pub talk : List Said
  pub left : Yields old.shown.left (all_heard talk) new.shown.left
  pub said : Notes old.shown.said talk new.shown.said
  pub at_once : AnswersAtOnce due silence talk
