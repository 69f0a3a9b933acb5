use Rattle.std.proofs.Common.{append-nil, sym}
use Rattle.tss_io.specs.Words.{word_bytes}
use Rattle.tss_io.proofs.Printing.{spaced-none, spaced-put, front-front}
use Rattle.tss_io.proofs.line.push_spaced.Goals as goal

pub returns-in_default-clause-ok : goal.returns-in_default-clause-ok
returns-in_default-clause-ok c = rw (spaced-none word_bytes c.args.words.now c.in_default.ensures.cases) (sym (append-nil _))

pub returns-clause-ok : goal.returns-clause-ok
returns-clause-ok c = spaced-put word_bytes _ _ _ _ _ _ c.in-Some.ensures.cases.0 c.in_ok-push.ensures.ok c.in_ok-push_behind_spaces.ensures.ok

pub returns-clause-front : goal.returns-clause-front
returns-clause-front c = front-front _ _ _ _ c.in_ok-push.ensures.ok c.push_behind_spaces.ensures.front
