use Rattle.std.proofs.Common.{◌≡◌, List, Option, Some, ℕ, refl, sym, subst}
use Rattle.tss_io.specs.declared.cause.Cause.TheVariants.{Number}
use Rattle.tss_io.specs.Reading.{refused_at}
use Rattle.match_data.specs.Data.{MatchData, IsMatch}
use Rattle.match_file.specs.Text.{match_text}
use Rattle.tss_words.specs.declared.subcommand.Subcommand.{Subcommand}
use Rattle.tss_words.specs.declared.subcommand.Subcommand.TheVariants.{OfMatch}
use Rattle.tss_words.specs.declared.subcommand.MatchTask.TheVariants.{Race}
use Rattle.tss_words.specs.Subcommands.{subcommand_of}
use Rattle.watch_board.specs.Behaviour.{Behaviour}
use Rattle.tss_program.specs.declared.due.Due.{Due}
use Rattle.tss_program.specs.Due.{IsDueFor, answer, refusal, IsMatchText, IsFaultyMatch, IsRaced, IsDue, IsDueOf, refusal_due, pace_line}
use Rattle.tss_program.proofs.AnswerLaws.{race-refused, race-raced}
use Rattle.tss_program.proofs.Texts.{match-exact}
use Rattle.tss_program.proofs.laws.races_need_a_pace.Goals as goal

of-match : (m : MatchData) (due : Due) → IsMatch m → m.pace ≡ 0 → IsDueFor IsMatchText IsFaultyMatch IsRaced (match_text m) due → due ≡ refusal_due (refused_at pace_line Number)
of-match m due sound none (answer v is told) =
    race-refused m due none (subst (λ (x : MatchData). IsRaced x due) (match-exact.one v m (match_text m) is (sound, refl)) told)
of-match m due sound none (refusal refused lacks is) = absurd (match-exact.apart m (match_text m) refused (sound, refl) lacks)

pub returns-clause-refused : goal.returns-clause-refused
returns-clause-refused c = race-refused

pub returns-clause-due : goal.returns-clause-due
returns-clause-due c = λ watchers words m due asks sound none is.
    of-match m due sound none (subst (λ (o : Option Subcommand). IsDueOf watchers o (match_text m) due) asks is)

pub returns-clause-raced : goal.returns-clause-raced
returns-clause-raced c = race-raced
