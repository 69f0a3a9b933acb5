use Rattle.std.proofs.Common.{Bool, ℕ, List, cond, ap, refl}
use Rattle.tss_io.specs.Lines.{as_line}
use Rattle.command_lines.specs.CommandLine.{command_line}
use Rattle.game_trait.specs.declared.event.Ticked.TheVariants.{Over}
use Rattle.report_text.specs.Replies.{tick_text}
use Rattle.live_mirror.specs.Session.{own_command}
use Rattle.live_mirror.specs.Told.{answer_text}
use Rattle.live_mirror.proofs.Past.{goes-on, is-over}
use Rattle.live_mirror.proofs.laws.what_requests_tell.Goals as goal

pub returns-clause-own : goal.returns-clause-own
unfolding answer_text
returns-clause-own g c = λ show s player act before. ap (λ (b : Bool). cond {A = List ℕ} b (tick_text s.number Over) (as_line (command_line (own_command s player act)))) (goes-on s before)

pub returns-clause-own_past : goal.returns-clause-own_past
unfolding answer_text
returns-clause-own_past g c = λ show s player act behind. ap (λ (b : Bool). cond {A = List ℕ} b (tick_text s.number Over) (as_line (command_line (own_command s player act)))) (is-over s behind)

pub returns-clause-tick : goal.returns-clause-tick
unfolding answer_text
returns-clause-tick g c = λ show s. refl

pub returns-clause-step : goal.returns-clause-step
unfolding answer_text
returns-clause-step g c = λ show s copy. refl

pub returns-clause-restagger : goal.returns-clause-restagger
unfolding answer_text
returns-clause-restagger g c = λ show s plan. refl

pub returns-clause-world : goal.returns-clause-world
unfolding answer_text
returns-clause-world g c = λ show s copy. refl

pub returns-clause-run : goal.returns-clause-run
unfolding answer_text
returns-clause-run g c = λ show s copy. refl

pub returns-clause-commands : goal.returns-clause-commands
unfolding answer_text
returns-clause-commands g c = λ show s. refl
