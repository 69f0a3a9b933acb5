use Rattle.std.proofs.Common.{ap}
use Rattle.game_trait.specs.declared.event.Reply.{Reply}
use Rattle.game_trait.specs.declared.event.Event.TheVariants as events
use Rattle.sync_model.proofs.History.{late_exactly}
use Rattle.live_mirror.specs.Told.{answer_text, reply_text}
use Rattle.live_mirror.proofs.laws.late_exactly.Goals as goal

pub returns-clause-answer : goal.returns-clause-answer
returns-clause-answer g c = λ s x bound. late_exactly s.mirror x bound

pub returns-clause-told : goal.returns-clause-told
unfolding answer_text reply_text
returns-clause-told g c = λ show s x bound is. ap (λ (r : Reply). reply_text s.number (events.Arrive x) r) is
