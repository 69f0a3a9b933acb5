use Rattle.std.proofs.Common.{Bool, List, [], ◌∷◌, cond, ap, ◌∙◌}
use Rattle.game_trait.specs.declared.event.Event.{Event}
use Rattle.game_trait.specs.declared.event.Event.TheVariants as events
use Rattle.live_mirror.specs.Session.{own_command}
use Rattle.live_mirror.proofs.Past.{goes-on, is-over}
use Rattle.live_mirror.proofs.laws.each_request_makes_its_event.Goals as goal

pub returns-clause-own : goal.returns-clause-own
returns-clause-own g c = λ s player act es before makes. makes ∙ ap (λ (b : Bool). cond {A = List Event} b [] (events.Arrive (own_command s player act) ∷ [])) (goes-on s before)

pub returns-clause-own_past : goal.returns-clause-own_past
returns-clause-own_past g c = λ s player act es behind makes. makes ∙ ap (λ (b : Bool). cond {A = List Event} b [] (events.Arrive (own_command s player act) ∷ [])) (is-over s behind)

pub returns-clause-cmd : goal.returns-clause-cmd
returns-clause-cmd g c = λ s x es makes. makes

pub returns-clause-tick : goal.returns-clause-tick
returns-clause-tick g c = λ s es makes. makes

pub returns-clause-turn : goal.returns-clause-turn
returns-clause-turn g c = λ s es makes. makes

pub returns-clause-step : goal.returns-clause-step
returns-clause-step g c = λ s copy es makes. makes

pub returns-clause-restagger : goal.returns-clause-restagger
returns-clause-restagger g c = λ s plan es makes. makes
