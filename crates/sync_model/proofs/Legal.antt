-- The changing ones of any events that name what is there are a log of the mirror.
use Rattle.std.proofs.Common.{ℕ, ◌<◌, true, false, cond, List, [], ◌∷◌, ◌++◌, take}
use Rattle.std.specs.List.{AllByRecursion}
use Rattle.std.proofs.lemmas.List.Elements.{All-from_recursion, All-contains}
use Rattle.game_trait.specs.declared.command.Command.{Command}
use Rattle.game_trait.specs.declared.event.Event.{Event}
use Rattle.game_trait.specs.declared.event.Event.TheVariants.{Tick, Arrive, Step, Restagger}
use Rattle.game_trait.proofs.KeyOrder.{all-weaker}
use Rattle.game_trait.proofs.Lists.{all-take}
use Rattle.sync_model.specs.State.{MirrorState}
use Rattle.sync_model.specs.Change.{next, after, changes, Fits}
use Rattle.sync_model.specs.Staggered.{IsStaggered}
use Rattle.sync_model.specs.History.{changing}
use Rattle.sync_model.specs.Legal.{NamesWhatIsThere, IsLegal, IsLog}
use Rattle.sync_model.proofs.Along.{staggered_along}
use Rattle.sync_model.proofs.History.{changing_events_suffice, changing-each}

-- what holds of the events that were made holds of those that changed the state
pub all-changing : {W : Type 0} (P : Event → Type 0) (s : MirrorState W) (es : List Event) → AllByRecursion P es → AllByRecursion P (changing s es)
unfolding changing
all-changing P s [] h = tt
all-changing P s (e ∷ es) h =
    let behind = all-changing P (next s e) es h.1 in
    elim (changes s e) as (λ v. AllByRecursion P (cond v (e ∷ []) [] ++ changing (next s e) es))
    [ true ↦ (h.0, behind) | false ↦ behind ]

-- what names a command of the match, a copy of the mirror or a plan fits
pub named-fits :
    {W : Type 0} (commands : List Command) (s : MirrorState W) → AllByRecursion (λ x. x.time < s.length) commands
    → (e : Event) → NamesWhatIsThere commands s e → Fits s e
named-fits commands s due Tick named = tt
named-fits commands s due (Arrive x) named = All-contains (λ y. y.time < s.length) commands x (All-from_recursion (λ y. y.time < s.length) commands due) named
named-fits commands s due (Step c) named = named
named-fits commands s due (Restagger p) named = named

-- a legal log keeps a staggered mirror staggered at each place
pub legal-staggered :
    {W : Type 0} (commands : List Command) (s : MirrorState W) (log : List Event) → AllByRecursion (λ x. x.time < s.length) commands
    → IsStaggered s → IsLegal commands s log → (n : ℕ) → IsStaggered (after s (take n log))
legal-staggered commands s log due here legal n =
    staggered_along (take n log) s (all-take (Fits s) n log (all-weaker (NamesWhatIsThere commands s) (Fits s) log (λ e h. named-fits commands s due e h) legal.there)) here

-- the changing ones of events that name what is there are a log, from any staggered state on
pub changing_events_are_a_log :
    {W : Type 0} (commands : List Command) (s : MirrorState W) (es : List Event) → AllByRecursion (λ x. x.time < s.length) commands
    → IsStaggered s → AllByRecursion (NamesWhatIsThere commands s) es → IsLog commands s (after s es) (changing s es)
changing_events_are_a_log commands s es due here named =
    let legal : IsLegal commands s (changing s es) = record { changes = changing-each es s; there = all-changing (NamesWhatIsThere commands s) s es named } in
    record {
      legal = legal;
      staggered = legal-staggered commands s (changing s es) due here legal;
      leads = changing_events_suffice es s;
    }
