-- Mirrors that are one but for their room have the same legal logs.
use Rattle.std.proofs.Common.{◌≡◌, ℕ, ◌<◌, List, [], ◌∷◌, length, ap, sym, ◌∙◌, subst}
use Rattle.game_trait.specs.declared.command.Command.{Command}
use Rattle.game_trait.specs.declared.command.Item.{Item}
use Rattle.game_trait.specs.declared.event.Event.{Event}
use Rattle.game_trait.specs.declared.event.Event.TheVariants.{Tick, Arrive, Step, Restagger}
use Rattle.game_trait.proofs.KeyOrder.{all-weaker}
use Rattle.sync_model.specs.State.{MirrorState}
use Rattle.sync_model.specs.Change.{next, is_change}
use Rattle.sync_model.specs.History.{EachChanges, without_room}
use Rattle.sync_model.specs.Legal.{NamesWhatIsThere, IsLegal}
use Rattle.sync_model.proofs.Room.{said-same, next-same}

-- an event that changes the one changes the other
pub each_changes-same : {W : Type 0} (es : List Event) (s t : MirrorState W) → without_room s ≡ without_room t → EachChanges s es → EachChanges t es
unfolding EachChanges
each_changes-same [] s t same each = tt
each_changes-same (e ∷ es) s t same each =
    (ap is_change (sym (said-same s t e same)) ∙ each.0, each_changes-same es (next s e) (next t e) (next-same s t e same) each.1)

-- what an event names at the one is there at the other
pub named-same : {W : Type 0} (commands : List Command) (s t : MirrorState W) → without_room s ≡ without_room t → (e : Event) → NamesWhatIsThere commands s e → NamesWhatIsThere commands t e
named-same commands s t same Tick named = tt
named-same commands s t same (Arrive x) named = named
named-same {W} commands s t same (Step c) named = subst (λ (runs : List (List Item)). c < length runs) (ap (λ (u : MirrorState W). u.runs) same) named
named-same {W} commands s t same (Restagger p) named = subst (λ (plans : List (List ℕ)). p < length plans) (ap (λ (u : MirrorState W). u.plans) same) named

-- a legal log of the one is one of the other
pub legal-same : {W : Type 0} (commands : List Command) (s t : MirrorState W) (log : List Event) → without_room s ≡ without_room t → IsLegal commands s log → IsLegal commands t log
legal-same commands s t log same legal =
    record {
      changes = each_changes-same log s t same legal.changes;
      there = all-weaker (NamesWhatIsThere commands s) (NamesWhatIsThere commands t) log (named-same commands s t same) legal.there;
    }
