-- What a legal log names is there for a record.
use Rattle.std.proofs.Common.{◌≡◌, inl, inr, Bool, true, false, cond, List, [], ◌∷◌, Some, length, ap, ◌∙◌, arith}
use Rattle.std.specs.List.{Contains}
use Rattle.std.proofs.lemmas.Bool.Decides.{nat_tests}
use Rattle.std.proofs.lemmas.List.{length-map}
use Rattle.std.proofs.lemmas.List.Elements.{All-from_recursion, All-contains, Contains-append_cases, Contains-push_cases}
use Rattle.game_trait.specs.declared.command.Command.{Command}
use Rattle.game_trait.specs.declared.command.Item.{Item}
use Rattle.game_trait.specs.declared.event.Event.{Event}
use Rattle.game_trait.specs.declared.event.Event.TheVariants.{Tick, Arrive, Step, Restagger}
use Rattle.game_trait.specs.CommandList.{command_named}
use Rattle.game_trait.specs.Keys.{is_named, same_name, NamesDiffer}
use Rattle.game_trait.proofs.KeyOrder.{same_name-sym}
use Rattle.sync_model.specs.Legal.{NamesWhatIsThere}
use Rattle.match_data.specs.Data.{MatchData}
use Rattle.run_recorder.specs.Data.{IsEventOf}
use Rattle.run_auditor.specs.Audit.{start}

-- what a copy has run before any event
abbrev no_items : List Item
no_items = []

itself : (x : Command) → is_named x.from x.number x ≡ true
itself x = grind (arith, nat_tests)

none_there : (x : Command) → Contains [] x → ⊥
none_there x there = let below = there.1 in absurd (omega arith)

only_one : (x y : Command) → Contains (y ∷ []) x → y ≡ x
only_one x y there =
    elim (Contains-push_cases [] y x there) as (λ _. y ≡ x) [
      | inl none ↦ absurd (none_there x none)
      | inr same ↦ same
    ]

-- a command of a list whose names differ is found by its name
named_found : (commands : List Command) (x : Command) → NamesDiffer commands → Contains commands x → command_named commands x.from x.number ≡ Some x
unfolding NamesDiffer same_name
named_found [] x differ there = absurd (none_there x there)
named_found (y ∷ ys) x differ there =
    elim (Contains-append_cases (y ∷ []) ys x there) as (λ _. command_named (y ∷ ys) x.from x.number ≡ Some x) [
      | inl here ↦
          let same = only_one x y here in
          let is : is_named x.from x.number y ≡ true = ap (λ (z : Command). is_named x.from x.number z) same ∙ itself x in
          ap (λ (v : Bool). cond v (Some y) (command_named ys x.from x.number)) is ∙ ap Some same
      | inr behind ↦
          let other : is_named x.from x.number y ≡ false = same_name-sym y x (All-contains (λ z. same_name y z ≡ false) ys x (All-from_recursion (λ z. same_name y z ≡ false) ys differ.0) behind) in
          ap (λ (v : Bool). cond v (Some y) (command_named ys x.from x.number)) other ∙ named_found ys x differ.1 behind
    ]

pub copies_there : {W : Type 0} (opening : W) (m : MatchData) → length (start opening m).runs ≡ length m.delays
copies_there opening m = length-map m.delays (λ _. no_items)

-- an event that names what is there at a mirror of the match is one of the match
pub event_of : {W : Type 0} (opening : W) (m : MatchData) → NamesDiffer m.commands → (e : Event) → NamesWhatIsThere m.commands (start opening m) e → IsEventOf m e
event_of opening m differ Tick named = tt
event_of opening m differ (Arrive x) named = named_found m.commands x differ named
event_of opening m differ (Step c) named = omega (arith, copies_there opening m, named)
event_of opening m differ (Restagger p) named = omega (arith, named)
