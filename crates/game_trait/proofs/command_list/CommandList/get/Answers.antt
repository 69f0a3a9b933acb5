use Rattle.std.proofs.Common.{◌≡◌, ◌∙◌, ap, sym, subst, List, ℕ, Some, length, arith}
use Rattle.std.specs.List.{slice_get}
use Rattle.std.proofs.lemmas.List.{length-map}
use Rattle.std.proofs.lemmas.Option.{slice_get_within}
use Rattle.game_trait.specs.CommandList.{name_of}
use Rattle.game_trait.specs.NameTree.{has_name}
use Rattle.game_trait.proofs.CommandLists.{has-named, named-command, unnamed}
use Rattle.game_trait.proofs.command_list.CommandList.get.Goals as goal

pub index-requires : goal.index-requires
index-requires c =
    let there = slice_get_within c.self.inside.names.items c.in-Some.at (c.args.from, c.args.number) c.in-Some.ensures.there in
    let long = ap (λ (l : List (ℕ × ℕ)). length l) c.self.invariant.named_each ∙ length-map c.self.inside.commands.items name_of in
    omega arith

pub returns-in-Some : goal.returns-in-Some
returns-in-Some c =
    let commands = c.self.inside.commands.items in
    let there =
    subst (λ (names : List (ℕ × ℕ)). slice_get names c.in-Some.at ≡ Some (c.args.from, c.args.number)) c.self.invariant.named_each c.in-Some.ensures.there in
    let named = named-command commands c.args.from c.args.number c.in-Some.at c.index.result.now c.self.invariant.names there in
    rw (← c.self.view_is) (ap Some c.index.ensures ∙ sym named)

pub returns-in-None : goal.returns-in-None
returns-in-None c =
    let commands = c.self.inside.commands.items in
    let same = ap (λ (names : List (ℕ × ℕ)). has_name names c.args.from c.args.number) c.self.invariant.named_each in
    let none = sym (has-named commands c.args.from c.args.number) ∙ sym same ∙ sym c.in-None.ensures.found in
    rw (← c.self.view_is) (sym (unnamed commands c.args.from c.args.number none))
