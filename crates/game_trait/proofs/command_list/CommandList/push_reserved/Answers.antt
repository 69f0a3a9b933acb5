use Rattle.std.proofs.Common.{◌∙◌, ap, sym, List, ℕ, ◌∷◌, [], length, arith}
use Rattle.std.proofs.lemmas.List.{map-append, length-map}
use Rattle.game_trait.specs.CommandList.{name_of}
use Rattle.game_trait.proofs.CommandLists.{has-named, names-push}
use Rattle.game_trait.proofs.command_list.CommandList.push_reserved.Goals as goal

pub push_reserved-requires-clause-new_name : goal.push_reserved-requires-clause-new_name
push_reserved-requires-clause-new_name c =
    let x = c.args.x.now in
    let new = rw (← c.self.view_is) at c.requires.new_name in
    rw (c.self.invariant.named_each) (has-named c.self.inside.commands.items x.from x.number ∙ new)

pub push_reserved-requires-clause-room : goal.push_reserved-requires-clause-room
push_reserved-requires-clause-room c =
    let room = rw (← c.self.view_is) at c.requires.room in
    let long = ap (λ (l : List (ℕ × ℕ)). length l) c.self.invariant.named_each ∙ length-map c.self.inside.commands.items name_of in
    let in_names = c.self.invariant.in_names in
    omega arith

pub invariant_of-self : goal.invariant_of-self
invariant_of-self c =
    let x = c.args.x.now in
    let new = rw (← c.self.view_is) at c.requires.new_name in
    rw (c.push_reserved-2.ensures.items, c.push_reserved-2.ensures.capacity, c.push_reserved.ensures) record {
      named_each = rw (c.self.invariant.named_each) (sym (map-append name_of c.self.inside.commands.items (x ∷ [])));
      names = names-push c.self.inside.commands.items x c.self.invariant.names new;
      in_list = c.self.invariant.in_list;
      in_names = c.self.invariant.in_names;
    }
