use Rattle.std.proofs.Common.{◌∙◌, refl, ap, sym, not, List, ℕ, ◌∷◌, [], arith}
use Rattle.std.proofs.lemmas.List.{map-append}
use Rattle.game_trait.specs.CommandList.{name_of, has_command}
use Rattle.game_trait.specs.NameTree.{has_name}
use Rattle.game_trait.proofs.CommandLists.{has-named, names-push, not-so, is-so}
use Rattle.game_trait.proofs.command_list.CommandList.insert.Goals as goal

pub returns-then-insert_reserved-clause-added : goal.returns-then-insert_reserved-clause-added
returns-then-insert_reserved-clause-added c =
    let x = c.args.x.now in
    let commands = c.self.inside.commands.items in
    let named =
    ap (λ (names : List (ℕ × ℕ)). has_name names x.from x.number) (c.reserve-2.ensures.items ∙ c.self.invariant.named_each)
    ∙ has-named commands x.from x.number in
    let told = c.if-insert_reserved.ensures.added ∙ ap not named in
    rw (← c.self.view_is) told

pub returns-then-insert_reserved-clause-items : goal.returns-then-insert_reserved-clause-items
returns-then-insert_reserved-clause-items c =
    let x = c.args.x.now in
    let commands = c.self.inside.commands.items in
    let named =
    ap (λ (names : List (ℕ × ℕ)). has_name names x.from x.number) (c.reserve-2.ensures.items ∙ c.self.invariant.named_each)
    ∙ has-named commands x.from x.number in
    let told = c.if-insert_reserved.ensures.added ∙ ap not named in
    let new = not-so (has_command commands x.from x.number) told in
    rw (← c.self.view_is, c.push_reserved.ensures.items, c.reserve.ensures.items, new) refl

pub invariant_of-self-then-insert_reserved : goal.invariant_of-self-then-insert_reserved
invariant_of-self-then-insert_reserved c =
    let x = c.args.x.now in
    let commands = c.self.inside.commands.items in
    let named =
    ap (λ (names : List (ℕ × ℕ)). has_name names x.from x.number) (c.reserve-2.ensures.items ∙ c.self.invariant.named_each)
    ∙ has-named commands x.from x.number in
    let told = c.if-insert_reserved.ensures.added ∙ ap not named in
    let new = not-so (has_command commands x.from x.number) told in
    let pushed = c.insert_reserved.ensures.new (named ∙ new) in
    let capacity = c.reserve.ensures.capacity in
    let in_list = c.self.invariant.in_list in
    let room = c.reserve-2.ensures.room in
    let in_names = c.self.invariant.in_names in
    rw (c.push_reserved.ensures.items, c.push_reserved.ensures.capacity, pushed, c.reserve.ensures.items, c.reserve-2.ensures.items) record {
      named_each = rw (c.self.invariant.named_each) (sym (map-append name_of commands (x ∷ [])));
      names = names-push commands x c.self.invariant.names new;
      in_list = omega arith;
      in_names = omega arith;
    }

pub returns-clause-added : goal.returns-clause-added
returns-clause-added c =
    let x = c.args.x.now in
    let commands = c.self.inside.commands.items in
    let named =
    ap (λ (names : List (ℕ × ℕ)). has_name names x.from x.number) (c.reserve-2.ensures.items ∙ c.self.invariant.named_each)
    ∙ has-named commands x.from x.number in
    let told = c.if-insert_reserved.ensures.added ∙ ap not named in
    rw (← c.self.view_is) told

pub returns-clause-items : goal.returns-clause-items
returns-clause-items c =
    let x = c.args.x.now in
    let commands = c.self.inside.commands.items in
    let named =
    ap (λ (names : List (ℕ × ℕ)). has_name names x.from x.number) (c.reserve-2.ensures.items ∙ c.self.invariant.named_each)
    ∙ has-named commands x.from x.number in
    let told = c.if-insert_reserved.ensures.added ∙ ap not named in
    let there = is-so (has_command commands x.from x.number) told in
    rw (← c.self.view_is, c.reserve.ensures.items, there) refl
