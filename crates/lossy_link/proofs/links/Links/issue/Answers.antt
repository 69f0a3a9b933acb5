use Rattle.std.proofs.Common.{◌≡◌, ℕ, ◌<◌, false, List, ◌++◌, ◌∷◌, [], length, set, refl, ap, sym, ◌∙◌, subst, arith}
use Rattle.game_trait.specs.CommandList.{CommandsInRoom, has_command}
use Rattle.game_trait.proofs.CommandLists.{command_named-Contains}
use Rattle.lossy_text.specs.declared.net_line.NetLine.TheVariants.{Issue}
use Rattle.lossy_link.specs.Link.{LinkState}
use Rattle.lossy_link.specs.Links.{NetLinks, AreLinks, row_issued, next_links}
use Rattle.lossy_link.proofs.RowLaws.{row-set}
use Rattle.lossy_link.proofs.Names.{found-named}
use Rattle.lossy_link.proofs.LinksLaws.{issue-room}
use Rattle.lossy_link.proofs.Linking.{row-is, issue-step, row-room}
use Rattle.lossy_link.proofs.links.Links.issue.Goals as goal

pub push_reserved-requires-clause-new_name : goal.push_reserved-requires-clause-new_name
push_reserved-requires-clause-new_name c =
    let named = found-named c.args.m.now.commands c.args.from c.args.number c.in-Some.x (sym c.find_command.ensures ∙ c.in-Some.is) in
    subst (λ (f : ℕ). has_command c.self.inside.issued.items f c.in-Some.x.number ≡ false) (sym named.0)
    (subst (λ (k : ℕ). has_command c.self.inside.issued.items c.args.from k ≡ false) (sym named.1) (sym c.has.ensures ∙ c.if-has.false))

pub push_reserved-requires-clause-room : goal.push_reserved-requires-clause-room
push_reserved-requires-clause-room c =
    let n : NetLinks = record { room = c.self.inside.issued.room; issued = c.self.inside.issued.items; rows = c.self.inside.rows.items } in
    let links = subst (AreLinks c.args.m.now) (sym c.self.view_is) c.requires.links in
    (issue-room c.args.m.now n c.in-Some.x c.args.from c.args.from links c.requires.line c.requires.line
    (found-named c.args.m.now.commands c.args.from c.args.number c.in-Some.x (sym c.find_command.ensures ∙ c.in-Some.is)).0
    (command_named-Contains c.args.m.now.commands c.args.from c.args.number c.in-Some.x (sym c.find_command.ensures ∙ c.in-Some.is)) (push_reserved-requires-clause-new_name c)).1

pub issue-requires-clause-room : goal.issue-requires-clause-room
issue-requires-clause-room c =
    let n : NetLinks = record { room = c.self.inside.issued.room; issued = c.self.inside.issued.items; rows = c.self.inside.rows.items } in
    let links : AreLinks c.args.m.now n = subst (AreLinks c.args.m.now) (sym c.self.view_is) c.requires.links in
    let named = found-named c.args.m.now.commands c.args.from c.args.number c.in-Some.x (sym c.find_command.ensures ∙ c.in-Some.is) in
    let new = subst (λ (f : ℕ). has_command c.self.inside.issued.items f c.in-Some.x.number ≡ false) (sym named.0)
    (subst (λ (k : ℕ). has_command c.self.inside.issued.items c.args.from k ≡ false) (sym named.1) (sym c.has.ensures ∙ c.if-has.false)) in
    let below : c.args.from < length n.rows = (let rows = links.rows in let line = c.requires.line in omega arith) in
    row-room c.args.m.now n c.in-Some.x c.args.from c.index_mut.result.now links c.requires.line named.0
    (command_named-Contains c.args.m.now.commands c.args.from c.args.number c.in-Some.x (sym c.find_command.ensures ∙ c.in-Some.is)) new
    (row-is n.rows n.rows c.args.from c.from.result c.index_mut.result.now c.from.ensures refl below c.index_mut.ensures.value)

pub returns-in-Some-clause-state : goal.returns-in-Some-clause-state
returns-in-Some-clause-state c =
    let n : NetLinks = record { room = c.self.inside.issued.room; issued = c.self.inside.issued.items; rows = c.self.inside.rows.items } in
    let links : AreLinks c.args.m.now n = subst (AreLinks c.args.m.now) (sym c.self.view_is) c.requires.links in
    let below : c.args.from < length n.rows = (let rows = links.rows in let line = c.requires.line in omega arith) in
    let x = c.in-Some.x in
    ap (λ (list : CommandsInRoom). record { room = list.room; issued = list.items; rows = set n.rows c.from.result c.issue.new.self }) c.push_reserved.ensures
    ∙ ap (λ (rows : List (List LinkState)). record { room = n.room; issued = n.issued ++ x ∷ []; rows = rows })
    (row-set (row_issued x c.args.from) n.rows n.rows c.args.from c.from.result c.index_mut.result.now c.issue.new.self c.from.ensures refl below c.index_mut.ensures.value c.issue.ensures)
    ∙ sym (issue-step c.args.m.now.commands n c.args.from c.args.number x (sym c.has.ensures ∙ c.if-has.false) (sym c.find_command.ensures ∙ c.in-Some.is))
    ∙ ap (λ (s : NetLinks). next_links c.args.m.now.commands s (Issue c.args.from c.args.number)) c.self.view_is
