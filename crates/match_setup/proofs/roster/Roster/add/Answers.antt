use Rattle.std.proofs.Common.{◌≡◌, true, false, not, map, ap, sym, ◌∙◌, refl, subst}
use Rattle.match_setup.specs.Roster.{is_known, PlayerNamesDiffer}
use Rattle.match_setup.proofs.Names.{is_known-keys, names-insert_key, PlayerNamesDiffer-with_name}
use Rattle.match_setup.proofs.roster.Roster.add.Goals as goal

pub returns-then-contains-clause-added : goal.returns-then-contains-clause-added
returns-then-contains-clause-added c =
    let known : is_known c.args.self.now c.args.name.now ≡ true = rw (← c.self.view_is, is_known-keys) (sym c.contains.ensures ∙ c.if-contains.true) in
    ap not (sym known)

pub returns-then-contains-clause-ok : goal.returns-then-contains-clause-ok
returns-then-contains-clause-ok c =
    let known : is_known c.args.self.now c.args.name.now ≡ true = rw (← c.self.view_is, is_known-keys) (sym c.contains.ensures ∙ c.if-contains.true) in
    rw known refl

pub returns-clause-added : goal.returns-clause-added
returns-clause-added c =
    let unknown : is_known c.args.self.now c.args.name.now ≡ false = rw (← c.self.view_is, is_known-keys) (sym c.contains.ensures ∙ c.if-contains.false) in
    ap not (sym unknown)

pub returns-clause-ok : goal.returns-clause-ok
returns-clause-ok c =
    ap (map (λ k. k.items)) c.in_ok-insert.ensures.keys
    ∙ names-insert_key (λ k. k.items) c.self.inside.names.keys c.in_ok-name.name
    ∙ rw (c.in_ok-name.ensures.items_if_clones_equal (λ x y same. same), c.self.view_is) refl

pub returns-clause-distinct : goal.returns-clause-distinct
returns-clause-distinct c = subst PlayerNamesDiffer (sym (returns-clause-ok c)) (PlayerNamesDiffer-with_name _ _ (subst PlayerNamesDiffer c.self.view_is c.self.invariant))

pub invariant_of-self-2 : goal.invariant_of-self-2
invariant_of-self-2 c = returns-clause-distinct c
