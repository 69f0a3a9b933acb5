use Rattle.std.proofs.Common.{rules, ◌≡◌, ◌<◌, List, ℕ, length, slice_index_or, sym, subst, arith}
use Rattle.paint_rules.proofs.Counts.{repainted, owned-one, owners-set, owner-at, few-owned}
use Rattle.paint_rules.proofs.cells.Cells.give.Goals as goal

pub overflow_sub-self : goal.overflow_sub-self
overflow_sub-self c =
    let within : c.args.place < length c.self.inside.owners = subst (λ (xs : List ℕ). c.args.place < length xs) (sym c.self.view_is) c.requires.place in
    rw (c.self.invariant.0 (slice_index_or c.self.inside.owners c.args.place 0)
    (owner-at c.self.inside.owners c.args.place c.self.invariant.1 within))
    (owned-one c.self.inside.owners c.args.place within)

pub overflow_add-self : goal.overflow_add-self
overflow_add-self c =
    let within : c.args.place < length c.self.inside.owners = subst (λ (xs : List ℕ). c.args.place < length xs) (sym c.self.view_is) c.requires.place in
    let long : length c.self.inside.counts ≡ 33 = search rules in
    let cells : length c.self.inside.owners ≡ 4096 = search rules in
    let o = c.requires.owner in
    let few = few-owned c.self.inside.counts c.self.inside.owners (slice_index_or c.self.inside.owners c.args.place 0)
    c.args.owner c.self.invariant.0 long (owner-at c.self.inside.owners c.args.place c.self.invariant.1 within)
    (omega (arith, o)) in
    omega (arith, few, cells)

pub invariant_of-self : goal.invariant_of-self
invariant_of-self c =
    let within : c.args.place < length c.self.inside.owners = subst (λ (xs : List ℕ). c.args.place < length xs) (sym c.self.view_is) c.requires.place in
    let long : length c.self.inside.counts ≡ 33 = search rules in
    let o = c.requires.owner in (
      repainted c.self.inside.counts c.self.inside.owners c.args.place c.args.owner c.self.invariant.0 long within
          (owner-at c.self.inside.owners c.args.place c.self.invariant.1 within) (omega (arith, o)),
      owners-set c.self.inside.owners c.args.place c.args.owner c.self.invariant.1 o,
    )
