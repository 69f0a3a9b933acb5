use Rattle.std.proofs.Common.{◌+◌, ◌^◌, ◌<◌, ◌≤◌, List, length, refl, ap, sym, ◌∙◌, subst, arith}
use Rattle.std.specs.List.{AllByRecursion}
use Rattle.std.proofs.lemmas.List.{with_items_is}
use Rattle.link_ring.specs.declared.receive.LinkReceive.{LinkReceive}
use Rattle.link_ring.specs.Ends.{misses_of}
use Rattle.copy_workers.specs.Refining.{HeardTo}
use Rattle.copy_workers.proofs.HearStands.{hear-seven, hear-calls, hear-marks, hear-few, hear-begins, hear-ends}
use Rattle.copy_workers.proofs.feeder.Feeder.hear.Goals as goal

pub hear_all-requires-clause-calls : goal.hear_all-requires-clause-calls
hear_all-requires-clause-calls g c =
    subst (λ (l : List LinkReceive). length l ≤ g.P.Post.calls c.args.post.now) (sym c.deref_mut.ensures.value) (hear-calls c.requires.stands.0 c.args.self.now _ _ _ c.requires.stands.1)

pub hear_all-requires-clause-misses : goal.hear_all-requires-clause-misses
hear_all-requires-clause-misses g c =
    subst (λ (l : List LinkReceive). AllByRecursion (λ r. misses_of r + 1 < 2 ^ 64) l) (sym c.deref_mut.ensures.value) (hear-few c.requires.stands.0 c.args.self.now _ _ _ c.requires.stands.1)

pub hear_all-requires-clause-marks : goal.hear_all-requires-clause-marks
hear_all-requires-clause-marks g c =
    subst (λ (l : List LinkReceive). length l ≤ length c.args.self.now.marks) (sym c.deref_mut.ensures.value) (hear-marks c.requires.stands.0 c.args.self.now _ _ _ _ c.requires.stands.1.stands)

pub returns-clause-stands : goal.returns-clause-stands
returns-clause-stands g c s h =
    let then = with_items_is c.args.self.now.receives c.hear_all.new.receives (c.hear_all.auto.receives ∙ c.deref_mut.ensures.len) in
    let begins = subst (λ (l : List LinkReceive). HeardTo s.job s.receives s.asked h.stands.state l
    c.args.self.now.marks c.args.self.now.taken (g.P.Post.asked c.args.post.now) 0)
    (sym c.deref_mut.ensures.value)
    (hear-begins s c.args.self.now _ _ _ h) in
    let ends = c.hear_all.ensures.heard s.job s.receives s.asked h.stands.state (sym h.stands.limit) (sym h.stands.foreign) begins in
    let seven = hear-seven s c.args.self.now _ _ _ _ h.stands in
    hear-ends s c.args.self.now _ _ _ _ _ _ _ (length c.hear_all.new.receives) h
    (subst (λ (l : List LinkReceive). HeardTo s.job s.receives s.asked h.stands.state l c.hear_all.new.marks
    c.hear_all.new.taken (g.P.Post.asked c.hear_all.new.post) (length c.hear_all.new.receives))
    (sym then) ends)
    (ap (λ (l : List LinkReceive). length l) (sym then))
    (let a = c.hear_all.ensures.calls in let b = ap (λ (l : List LinkReceive). length l) c.deref_mut.ensures.value in omega arith)
    c.hear_all.ensures.grows c.hear_all.ensures.within refl refl refl refl refl refl refl
