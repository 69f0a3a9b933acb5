use Rattle.std.proofs.Common.{◌≡◌, ℕ, ◌+◌, ◌^◌, ◌<◌, true, false, set, refl, ap, sym, ◌∙◌, subst, arith}
use Rattle.std.proofs.lemmas.List.{set-get_or}
use Rattle.link_ring.specs.declared.receive.LinkReceive.{LinkReceive}
use Rattle.link_ring.specs.Ends.{misses_of}
use Rattle.copy_workers.proofs.Along.{up_to-start, up_to-same, up_to-more, up_to-length, all-get}
use Rattle.copy_workers.proofs.Hearings.{hear-step-at}
use Rattle.copy_workers.proofs.hearing.hear_all.Goals as goal
use Rattle.copy_workers.proofs.hearing.hear_all.Goals.{then-not-nothing, else-not-nothing}

pub loop-i-init : goal.loop-i-init
loop-i-init g c = record {
  heard = λ job first asked s low few f. f;
  others = up_to-start _ _;
  calls = omega arith;
  grows = omega arith;
  within = λ few. few;
  quiet = λ q. refl;
  takes = λ e t. t;
  same = λ p h. h;
}

pub hear_one-nothing-requires-clause-misses : goal.hear_one-nothing-requires-clause-misses
hear_one-nothing-requires-clause-misses g c =
    let same = up_to-same (λ a b. Unit {0}) c.loop-i.i c.args.receives.now c.loop-i.receives c.index-receives-i.result c.loop-i.invariant.others in
    let long = up_to-length (λ a b. Unit {0}) c.loop-i.i c.args.receives.now c.loop-i.receives c.loop-i.invariant.others in
    subst (λ (r : LinkReceive). misses_of r + 1 < 2 ^ 64) same (all-get (λ r. misses_of r + 1 < 2 ^ 64) c.loop-i.i c.args.receives.now c.index-receives-i.result c.requires.misses (omega arith))

false-true : false ≡ true → ⊥
false-true h = cc

pub loop-i-preserved : goal.loop-i-preserved
loop-i-preserved g c = record {
  heard = λ job first asked s low few f.
      hear-step-at job first asked s c.loop-i.receives c.loop-i.marks c.loop-i.taken _ c.loop-i.i c.hear_one-nothing.new.receive c.index-receives-i.result c.hear_one-nothing.new.mark c.hear_one-nothing.new.taken _
      c.args.limit c.args.foreign low few (let long = c.loop-i.auto.receives in omega arith) c.index-receives-i.is c.hear_one-nothing.ensures.heard (c.loop-i.invariant.heard job first asked s low few f);
  others =
      up_to-more (λ a b. Unit {0}) c.loop-i.i c.args.receives.now c.loop-i.receives c.index-receives-i.result
      c.hear_one-nothing.new.receive (let long = c.loop-i.auto.receives in omega arith) tt c.loop-i.invariant.others;
  calls = (let a = c.hear_one-nothing.ensures.calls in let b = c.loop-i.invariant.calls in omega arith);
  grows = (let a = c.hear_one-nothing.ensures.grows in let b = c.loop-i.invariant.grows in omega arith);
  within = λ few. c.hear_one-nothing.ensures.within (c.loop-i.invariant.within few);
  quiet = elim c.if-not-nothing.branch [
    | then-not-nothing w ↦ λ quiet. absurd (false-true (sym w.quiet-is ∙ quiet))
    | else-not-nothing w ↦ λ quiet.
        ap (λ (m : ℕ). set c.loop-i.marks c.loop-i.i m) (c.hear_one-nothing.ensures.quiet w.if-not-nothing.false) ∙ set-get_or c.loop-i.marks c.loop-i.i 0
        ∙ c.loop-i.invariant.quiet (sym w.quiet-is ∙ quiet)
  ];
  takes = λ e t. c.hear_one-nothing.ensures.takes e (c.loop-i.invariant.takes e t);
  same = λ p h. c.hear_one-nothing.ensures.same p (c.loop-i.invariant.same p h);
}
