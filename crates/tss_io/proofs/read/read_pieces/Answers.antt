use Rattle.std.proofs.Common.{◌≡◌, ◌++◌, ◌∙◌, inr, ℕ, List, take, arith}
use Rattle.std.proofs.lemmas.List.{length-append, length-take}
use Rattle.std.proofs.lemmas.Result.{err_from_is_err_and}
use Rattle.tss_io.proofs.ReadFaults.{failed-not_too_long, no_memory-not_failed, no_memory-not_too_long, Rose-earlier}
use Rattle.tss_io.proofs.Streams.{Yields-join, Yields-nothing, Yields-end}
use Rattle.tss_io.proofs.read.read_pieces.Goals as goal

pub returns-in_err-extend_from_slice-clause-front : goal.returns-in_err-extend_from_slice-clause-front
returns-in_err-extend_from_slice-clause-front g c =
    let p = err_from_is_err_and c.from_residual-in_err-extend_from_slice.result c.from_residual-in_err-extend_from_slice.ensures.1 in
    let piece : List ℕ = take c.in_ok-count.count c.read.new.out in
    rw p.1 (
      c.loop-text.text.items ++ piece,
      omega (arith, length-append c.loop-text.text.items piece, length-take c.in_ok-count.count c.read.new.out, c.in_ok-count.ensures.within, c.split_at_mut-out.ensures.front_len, c.min-room.ensures),
      Yields-join _ _ _ c.loop-text.text.items piece c.loop-text.invariant.given c.in_ok-count.ensures.bytes,
    )

pub returns-then-count-eq0-clause-ok : goal.returns-then-count-eq0-clause-ok
returns-then-count-eq0-clause-ok g c = (
  omega arith,
  Yields-nothing _ _ _ _ c.read.new.out c.in_ok-count.count c.if-count-eq0.true c.loop-text.invariant.given c.in_ok-count.ensures.bytes,
  Yields-end _ _ c.read.new.out c.in_ok-count.count c.if-count-eq0.true c.in_ok-count.ensures.end c.in_ok-count.ensures.bytes,
)

pub loop-text-preserved : goal.loop-text-preserved
loop-text-preserved g c =
    let piece : List ℕ = take c.in_ok-count.count c.read.new.out in
    let items : c.extend_from_slice.new.self.items ≡ c.loop-text.text.items ++ piece = rw (← c.split_at.ensures.front) c.in_ok-extend_from_slice.ensures.items in
    record {
      within = omega (arith, c.in_ok-extend_from_slice.ensures.len, c.split_at.ensures.front_len, c.in_ok-count.ensures.within, c.split_at_mut-out.ensures.front_len, c.min-room.ensures);
      given = rw items (Yields-join _ _ _ c.loop-text.text.items piece c.loop-text.invariant.given c.in_ok-count.ensures.bytes);
      steady = c.in_ok-count.ensures.steady ∙ c.loop-text.invariant.steady;
      never_falls = omega (arith, c.loop-text.invariant.never_falls, c.read.ensures.never_falls);
      called = omega (arith, c.loop-text.invariant.called, c.read.ensures.called, c.in_ok-extend_from_slice.ensures.len, c.split_at.ensures.front_len);
    }

pub returns-in_err-count-clause-ok : goal.returns-in_err-count-clause-ok
returns-in_err-count-clause-ok g c = let p = err_from_is_err_and c.from_residual.result c.from_residual.ensures.1 in rw p.1 tt

pub returns-in_err-count-clause-rose : goal.returns-in_err-count-clause-rose
returns-in_err-count-clause-rose g c = λ _. Rose-earlier _ _ _ c.loop-text.invariant.never_falls c.in_err-count.ensures.rose

pub returns-in_err-count-clause-too_long : goal.returns-in_err-count-clause-too_long
returns-in_err-count-clause-too_long g c = failed-not_too_long _ (err_from_is_err_and c.from_residual.result c.from_residual.ensures.1)

pub returns-in_err-count-clause-front : goal.returns-in_err-count-clause-front
returns-in_err-count-clause-front g c =
    let p = err_from_is_err_and c.from_residual.result c.from_residual.ensures.1 in
    rw (p.1, c.in_err-count.ensures.err) (c.loop-text.text.items, omega (arith, c.loop-text.invariant.within), c.loop-text.invariant.given)

pub returns-in_err-extend_from_slice-clause-ok : goal.returns-in_err-extend_from_slice-clause-ok
returns-in_err-extend_from_slice-clause-ok g c =
    let p = err_from_is_err_and c.from_residual-in_err-extend_from_slice.result c.from_residual-in_err-extend_from_slice.ensures.1 in rw p.1 tt

pub returns-in_err-extend_from_slice-clause-rose : goal.returns-in_err-extend_from_slice-clause-rose
returns-in_err-extend_from_slice-clause-rose g c =
    no_memory-not_failed _ (err_from_is_err_and c.from_residual-in_err-extend_from_slice.result c.from_residual-in_err-extend_from_slice.ensures.1)

pub returns-in_err-extend_from_slice-clause-too_long : goal.returns-in_err-extend_from_slice-clause-too_long
returns-in_err-extend_from_slice-clause-too_long g c =
    no_memory-not_too_long _ (err_from_is_err_and c.from_residual-in_err-extend_from_slice.result c.from_residual-in_err-extend_from_slice.ensures.1)

pub returns-clause-too_long : goal.returns-clause-too_long
returns-clause-too_long g c = λ _. (omega (arith, c.loop-text.invariant.within), c.loop-text.invariant.given)

pub returns-clause-front : goal.returns-clause-front
returns-clause-front g c = (c.loop-text.text.items, omega (arith, c.loop-text.invariant.within), c.loop-text.invariant.given)

pub returns-clause-steady : goal.returns-clause-steady
returns-clause-steady g c = inr c.loop-text.invariant.steady

pub returns-then-count-eq0-clause-steady : goal.returns-then-count-eq0-clause-steady
returns-then-count-eq0-clause-steady g c = inr (c.in_ok-count.ensures.steady ∙ c.loop-text.invariant.steady)

pub returns-in_err-extend_from_slice-clause-steady : goal.returns-in_err-extend_from_slice-clause-steady
returns-in_err-extend_from_slice-clause-steady g c = inr (c.in_ok-count.ensures.steady ∙ c.loop-text.invariant.steady)
