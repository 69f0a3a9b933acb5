use Rattle.std.proofs.Common.{arith}
use Rattle.std.proofs.lemmas.Result.{err_from_is_err_and}
use Rattle.tss_io.proofs.ReadFaults.{same_fault, no_memory-not_failed, no_memory-not_too_long}
use Rattle.tss_io.proofs.Streams.{Yields-all, Yields-within, Yields-over}
use Rattle.tss_io.proofs.read.read_all.Goals as goal

pub returns-clause-told : goal.returns-clause-told
returns-clause-told g c = Yields-all _ _ _ c.in_ok-read_pieces.ensures.ok.1 c.in_ok-read_pieces.ensures.ok.2

pub returns-clause-fits : goal.returns-clause-fits
returns-clause-fits g c = Yields-within _ _ _ c.args.limit c.in_ok-read_pieces.ensures.ok.1 c.in_ok-read_pieces.ensures.ok.2 c.in_ok-read_pieces.ensures.ok.0

pub returns-in_err-read_pieces-clause-over : goal.returns-in_err-read_pieces-clause-over
returns-in_err-read_pieces-clause-over g c = λ e.
    let over = c.in_err-read_pieces.ensures.too_long (same_fault _ _ _ (err_from_is_err_and c.from_residual-in_err-read_pieces.result c.from_residual-in_err-read_pieces.ensures.1) e) in
    Yields-over _ _ _ c.args.limit over.1 (omega (arith, over.0))

pub returns-in_err-read_pieces-clause-too_long : goal.returns-in_err-read_pieces-clause-too_long
returns-in_err-read_pieces-clause-too_long g c = λ e.
    let over = c.in_err-read_pieces.ensures.too_long (same_fault _ _ _ (err_from_is_err_and c.from_residual-in_err-read_pieces.result c.from_residual-in_err-read_pieces.ensures.1) e) in
    (c.read_pieces.new.text.items, over.0, over.1)

pub returns-in_err-read_pieces-clause-rose : goal.returns-in_err-read_pieces-clause-rose
returns-in_err-read_pieces-clause-rose g c = λ e.
    c.in_err-read_pieces.ensures.rose (same_fault _ _ _ (err_from_is_err_and c.from_residual-in_err-read_pieces.result c.from_residual-in_err-read_pieces.ensures.1) e)

pub returns-in_err-buffer-clause-over : goal.returns-in_err-buffer-clause-over
returns-in_err-buffer-clause-over g c = no_memory-not_too_long _ (err_from_is_err_and c.from_residual.result c.from_residual.ensures.1)

pub returns-in_err-buffer-clause-too_long : goal.returns-in_err-buffer-clause-too_long
returns-in_err-buffer-clause-too_long g c = no_memory-not_too_long _ (err_from_is_err_and c.from_residual.result c.from_residual.ensures.1)

pub returns-in_err-buffer-clause-rose : goal.returns-in_err-buffer-clause-rose
returns-in_err-buffer-clause-rose g c = no_memory-not_failed _ (err_from_is_err_and c.from_residual.result c.from_residual.ensures.1)
