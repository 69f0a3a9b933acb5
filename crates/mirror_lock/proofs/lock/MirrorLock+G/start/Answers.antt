use Rattle.std.proofs.Common.{sym, subst}
use Rattle.sync_model.proofs.Room.{from_history_reached}
use Rattle.mirror_lock.specs.Locked.{FitsLocked}
use Rattle.mirror_lock.proofs.lock.MirrorLock+G.start.Goals as goal

pub returns-clause-fits : goal.returns-clause-fits
returns-clause-fits g c = λ k d there.
    record {
      takes = λ call fits.
          c.in_ok-lock.ensures.fits call
          (subst (λ s. FitsLocked g.G.Game.rules s call) (sym c.new.ensures) (from_history_reached c.args.mirror c.always.ensures.from_history, fits))
          k d there;
    }
