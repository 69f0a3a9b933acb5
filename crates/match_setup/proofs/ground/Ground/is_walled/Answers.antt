use Rattle.std.proofs.Common.{refl}
use Rattle.std.proofs.lemmas.Nat.Bits.{shr_and_one}
use Rattle.match_setup.specs.Ground.{is_walled}
use Rattle.match_setup.proofs.ground.Ground.is_walled.Goals as goal

pub returns : goal.returns
unfolding is_walled
returns c = rw (← c.self.view_is, shr_and_one) refl
