-- Whether the clock stands at the match's length or past it.
use Rattle.std.proofs.Common.{◌≡◌, ◌≤◌, ◌<◌, true, false, arith}
use Rattle.std.proofs.lemmas.Bool.Decides.{nat_tests}
use Rattle.live_mirror.specs.Session.{SessionState, is_past}

pub goes-on : {W : Type 0} (s : SessionState W) → s.mirror.clock < s.mirror.length → is_past s ≡ false
goes-on s h = grind (arith, nat_tests)

pub is-over : {W : Type 0} (s : SessionState W) → s.mirror.length ≤ s.mirror.clock → is_past s ≡ true
is-over s h = grind (arith, nat_tests)
