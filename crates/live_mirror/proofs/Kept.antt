-- What no request changes.
use Rattle.std.proofs.Common.{◌≡◌, List, [], ◌∷◌, refl}
use Rattle.live_text.specs.declared.request.Request.{Request}
use Rattle.live_mirror.specs.Events.{after_requests}
use Rattle.live_mirror.specs.Session.{SessionState, after_request}

pub record IsKept {W : Type 0} (s t : SessionState W) : Type 0 where
  pub names : t.names ≡ s.names
  pub number : t.number ≡ s.number
  pub version : t.version ≡ s.version
  pub mirrors : t.mirrors ≡ s.mirrors

pub session_kept : {W : Type 0} (rs : List Request) (s : SessionState W) → IsKept s (after_requests s rs)
unfolding after_requests
session_kept [] s = record { names = refl; number = refl; version = refl; mirrors = refl }
session_kept (r ∷ rs) s =
    let more = session_kept rs (after_request s r) in
    record { names = more.names; number = more.number; version = more.version; mirrors = more.mirrors }
