-- The head of a live text.
use Rattle.std.proofs.Common.{◌≡◌, ℕ, ◌<◌, true, false, cond, ltb, Result, Ok, Err, refl, arith}
use Rattle.std.specs.Prelude.{codes}
use Rattle.std.proofs.lemmas.Bool.{lt-ltb, ltb-true}
use Rattle.tss_io.specs.declared.cause.Cause.{Cause}
use Rattle.tss_io.specs.declared.cause.Cause.TheVariants.{Number}
use Rattle.tss_io.specs.Lines.{lines_of}
use Rattle.line_talk.specs.Talk.{IsTorn}
use Rattle.match_data.specs.Data.{MatchData}
use Rattle.live_talk.specs.Staging.{Staging}
use Rattle.live_mirror.specs.Session.{SessionState, opening_session}
use Rattle.live_mirror.specs.Way.{session_asking}

pub first-torn : IsTorn (codes "tss live 1")
unfolding lines_of
first-torn = refl

-- a mirror begins exactly where the match has one of this number
pub begins : {W : Type 0} (g : Staging W) (m : MatchData) (number : ℕ) → number < m.mirrors → (session_asking g).begun m number ≡ Ok (opening_session (g.opening m.layout) m number)
begins g m number small = rw (lt-ltb _ _ small) refl

pub there : {W : Type 0} (g : Staging W) (m : MatchData) (number : ℕ) (s : SessionState W) → (session_asking g).begun m number ≡ Ok s → number < m.mirrors
there {W} g m number s e =
    elim (ltb number m.mirrors) as (λ t. ltb number m.mirrors ≡ t → ◌≡◌ {A = Result (SessionState W) Cause} (cond t (Ok (opening_session (g.opening m.layout) m number)) (Err Number)) (Ok s) → number < m.mirrors) [
      | true ↦ λ is _. ltb-true number m.mirrors is
      | false ↦ λ _ f. absurd cc
    ] refl e
