-- Whatever a live mirror is told, its own numbers stay above those that were accepted.
use Rattle.std.proofs.Common.{◌≡◌, ℕ, List, [], ◌∷◌, sym, subst}
use Rattle.tss_io.specs.Lines.{lines_of}
use Rattle.line_talk.specs.Hearing.{hear, fresh}
use Rattle.match_data.specs.Data.{MatchData}
use Rattle.live_text.specs.declared.request.Request.{Request}
use Rattle.live_talk.specs.Head.{asking, opening_headed}
use Rattle.live_talk.specs.Staging.{Staging}
use Rattle.live_talk.specs.Talked.{TalkState}
use Rattle.live_mirror.specs.Events.{after_requests}
use Rattle.live_mirror.specs.Session.{SessionState, AreBelow, after_request, opening_session}
use Rattle.live_mirror.specs.Way.{live_way}
use Rattle.live_mirror.proofs.LedLaws.{led-where}
use Rattle.live_mirror.proofs.Numbers.{below-kept, below-opening}

below-along : {W : Type 0} (rs : List Request) (s : SessionState W) → AreBelow s → AreBelow (after_requests s rs)
unfolding after_requests
below-along [] s below = below
below-along (r ∷ rs) s below = below-along rs (after_request s r) (below-kept s r below)

-- of a mirror that requests led from the opening
pub below-led : {W : Type 0} (opening : W) (m : MatchData) (number : ℕ) (rs : List Request) → AreBelow (after_requests (opening_session opening m number) rs)
below-led opening m number rs = below-along rs (opening_session opening m number) (below-opening opening m number)

pub numbers-above : {W : Type 0} (g : Staging W) (number : ℕ) (bytes : List ℕ) (t : TalkState (SessionState W)) → (hear (live_way g) (fresh (opening_headed number)) (lines_of bytes)).state.place ≡ asking t
    → AreBelow t.session
numbers-above {W} g number bytes t e =
    let is = led-where g number bytes t e in
    subst (λ (s : SessionState W). AreBelow s) (sym is.led) (below-led (g.opening is.game.layout) is.game number is.asked)
