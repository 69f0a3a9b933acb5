-- Whatever a live mirror is told, it stands where its requests led it.
use Rattle.std.proofs.Common.{◌≡◌, ℕ, ◌<◌, true, false, cond, ltb, List, [], ◌∷◌, ◌++◌, Result, Ok, Err, refl, sym, ap, subst, ◌∙◌}
use Rattle.std.proofs.lemmas.Bool.{ltb-true}
use Rattle.match_setup.specs.Setup.{Layout}
use Rattle.tss_io.specs.declared.cause.Cause.{Cause}
use Rattle.tss_io.specs.declared.cause.Cause.TheVariants.{Number, Long}
use Rattle.tss_io.specs.Kinds.{is_long}
use Rattle.tss_io.specs.Lines.{lines_of}
use Rattle.line_talk.specs.Hearing.{hear, fresh}
use Rattle.match_data.specs.Data.{MatchData, IsMatch}
use Rattle.live_text.specs.declared.request.Request.{Request}
use Rattle.live_text.specs.Requests.{request_at, FitsTerms}
use Rattle.live_text.specs.Texts.{MayAsk}
use Rattle.live_text.proofs.FitLaws.{request_fits}
use Rattle.live_text.proofs.TextLaws.{takes}
use Rattle.live_talk.specs.Head.{Place, asking, opening_headed, place_after}
use Rattle.live_talk.specs.Staging.{Staging}
use Rattle.live_talk.specs.Talked.{TalkState, talk_kind, talk_way, asked_by}
use Rattle.live_talk.proofs.AlongLaws.{HoldsAt, step as step-along, holds-where}
use Rattle.live_mirror.specs.Events.{after_requests, FitAlong}
use Rattle.live_mirror.specs.Led.{begun, IsLed}
use Rattle.live_mirror.specs.Session.{SessionState, after_request, opening_session, terms_of}
use Rattle.live_mirror.specs.Way.{live_way, session_asking}
use Rattle.live_mirror.proofs.Arrivals.{are_terms, arrived-next}

-- ---- requests

pub after-more : {W : Type 0} (rs : List Request) (s : SessionState W) (r : Request) → after_requests s (rs ++ r ∷ []) ≡ after_request (after_requests s rs) r
unfolding after_requests
after-more [] s r = refl
after-more (q ∷ rs) s r = after-more rs (after_request s q) r

pub fit-more : {W : Type 0} (rs : List Request) (s : SessionState W) (r : Request) → FitAlong s rs → FitsTerms (terms_of (after_requests s rs)) r → FitAlong s (rs ++ r ∷ [])
unfolding after_requests FitAlong
fit-more [] s r fit here = (here, tt)
fit-more (q ∷ rs) s r fit here = (fit.0, fit-more rs (after_request s q) r fit.1 here)

pub asked-on : {W : Type 0} (start : Layout → W) (number : ℕ) (s : SessionState W) (r : Request) → IsLed start number s → FitsTerms (terms_of s) r → MayAsk (terms_of s) r
    → IsLed start number (after_request s r)
asked-on {W} start number s r is fits may =
    let first = begun start is.game number in
    let here : FitsTerms (terms_of (after_requests first is.asked)) r = subst (λ (u : SessionState W). FitsTerms (terms_of u) r) is.led fits in
    record {
      game = is.game;
      is_match = is.is_match;
      there = is.there;
      asked = is.asked ++ r ∷ [];
      fit = fit-more is.asked first r is.fit here;
      led = ap (λ (u : SessionState W). after_request u r) is.led ∙ sym (after-more is.asked first r);
      arrived = arrived-next start number s r is may;
    }

module _ {W : Type 0} (g : Staging W) where
  -- a line that asks, or that is refused
  request-of : (s : SessionState W) (l : List ℕ) (r : Request) → asked_by (session_asking g) s l ≡ Ok r → request_at (terms_of s) l ≡ Ok r
  request-of s l r e = elim (is_long l) as (λ b. ◌≡◌ {A = Result Request Cause} (cond b (Err Long) (request_at (terms_of s) l)) (Ok r) → request_at (terms_of s) l ≡ Ok r) [
    | true ↦ λ e. absurd cc
    | false ↦ λ e. e
  ] e

  -- behind a request that a line asks
  stays : (number : ℕ) (s : SessionState W) (l : List ℕ) (r : Request) → asked_by (session_asking g) s l ≡ Ok r → IsLed g.opening number s → IsLed g.opening number (after_request s r)
  stays number s l r e is =
      let read = request-of s l r e in
      asked-on g.opening number s r is (request_fits (terms_of s) l r read) (takes (terms_of s) l r (are_terms g.opening number s is) read).1

  -- as the match begins
  same-session : (s t : SessionState W) → ◌≡◌ {A = Result (SessionState W) Cause} (Ok s) (Ok t) → s ≡ t
  same-session s t e = cc

  first : (number : ℕ) (m : MatchData) → IsMatch m → number < m.mirrors → IsLed g.opening number (begun g.opening m number)
  unfolding after_requests FitAlong
  first number m is there = record { game = m; is_match = is; there = there; asked = []; fit = tt; led = refl; arrived = tt }

  begins : (number : ℕ) (m : MatchData) (s : SessionState W) → IsMatch m → (session_asking g).begun m number ≡ Ok s → IsLed g.opening number s
  begins number m s is e =
      elim (ltb number m.mirrors) as (λ there. ltb number m.mirrors ≡ there
      → ◌≡◌ {A = Result (SessionState W) Cause} (cond there (Ok (opening_session (g.opening m.layout) m number)) (Err Number)) (Ok s) → IsLed g.opening number s) [
        | true ↦ λ there e. subst (IsLed g.opening number) (same-session (begun g.opening m number) s e) (first number m is (ltb-true number m.mirrors there))
        | false ↦ λ there e. absurd cc
      ] refl e

  -- so it is at a place
  abbrev pub Holds : ℕ → Place (TalkState (SessionState W)) → Type 0
  Holds number p = HoldsAt (IsLed g.opening number) p

  pub step : (number : ℕ) (p : Place (TalkState (SessionState W))) (l : List ℕ) → Holds number p
      → Holds number (place_after (talk_kind (session_asking g)) (talk_way (session_asking g)) number p l)
  step number p l here = step-along (session_asking g) (IsLed g.opening number) number (begins number) (stays number) p l here

  pub led-where : (number : ℕ) (bytes : List ℕ) (t : TalkState (SessionState W)) → (hear (live_way g) (fresh (opening_headed number)) (lines_of bytes)).state.place ≡ asking t
      → IsLed g.opening number t.session
  led-where number bytes t e = holds-where (session_asking g) (IsLed g.opening number) number (begins number) (stays number) bytes t e
