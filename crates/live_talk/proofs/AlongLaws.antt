-- What holds of a mirror behind its head, whatever it was told.
use Rattle.std.proofs.Common.{◌≡◌, ℕ, true, false, cond, List, [], ◌++◌, Result, Ok, Err, refl, sym, subst}
use Rattle.tss_io.specs.declared.cause.Cause.{Cause}
use Rattle.tss_io.specs.declared.cause.Cause.TheVariants.{Long}
use Rattle.tss_io.specs.Kinds.{is_long}
use Rattle.tss_io.specs.Lines.{Lines, torn, line, lines_of}
use Rattle.tss_io.specs.Results.{◌>>=◌}
use Rattle.line_talk.specs.Hearing.{Hearing, hear, fresh, led_on, kept}
use Rattle.match_data.specs.Data.{MatchData, IsMatch}
use Rattle.match_file.specs.Around.{Around, first_due, in_match, behind}
use Rattle.match_file.proofs.AroundLaws.{ExactTail, IsAround, around_exact}
use Rattle.live_text.specs.declared.request.Request.{Request}
use Rattle.live_talk.specs.Head.{Place, heading, asking, refused, head_machine, led_to, after_head, nothing_behind, opening_headed, place_after}
use Rattle.live_talk.specs.Lines.{next_line}
use Rattle.live_talk.specs.Talked.{Asking, AskedState, TalkState, asked_by, asked_way, led_by, talk_from, talk_kind, talk_way}

nothing : ExactTail nothing_behind tt (λ _ _. Unit {0}) (λ _ _. [])
nothing = record {
  exact = λ m is. record { says = λ s l t _ short e. absurd cc; fault = λ s l _. refl };
  starts = λ m is. tt;
  nothing = λ m. refl;
}

abbrev pub IsHead : Around (Unit {0}) → Type 0
IsHead at = IsAround (λ _ _. Unit {0}) at

-- so it is at a place
abbrev pub HoldsAt : {S : Type 0} → (S → Type 0) → Place (TalkState S) → Type 0
HoldsAt Holds (heading due at) = IsHead at
HoldsAt Holds (asking t) = Holds t.session
HoldsAt Holds refused = Unit {0}

module _
    {S : Type 0} (a : Asking S) (Holds : S → Type 0) (number : ℕ)
    (begins : (m : MatchData) (s : S) → IsMatch m → a.begun m number ≡ Ok s → Holds s)
    (stays : (s : S) (l : List ℕ) (r : Request) → asked_by a s l ≡ Ok r → Holds s → Holds (a.played s r)) where
  begun : (next : ℕ) (m : MatchData) (r : Result S Cause) → IsMatch m → a.begun m number ≡ r → HoldsAt Holds (after_head ((r >>= λ s. Ok (talk_from s next)) >>= λ u. Ok (asking u)))
  begun next m (Ok s) is e = begins m s is e
  begun next m (Err cause) is e = tt

  opened : (next : ℕ) (at : Around (Unit {0})) → IsHead at → HoldsAt Holds (after_head (led_to (talk_kind a) number next at))
  opened next first_due is = tt
  opened next (in_match b) is = is
  opened next (behind m t) is = begun next m (a.begun m number) is.0 refl

  headed : (next : ℕ) (at : Around (Unit {0})) (l : List ℕ) (r : Result (Around (Unit {0})) Cause) → IsHead at → is_long l ≡ false → (head_machine a.first_line).take at l ≡ r
      → HoldsAt Holds (after_head (r >>= λ read. led_to (talk_kind a) number next read))
  headed next at l (Ok b) is short e = opened next b ((around_exact a.first_line nothing).says at l b is short e).1
  headed next at l (Err cause) is short e = tt

  asked : (t : TalkState S) (l : List ℕ) (q : Result Request Cause) → asked_by a t.session l ≡ q → Holds t.session → Holds (led_by a t q).session
  asked t l (Ok r) e here = stays t.session l r e here
  asked t l (Err cause) e here = here

  pub step : (p : Place (TalkState S)) (l : List ℕ) → HoldsAt Holds p → HoldsAt Holds (place_after (talk_kind a) (talk_way a) number p l)
  step (heading due at) l here =
      let next = next_line due in
      let take = (head_machine a.first_line).take in
      elim (is_long l) as (λ long. is_long l ≡ long → HoldsAt Holds (after_head (cond long (Err Long) (take at l >>= λ read. led_to (talk_kind a) number next read)))) [
        | true ↦ λ e. tt
        | false ↦ λ e. headed next at l (take at l) here e refl
      ] refl
  step (asking t) l here = asked t l (asked_by a t.session l) refl here
  step refused l here = tt

  along : (lines : Lines) (h : Hearing (AskedState S)) → h.state.number ≡ number → HoldsAt Holds h.state.place → HoldsAt Holds (hear (asked_way a) h lines).state.place
  unfolding hear
  along (torn bytes) h me here =
      elim ((asked_way a).is_over h.state) as (λ over. HoldsAt Holds (cond over h (record h { begun = kept (h.begun ++ bytes) })).state.place) [ true ↦ here | false ↦ here ]
  along (line l rest) h me here =
      let on = led_on (asked_way a) h l in
      let there : HoldsAt Holds on.state.place = subst (λ (n : ℕ). HoldsAt Holds (place_after (talk_kind a) (talk_way a) n h.state.place (kept (h.begun ++ l)))) (sym me) (step h.state.place (kept (h.begun ++ l)) here) in
      elim ((asked_way a).is_over h.state) as (λ over. HoldsAt Holds (cond over h (hear (asked_way a) on rest)).state.place) [
        | true ↦ here
        | false ↦ along rest on me there
      ]

  pub holds-where : (bytes : List ℕ) (t : TalkState S) → (hear (asked_way a) (fresh (opening_headed number)) (lines_of bytes)).state.place ≡ asking t → Holds t.session
  holds-where bytes t e = subst (HoldsAt Holds) e (along (lines_of bytes) (fresh (opening_headed number)) refl tt)
