-- What requests make at a mirror.
use Rattle.std.proofs.Common.{◌≡◌, ℕ, zero, suc, ◌+◌, ◌≤◌, ◌<◌, Bool, true, false, cond, List, [], ◌∷◌, ◌++◌, length, take, refl, sym, ap, subst, ◌∙◌, arith}
use Rattle.std.specs.List.{AllByRecursion}
use Rattle.std.proofs.lemmas.Bool.{leb-false, ltb-true}
use Rattle.game_trait.proofs.KeyOrder.{all-weaker}
use Rattle.game_trait.proofs.Lists.{all-append}
use Rattle.game_trait.specs.declared.command.Act.{Act}
use Rattle.game_trait.specs.declared.event.Event.{Event}
use Rattle.game_trait.specs.declared.event.Event.TheVariants as events
use Rattle.sync_model.specs.State.{MirrorState}
use Rattle.sync_model.specs.Change.{next, after, Fits}
use Rattle.sync_model.specs.Consistent.{IsConsistent}
use Rattle.sync_model.specs.History.{HasRoom, HasRoomAlong}
use Rattle.sync_model.specs.Staggered.{IsStaggered}
use Rattle.sync_model.specs.Turns.{turn_events, steps_from, turns_of}
use Rattle.sync_model.proofs.Along.{all-fit-next, fitted-next, staggered_along, well_formed_kept}
use Rattle.sync_model.proofs.Drain.{draining_is_turns}
use Rattle.sync_model.proofs.History.{after-append, history_grows}
use Rattle.sync_model.proofs.Room.{from_history_kept, from_history_reached, history_of_changes}
use Rattle.sync_model.proofs.Staggered.{staggered_kept}
use Rattle.live_text.specs.declared.request.Request.{Request}
use Rattle.live_text.specs.declared.request.Request.TheVariants.{Own, Cmd, Tick, Turn, Step, Restagger, World, Run, Commands, End}
use Rattle.live_text.specs.Requests.{FitsTerms}
use Rattle.live_mirror.specs.Session.{SessionState, terms_of, is_past, own_command, mirror_after, after_request}
use Rattle.live_mirror.specs.Events.{Makes, IsMade, after_requests, FitAlong, AreMade}
use Rattle.live_mirror.proofs.Steps.{sound-parts}

-- ---- a request is events

after-one : {W : Type 0} (s : MirrorState W) (e : Event) → after s (e ∷ []) ≡ next s e
unfolding after
after-one s e = refl

after-none : {W : Type 0} (s : MirrorState W) → after s [] ≡ s
unfolding after
after-none s = refl

pub made : {W : Type 0} (s : SessionState W) (r : Request) → (es : List Event) × Makes s r es × (after s.mirror es ≡ mirror_after s r)
unfolding mirror_after
made s (Own player act) =
    let x = events.Arrive (own_command s player act) in (
      cond (is_past s) [] (x ∷ []),
      refl,
      elim (is_past s) as (λ t. after s.mirror (cond t [] (x ∷ [])) ≡ cond t s.mirror (next s.mirror x)) [
        | true ↦ after-none s.mirror
        | false ↦ after-one s.mirror x
      ],
    )
made s (Cmd x) = (events.Arrive x ∷ [], refl, after-one s.mirror (events.Arrive x))
made s Tick = (events.Tick ∷ [], refl, after-one s.mirror events.Tick)
made s Turn = (turn_events (length s.mirror.runs), refl, refl)
made s (Step copy) = (events.Step copy ∷ [], refl, after-one s.mirror (events.Step copy))
made s (Restagger plan) = (events.Restagger plan ∷ [], refl, after-one s.mirror (events.Restagger plan))
made s (World copy) = ([], refl, after-none s.mirror)
made s (Run copy) = ([], refl, after-none s.mirror)
made s Commands = ([], refl, after-none s.mirror)
made s End = let d = draining_is_turns s.mirror in (turns_of (length s.mirror.runs) d.0, (d.0, refl, sym d.2), sym d.2)

-- whichever events a request makes, they lead there
makes-leads : {W : Type 0} (s : SessionState W) (r : Request) (es : List Event) → Makes s r es → after s.mirror es ≡ mirror_after s r
unfolding mirror_after
makes-leads s (Own player act) es makes =
    let x = events.Arrive (own_command s player act) in
    ap (after s.mirror) makes ∙ elim (is_past s) as (λ t. after s.mirror (cond t [] (x ∷ [])) ≡ cond t s.mirror (next s.mirror x)) [
      | true ↦ after-none s.mirror
      | false ↦ after-one s.mirror x
    ]
makes-leads s (Cmd x) es makes = ap (after s.mirror) makes ∙ after-one s.mirror (events.Arrive x)
makes-leads s Tick es makes = ap (after s.mirror) makes ∙ after-one s.mirror events.Tick
makes-leads s Turn es makes = ap (after s.mirror) makes
makes-leads s (Step copy) es makes = ap (after s.mirror) makes ∙ after-one s.mirror (events.Step copy)
makes-leads s (Restagger plan) es makes = ap (after s.mirror) makes ∙ after-one s.mirror (events.Restagger plan)
makes-leads s (World copy) es makes = ap (after s.mirror) makes ∙ after-none s.mirror
makes-leads s (Run copy) es makes = ap (after s.mirror) makes ∙ after-none s.mirror
makes-leads s Commands es makes = ap (after s.mirror) makes ∙ after-none s.mirror
makes-leads s End es makes = makes.2

pub is-made : {W : Type 0} (s : SessionState W) (r : Request) → (es : List Event) × IsMade s r es
is-made s r =
    let m = made s r in
    (m.0, record { makes = m.1; leads = m.2; history = sym (ap (λ (t : MirrorState _). t.history) m.2) ∙ history_grows s.mirror m.0 })

pub are-made : {W : Type 0} (rs : List Request) (s : SessionState W) → (es : List Event) × AreMade s rs es × (after s.mirror es ≡ (after_requests s rs).mirror)
unfolding after_requests AreMade
are-made [] s = ([], refl, after-none s.mirror)
are-made (r ∷ rs) s =
    let now = made s r in
    let later = are-made rs (after_request s r) in (
      now.0 ++ later.0,
      (now.0, later.0, refl, now.1, later.1),
      after-append s.mirror now.0 later.0 ∙ ap (λ t. after t later.0) now.2 ∙ later.2,
    )

-- ---- what a request makes fits, and finds room

abbrev Stays : {W : Type 0} → MirrorState W → List Event → Type 0
Stays s es = AllByRecursion (Fits s) es × HasRoomAlong s es

no-room : {W : Type 0} (s : MirrorState W) → HasRoomAlong s []
unfolding HasRoomAlong
no-room s = tt

one-room : {W : Type 0} (s : MirrorState W) (e : Event) → HasRoom s e → HasRoomAlong s (e ∷ [])
unfolding HasRoomAlong
one-room s e room = (room, tt)

-- ticks and steps of copies that are there
abbrev pub IsTurning : ℕ → Event → Type 0
IsTurning copies events.Tick = Unit {0}
IsTurning copies (events.Step c) = c < copies
IsTurning copies (events.Arrive x) = ⊥
IsTurning copies (events.Restagger p) = ⊥

steps-turning : (copies n c : ℕ) → c + n ≤ copies → AllByRecursion (IsTurning copies) (steps_from c n)
unfolding steps_from
steps-turning copies zero c within = tt
steps-turning copies (suc n) c within = (omega (arith, within), steps-turning copies n (c + 1) (omega (arith, within)))

pub turn-turning : (copies : ℕ) → AllByRecursion (IsTurning copies) (turn_events copies)
turn-turning copies = (tt, steps-turning copies copies 0 (omega arith))

pub turns-turning : (copies n : ℕ) → AllByRecursion (IsTurning copies) (turns_of copies n)
unfolding turns_of
turns-turning copies zero = tt
turns-turning copies (suc n) = all-append (IsTurning copies) (turn_events copies) (turns_of copies n) (turn-turning copies) (turns-turning copies n)

turning-fits : {W : Type 0} (s : MirrorState W) (es : List Event) → AllByRecursion (IsTurning (length s.runs)) es → AllByRecursion (Fits s) es
turning-fits s [] h = tt
turning-fits s (events.Tick ∷ es) h = (tt, turning-fits s es h.1)
turning-fits s (events.Step c ∷ es) h = (h.0, turning-fits s es h.1)
turning-fits s (events.Arrive x ∷ es) h = absurd h.0
turning-fits s (events.Restagger p ∷ es) h = absurd h.0

turning-room : {W : Type 0} (copies : ℕ) (es : List Event) (s : MirrorState W) → AllByRecursion (IsTurning copies) es → HasRoomAlong s es
unfolding HasRoomAlong
turning-room copies [] s h = tt
turning-room copies (events.Tick ∷ es) s h = (tt, turning-room copies es (next s events.Tick) h.1)
turning-room copies (events.Step c ∷ es) s h = (tt, turning-room copies es (next s (events.Step c)) h.1)
turning-room copies (events.Arrive x ∷ es) s h = absurd h.0
turning-room copies (events.Restagger p ∷ es) s h = absurd h.0

turning-stays : {W : Type 0} (s : MirrorState W) (es fs : List Event) → es ≡ fs → AllByRecursion (IsTurning (length s.runs)) fs → Stays s es
turning-stays s es fs same h = subst (Stays s) (sym same) (turning-fits s fs h, turning-room (length s.runs) fs s h)

one-stays : {W : Type 0} (s : MirrorState W) (e : Event) (es : List Event) → es ≡ e ∷ [] → Fits s e → HasRoom s e → Stays s es
one-stays s e es same fits room = subst (Stays s) (sym same) ((fits, tt), one-room s e room)

none-stays : {W : Type 0} (s : MirrorState W) (es : List Event) → es ≡ [] → Stays s es
none-stays s es same = subst (Stays s) (sym same) (tt, no-room s)

own-stays : {W : Type 0} (s : SessionState W) (player : ℕ) (act : Act) (es : List Event) (past : Bool) → is_past s ≡ past → 0 < s.mirror.spare
    → es ≡ cond past [] (events.Arrive (own_command s player act) ∷ []) → Stays s.mirror es
own-stays s player act es true e room same = none-stays s.mirror es same
own-stays s player act es false e room same = one-stays s.mirror (events.Arrive (own_command s player act)) es same (leb-false s.mirror.length s.mirror.clock e) room

pub made-stays : {W : Type 0} (s : SessionState W) (r : Request) (es : List Event) → IsConsistent s.mirror → FitsTerms (terms_of s) r → Makes s r es → Stays s.mirror es
made-stays s (Own player act) es is fits makes = own-stays s player act es (is_past s) refl (ltb-true 0 s.mirror.spare fits.0) makes
made-stays s (Cmd x) es is fits makes =
    let parts = sound-parts s.mirror is.well_formed in
    one-stays s.mirror (events.Arrive x) es makes (omega (arith, fits.1, parts.2)) (ltb-true 0 s.mirror.spare fits.0)
made-stays s Tick es is fits makes = one-stays s.mirror events.Tick es makes tt tt
made-stays s Turn es is fits makes = turning-stays s.mirror es (turn_events (length s.mirror.runs)) makes (turn-turning (length s.mirror.runs))
made-stays s (Step copy) es is fits makes =
    let parts = sound-parts s.mirror is.well_formed in
    one-stays s.mirror (events.Step copy) es makes (omega (arith, fits, parts.0)) tt
made-stays s (Restagger plan) es is fits makes =
    let parts = sound-parts s.mirror is.well_formed in
    one-stays s.mirror (events.Restagger plan) es makes (omega (arith, fits.1, parts.1)) (ltb-true 0 s.mirror.plan_spare fits.0)
made-stays s (World copy) es is fits makes = none-stays s.mirror es makes
made-stays s (Run copy) es is fits makes = none-stays s.mirror es makes
made-stays s Commands es is fits makes = none-stays s.mirror es makes
made-stays s End es is fits makes = turning-stays s.mirror es (turns_of (length s.mirror.runs) makes.0) makes.1 (turns-turning (length s.mirror.runs) makes.0)

-- ---- what always holds goes on holding

consistent-next : {W : Type 0} (s : MirrorState W) (e : Event) → Fits s e → HasRoom s e → IsConsistent s → IsConsistent (next s e)
consistent-next s e fits room is = record {
  staggered = staggered_kept s e fits is.staggered;
  well_formed = well_formed_kept s e fits is.well_formed;
  from_history = from_history_kept s e room is.from_history;
  each_changes = history_of_changes s e (from_history_reached s is.from_history) is.each_changes;
}

pub consistent-after : {W : Type 0} (es : List Event) (s : MirrorState W) → Stays s es → IsConsistent s → IsConsistent (after s es)
unfolding after HasRoomAlong
consistent-after [] s stays is = is
consistent-after (e ∷ es) s stays is =
    consistent-after es (next s e) (all-fit-next s e es stays.0.1, stays.1.1) (consistent-next s e stays.0.0 stays.1.0 is)

pub request-keeps : {W : Type 0} (s : SessionState W) (r : Request) → IsConsistent s.mirror → FitsTerms (terms_of s) r → IsConsistent (after_request s r).mirror
request-keeps s r is fits =
    let m = made s r in
    subst (λ (t : MirrorState _). IsConsistent t) m.2 (consistent-after m.0 s.mirror (made-stays s r m.0 is fits m.1) is)

fits-front : {W : Type 0} (s : MirrorState W) (n : ℕ) (es : List Event) → AllByRecursion (Fits s) es → AllByRecursion (Fits s) (take n es)
fits-front s zero es h = tt
fits-front s (suc n) [] h = tt
fits-front s (suc n) (e ∷ es) h = (h.0, fits-front s n es h.1)

-- every state on the way is staggered
pub staggered-on_way : {W : Type 0} (s : SessionState W) (r : Request) (es : List Event) (n : ℕ) → IsConsistent s.mirror → FitsTerms (terms_of s) r → Makes s r es
    → IsStaggered (after s.mirror (take n es))
staggered-on_way s r es n is fits makes =
    staggered_along (take n es) s.mirror (fits-front s.mirror n es (made-stays s r es is fits makes).0) is.staggered

pub requests-keep : {W : Type 0} (rs : List Request) (s : SessionState W) → IsConsistent s.mirror → FitAlong s rs → IsConsistent (after_requests s rs).mirror
unfolding after_requests FitAlong
requests-keep [] s is fits = is
requests-keep (r ∷ rs) s is fits = requests-keep rs (after_request s r) (request-keeps s r is fits.0) fits.1

-- ---- all events of requests fit the mirror as it was before them

fits-before : {W : Type 0} (es : List Event) (s : MirrorState W) (f : Event) → Fits (after s es) f → Fits s f
unfolding after
fits-before [] s f h = h
fits-before (e ∷ es) s f h = fitted-next s e f (fits-before es (next s e) f h)

pub requests-fit : {W : Type 0} (rs : List Request) (s : SessionState W) (es : List Event) → IsConsistent s.mirror → FitAlong s rs → AreMade s rs es → AllByRecursion (Fits s.mirror) es
unfolding FitAlong AreMade
requests-fit [] s es is fits made = subst (AllByRecursion (Fits s.mirror)) (sym made) tt
requests-fit {W} (r ∷ rs) s es is fits made =
    let now = made.0 in
    let later = made.1 in
    let leads : after s.mirror now ≡ (after_request s r).mirror = makes-leads s r now made.3 in
    let here = (made-stays s r now is fits.0 made.3).0 in
    let rest = requests-fit rs (after_request s r) later (request-keeps s r is fits.0) fits.1 made.4 in
    subst (AllByRecursion (Fits s.mirror)) (sym made.2)
    (all-append (Fits s.mirror) now later here
    (all-weaker (Fits (after_request s r).mirror) (Fits s.mirror) later (λ f h. fits-before now s.mirror f (subst (λ (t : MirrorState W). Fits t f) (sym leads) h)) rest))
