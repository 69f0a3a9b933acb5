-- What is read as a request can be done.
use Rattle.std.proofs.Common.{◌≡◌, ℕ, ◌-◌, Bool, true, List, [], ◌∷◌, Result, Ok, subst}
use Rattle.std.specs.Prelude.{bytes_eq, codes}
use Rattle.std.proofs.lemmas.Bool.{and_parts}
use Rattle.tss_io.specs.declared.cause.Cause.{Cause}
use Rattle.tss_io.specs.declared.cause.Cause.TheVariants.{Shape, Many}
use Rattle.tss_io.specs.Kinds.{Kind, checked, step}
use Rattle.tss_io.proofs.Results.{unless_then, ok_is}
use Rattle.tss_io.proofs.FormLaws.{through, number_takes}
use Rattle.live_text.specs.declared.request.Terms.{Terms}
use Rattle.live_text.specs.declared.request.Request.{Request}
use Rattle.live_text.specs.declared.request.Request.TheVariants.{Tick, Turn, Commands, End}
use Rattle.live_text.specs.Requests.{ranges_of, own_kind, cmd_kind, step_kind, world_kind, run_kind, restagger_kind, request_by, request_at, FitsTerms}
use Rattle.live_text.proofs.RequestLaws.{command_time}
use Rattle.live_text.proofs.TextLaws.{chosen}

-- a line of a kind that was read: there was room, and its words had a value
record Got {R A : Type 0} (k : Kind Terms R A Request) (t : Terms) (words : List (List ℕ)) (r : Request) : Type 0 where
  room : k.room t words ≡ true
  seen : R
  a : A
  value : (k.form t).value seen ≡ Ok a
  put : k.put t a ≡ r

last_put : (tests : List (Bool × Cause)) (q r : Request) → checked tests q ≡ Ok r → q ≡ r
last_put [] q r e = ok_is q r e
last_put (test ∷ tests) q r e = last_put tests q r (unless_then test.0 test.1 (checked tests q) r e).1

got : {R A : Type 0} (k : Kind Terms R A Request) (t : Terms) (words : List (List ℕ)) (r : Request) → step k t words ≡ Ok r → Got k t words r
got k t words r e =
    let stand = unless_then (k.stands t) Shape _ r e in
    through _ _ _ stand.1 (λ seen seen_is e.
    let place = unless_then (k.room t words) Many _ r e in
    through _ _ _ place.1 (λ a a_is e. record { room = place.0; seen = seen; a = a; value = a_is; put = last_put (k.tests t a) (k.put t a) r e }))

own_fits : (t : Terms) (words : List (List ℕ)) (r : Request) → Got own_kind t words r → FitsTerms t r
own_fits t words r o = subst (FitsTerms t) o.put (and_parts t.can_arrive t.can_number o.room)

cmd_fits : (t : Terms) (words : List (List ℕ)) (r : Request) → Got cmd_kind t words r → FitsTerms t r
cmd_fits t words r o = let c = command_time (ranges_of t) o.seen o.a o.value in subst (FitsTerms t) o.put (o.room, c.0, c.1)

world_fits : (t : Terms) (words : List (List ℕ)) (r : Request) → Got world_kind t words r → FitsTerms t r
world_fits t words r o = subst (FitsTerms t) o.put (number_takes 0 (t.copies - 1) o.seen o.a o.value).1.1

step_fits : (t : Terms) (words : List (List ℕ)) (r : Request) → Got step_kind t words r → FitsTerms t r
step_fits t words r o = subst (FitsTerms t) o.put (number_takes 0 (t.copies - 1) o.seen o.a o.value).1.1

run_fits : (t : Terms) (words : List (List ℕ)) (r : Request) → Got run_kind t words r → FitsTerms t r
run_fits t words r o = subst (FitsTerms t) o.put (number_takes 0 (t.copies - 1) o.seen o.a o.value).1.1

restagger_fits : (t : Terms) (words : List (List ℕ)) (r : Request) → Got restagger_kind t words r → FitsTerms t r
restagger_fits t words r o = subst (FitsTerms t) o.put (o.room, (number_takes 0 (t.plans - 1) o.seen o.a o.value).1.1)

words_fit : (t : Terms) (word : List ℕ) (words : List (List ℕ)) (r : Request) → request_by t word words ≡ Ok r → FitsTerms t r
unfolding request_by
words_fit t word words r e =
    chosen (bytes_eq word (codes "cmd")) _ _ r e (λ _ e. cmd_fits t words r (got cmd_kind t words r e)) (λ e.
    chosen (bytes_eq word (codes "own")) _ _ r e (λ _ e. own_fits t words r (got own_kind t words r e)) (λ e.
    chosen (bytes_eq word (codes "world")) _ _ r e (λ _ e. world_fits t words r (got world_kind t words r e)) (λ e.
    chosen (bytes_eq word (codes "step")) _ _ r e (λ _ e. step_fits t words r (got step_kind t words r e)) (λ e.
    chosen (bytes_eq word (codes "run")) _ _ r e (λ _ e. run_fits t words r (got run_kind t words r e)) (λ e.
    chosen (bytes_eq word (codes "restagger")) _ _ r e (λ _ e. restagger_fits t words r (got restagger_kind t words r e)) (λ e. absurd cc))))))

alone : (t : Terms) (q r : Request) → FitsTerms t q → ◌≡◌ {A = Result Request Cause} (Ok q) (Ok r) → FitsTerms t r
alone t q r fits e = subst (FitsTerms t) (ok_is q r e) fits

pub request_fits : (t : Terms) (l : List ℕ) (r : Request) → request_at t l ≡ Ok r → FitsTerms t r
unfolding request_at
request_fits t l r e =
    chosen (bytes_eq l (codes "tick")) _ _ r e (λ _. alone t Tick r tt) (λ e.
    chosen (bytes_eq l (codes "turn")) _ _ r e (λ _. alone t Turn r tt) (λ e.
    chosen (bytes_eq l (codes "commands")) _ _ r e (λ _. alone t Commands r tt) (λ e.
    chosen (bytes_eq l (codes "end")) _ _ r e (λ _. alone t End r tt) (λ e.
    through _ _ _ e (λ (front : List ℕ × List (List ℕ)) _ e. words_fit t front.0 front.1 r e)))))
