-- Line after line, both ways, and the first fault.
use Rattle.std.proofs.Common.{◌≡◌, ℕ, ◌+◌, Bool, true, false, cond, eqb, List, [], ◌∷◌, ◌++◌, length, map, Some, Result, Ok, Err, refl, sym, ap, subst, ◌∙◌, append_assoc, arith}
use Rattle.std.specs.List.{AllByRecursion}
use Rattle.std.proofs.lemmas.List.{append-nil}
use Rattle.std.proofs.lemmas.Bool.Decides.{nat_tests}
use Rattle.tss_io.specs.Results.{◌>>=◌}
use Rattle.tss_io.specs.declared.cause.Cause.{Cause}
use Rattle.tss_io.specs.declared.cause.Cause.TheVariants.{End, Long}
use Rattle.tss_io.specs.declared.fault.Refused.{Refused}
use Rattle.tss_io.specs.Lines.{Lines, torn, line, onto, lines_of}
use Rattle.tss_io.specs.Kinds.{is_long, fault_of, EachAfter}
use Rattle.tss_io.specs.Runs.{is_end, at, run, ahead, Follows, stop_at, StopsAt}
use Rattle.tss_io.specs.Reading.{refused_at}
use Rattle.tss_io.proofs.Results.{ok_is}

-- what both branches of a test lead to
pub either : {A P : Type 0} (b : Bool) (x y z : A) → ((b ≡ true) → x ≡ z → P) → ((b ≡ false) → y ≡ z → P) → cond b x y ≡ z → P
either true x y z found missed e = found refl e
either false x y z found missed e = missed refl e

pub record Ran {S : Type 0} (take : S → List ℕ → Result S Cause) (is_last : S → Bool) (s : S) (lines : Lines) (t : S) : Type 0 where
  pub front : List (List ℕ)
  pub whole : lines ≡ ahead front (torn [])
  pub good : Follows take is_last s front t
  pub last : is_last t ≡ true

pub is_end_takes : (lines : Lines) → is_end lines ≡ true → lines ≡ torn []
is_end_takes (torn []) e = refl
is_end_takes (torn (b ∷ bytes)) e = absurd cc
is_end_takes (line l rest) e = absurd cc

pub at_cases : {S A P : Type 0} (n : ℕ) (r : Result S Cause) (f : S → Result A Refused) (x : Result A Refused)
    → ((c : Cause) → r ≡ Err c → Err (refused_at n c) ≡ x → P) → ((m : S) → r ≡ Ok m → f m ≡ x → P) → (at n r >>= f) ≡ x
    → P
at_cases n (Ok m) f x bad good e = good m refl e
at_cases n (Err c) f x bad good e = bad c refl e

pub run_takes : {S : Type 0} (take : S → List ℕ → Result S Cause) (is_last : S → Bool) (n : ℕ) (s : S) (lines : Lines) (t : S) → run take is_last n s lines ≡ Ok t → Ran take is_last s lines t
unfolding run ahead Follows
run_takes take is_last n s (torn bytes) t e =
    either (is_last s) _ _ _
    (λ last e. either (is_end (torn bytes)) _ _ _
    (λ ended e. record { front = []; whole = is_end_takes (torn bytes) ended; good = cc; last = rw (ok_is {E = Refused} s t e) at last })
    (λ _ e. absurd cc) e)
    (λ _ e. absurd cc) e
run_takes take is_last n s (line l rest) t e =
    either (is_last s) _ _ _ (λ _ e. absurd cc)
    (λ not_last e. either (is_long l) _ _ _ (λ _ e. absurd cc)
    (λ short e. at_cases n (take s l) _ _ (λ c _ e. absurd cc)
    (λ m m_is e.
    let r = run_takes take is_last (n + 1) m rest t e in
    record { front = l ∷ r.front; whole = ap (line l) r.whole; good = (not_last, short, m, m_is, r.good); last = r.last }) e) e) e

pub run_again : {S : Type 0} (take : S → List ℕ → Result S Cause) (is_last : S → Bool) (n : ℕ) (s : S)
    (front : List (List ℕ)) (t : S) → Follows take is_last s front t → is_last t ≡ true
    → run take is_last n s (ahead front (torn [])) ≡ Ok t
unfolding run ahead Follows
run_again take is_last n s [] t good last = rw (good, last) refl
run_again take is_last n s (l ∷ front) t good last = rw (good.0, good.1, good.3) (run_again take is_last (n + 1) good.2 front t good.4 last)

-- ---- the first fault

pub first : {S : Type 0} (take : S → List ℕ → Result S Cause) (is_last : S → Bool) (n : ℕ) (s : S) (lines : Lines)
    (refused : Refused) (cause : Cause) → ◌≡◌ {A = Result S Refused} (Err (refused_at n cause)) (Err refused)
    → stop_at take is_last s lines ≡ Some cause → StopsAt take is_last n s lines refused
unfolding ahead Follows
first take is_last n s lines refused cause e stop =
    let same : refused_at n cause ≡ refused = cc in
    record { front = []; met = s; rest = lines; whole = refl; good = refl; number = omega (arith, ap (λ (r : Refused). r.line) same); cause = stop ∙ ap (λ (r : Refused). Some r.cause) same }

pub run_fault : {S : Type 0} (take : S → List ℕ → Result S Cause) (is_last : S → Bool) (n : ℕ) (s : S) (lines : Lines)
    (refused : Refused) → run take is_last n s lines ≡ Err refused → StopsAt take is_last n s lines refused
unfolding run ahead Follows
run_fault take is_last n s (torn bytes) refused e =
    either (is_last s) _ _ _
    (λ last e. either (is_end (torn bytes)) _ _ _
    (λ _ e. absurd cc)
    (λ ended e. first take is_last n s (torn bytes) refused End e (rw (last, ended) refl)) e)
    (λ last e. first take is_last n s (torn bytes) refused (cond (is_long bytes) Long End) e (rw last refl)) e
run_fault take is_last n s (line l rest) refused e =
    either (is_last s) _ _ _ (λ last e. first take is_last n s (line l rest) refused End e (rw last refl))
    (λ last e. either (is_long l) _ _ _ (λ long e. first take is_last n s (line l rest) refused Long e (rw (last, long) refl))
    (λ short e. at_cases n (take s l) _ _ (λ c c_is e. first take is_last n s (line l rest) refused c e (rw (last, short, c_is) refl))
    (λ m m_is e.
    let r = run_fault take is_last (n + 1) m rest refused e in
    let counted = r.number in
    record { front = l ∷ r.front; met = r.met; rest = r.rest; whole = ap (line l) r.whole; good = (last, short, m, m_is, r.good); number = omega arith; cause = r.cause }) e) e) e

fault_is : {T E : Type 0} (r : Result T E) (c : E) → fault_of r ≡ Some c → r ≡ Err c
fault_is (Ok t) c e = absurd cc
fault_is (Err d) c e = ap Err (cc)

fault_here : {S : Type 0} (take : S → List ℕ → Result S Cause) (is_last : S → Bool) (n : ℕ) (s : S) (lines : Lines)
    (cause : Cause) → stop_at take is_last s lines ≡ Some cause → run take is_last n s lines ≡ Err (refused_at n cause)
unfolding run
fault_here take is_last n s (torn bytes) cause stop =
    either (is_last s) _ _ _
    (λ last stop. either (is_end (torn bytes)) _ _ _
    (λ _ stop. absurd cc)
    (λ ended stop. let same : End ≡ cause = cc in rw (last, ended, same) refl) stop)
    (λ last stop. let same : cond (is_long bytes) Long End ≡ cause = cc in rw (last, same) refl) stop
fault_here take is_last n s (line l rest) cause stop =
    either (is_last s) _ _ _ (λ last stop. let same : End ≡ cause = cc in rw (last, same) refl)
    (λ last stop. either (is_long l) _ _ _ (λ long stop. let same : Long ≡ cause = cc in rw (last, long, same) refl)
    (λ short stop. rw (last, short, fault_is (take s l) cause stop) refl) stop) stop

pub fault_run : {S : Type 0} (take : S → List ℕ → Result S Cause) (is_last : S → Bool) (n : ℕ) (s : S)
    (front : List (List ℕ)) (met : S) (rest : Lines) (cause : Cause) → Follows take is_last s front met
    → stop_at take is_last met rest ≡ Some cause → run take is_last n s (ahead front rest)
    ≡ Err (refused_at (n + length front) cause)
unfolding run ahead Follows
fault_run take is_last n s [] met rest cause good stop =
    let none : n + 0 ≡ n = omega arith in
    rw (none, good) (fault_here take is_last n met rest cause stop)
fault_run take is_last n s (l ∷ front) met rest cause good stop =
    let k : n + length (l ∷ front) ≡ (n + 1) + length front = omega arith in
    rw (k, good.0, good.1, good.3) (fault_run take is_last (n + 1) good.2 front met rest cause good.4 stop)

-- ---- lines that follow

pub follows_more : {S : Type 0} (take : S → List ℕ → Result S Cause) (is_last : S → Bool) (a : S) (xs : List (List ℕ))
    (b : S) (ys : List (List ℕ)) (c : S) → Follows take is_last a xs b → Follows take is_last b ys c
    → Follows take is_last a (xs ++ ys) c
unfolding Follows
follows_more take is_last a [] b ys c h k = subst (λ (v : _). Follows take is_last v ys c) (sym h) k
follows_more take is_last a (x ∷ xs) b ys c h k = (h.0, h.1, h.2, h.3, follows_more take is_last h.2 xs b ys c h.4 k)

-- what each line keeps, and what it says more, all lines do
pub follows_says : {S : Type 0} (take : S → List ℕ → Result S Cause) (is_last : S → Bool) (Is : S → Type 0) (said : S → List (List ℕ))
    → ((s : S) (l : List ℕ) (t : S) → Is s → take s l ≡ Ok t → (said t ≡ said s ++ l ∷ []) × Is t)
    → (s : S) (front : List (List ℕ)) (t : S) → Is s → Follows take is_last s front t → (said t ≡ said s ++ front) × Is t
unfolding Follows
follows_says take is_last Is said one s [] t is good = (ap said (sym good) ∙ sym (append-nil (said s)), subst Is good is)
follows_says take is_last Is said one s (l ∷ front) t is good =
    let k = one s l good.2 is good.3 in
    let r = follows_says take is_last Is said one good.2 front t k.1 good.4 in
    (r.0 ∙ ap (λ (x : List (List ℕ)). x ++ front) k.0 ∙ append_assoc (said s) (l ∷ []) front, r.1)

-- what each line keeps, all lines do
pub follows_keeps : {S : Type 0} (take : S → List ℕ → Result S Cause) (is_last : S → Bool) (Is : S → Type 0)
    → ((s : S) (l : List ℕ) (t : S) → Is s → take s l ≡ Ok t → Is t) → (s : S) (front : List (List ℕ)) (t : S) → Is s
    → Follows take is_last s front t → Is t
unfolding Follows
follows_keeps take is_last Is one s [] t is good = subst Is good is
follows_keeps take is_last Is one s (l ∷ front) t is good = follows_keeps take is_last Is one good.2 front t (one s l good.2 is good.3) good.4

-- items, each right behind those before it, follow one another
pub items_follow : {S A : Type 0} (take : S → List ℕ → Result S Cause) (is_last : S → Bool) (Right : List A → A → Type 0) (written : A → List ℕ) (with_items : List A → S)
    → ((before : List A) (a : A) → Right before a → (is_last (with_items before) ≡ false) × (is_long (written a) ≡ false) × (take (with_items before) (written a) ≡ Ok (with_items (before ++ a ∷ []))))
    → (before more : List A) → EachAfter Right before more → Follows take is_last (with_items before) (map written more) (with_items (before ++ more))
unfolding Follows EachAfter
items_follow take is_last Right written with_items one before [] h = ap with_items (sym (append-nil before))
items_follow take is_last Right written with_items one before (a ∷ more) h =
    let k = one before a h.0 in (
      k.0,
      k.1,
      with_items (before ++ a ∷ []),
      k.2,
      subst (λ (v : _). Follows take is_last (with_items (before ++ a ∷ [])) (map written more) (with_items v))
          (append_assoc before (a ∷ []) more) (items_follow take is_last Right written with_items one (before ++ a ∷ [])
          more h.1),
    )

-- one item more
pub each_push : {A : Type 0} (Right : List A → A → Type 0) (before xs : List A) (a : A) → EachAfter Right before xs → Right (before ++ xs) a → EachAfter Right before (xs ++ a ∷ [])
unfolding EachAfter
each_push Right before [] a h k = (subst (λ (v : _). Right v a) (append-nil before) k, tt)
each_push Right before (x ∷ xs) a h k = (h.0, each_push Right (before ++ x ∷ []) xs a h.1 (subst (λ (v : _). Right v a) (sym (append_assoc before (x ∷ []) xs)) k))

-- ---- the end

not_end : (b : ℕ) (lines : Lines) → is_end (onto b lines) ≡ false
not_end b (torn bytes) = refl
not_end b (line l rest) = refl

pub is_end-lines_of : (bytes : List ℕ) → is_end (lines_of bytes) ≡ eqb (length bytes) 0
unfolding lines_of
is_end-lines_of [] = refl
is_end-lines_of (b ∷ bytes) =
    let none : eqb (length (b ∷ bytes)) 0 ≡ false = grind (arith, nat_tests) in
    rw none (elim (eqb b 10) as (λ t. is_end (cond t (line [] (lines_of bytes)) (onto b (lines_of bytes))) ≡ false) [
      | true ↦ refl
      | false ↦ not_end b (lines_of bytes)
    ])

-- ---- lists of items

-- what holds of each item that is right, of the lines of all
pub each_all : {A : Type 0} (Right : List A → A → Type 0) (written : A → List ℕ) (P : List ℕ → Type 0)
    → ((before : List A) (a : A) → Right before a → P (written a)) → (before more : List A)
    → EachAfter Right before more → AllByRecursion P (map written more)
unfolding EachAfter
each_all Right written P one before [] h = tt
each_all Right written P one before (a ∷ more) h = (one before a h.0, each_all Right written P one (before ++ a ∷ []) more h.1)

pub at_takes : {S : Type 0} (n : ℕ) (r : Result S Cause) (s : S) → at n r ≡ Ok s → r ≡ Ok s
at_takes n (Ok t) s e = cc
at_takes n (Err c) s e = absurd cc

-- ---- the first fault of a text whose lines come one by one

pub later : {S : Type 0} (take : S → List ℕ → Result S Cause) (is_last : S → Bool) (n : ℕ) (s m : S) (l : List ℕ)
    (rest : Lines) (refused : Refused) → is_last s ≡ false → is_long l ≡ false → take s l ≡ Ok m
    → StopsAt take is_last (n + 1) m rest refused → StopsAt take is_last n s (line l rest) refused
unfolding ahead Follows
later take is_last n s m l rest refused last short e r =
    let counted = r.number in
    record { front = l ∷ r.front; met = r.met; rest = r.rest; whole = ap (line l) r.whole; good = (last, short, m, e, r.good); number = omega arith; cause = r.cause }

pub bind_assoc : {A B C E : Type 0} (r : Result A E) (f : A → Result B E) (g : B → Result C E) → ((r >>= f) >>= g) ≡ (r >>= λ x. f x >>= g)
bind_assoc (Ok x) f g = refl
bind_assoc (Err e) f g = refl
