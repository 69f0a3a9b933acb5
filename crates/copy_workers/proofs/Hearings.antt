-- One link is asked once: the machine follows.
use Rattle.std.proofs.Common.{◌≡◌, ℕ, ◌+◌, ◌^◌, ◌<◌, ◌≤◌, List, [], ◌∷◌, ◌++◌, length, Option, None, Some, get_or, set, refl, ap, sym, ◌∙◌, subst, inl, inr, append_assoc, arith, length-append}
use Rattle.std.specs.List.{AllByRecursion}
use mathlib.Core.List.{IsPrefix}
use Rattle.link_ring.specs.declared.receive.LinkReceive.{LinkReceive}
use Rattle.link_ring.specs.declared.message.Message.{Message}
use Rattle.link_ring.specs.declared.message.Message.TheVariants.{Cmd, Mark}
use Rattle.link_ring.specs.Ends.{received_of, waiting_of, misses_of, SameReceive}
use Rattle.copy_workers.specs.declared.post.Asked.{Asked}
use Rattle.copy_workers.specs.Asking.{arrival}
use Rattle.copy_workers.specs.Feed.{Task, Hearing, Feed, missed, with_mark, with_command, heard, fed}
use Rattle.copy_workers.specs.Feeding.{Hears, IsFed}
use Rattle.copy_workers.specs.Refining.{Came, IsHandled, HearsOnce, IsHeardAs, AllHeard, AllKept, HeardTo}
use Rattle.copy_workers.proofs.Lists.{all-at}
use Rattle.copy_workers.proofs.Along.{all-get}
use Rattle.copy_workers.proofs.Machine.{fed-missed, fed-mark, fed-command, fed-dropped}
use Rattle.game_trait.proofs.Lists.{all-append}

-- the link at a place, among those heard
pub heard-at :
    (first now : List LinkReceive) (front : List Hearing) (h : Hearing) (back : List Hearing) (a b : LinkReceive)
    → AllHeard first now (front ++ h ∷ back) → IsHeardAs (get_or first (length front) a) (get_or now (length front) b) h
unfolding AllHeard
heard-at [] [] [] h back a b all = absurd all
heard-at [] [] (g ∷ front) h back a b all = absurd all
heard-at [] (y ∷ ys) [] h back a b all = absurd all
heard-at [] (y ∷ ys) (g ∷ front) h back a b all = absurd all
heard-at (x ∷ xs) [] [] h back a b all = absurd all
heard-at (x ∷ xs) [] (g ∷ front) h back a b all = absurd all
heard-at (x ∷ xs) (y ∷ ys) [] h back a b all = all.0
heard-at (x ∷ xs) (y ∷ ys) (g ∷ front) h back a b all = heard-at xs ys front h back a b all.1

-- one link is changed
pub heard-set :
    (first now : List LinkReceive) (front : List Hearing) (h k : Hearing) (back : List Hearing) (a b : LinkReceive)
    → IsHeardAs (get_or first (length front) a) b k → AllHeard first now (front ++ h ∷ back) → AllHeard first (set now (length front) b) (front ++ k ∷ back)
unfolding AllHeard
heard-set [] [] [] h k back a b new all = absurd all
heard-set [] [] (g ∷ front) h k back a b new all = absurd all
heard-set [] (y ∷ ys) [] h k back a b new all = absurd all
heard-set [] (y ∷ ys) (g ∷ front) h k back a b new all = absurd all
heard-set (x ∷ xs) [] [] h k back a b new all = absurd all
heard-set (x ∷ xs) [] (g ∷ front) h k back a b new all = absurd all
heard-set (x ∷ xs) (y ∷ ys) [] h k back a b new all = (new, all.1)
heard-set (x ∷ xs) (y ∷ ys) (g ∷ front) h k back a b new all = (all.0, heard-set xs ys front h k back a b new all.1)

-- as many ends as were handed in, and as many links as are heard
pub heard-lengths : (first now : List LinkReceive) (hs : List Hearing) → AllHeard first now hs → (length first ≡ length now) × (length now ≡ length hs)
unfolding AllHeard
heard-lengths [] [] [] all = (refl, refl)
heard-lengths [] [] (h ∷ hs) all = absurd all
heard-lengths [] (y ∷ ys) [] all = absurd all
heard-lengths [] (y ∷ ys) (h ∷ hs) all = absurd all
heard-lengths (x ∷ xs) [] [] all = absurd all
heard-lengths (x ∷ xs) [] (h ∷ hs) all = absurd all
heard-lengths (x ∷ xs) (y ∷ ys) [] all = absurd all
heard-lengths (x ∷ xs) (y ∷ ys) (h ∷ hs) all = (let more = heard-lengths xs ys hs all.1 in (omega (arith, more.0), omega (arith, more.1)))

-- the mark at a place
pub kept-at : (ms : List ℕ) (front : List Hearing) (h : Hearing) (back : List Hearing) (d : ℕ) → AllKept ms (front ++ h ∷ back) → get_or ms (length front) d ≡ h.kept
unfolding AllKept
kept-at [] [] h back d all = absurd all
kept-at [] (g ∷ front) h back d all = absurd all
kept-at (m ∷ ms) [] h back d all = all.0
kept-at (m ∷ ms) (g ∷ front) h back d all = kept-at ms front h back d all.1

-- one mark is changed
pub kept-set : (ms : List ℕ) (front : List Hearing) (h k : Hearing) (back : List Hearing) (m : ℕ) → m ≡ k.kept → AllKept ms (front ++ h ∷ back) → AllKept (set ms (length front) m) (front ++ k ∷ back)
unfolding AllKept
kept-set [] [] h k back m new all = absurd all
kept-set [] (g ∷ front) h k back m new all = absurd all
kept-set (n ∷ ms) [] h k back m new all = (new, all.1)
kept-set (n ∷ ms) (g ∷ front) h k back m new all = (all.0, kept-set ms front h k back m new all.1)

-- one message fewer is known
prefix-fewer : {X : Type 0} (xs ys : List X) (x : X) → IsPrefix xs (x ∷ ys) → length xs ≤ length ys + 1
prefix-fewer xs ys x p = (let a = ap length p.1 in let b = length-append xs p.0 in omega arith)

-- the same end, twice
same-trans : (a b c : LinkReceive) → SameReceive a b → SameReceive b c → SameReceive a c
same-trans a b c h k = ((k.0.0 ∙ h.0.0, k.0.1 ∙ h.0.1, k.0.2 ∙ h.0.2, k.0.3 ∙ h.0.3), k.1 ∙ h.1)

-- where the place is within the list, there is a link to ask
split-rest : (i : ℕ) (done rest all : List Hearing) → all ≡ done ++ rest → length done ≡ i → i < length all → (h : Hearing) × (back : List Hearing) × (rest ≡ h ∷ back)
split-rest i done [] all parts place below = absurd (let a = ap (λ (l : List Hearing). length l) parts in let b = length-append done [] in omega arith)
split-rest i done (h ∷ back) all parts place below = (h, back, refl)

-- the machine has made a step on link i
advance :
    (job : Task) (first : List LinkReceive) (asked_first : List Asked) (s0 : Feed)
    (receives : List LinkReceive) (marks : List ℕ) (taken : ℕ) (asked : List Asked) (i : ℕ) (new old : LinkReceive) (mark taken_now : ℕ) (asked_now : List Asked)
    (h k : Hearing) (back : List Hearing) (then : Feed) (f : HeardTo job first asked_first s0 receives marks taken asked i)
    → f.state.hearings ≡ f.done ++ h ∷ back → AllByRecursion (λ g. g.tries ≡ length s0.turns) (h ∷ back)
    → IsFed job then → then.hearings ≡ f.done ++ k ∷ back → asked_now ≡ asked_first ++ then.asked → taken_now ≡ then.taken
    → mark ≡ k.kept → ((a : LinkReceive) → IsHeardAs a old h → IsHeardAs a new k) → old ≡ get_or receives i old → k.tries ≡ h.tries + 1
    → then.clock ≡ f.state.clock → then.marked ≡ f.state.marked → then.sent ≡ f.state.sent → then.turns ≡ f.state.turns
    → HeardTo job first asked_first s0 (set receives i new) (set marks i mark) taken_now asked_now (i + 1)
advance job first asked_first s0 receives marks taken asked i new old mark taken_now asked_now h k back then f place tries fed now asks count kept link is more clock marked sent turns =
    let all = subst (AllHeard first receives) place f.heard in
    let marks_now = subst (AllKept marks) place f.kept in
    let here : IsHeardAs (get_or first (length f.done) old) old h =
    subst (λ (r : LinkReceive). IsHeardAs (get_or first (length f.done) old) r h) (ap (λ (n : ℕ). get_or receives n old) f.place ∙ sym is) (heard-at first receives f.done h back old old all) in
    record {
      state = then;
      fed = fed;
      asks = asks;
      count = count;
      kept = subst (AllKept (set marks i mark)) (sym now) (subst (λ (n : ℕ). AllKept (set marks n mark) (f.done ++ k ∷ back)) f.place (kept-set marks f.done h k back mark kept marks_now));
      heard = subst (AllHeard first (set receives i new)) (sym now) (subst (λ (n : ℕ). AllHeard first (set receives n new) (f.done ++ k ∷ back)) f.place
          (heard-set first receives f.done h k back old new (link (get_or first (length f.done) old) here) all));
      done = f.done ++ k ∷ [];
      rest = back;
      parts = now ∙ sym (append_assoc f.done (k ∷ []) back);
      place = (let a = length-append f.done (k ∷ []) in let b = f.place in omega arith);
      done_tries = all-append (λ g. g.tries ≡ length s0.turns + 1) f.done (k ∷ []) f.done_tries ((let a = tries.0 in omega arith), tt);
      rest_tries = tries.1;
      clock = clock ∙ f.clock;
      marked = marked ∙ f.marked;
      sent = sent ∙ f.sent;
      turns = turns ∙ f.turns;
    }

-- one link is asked once: the machine follows, whatever came
pub hear-step :
    (job : Task) (first : List LinkReceive) (asked_first : List Asked) (s0 : Feed)
    (receives : List LinkReceive) (marks : List ℕ) (taken : ℕ) (asked : List Asked) (i : ℕ) (new old : LinkReceive) (mark taken_now : ℕ) (asked_now : List Asked)
    → i < length receives → old ≡ get_or receives i old → HearsOnce job.length job.foreign old new (get_or marks i 0) mark taken taken_now asked asked_now
    → HeardTo job first asked_first s0 receives marks taken asked i
    → HeardTo job first asked_first s0 (set receives i new) (set marks i mark) taken_now asked_now (i + 1)
hear-step job first asked_first s0 receives marks taken asked i new old mark taken_now asked_now below is once f =
    let long = (heard-lengths first receives f.state.hearings f.heard).1 in
    let split = split-rest i f.done f.rest f.state.hearings f.parts f.place (omega arith) in
    go once.message once.came once.outcome split.0 split.1 split.2
  where
    place-of : (h : Hearing) (back : List Hearing) → f.rest ≡ h ∷ back → f.state.hearings ≡ f.done ++ h ∷ back
    place-of h back rest = f.parts ∙ ap (λ (l : List Hearing). f.done ++ l) rest

    kept-of : (h : Hearing) (back : List Hearing) → f.rest ≡ h ∷ back → get_or marks i 0 ≡ h.kept
    kept-of h back rest = ap (λ (n : ℕ). get_or marks n 0) (sym f.place) ∙ kept-at marks f.done h back 0 (subst (AllKept marks) (place-of h back rest) f.kept)

    heard-of : (h : Hearing) (back : List Hearing) → f.rest ≡ h ∷ back → IsHeardAs (get_or first (length f.done) old) old h
    heard-of h back rest =
        subst (λ (r : LinkReceive). IsHeardAs (get_or first (length f.done) old) r h) (ap (λ (n : ℕ). get_or receives n old) f.place ∙ sym is)
        (heard-at first receives f.done h back old old (subst (AllHeard first receives) (place-of h back rest) f.heard))

    fewer-of : (m : Message) → Came (Some m) old new → (h : Hearing) (back : List Hearing) → f.rest ≡ h ∷ back → h.known ≤ length (waiting_of new) + 1
    fewer-of m came h back rest = (let a = (heard-of h back rest).known in let b = prefix-fewer (waiting_of old) (waiting_of new) m came.2 in omega arith)

    go :
        (message : Option Message) → Came message old new → IsHandled message job.length job.foreign taken taken_now (get_or marks i 0) mark asked asked_now
        → (h : Hearing) (back : List Hearing) → f.rest ≡ h ∷ back
        → HeardTo job first asked_first s0 (set receives i new) (set marks i mark) taken_now asked_now (i + 1)
    go None came outcome h back rest =
        let place = place-of h back rest in
        let kept = kept-of h back rest in
        let here = heard-of h back rest in
        let none : h.known ≡ 0 = here.known ∙ ap (λ (l : List Message). length l) came.2 in
        let k = missed h (length (waiting_of new)) in
        advance job first asked_first s0 receives marks taken asked i new old mark taken_now asked_now h k back (heard f.state (f.done ++ k ∷ back)) f
        place (subst (AllByRecursion (λ g. g.tries ≡ length s0.turns)) rest f.rest_tries) (fed-missed job f.state f.done h back (length (waiting_of new)) place none f.fed) refl
        (outcome.2 ∙ f.asks) (outcome.0 ∙ f.count) (outcome.1 ∙ kept)
        (λ a r. record {
          received = came.0 ∙ r.received;
          misses = (let x = came.1 in let y = r.misses in omega arith);
          same = same-trans a old new r.same once.same;
          known = refl;
          promised = r.promised;
        })
        is refl refl refl refl refl
    go (Some (Mark n)) came outcome h back rest =
        let place = place-of h back rest in
        let fewer = fewer-of (Mark n) came h back rest in
        let k = with_mark h n (length (waiting_of new)) in
        advance job first asked_first s0 receives marks taken asked i new old mark taken_now asked_now h k back (heard f.state (f.done ++ k ∷ back)) f
        place (subst (AllByRecursion (λ g. g.tries ≡ length s0.turns)) rest f.rest_tries) (fed-mark job f.state f.done h back n (length (waiting_of new)) place fewer f.fed) refl
        (outcome.2 ∙ f.asks) (outcome.0 ∙ f.count) outcome.1
        (λ a r. record {
          received = came.0 ∙ ap (λ (l : List Message). l ++ Mark n ∷ []) r.received ∙ append_assoc (received_of a) h.got (Mark n ∷ []);
          misses = came.1 ∙ r.misses;
          same = same-trans a old new r.same once.same;
          known = refl;
          promised = r.promised;
        })
        is refl refl refl refl refl
    go (Some (Cmd x)) came (same, inl asks) h back rest =
        let place = place-of h back rest in
        let kept = kept-of h back rest in
        let fewer = fewer-of (Cmd x) came h back rest in
        let k = with_command h x (length (waiting_of new)) in
        let more = arrival x asks.1.reply ∷ [] in
        advance job first asked_first s0 receives marks taken asked i new old mark taken_now asked_now h k back (fed f.state (f.done ++ k ∷ back) x asks.1.reply) f
        place (subst (AllByRecursion (λ g. g.tries ≡ length s0.turns)) rest f.rest_tries)
        (fed-command job f.state f.done h back x (length (waiting_of new)) asks.1.reply place fewer asks.1.still
        f.fed) refl
        (asks.1.asked ∙ ap (λ (l : List Asked). l ++ more) f.asks ∙ append_assoc asked_first f.state.asked more) (let a = asks.0 in let b = f.count in omega arith) (same ∙ kept)
        (λ a r. record {
          received = came.0 ∙ ap (λ (l : List Message). l ++ Cmd x ∷ []) r.received ∙ append_assoc (received_of a) h.got (Cmd x ∷ []);
          misses = came.1 ∙ r.misses;
          same = same-trans a old new r.same once.same;
          known = refl;
          promised = r.promised;
        })
        is refl refl refl refl refl
    go (Some (Cmd x)) came (same, inr drops) h back rest =
        let place = place-of h back rest in
        let kept = kept-of h back rest in
        let fewer = fewer-of (Cmd x) came h back rest in
        let k = with_command h x (length (waiting_of new)) in
        let barred : x.time < job.length → f.state.taken < job.foreign → ⊥ = λ low few. drops.0 low (let b = f.count in omega arith) in
        advance job first asked_first s0 receives marks taken asked i new old mark taken_now asked_now h k back (heard f.state (f.done ++ k ∷ back)) f
        place (subst (AllByRecursion (λ g. g.tries ≡ length s0.turns)) rest f.rest_tries) (fed-dropped job f.state f.done h back x (length (waiting_of new)) place fewer barred f.fed) refl
        (drops.2 ∙ f.asks) (drops.1 ∙ f.count) (same ∙ kept)
        (λ a r. record {
          received = came.0 ∙ ap (λ (l : List Message). l ++ Cmd x ∷ []) r.received ∙ append_assoc (received_of a) h.got (Cmd x ∷ []);
          misses = came.1 ∙ r.misses;
          same = same-trans a old new r.same once.same;
          known = refl;
          promised = r.promised;
        })
        is refl refl refl refl refl

-- how often a link missed is bounded by the turns
pub hear-misses :
    (job : Task) (first : List LinkReceive) (asked_first : List Asked) (s0 : Feed)
    (receives : List LinkReceive) (marks : List ℕ) (taken : ℕ) (asked : List Asked) (i : ℕ) (old : LinkReceive)
    → i < length receives → old ≡ get_or receives i old → AllByRecursion (λ r. misses_of r < 2 ^ 63) first → length s0.turns < 2 ^ 63
    → HeardTo job first asked_first s0 receives marks taken asked i → misses_of old + 1 < 2 ^ 64
unfolding AllHeard
hear-misses job first asked_first s0 receives marks taken asked i old below is few turns f =
    let long = (heard-lengths first receives f.state.hearings f.heard).1 in
    let split = split-rest i f.done f.rest f.state.hearings f.parts f.place (omega arith) in
    let h = split.0 in
    let back = split.1 in
    let place : f.state.hearings ≡ f.done ++ h ∷ back = f.parts ∙ ap (λ (l : List Hearing). f.done ++ l) split.2 in
    let tries = subst (AllByRecursion (λ g. g.tries ≡ length s0.turns)) split.2 f.rest_tries in
    let all = subst (AllHeard first receives) place f.heard in
    let here : IsHeardAs (get_or first (length f.done) old) old h =
    subst (λ (r : LinkReceive). IsHeardAs (get_or first (length f.done) old) r h) (ap (λ (m : ℕ). get_or receives m old) f.place ∙ sym is) (heard-at first receives f.done h back old old all) in
    let hears = all-at Hears f.done h back (subst (AllByRecursion Hears) place f.fed.feeds.hears) in
    let firsts = (heard-lengths first receives f.state.hearings f.heard).0 in
    let start = all-get (λ r. misses_of r < 2 ^ 63) (length f.done) first old few (let a = f.place in omega arith) in
    (let a = here.misses in let b = hears.each in let c : h.tries ≡ length s0.turns = tries.0 in omega arith)

-- the same, as an index of the code reads it
pub hear-step-at :
    (job : Task) (first : List LinkReceive) (asked_first : List Asked) (s0 : Feed)
    (receives : List LinkReceive) (marks : List ℕ) (taken : ℕ) (asked : List Asked) (i : ℕ) (new d : LinkReceive) (mark taken_now : ℕ) (asked_now : List Asked) (limit foreign : ℕ)
    → job.length ≡ limit → job.foreign ≡ foreign → i < length receives → d ≡ get_or receives i d
    → HearsOnce limit foreign (get_or receives i d) new (get_or marks i 0) mark taken taken_now asked asked_now
    → HeardTo job first asked_first s0 receives marks taken asked i
    → HeardTo job first asked_first s0 (set receives i new) (set marks i mark) taken_now asked_now (i + 1)
hear-step-at job first asked_first s0 receives marks taken asked i new d mark taken_now asked_now limit foreign low few below is once f =
    hear-step job first asked_first s0 receives marks taken asked i new d mark taken_now asked_now below is
    (subst (λ (n : ℕ). HearsOnce n job.foreign d new (get_or marks i 0) mark taken taken_now asked asked_now) (sym low)
    (subst (λ (n : ℕ). HearsOnce limit n d new (get_or marks i 0) mark taken taken_now asked asked_now) (sym few)
    (subst (λ (r : LinkReceive). HearsOnce limit foreign r new (get_or marks i 0) mark taken taken_now asked asked_now) (sym is) once)))
    f
