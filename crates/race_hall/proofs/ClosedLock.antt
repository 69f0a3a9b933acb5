-- The close of a mirror's lock gives what the argument asks of the mirror.
use Rattle.std.proofs.Common.{◌≡◌, ◌≢◌, ℕ, zero, suc, ◌<◌, Bool, true, false, cond, List, [], ◌∷◌, ◌++◌, map, length, get_or, inl, inr, refl, ap, sym, ◌∙◌, subst, arith}
use Rattle.std.specs.Prelude.{◌==◌, Contains}
use Rattle.std.specs.List.{AllByRecursion}
use Rattle.game_trait.specs.Game.{Rules as GameRules}
use Rattle.game_trait.specs.declared.event.Event.TheVariants.{Step}
use Rattle.sync_model.specs.State.{MirrorState}
use Rattle.sync_model.specs.Settle.{repaired}
use Rattle.sync_model.specs.Change.{next, said, proposed_by_step, after, is_idle}
use Rattle.sync_model.specs.Drafts.{epoch, ReadyTick, FitsReady}
use Rattle.std.proofs.lemmas.Bool.Decides.{nat_tests}
use Rattle.game_trait.specs.declared.event.Reply.TheVariants.{Step as ToStep}
use Rattle.game_trait.specs.declared.event.Stepped.TheVariants.{Ran as RanStep, Idle}
use Rattle.mirror_core.specs.declared.drafts.Committed.{Committed}
use Rattle.mirror_core.specs.declared.drafts.Committed.TheVariants.{Ran, Stale}
use Rattle.mirror_core.specs.Drafts.{is_current, committed_to, committed}
use Rattle.turn_lock.specs.declared.history.Entry.{Entry as LockEntry}
use Rattle.turn_lock.specs.declared.view.View.{View}
use Rattle.turn_lock.specs.Histories.{value, own as own_in, IsSound as IsSoundIn}
use Rattle.turn_lock.specs.Views.{member_of, number_of}
use Rattle.turn_lock.specs.Law.{KnowsMember}
use Rattle.mirror_lock.specs.declared.calls.LockCall.{LockCall}
use Rattle.mirror_lock.specs.declared.calls.LockCall.TheVariants.{Event, Draft, Commit}
use Rattle.mirror_lock.specs.declared.calls.LockReply.{LockReply}
use Rattle.mirror_lock.specs.Locked.{next_locked, said_locked, FitsLocked, mirror_rules}
use Rattle.mirror_lock.specs.Ending.{EndsAs}
use Rattle.copy_workers.specs.declared.post.Asked.{Asked}
use Rattle.copy_workers.specs.Trail.{commit_asked}
use Rattle.race_hall.specs.Entries.{Entry, pairs_of, own, events_asked, AreAnswersOf, IsStepping}
use Rattle.race_hall.specs.Race.{Course, race_opening}
use Rattle.race_hall.specs.Posting.{event_told, commit_told, asked_in, pairs_in, asked_by}
use Rattle.race_hall.specs.LockClose.{entries_in, DidAs, AllDid, ClosedWith}
use Rattle.race_hall.proofs.Seats.{IsIn, workers-of}

module _ {W : Type 0} (game : GameRules W) where
  -- what a commit stands for is sound, and leads to the same state; its answer is the mirror's
  ran-sound :
      (s : MirrorState W) (r : ReadyTick W) (more : List Asked) (c : Committed) → FitsReady game s r → c ≡ committed s r
      → AreAnswersOf (committed_to s r) more → AreAnswersOf s (commit_asked r.copy c ++ more)
  unfolding AreAnswersOf said
  ran-sound s r more c fits told h =
      let n : ℕ = repaired s.accepted (proposed_by_step s.accepted s.runs r.copy) in
      subst (λ (a : Committed). AreAnswersOf s (commit_asked r.copy a ++ more)) (sym told)
      (elim (is_current s r) as (λ v. is_current s r ≡ v → AreAnswersOf (cond v (next s (Step r.copy)) s) more
      → AreAnswersOf s (commit_asked r.copy (cond v (Ran (repaired s.accepted (proposed_by_step s.accepted s.runs r.copy))) (Stale r.epoch (epoch s r.copy))) ++ more)) [
        | true ↦ λ e k.
            (let due = fits.due (grind (arith, nat_tests)) in
            let low = due.below_limit in
            let idle : is_idle s r.copy ≡ false = grind (arith, nat_tests) in
            (fits.there, sym (ap (λ (b : Bool). ToStep (cond b Idle (RanStep (repaired s.accepted (proposed_by_step s.accepted s.runs r.copy))))) idle), k))
        | false ↦ λ e k. k
      ]
      refl h)

  ran-state :
      (s : MirrorState W) (r : ReadyTick W) (more : List Asked) (c : Committed) → c ≡ committed s r
      → after s (events_asked (commit_asked r.copy c ++ more)) ≡ after (committed_to s r) (events_asked more)
  unfolding after
  ran-state s r more c told =
      subst (λ (a : Committed). after s (events_asked (commit_asked r.copy a ++ more)) ≡ after (committed_to s r) (events_asked more)) (sym told)
      (elim (is_current s r) as (λ v. after s
      (events_asked (commit_asked r.copy (cond v
      (Ran (repaired s.accepted (proposed_by_step s.accepted s.runs r.copy))) (Stale r.epoch (epoch s r.copy)))
      ++ more)) ≡ after (cond v (next s (Step r.copy)) s) (events_asked more))
      [ true ↦ refl | false ↦ refl ])

  -- and so of every call
  call-sound :
      (s : MirrorState W) (q : LockCall W) (r : LockReply W) (more : List Asked) → FitsLocked game s q → r ≡ said_locked game s q
      → AreAnswersOf (next_locked s q) more → AreAnswersOf s (asked_in q r ++ more)
  unfolding AreAnswersOf
  call-sound s (Event e) r more fits told h = (fits.1.1, ap (λ (x : LockReply W). event_told x) told, h)
  call-sound s (Draft c n) r more fits told h = h
  call-sound s (Commit t) r more fits told h = ran-sound s t more (commit_told r) fits.1 (ap (λ (x : LockReply W). commit_told x) told) h

  call-state :
      (s : MirrorState W) (q : LockCall W) (r : LockReply W) (more : List Asked) → r ≡ said_locked game s q
      → after s (events_asked (asked_in q r ++ more)) ≡ after (next_locked s q) (events_asked more)
  unfolding after
  call-state s (Event e) r more told = refl
  call-state s (Draft c n) r more told = refl
  call-state s (Commit t) r more told = ran-state s t more (commit_told r) (ap (λ (x : LockReply W). commit_told x) told)

  -- a lock's history is sound as a list of pairs, and leads to the same state
  sound-pairs : (log : List (LockEntry (LockCall W) (LockReply W))) (s : MirrorState W) → IsSoundIn (mirror_rules game) s log → AreAnswersOf s (pairs_in log)
  unfolding AreAnswersOf
  sound-pairs [] s h = tt
  sound-pairs (e ∷ log) s h = call-sound s e.call e.reply (pairs_in log) h.0 h.1 (sound-pairs log (next_locked s e.call) h.2)

  state-pairs :
      (log : List (LockEntry (LockCall W) (LockReply W))) (s : MirrorState W) → IsSoundIn (mirror_rules game) s log
      → value (mirror_rules game) s log ≡ after s (events_asked (pairs_in log))
  unfolding after
  state-pairs [] s h = refl
  state-pairs (e ∷ log) s h = state-pairs log (next_locked s e.call) h.2 ∙ sym (call-state s e.call e.reply (pairs_in log) h.1)

block-pairs : (n : ℕ) (ps : List Asked) (rest : List Entry) → pairs_of (map (λ p. record { seat = n; pair = p }) ps ++ rest) ≡ ps ++ pairs_of rest
block-pairs n [] rest = refl
block-pairs n (p ∷ ps) rest = ap (λ (l : List Asked). p ∷ l) (block-pairs n ps rest)

own-block : (i n : ℕ) (ps : List Asked) (rest : List Entry) → own i (map (λ p. record { seat = n; pair = p }) ps ++ rest) ≡ cond (n == i) (ps ++ own i rest) (own i rest)
unfolding own
own-block i n [] rest = elim (n == i) as (λ v. own i rest ≡ cond v ([] ++ own i rest) (own i rest)) [ true ↦ refl | false ↦ refl ]
own-block i n (p ∷ ps) rest =
    elim (n == i) as (λ v. own i (map (λ p. record { seat = n; pair = p }) ps ++ rest) ≡ cond v (ps ++ own i rest) (own i rest)
    → cond v (p ∷ own i (map (λ p. record { seat = n; pair = p }) ps ++ rest)) (own i (map (λ p. record { seat = n; pair = p }) ps ++ rest)) ≡ cond v (p ∷ ps ++ own i rest) (own i rest))
    [ true ↦ λ e. ap (λ (l : List Asked). p ∷ l) e | false ↦ λ e. e ]
    (own-block i n ps rest)

block-in : (numbers : List ℕ) (n : ℕ) (ps : List Asked) (rest : List Entry) → IsIn n numbers → AllByRecursion (λ e. IsIn e.seat numbers) rest
    → AllByRecursion (λ e. IsIn e.seat numbers) (map (λ p. record { seat = n; pair = p }) ps ++ rest)
block-in numbers n [] rest here h = h
block-in numbers n (p ∷ ps) rest here h = (here, block-in numbers n ps rest here h)

module _ {W : Type 0} where
  pairs-entries : (log : List (LockEntry (LockCall W) (LockReply W))) → pairs_of (entries_in log) ≡ pairs_in log
  pairs-entries [] = refl
  pairs-entries (e ∷ log) = block-pairs e.seat (asked_in e.call e.reply) (entries_in log) ∙ ap (λ (l : List Asked). asked_in e.call e.reply ++ l) (pairs-entries log)

  -- a seat's own pairs
  own-pairs : (i : ℕ) (log : List (LockEntry (LockCall W) (LockReply W))) → own i (entries_in log) ≡ pairs_in (own_in i log)
  unfolding own
  own-pairs i [] = refl
  own-pairs i (e ∷ log) =
      own-block i e.seat (asked_in e.call e.reply) (entries_in log)
      ∙ elim (e.seat == i) as (λ v. cond v (asked_in e.call e.reply ++ own i (entries_in log)) (own i (entries_in log)) ≡ pairs_in (cond v (e ∷ own_in i log) (own_in i log))) [
        | true ↦ ap (λ (l : List Asked). asked_in e.call e.reply ++ l) (own-pairs i log)
        | false ↦ own-pairs i log
      ]

  -- a seat that knows all its own entries
  own-asked :
      (log : List (LockEntry (LockCall W) (LockReply W))) (v : View (MirrorState W) (LockCall W) (LockReply W)) → KnowsMember log (member_of v)
      → own (number_of v) (entries_in log) ≡ asked_by v
  own-asked log v knows = own-pairs (number_of v) log ∙ ap (λ (l : List (LockEntry (LockCall W) (LockReply W))). pairs_in l) knows.1

-- what stands in a list of numbers
in-at : (ns : List ℕ) (k n : ℕ) → k < length ns → get_or ns k n ≡ n → IsIn n ns
unfolding IsIn
in-at [] k n below here = absurd (omega arith)
in-at (m ∷ ns) zero n below here = inl here
in-at (m ∷ ns) (suc k) n below here = inr (in-at ns k n (omega arith) here)

contains-in : (ns : List ℕ) (n : ℕ) → Contains ns n → IsIn n ns
contains-in ns n h = in-at ns h.0 n h.1 h.2

module _ {W : Type 0} where
  all-in : (numbers : List ℕ) (log : List (LockEntry (LockCall W) (LockReply W))) → AllByRecursion (λ e. Contains numbers e.seat) log → AllByRecursion (λ e. IsIn e.seat numbers) (entries_in log)
  all-in numbers [] h = tt
  all-in numbers (e ∷ log) h = block-in numbers e.seat (asked_in e.call e.reply) (entries_in log) (contains-in numbers e.seat h.0) (all-in numbers log h.1)

  -- a seat that isn't the feeder's made steps alone
  others-step :
      (log : List (LockEntry (LockCall W) (LockReply W))) (feeder : ℕ) (asked : List Asked) (views : List (View (MirrorState W) (LockCall W) (LockReply W)))
      → AllByRecursion (KnowsMember log) (map (λ v. member_of v) views) → AllByRecursion (DidAs feeder asked) views
      → (i : ℕ) → IsIn i (map (λ m. m.number) (map (λ v. member_of v) views)) → i ≢ feeder → AllByRecursion (λ p. IsStepping p.event) (own i (entries_in log))
  unfolding IsIn
  others-step log feeder asked [] knows did i h differ = absurd h
  others-step log feeder asked (v ∷ views) knows did i (inl e) differ =
      subst (λ (n : ℕ). AllByRecursion (λ p. IsStepping p.event) (own n (entries_in log))) e
      (subst (AllByRecursion (λ p. IsStepping p.event)) (sym (own-asked log v knows.0)) (did.0.stepped (λ same. differ (sym e ∙ same))))
  others-step log feeder asked (v ∷ views) knows did i (inr h) differ = others-step log feeder asked views knows.1 did.1 i h differ

  among-knows :
      (log : List (LockEntry (LockCall W) (LockReply W))) (feeder : ℕ) (asked : List Asked)
      (front : List (View (MirrorState W) (LockCall W) (LockReply W)))
      (v : View (MirrorState W) (LockCall W) (LockReply W))
      (back : List (View (MirrorState W) (LockCall W) (LockReply W)))
      → AllByRecursion (KnowsMember log) (map (λ v. member_of v) (front ++ v ∷ back))
      → AllByRecursion (DidAs feeder asked) (front ++ v ∷ back)
      → number_of v ≡ feeder → own feeder (entries_in log) ≡ asked
  among-knows log feeder asked [] v back knows did is =
      ap (λ (n : ℕ). own n (entries_in log)) (sym is) ∙ own-asked log v knows.0 ∙ did.0.fed is
  among-knows log feeder asked (u ∷ front) v back knows did is = among-knows log feeder asked front v back knows.1 did.1 is

  pub closes :
      (game : GameRules W) (c : Course) (opening : W) (spare feeder : ℕ) (asked : List Asked) (views : List (View (MirrorState W) (LockCall W) (LockReply W))) (o s : MirrorState W)
      → o ≡ race_opening c opening spare → EndsAs game o (map (λ v. member_of v) views) s → AllDid feeder asked views
      → ClosedWith c opening spare feeder asked s
  closes game c opening spare feeder asked views o s begins ends did =
      record {
        history = entries_in ends.whole.log;
        closed = record {
          sound = subst (λ (ps : List Asked). AreAnswersOf (race_opening c opening spare) ps) (sym (pairs-entries ends.whole.log))
              (subst (λ (t : MirrorState W). AreAnswersOf t (pairs_in ends.whole.log)) begins (sound-pairs game ends.whole.log o ends.whole.sound));
          state = ends.whole.object_is ∙ state-pairs game ends.whole.log o ends.whole.sound ∙ ap (λ (t : MirrorState W). after t (events_asked (pairs_in ends.whole.log))) begins
              ∙ ap (λ (ps : List Asked). after (race_opening c opening spare) (events_asked ps)) (sym (pairs-entries ends.whole.log));
          workers =
              workers-of feeder (map (λ m. m.number) (map (λ v. member_of v) views)) (entries_in ends.whole.log)
              (all-in (map (λ m. m.number) (map (λ v. member_of v) views)) ends.whole.log ends.whole.theirs)
              (others-step ends.whole.log feeder asked views ends.whole.fronts did.each);
        };
        asked_is =
            among-knows ends.whole.log feeder asked did.there.front did.last did.there.back
            (subst (λ (l : List (View (MirrorState W) (LockCall W) (LockReply W))). AllByRecursion (KnowsMember ends.whole.log) (map (λ v. member_of v) l)) did.there.parts ends.whole.fronts)
            (subst (AllByRecursion (DidAs feeder asked)) did.there.parts did.each) did.is_feeder;
      }
