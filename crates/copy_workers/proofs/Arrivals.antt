-- Arrivals that were asked stay asked, and each of the commands issued is.
use Rattle.std.proofs.Common.{◌≡◌, ℕ, ◌+◌, Bool, cond, List, [], ◌∷◌, ◌++◌, refl, ap, sym, ◌∙◌, append_assoc, arith, subst}
use Rattle.std.specs.List.{AllByRecursion}
use Rattle.game_trait.specs.declared.command.Command.{Command}
use Rattle.game_trait.specs.Count.{times}
use Rattle.game_trait.specs.Run.{same_command}
use Rattle.game_trait.proofs.Counts.{times-append}
use Rattle.link_ring.specs.declared.message.Message.{Message}
use Rattle.link_ring.specs.declared.message.Message.TheVariants.{Cmd, Mark}
use Rattle.copy_workers.specs.declared.post.Asked.{Asked}
use Rattle.copy_workers.specs.Messages.{mark_after}
use Rattle.copy_workers.specs.Asking.{IsFeeding, is_moved, arrival, moves_in, ticks_in, arrivals_of, ArrivesAt, ArrivesBy, AreArrivals}
use Rattle.copy_workers.specs.Feeding.{InTime}

-- what is counted of two lists, one after the other
pub moves-append : (a b : List Asked) → moves_in (a ++ b) ≡ moves_in a + moves_in b
moves-append a b = times-append _ a b

-- the same of ticks
pub ticks-append : (a b : List Asked) → ticks_in (a ++ b) ≡ ticks_in a + ticks_in b
ticks-append a b = times-append _ a b

-- the same of arrivals
pub arrivals-append : (x : Command) (a b : List Asked) → arrivals_of x (a ++ b) ≡ arrivals_of x a + arrivals_of x b
arrivals-append x a b = times-append _ a b

-- what is counted of one
pub times-one : {X : Type 0} (p : X → Bool) (x : X) → times p (x ∷ []) ≡ cond (p x) 1 0
unfolding times
times-one p x = omega arith

-- an arrival stays where it is
pub at-later : (asked more : List Asked) (x : Command) (clock : ℕ) → ArrivesAt asked x clock → ArrivesAt (asked ++ more) x clock
at-later asked more x clock h =
    record {
      front = h.front;
      reply = h.reply;
      back = h.back ++ more;
      whole = ap (λ (l : List Asked). l ++ more) h.whole ∙ append_assoc h.front (arrival x h.reply ∷ h.back) more;
      here = h.here;
    }

-- and so it is early enough
pub by-later : (asked more : List Asked) (x : Command) (clock : ℕ) → ArrivesBy asked x clock → ArrivesBy (asked ++ more) x clock
by-later asked more x clock h =
    record {
      front = h.front;
      reply = h.reply;
      back = h.back ++ more;
      whole = ap (λ (l : List Asked). l ++ more) h.whole ∙ append_assoc h.front (arrival x h.reply ∷ h.back) more;
      here = h.here;
    }

-- and so are all
pub in_time-later : (asked more : List Asked) (pace m : ℕ) (got : List Message) → InTime asked pace m got → InTime (asked ++ more) pace m got
unfolding InTime
in_time-later asked more pace m [] h = tt
in_time-later asked more pace m (Cmd x ∷ got) h = (by-later asked more x (m + pace) h.0, in_time-later asked more pace m got h.1)
in_time-later asked more pace m (Mark n ∷ got) h = in_time-later asked more pace n got h

-- a mark asks for no arrival
pub in_time-mark : (asked : List Asked) (pace m : ℕ) (got : List Message) (n : ℕ) → InTime asked pace m got → InTime asked pace m (got ++ Mark n ∷ [])
unfolding InTime
in_time-mark asked pace m [] n h = tt
in_time-mark asked pace m (Cmd x ∷ got) n h = (h.0, in_time-mark asked pace m got n h.1)
in_time-mark asked pace m (Mark k ∷ got) n h = in_time-mark asked pace k got n h

-- a command that came last arrives by the last mark
pub in_time-command :
    (asked : List Asked) (pace m : ℕ) (got : List Message) (x : Command)
    → InTime asked pace m got → ArrivesBy asked x (mark_after m got + pace) → InTime asked pace m (got ++ Cmd x ∷ [])
unfolding InTime mark_after
in_time-command asked pace m [] x h here = (here, tt)
in_time-command asked pace m (Cmd y ∷ got) x h here = (h.0, in_time-command asked pace m got x h.1 here)
in_time-command asked pace m (Mark k ∷ got) x h here = in_time-command asked pace k got x h here

-- the commands of a tick that are asked, one by one
pub arrivals-moves : (xs : List Command) (pairs : List Asked) → AreArrivals xs pairs → moves_in pairs ≡ 0
unfolding AreArrivals times
arrivals-moves [] [] h = refl
arrivals-moves [] (p ∷ ps) h = absurd h
arrivals-moves (x ∷ xs) [] h = absurd h
arrivals-moves (x ∷ xs) (p ∷ ps) h = rw (h.1) (omega (arith, arrivals-moves xs ps h.2))

-- arrivals are no ticks
pub arrivals-ticks : (xs : List Command) (pairs : List Asked) → AreArrivals xs pairs → ticks_in pairs ≡ 0
unfolding AreArrivals times
arrivals-ticks [] [] h = refl
arrivals-ticks [] (p ∷ ps) h = absurd h
arrivals-ticks (x ∷ xs) [] h = absurd h
arrivals-ticks (x ∷ xs) (p ∷ ps) h = rw (h.0) (omega (arith, arrivals-ticks xs ps h.2))

-- each command arrives as often as it stands among them
pub arrivals-count : (y : Command) (xs : List Command) (pairs : List Asked) → AreArrivals xs pairs → arrivals_of y pairs ≡ times (same_command y) xs
unfolding AreArrivals times
arrivals-count y [] [] h = refl
arrivals-count y [] (p ∷ ps) h = absurd h
arrivals-count y (x ∷ xs) [] h = absurd h
arrivals-count y (x ∷ xs) (p ∷ ps) h = rw (h.0) (omega (arith, arrivals-count y xs ps h.2))

-- arrivals feed
pub arrivals-feeding : (xs : List Command) (pairs : List Asked) → AreArrivals xs pairs → AllByRecursion (λ p. IsFeeding p.event) pairs
unfolding AreArrivals
arrivals-feeding [] [] h = tt
arrivals-feeding [] (p ∷ ps) h = absurd h
arrivals-feeding (x ∷ xs) [] h = absurd h
arrivals-feeding (x ∷ xs) (p ∷ ps) h = (rw (h.0) tt, arrivals-feeding xs ps h.2)

-- each of the commands arrives at the clock before them
pub arrivals-each :
    (asked : List Asked) (clock : ℕ) (xs : List Command) (pairs : List Asked) → moves_in asked ≡ clock → AllByRecursion (λ x. x.time ≡ clock) xs
    → AreArrivals xs pairs → AllByRecursion (λ x. ArrivesAt (asked ++ pairs) x x.time) xs
unfolding AreArrivals
arrivals-each asked clock [] pairs here due h = tt
arrivals-each asked clock (x ∷ xs) [] here due h = absurd h
arrivals-each asked clock (x ∷ xs) (p ∷ ps) here due h =
    let first : ArrivesAt (asked ++ p ∷ ps) x x.time =
    record { front = asked; reply = p.reply; back = ps; whole = ap (λ (q : Asked). asked ++ q ∷ ps) h.0; here = here ∙ sym due.0 } in
    let still : moves_in (asked ++ p ∷ []) ≡ clock = moves-append asked (p ∷ []) ∙ (let e : moves_in (p ∷ []) ≡ 0 = times-one (λ q. is_moved q.reply) p ∙ rw (h.1) refl in omega arith) in
    let rest = arrivals-each (asked ++ p ∷ []) clock xs ps still due.1 h.2 in
    (first, subst (λ (a : List Asked). AllByRecursion (λ y. ArrivesAt a y y.time) xs) (append_assoc asked (p ∷ []) ps) rest)
