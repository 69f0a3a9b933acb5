-- Pickups with the beats from which they lie ready, and how they are seen.
use Rattle.std.proofs.Common.{◌≡◌, ◌+◌, ◌-◌, ◌≤◌, ℕ, true, false, if◌then◌else◌, List, [], ◌∷◌, map, length, refl, arith}
use Rattle.std.proofs.lemmas.List.{length-map}
use Rattle.std.proofs.lemmas.List.Elements.{All-map, All-weaker}
use Rattle.match_setup.specs.Setup.{Cell}
use Rattle.arena_rules.specs.Pickup.{lies_ready, ready_kind, emptied, taken, waited}
use Rattle.arena_rules.specs.Kept.{seen_at, emptied_at, counted_anew, ready_kind_at, cell_number, AreResting}
use Rattle.arena_rules.specs.declared.resting.Resting.{Resting}

-- a change that moves no pickup, and after which none waits for long
pub record Rests (before after : ℕ) (change : Resting → Resting) : Type 0 where
  pub stays : (p : Resting) → (change p).place ≡ p.place
  pub waits : (p : Resting) → p.until - before ≤ 20 → (change p).until - after ≤ 20

numbers-map : (before after : ℕ) (change : Resting → Resting) (pickups : List Resting) → Rests before after change
    → map (λ p. cell_number p.place.x p.place.y) (map change pickups)
    ≡ map (λ p. cell_number p.place.x p.place.y) pickups
numbers-map before after change [] rests = refl
numbers-map before after change (p ∷ pickups) rests = rw (rests.stays p, numbers-map before after change pickups rests) refl

-- the pickups stay such after such a change
pub AreResting-map : (before after : ℕ) (change : Resting → Resting) (pickups : List Resting) (numbers : List ℕ)
    → Rests before after change → after ≤ 4294967275 → AreResting pickups numbers before
    → AreResting (map change pickups) numbers after
AreResting-map before after change pickups numbers rests room sound = record {
  count = let l : length (map change pickups) ≡ length pickups = length-map pickups change in omega (arith, l, sound.count);
  front = rw (length-map pickups change, numbers-map before after change pickups rests) sound.front;
  waits = All-map (λ p. p.until - after ≤ 20) change pickups (All-weaker (λ p. p.until - before ≤ 20) (λ p. (change p).until - after ≤ 20) rests.waits pickups sound.waits);
  room = room;
}

pub Rests-emptied : (beats : ℕ) (cell : Cell) → Rests beats beats (emptied_at beats cell)
Rests-emptied beats cell = record {
  stays = λ p. elim (lies_ready cell (seen_at beats p)) as (λ v. (if v then record p { until = beats + 20 } else p).place ≡ p.place) [ true ↦ refl | false ↦ refl ];
  waits = λ p short. elim (lies_ready cell (seen_at beats p)) as (λ v. (if v then record p { until = beats + 20 } else p).until - beats ≤ 20) [ true ↦ omega arith | false ↦ short ];
}

pub Rests-counted_anew : (beats : ℕ) → Rests beats 1 (counted_anew beats)
Rests-counted_anew beats = record { stays = λ p. refl; waits = λ p short. omega (arith, short) }

-- a beat later none waits for longer
pub AreResting-later : (pickups : List Resting) (numbers : List ℕ) (beats : ℕ) → beats + 1 ≤ 4294967275 → AreResting pickups numbers beats → AreResting pickups numbers (beats + 1)
AreResting-later pickups numbers beats room sound = record {
  count = sound.count;
  front = sound.front;
  waits = All-weaker (λ p. p.until - beats ≤ 20) (λ p. p.until - (beats + 1) ≤ 20) (λ p short. omega (arith, short)) pickups sound.waits;
  room = room;
}

-- what is taken, as it is seen
emptied-seen : (beats : ℕ) (cell : Cell) (p : Resting) → seen_at beats (emptied_at beats cell p) ≡ emptied cell (seen_at beats p)
emptied-seen beats cell p =
    let long : beats + 20 - beats ≡ 20 = omega arith in
    elim (lies_ready cell (seen_at beats p)) as
    (λ v. seen_at beats (if v then record p { until = beats + 20 } else p)
    ≡ (if v then record (seen_at beats p) { wait = 20 } else seen_at beats p))
    [ true ↦ rw long refl | false ↦ refl ]

pub taken-seen : (beats : ℕ) (cell : Cell) (pickups : List Resting) → map (seen_at beats) (map (emptied_at beats cell) pickups) ≡ taken (map (seen_at beats) pickups) cell
taken-seen beats cell [] = refl
taken-seen beats cell (p ∷ pickups) = rw (emptied-seen beats cell p, taken-seen beats cell pickups) refl

-- a beat later
pub waited-seen : (beats : ℕ) (pickups : List Resting) → map (seen_at (beats + 1)) pickups ≡ map waited (map (seen_at beats) pickups)
waited-seen beats [] = refl
waited-seen beats (p ∷ pickups) =
    let less : p.until - (beats + 1) ≡ p.until - beats - 1 = omega arith in
    rw (less, waited-seen beats pickups) refl

-- a beat later, with the beats counted anew
pub counted_anew-seen : (beats : ℕ) (pickups : List Resting) → map (seen_at 1) (map (counted_anew beats) pickups) ≡ map waited (map (seen_at beats) pickups)
counted_anew-seen beats [] = refl
counted_anew-seen beats (p ∷ pickups) = rw (counted_anew-seen beats pickups) refl

-- what lies ready, as it is seen
pub ready_kind-seen : (beats : ℕ) (cell : Cell) (pickups : List Resting) → ready_kind_at beats pickups cell ≡ ready_kind (map (seen_at beats) pickups) cell
ready_kind-seen beats cell [] = refl
ready_kind-seen beats cell (p ∷ pickups) = split (lies_ready cell (seen_at beats p)) refl (ready_kind-seen beats cell pickups)
  where
    split :
        (b : _) → lies_ready cell (seen_at beats p) ≡ b
        → ready_kind_at beats pickups cell ≡ ready_kind (map (seen_at beats) pickups) cell
        → ready_kind_at beats (p ∷ pickups) cell ≡ ready_kind (map (seen_at beats) (p ∷ pickups)) cell
    split true is rest = rw is refl
    split false is rest = rw is rest
