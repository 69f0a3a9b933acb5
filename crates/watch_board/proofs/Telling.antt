-- How far a note has gone: from the first watcher to the last, where it may stop at one that left.
use Rattle.std.proofs.Common.{◌≡◌, ℕ, ◌+◌, ◌≤◌, ◌<◌, Bool, true, false, not, List, [], ◌∷◌, ◌++◌, map, flat_map, length, refl, sym, ap, ◌∙◌, append_assoc, length-append, arith}
use Rattle.std.specs.List.{filter}
use Rattle.std.proofs.lemmas.List.{append-nil, map-append}
use Rattle.std.proofs.lemmas.List.{length-map}
use Rattle.std.proofs.lemmas.List.Elements.{filter-append}
use Rattle.std.proofs.lemmas.Grind.{flat_map-append}
use Rattle.game_trait.specs.declared.event.Note.{Note}
use Rattle.tss_io.specs.Lines.{as_line}
use Rattle.watch_board.specs.Behaviour.{Behaviour, leaves, told}
use Rattle.watch_board.specs.Board.{still_there, leaving_lines, TellsAt, IsWithout, HasLineOf, IsOnWay, IsCutShort}

-- those that are still there, of two parts
still_there-append : (note : Note) (xs ys : List Behaviour) → still_there note (xs ++ ys) ≡ still_there note xs ++ still_there note ys
unfolding still_there
still_there-append note xs ys =
    ap (map (told note)) (filter-append (λ w. not (leaves note w)) xs ys) ∙ map-append (told note) _ _

-- the lines of those that leave, of two parts
leaving_lines-append : (note : Note) (xs ys : List Behaviour)
    → leaving_lines note (xs ++ ys) ≡ leaving_lines note xs ++ leaving_lines note ys
unfolding leaving_lines
leaving_lines-append note xs ys =
    ap (flat_map (λ (w : Behaviour). as_line (w.line (note ∷ [])))) (filter-append (leaves note) xs ys)
    ∙ flat_map-append (λ (w : Behaviour). as_line (w.line (note ∷ []))) (filter (leaves note) xs) (filter (leaves note) ys)

-- one that stays is still there
still_there-stays : (note : Note) (one : Behaviour) → leaves note one ≡ false → still_there note (one ∷ []) ≡ told note one ∷ []
unfolding still_there
still_there-stays note one h = rw h refl

-- one that leaves isn't
still_there-leaves : (note : Note) (one : Behaviour) → leaves note one ≡ true → still_there note (one ∷ []) ≡ []
unfolding still_there
still_there-leaves note one h = rw h refl

-- one that stays has no line yet
leaving_lines-stays : (note : Note) (one : Behaviour) → leaves note one ≡ false → leaving_lines note (one ∷ []) ≡ []
unfolding leaving_lines
leaving_lines-stays note one h = rw h refl

-- one that leaves has its line
leaving_lines-leaves : (note : Note) (one : Behaviour) → leaves note one ≡ true
    → leaving_lines note (one ∷ []) ≡ as_line (one.line (note ∷ []))
unfolding leaving_lines
leaving_lines-leaves note one h = rw h (append-nil _)

-- before the first
pub IsOnWay-first : (note : Note) (old : List Behaviour) (before : List ℕ) → IsOnWay note old old 0 before before
unfolding still_there leaving_lines
IsOnWay-first note old before =
    record { front = []; behind = old; stood = refl; stand = refl; placed = refl; lines = sym (append-nil before) }

-- the watchers that are still there of a front and one that stays
front-stays : (note : Note) (front : List Behaviour) (one : Behaviour) → leaves note one ≡ false
    → still_there note (front ++ one ∷ []) ≡ still_there note front ++ told note one ∷ []
front-stays note front one h =
    still_there-append note front (one ∷ []) ∙ ap (λ ws. still_there note front ++ ws) (still_there-stays note one h)

-- and of a front and one that leaves
front-leaves : (note : Note) (front : List Behaviour) (one : Behaviour) → leaves note one ≡ true
    → still_there note (front ++ one ∷ []) ≡ still_there note front
front-leaves note front one h =
    still_there-append note front (one ∷ [])
    ∙ (ap (λ ws. still_there note front ++ ws) (still_there-leaves note one h) ∙ append-nil _)

-- the lines of a front and one that stays
lines-stays : (note : Note) (front : List Behaviour) (one : Behaviour) → leaves note one ≡ false
    → leaving_lines note (front ++ one ∷ []) ≡ leaving_lines note front
lines-stays note front one h =
    leaving_lines-append note front (one ∷ [])
    ∙ (ap (λ ls. leaving_lines note front ++ ls) (leaving_lines-stays note one h) ∙ append-nil _)

-- and of a front and one that leaves
lines-leaves : (note : Note) (front : List Behaviour) (one : Behaviour) → leaves note one ≡ true
    → leaving_lines note (front ++ one ∷ []) ≡ leaving_lines note front ++ as_line (one.line (note ∷ []))
lines-leaves note front one h =
    leaving_lines-append note front (one ∷ []) ∙ ap (λ ls. leaving_lines note front ++ ls) (leaving_lines-leaves note one h)

-- a place behind the last is no place
past-last : (now front : List Behaviour) (place : ℕ) → now ≡ front ++ [] → length front ≡ place → place < length now → ⊥
past-last now front place e p h =
    let l : length now ≡ length front = ap length (e ∙ append-nil front) in omega (arith, l, p, h)

-- how far a note has gone once the next watcher was told it and stays
stays-next : (note : Note) (old now new : List Behaviour) (place : ℕ) (before after : List ℕ) (answer : Bool)
    → answer ≡ false → place < length now → TellsAt note place now new answer
    → (front behind : List Behaviour) → old ≡ front ++ behind → now ≡ still_there note front ++ behind
    → length (still_there note front) ≡ place → after ≡ before ++ leaving_lines note front
    → IsOnWay note old new (place + 1) before after
stays-next note old now new place before after answer a h tells front [] stood stand placed lines =
    absurd (past-last now (still_there note front) place stand placed h)
stays-next note old now new place before after answer a h tells front (one ∷ behind) stood stand placed lines =
    let r = tells (still_there note front) behind one stand placed in
    let stays : leaves note one ≡ false = sym r.0 ∙ a in
    let next = front-stays note front one stays in
    let long : length (still_there note (front ++ one ∷ [])) ≡ length (still_there note front) + 1 =
    ap length next ∙ length-append (still_there note front) (told note one ∷ []) in
    record {
      front = front ++ one ∷ [];
      behind = behind;
      stood = stood ∙ sym (append_assoc front (one ∷ []) behind);
      stand = r.1 ∙ (sym (append_assoc (still_there note front) (told note one ∷ []) behind) ∙ ap (λ ws. ws ++ behind) (sym next));
      placed = long ∙ ap (λ n. n + 1) placed;
      lines = lines ∙ ap (λ ls. before ++ ls) (sym (lines-stays note front one stays));
    }

-- and once it was told it and left, its line with the others'
leaves-next : (note : Note) (old now new without : List Behaviour) (place : ℕ) (before after later : List ℕ) (answer : Bool)
    → answer ≡ true → place < length now → TellsAt note place now new answer
    → IsWithout place new without → HasLineOf place new after later
    → (front behind : List Behaviour) → old ≡ front ++ behind → now ≡ still_there note front ++ behind
    → length (still_there note front) ≡ place → after ≡ before ++ leaving_lines note front
    → IsOnWay note old without place before later
leaves-next note old now new without place before after later answer a h tells gone line front [] stood stand placed lines =
    absurd (past-last now (still_there note front) place stand placed h)
leaves-next note old now new without place before after later answer a h tells gone line front (one ∷ behind) stood stand placed lines =
    let r = tells (still_there note front) behind one stand placed in
    let left : leaves note one ≡ true = sym r.0 ∙ a in
    let next = front-leaves note front one left in
    record {
      front = front ++ one ∷ [];
      behind = behind;
      stood = stood ∙ sym (append_assoc front (one ∷ []) behind);
      stand = gone (still_there note front) behind (told note one) r.1 placed ∙ ap (λ ws. ws ++ behind) (sym next);
      placed = ap length next ∙ placed;
      lines = line (still_there note front) behind (told note one) r.1 placed
          ∙ (ap (λ ls. ls ++ as_line (one.line (note ∷ []))) lines
          ∙ (append_assoc before (leaving_lines note front) (as_line (one.line (note ∷ [])))
          ∙ ap (λ ls. before ++ ls) (sym (lines-leaves note front one left))));
    }

-- what stands where the next watcher left and memory ran out at its line
cut-next : (note : Note) (old now new without : List Behaviour) (place : ℕ) (before after later : List ℕ) (answer : Bool)
    → answer ≡ true → place < length now → TellsAt note place now new answer
    → IsWithout place new without → later ≡ after
    → (front behind : List Behaviour) → old ≡ front ++ behind → now ≡ still_there note front ++ behind
    → length (still_there note front) ≡ place → after ≡ before ++ leaving_lines note front
    → IsCutShort note old without before later
cut-next note old now new without place before after later answer a h tells gone same front [] stood stand placed lines =
    absurd (past-last now (still_there note front) place stand placed h)
cut-next note old now new without place before after later answer a h tells gone same front (one ∷ behind) stood stand placed lines =
    let r = tells (still_there note front) behind one stand placed in
    record {
      front = front;
      gone = one;
      behind = behind;
      stood = stood;
      left = sym r.0 ∙ a;
      stand = gone (still_there note front) behind (told note one) r.1 placed;
      lines = same ∙ lines;
    }

-- where all were told
last-next : (note : Note) (old now : List Behaviour) (place : ℕ) (before after : List ℕ) → length now ≤ place
    → (front behind : List Behaviour) → old ≡ front ++ behind → now ≡ still_there note front ++ behind
    → length (still_there note front) ≡ place → after ≡ before ++ leaving_lines note front
    → (now ≡ still_there note old) × (after ≡ before ++ leaving_lines note old)
last-next note old now place before after h front [] stood stand placed lines =
    let same : old ≡ front = stood ∙ append-nil front in
    (stand ∙ (append-nil _ ∙ ap (still_there note) (sym same)), lines ∙ ap (λ ws. before ++ leaving_lines note ws) (sym same))
last-next note old now place before after h front (one ∷ behind) stood stand placed lines =
    let l : length now ≡ length (still_there note front) + length (one ∷ behind) =
    ap length stand ∙ length-append (still_there note front) (one ∷ behind) in
    absurd (omega (arith, l, h, placed))

-- the next watcher stays
pub IsOnWay-stays : (note : Note) (old now new : List Behaviour) (place : ℕ) (before after : List ℕ) (answer : Bool)
    → answer ≡ false → place < length now → TellsAt note place now new answer
    → IsOnWay note old now place before after → IsOnWay note old new (place + 1) before after
IsOnWay-stays note old now new place before after answer a h tells w =
    stays-next note old now new place before after answer a h tells w.front w.behind w.stood w.stand w.placed w.lines

-- the next watcher leaves
pub IsOnWay-leaves : (note : Note) (old now new without : List Behaviour) (place : ℕ) (before after later : List ℕ) (answer : Bool)
    → answer ≡ true → place < length now → TellsAt note place now new answer
    → IsWithout place new without → HasLineOf place new after later
    → IsOnWay note old now place before after → IsOnWay note old without place before later
IsOnWay-leaves note old now new without place before after later answer a h tells gone line w =
    leaves-next note old now new without place before after later answer a h tells gone line w.front w.behind w.stood w.stand w.placed w.lines

-- memory runs out at the next watcher's line
pub IsOnWay-cut : (note : Note) (old now new without : List Behaviour) (place : ℕ) (before after later : List ℕ) (answer : Bool)
    → answer ≡ true → place < length now → TellsAt note place now new answer
    → IsWithout place new without → later ≡ after
    → IsOnWay note old now place before after → IsCutShort note old without before later
IsOnWay-cut note old now new without place before after later answer a h tells gone same w =
    cut-next note old now new without place before after later answer a h tells gone same w.front w.behind w.stood w.stand w.placed w.lines

-- all were told
pub IsOnWay-last : (note : Note) (old now : List Behaviour) (place : ℕ) (before after : List ℕ) → length now ≤ place
    → IsOnWay note old now place before after → (now ≡ still_there note old) × (after ≡ before ++ leaving_lines note old)
IsOnWay-last note old now place before after h w =
    last-next note old now place before after h w.front w.behind w.stood w.stand w.placed w.lines

-- a place among the watchers is one among what they do
pub seen-below : {B : Type 0} → (see : B → Behaviour) (items : List B) (place : ℕ) → place < length items → place < length (map see items)
seen-below see items place h = omega (arith, length-map items see)

-- and a place behind them all is one there
pub seen-behind : {B : Type 0} → (see : B → Behaviour) (items : List B) (place : ℕ) → length items ≤ place → length (map see items) ≤ place
seen-behind see items place h = omega (arith, length-map items see)
