-- How the watchers' lines go on over the notes.
use Rattle.std.proofs.Common.{◌≡◌, ℕ, ◌+◌, ◌-◌, ◌^◌, ◌≤◌, ◌<◌, true, false, cond, List, [], ◌∷◌, map, codes, decimal, Option, Some, None, refl, ap, arith}
use Rattle.std.proofs.lemmas.Bool.Decides.{nat_tests}
use Rattle.std.specs.Option.{is_some}
use Rattle.game_trait.specs.declared.event.Note.{Note}
use Rattle.game_trait.specs.Count.{times}
use Rattle.sync_model.specs.History.{repaired_in, repairs_in}
use Rattle.watch_board.specs.Watchers.{counted, says_late, is_repair, watch_line, mirror_word, repairs_line, late_line, first_repaired, first_line}

-- what is told later is counted on
counted-later : (count now later result : ℕ) → result ≡ counted (count + now) → counted (result + later) ≡ counted (count + (now + later))
counted-later count now later result h = rw h (omega arith)

-- a count below its greatest value is itself
counted-itself : (count : ℕ) → count ≤ 2 ^ 64 - 1 → counted (count + 0) ≡ count
counted-itself count h = omega arith

-- a count of repairs goes on
pub repairs_line-later : (count result : ℕ) (note : Note) (notes : List Note)
    → result ≡ counted (count + repaired_in note.reply) → repairs_line result notes ≡ repairs_line count (note ∷ notes)
unfolding repairs_line repairs_in
repairs_line-later count result note notes h =
    ap (λ n. watch_line (codes "repairs") (decimal n)) (counted-later count (repaired_in note.reply) (repairs_in (map (λ n. n.reply) notes)) result h)

-- before any note it is the count
pub repairs_line-none : (count : ℕ) → count ≤ 2 ^ 64 - 1 → repairs_line count [] ≡ watch_line (codes "repairs") (decimal count)
unfolding repairs_line repairs_in
repairs_line-none count h = ap (λ n. watch_line (codes "repairs") (decimal n)) (counted-itself count h)

-- a count of late commands goes on
pub late_line-later : (count result : ℕ) (note : Note) (notes : List Note)
    → result ≡ counted (count + cond (says_late note.reply) 1 0) → late_line result notes ≡ late_line count (note ∷ notes)
unfolding late_line times
late_line-later count result note notes h =
    ap (λ n. watch_line (codes "late") (decimal n))
    (counted-later count (cond (says_late note.reply) 1 0) (times says_late (map (λ n. n.reply) notes)) result h)

-- before any note it is the count
pub late_line-none : (count : ℕ) → count ≤ 2 ^ 64 - 1 → late_line count [] ≡ watch_line (codes "late") (decimal count)
unfolding late_line times
late_line-none count h = ap (λ n. watch_line (codes "late") (decimal n)) (counted-itself count h)

-- a note of no repair changes nothing
first_repaired-none : (first : Option ℕ) (note : Note) (notes : List Note) → repaired_in note.reply ≡ 0
    → first_repaired first notes ≡ first_repaired first (note ∷ notes)
unfolding first_repaired
first_repaired-none (Some mirror) note notes h = refl
first_repaired-none None note notes h = rw h refl

-- what was known is known
first_repaired-known : (first : Option ℕ) (note : Note) (notes : List Note) → is_some first ≡ true
    → first_repaired first notes ≡ first_repaired first (note ∷ notes)
unfolding first_repaired
first_repaired-known (Some mirror) note notes h = refl
first_repaired-known None note notes h = cc

-- the first repair is known from then on
first_repaired-now : (first : Option ℕ) (note : Note) (notes : List Note) → is_some first ≡ false → 0 < repaired_in note.reply
    → first_repaired (Some note.mirror) notes ≡ first_repaired first (note ∷ notes)
unfolding first_repaired
first_repaired-now (Some mirror) note notes n h = cc
first_repaired-now None note notes n h =
    let e : is_repair note ≡ true = grind (arith, nat_tests) in
    rw e refl

-- a note of no repair leaves the line
pub first_line-none : (first : Option ℕ) (note : Note) (notes : List Note) → repaired_in note.reply ≡ 0
    → first_line first notes ≡ first_line first (note ∷ notes)
unfolding first_line
first_line-none first note notes h = ap (λ m. watch_line (codes "first") (mirror_word m)) (first_repaired-none first note notes h)

-- where it is known, each note does
pub first_line-known : (first : Option ℕ) (note : Note) (notes : List Note) → is_some first ≡ true
    → first_line first notes ≡ first_line first (note ∷ notes)
unfolding first_line
first_line-known first note notes h = ap (λ m. watch_line (codes "first") (mirror_word m)) (first_repaired-known first note notes h)

-- the first repair is what it tells from then on
pub first_line-now : (first : Option ℕ) (note : Note) (notes : List Note) → is_some first ≡ false → 0 < repaired_in note.reply
    → first_line (Some note.mirror) notes ≡ first_line first (note ∷ notes)
unfolding first_line
first_line-now first note notes n h = ap (λ m. watch_line (codes "first") (mirror_word m)) (first_repaired-now first note notes n h)
