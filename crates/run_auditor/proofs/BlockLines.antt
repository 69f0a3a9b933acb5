-- A world of the arena is shown by lines that may stand in a block, and by few of them.
use Rattle.std.proofs.Common.{◌≡◌, ℕ, zero, suc, ◌+◌, ◌*◌, ◌^◌, ◌<◌, ◌≤◌, ℤ, pos, negsuc, neg_ℤ, ◌≤ℤ◌, Bool, true, List, [], ◌∷◌, ◌++◌, flat_map}
use Rattle.std.proofs.Common.{length, Ok, Err, refl, sym, ap, ◌∙◌, arith, lit<, lit≤, append-nil, length-append}
use Rattle.std.specs.Prelude.{if◌then◌else◌, codes, decimal, nat_le, nat_lt, not, ◌&&◌}
use Rattle.std.specs.Fmt.{signed_decimal}
use Rattle.std.specs.List.{All, AllByRecursion, list_all, join_with_byte}
use Rattle.std.proofs.lemmas.Bool.{and_parts, leb-true, le-ltb, ltb-true, ltb-false}
use Rattle.std.proofs.lemmas.Bool.Decides.{nat_tests}
use Rattle.std.proofs.lemmas.Int.{ints}
use Rattle.std.proofs.lemmas.List.Elements.{All-head, All-tail}
use Rattle.tss_io.specs.declared.cause.Cause.TheVariants.{Shape}
use Rattle.tss_io.specs.Forms.{is_word, is_word_byte, front_at}
use Rattle.tss_io.specs.Lines.{as_line, lines_text, spaced, words_of}
use Rattle.tss_io.proofs.FormLaws.{number_exact}
use Rattle.tss_io.proofs.Lengths.{Short, lines_length}
use Rattle.tss_io.proofs.Printing.{lines_text-append}
use Rattle.tss_base.proofs.ListLaws.{all_append}
use Rattle.tss_io.proofs.Spaced.{AreWords, IsWord-decimal, is_word-some, words_of-spaced}
use Rattle.arena_rules.specs.declared.limits.TheConstants.{LEAST_SCORE, GREATEST_SCORE}
use Rattle.match_setup.specs.Words.{face_word, kind_word, name_of}
use Rattle.arena_rules.specs.Block.{state_words, state_line, state_lines, shot_line, item_line, block_of}
use Rattle.match_setup.specs.Ground.{Grid, IsGrid, is_open, is_walled}
use Rattle.arena_rules.specs.World.{World, IsState, IsPlayer, IsShot, IsPickup, IsWorld}
use Rattle.match_setup.specs.declared.face.Face.{Face}
use Rattle.match_setup.specs.declared.face.Face.TheVariants.{N, E, S, W}
use Rattle.match_setup.specs.declared.pickup.Kind.{Kind}
use Rattle.match_setup.specs.declared.pickup.Kind.TheVariants.{Ammo, Heal, Gold}
use Rattle.arena_rules.specs.declared.pickup.Pickup.{Pickup}
use Rattle.arena_rules.specs.declared.player.Player.{Player}
use Rattle.arena_rules.specs.declared.player.State.{State}
use Rattle.arena_rules.specs.declared.player.State.TheVariants.{Live, Dead}
use Rattle.arena_rules.specs.declared.shot.Shot.{Shot}
use Rattle.match_data.specs.Names.{is_letter, is_name_byte, is_name}
use Rattle.run_recorder.specs.Data.{IsBlockLine}
use Rattle.run_recorder.specs.Text.{is_shown, first_of, first_word, is_block_line}

-- ---- a line of short words

-- a word of a line of at most eight
record IsShort (word : List ℕ) : Type 0 where
  pub word_is : is_word word ≡ true
  pub short : length word ≤ 12

are_words : (words : List (List ℕ)) → AllByRecursion IsShort words → AreWords words
are_words [] h = tt
are_words (word ∷ words) h = (h.0.word_is, are_words words h.1)

list_words : (words : List (List ℕ)) → AreWords words → list_all is_word words ≡ true
list_words [] h = refl
list_words (word ∷ words) h = rw (h.0, list_words words h.1) refl

spaced_length : (words : List (List ℕ)) → AllByRecursion IsShort words → length (spaced words) ≤ length words * 13
unfolding spaced
spaced_length [] h = omega arith
spaced_length (word ∷ []) h = omega (arith, h.0.short)
spaced_length (word ∷ next ∷ words) h = omega (arith, h.0.short, spaced_length (next ∷ words) h.1, length-append word (32 ∷ join_with_byte 32 (next ∷ words)))

-- such a line may stand in a block, where its first word opens one
block_line : (keyword next : List ℕ) (words : List (List ℕ)) → is_shown keyword ≡ true
    → AllByRecursion IsShort (keyword ∷ next ∷ words) → length words ≤ 6 → IsBlockLine (spaced (keyword ∷ next ∷ words))
unfolding is_block_line front_at
block_line keyword next words opens short few =
    let all = keyword ∷ next ∷ words in
    let fit : AreWords all = are_words all short in
    let same : words_of (spaced all) ≡ all = words_of-spaced keyword (next ∷ words) fit in
    let l = spaced all in
    let first : first_word l ≡ keyword =
    ap (λ (ws : List (List ℕ)). first_of l (front_at ws)) same ∙ ap (λ (v : Bool). first_of l (if v then Ok (keyword, next ∷ words) else Err Shape)) short.0.word_is in
    let shown : is_shown (first_word l) ≡ true = ap is_shown first ∙ opens in
    let each : list_all is_word (words_of l) ≡ true = ap (λ (ws : List (List ℕ)). list_all is_word ws) same ∙ list_words all fit in
    let long = spaced_length all short in
    ((λ i. shown i && each i), le-ltb _ _ (omega arith))

-- ---- the words of the arena's lines

ten_digits : (n : ℕ) → n < 2 ^ 32 → (is_word (decimal n) ≡ true) × (length (decimal n) ≤ 10)
ten_digits n small =
    let exact = number_exact 0 4294967295 10 (lit< tt) (lit< tt) (lit< tt) in
    (exact.fit n (omega arith, omega (arith, small)), exact.short n (omega arith, omega (arith, small)))

number_short : (n : ℕ) → n < 2 ^ 32 → IsShort (decimal n)
number_short n small = let digits = ten_digits n small in record { word_is = digits.0; short = omega (arith, digits.1) }

negative_short : (n : ℕ) → n < 2 ^ 32 → IsShort (45 ∷ decimal n)
negative_short n small =
    let short = (ten_digits n small).1 in
    record { word_is = is_word-some (45 ∷ decimal n) (omega arith) (IsWord-decimal n (omega (arith, small))); short = omega arith }

few_points : (n : ℕ) → pos n ≤ℤ pos 1000000 → n ≤ 1000000
few_points n most = grind (arith, ints)

few_debts : (n : ℕ) → neg_ℤ (pos 1000000) ≤ℤ negsuc n → n ≤ 999999
few_debts n least = grind (arith, ints)

score_short : (z : ℤ) → LEAST_SCORE ≤ℤ z → z ≤ℤ GREATEST_SCORE → IsShort (signed_decimal z)
score_short (pos n) least most = let few = few_points n most in number_short n (omega (arith, few))
score_short (negsuc n) least most = let few = few_debts n least in negative_short (suc n) (omega (arith, few))

face_short : (face : Face) → IsShort (face_word face)
unfolding is_word
face_short N = record { word_is = refl; short = lit≤ tt }
face_short E = record { word_is = refl; short = lit≤ tt }
face_short S = record { word_is = refl; short = lit≤ tt }
face_short W = record { word_is = refl; short = lit≤ tt }

kind_short : (kind : Kind) → IsShort (kind_word kind)
unfolding is_word
kind_short Ammo = record { word_is = refl; short = lit≤ tt }
kind_short Heal = record { word_is = refl; short = lit≤ tt }
kind_short Gold = record { word_is = refl; short = lit≤ tt }

letter_byte : (b : ℕ) → is_letter b ≡ true → is_word_byte b ≡ true
letter_byte b h = grind (arith, nat_tests)

name_byte : (b : ℕ) → is_name_byte b ≡ true → is_word_byte b ≡ true
name_byte b h = grind (arith, nat_tests)

name_bytes : (bytes : List ℕ) → list_all is_name_byte bytes ≡ true → list_all is_word_byte bytes ≡ true
name_bytes [] h = refl
name_bytes (b ∷ bytes) h = let both = and_parts (is_name_byte b) (list_all is_name_byte bytes) h in rw (name_byte b both.0, name_bytes bytes both.1) refl

name_short : (name : List ℕ) → is_name name ≡ true → IsShort name
unfolding is_name
name_short [] h = absurd cc
name_short (b ∷ bytes) h =
    let first = and_parts (is_letter b) (nat_le (length bytes) 11 && list_all is_name_byte bytes) h in
    let rest = and_parts (nat_le (length bytes) 11) (list_all is_name_byte bytes) first.1 in
    let few : length bytes ≤ 11 = leb-true _ _ rest.0 in
    let word : list_all is_word_byte (b ∷ bytes) ≡ true = rw (letter_byte b first.0, name_bytes bytes rest.1) refl in
    record { word_is = is_word-some (b ∷ bytes) (omega arith) word; short = omega (arith, few) }

nobody_short : IsShort (codes "?")
unfolding is_word
nobody_short = record { word_is = refl; short = lit≤ tt }

named_short : (names : List (List ℕ)) (number : ℕ) → AllByRecursion (λ n. is_name n ≡ true) names → IsShort (name_of names number)
named_short [] zero h = nobody_short
named_short [] (suc number) h = nobody_short
named_short (name ∷ names) zero h = name_short name h.0
named_short (name ∷ names) (suc number) h = named_short names number h.1

live_short : IsShort (codes "live")
unfolding is_word
live_short = record { word_is = refl; short = lit≤ tt }

dead_short : IsShort (codes "dead")
unfolding is_word
dead_short = record { word_is = refl; short = lit≤ tt }

shot_short : IsShort (codes "shot")
unfolding is_word
shot_short = record { word_is = refl; short = lit≤ tt }

item_short : IsShort (codes "item")
unfolding is_word
item_short = record { word_is = refl; short = lit≤ tt }

-- ---- a text of so many lines of a block

pub record IsShownIn (most : ℕ) (text : List ℕ) : Type 0 where
  pub lines : List (List ℕ)
  pub each : AllByRecursion IsBlockLine lines
  pub whole : text ≡ lines_text lines
  pub few : length lines ≤ most

no_line : IsShownIn 0 []
unfolding lines_text
no_line = record { lines = []; each = tt; whole = refl; few = omega arith }

one_line : (l : List ℕ) → IsBlockLine l → IsShownIn 1 (as_line l)
unfolding lines_text
one_line l h = record { lines = l ∷ []; each = (h, tt); whole = sym (append-nil (as_line l)); few = omega arith }

both_texts : (a b : ℕ) (x y : List ℕ) → IsShownIn a x → IsShownIn b y → IsShownIn (a + b) (x ++ y)
both_texts a b x y h k =
    let first = h.whole in
    let second = k.whole in
    record {
      lines = h.lines ++ k.lines;
      each = all_append IsBlockLine h.lines k.lines h.each k.each;
      whole = (λ i. first i ++ second i) ∙ sym (lines_text-append h.lines k.lines);
      few = omega (arith, length-append h.lines k.lines, h.few, k.few);
    }

-- a line more in front
line_more : (n : ℕ) (l text : List ℕ) → IsBlockLine l → IsShownIn n text → IsShownIn (suc n) (as_line l ++ text)
line_more n l text h more =
    let both = both_texts 1 n (as_line l) text (one_line l h) more in
    record { lines = both.lines; each = both.each; whole = both.whole; few = omega (arith, both.few) }

more_room : (a b : ℕ) (x : List ℕ) → a ≤ b → IsShownIn a x → IsShownIn b x
more_room a b x le h = record { lines = h.lines; each = h.each; whole = h.whole; few = omega (arith, le, h.few) }

-- ---- the lines of players, shots and pickups

-- a cell of the grid
record IsNear (x y : ℕ) : Type 0 where
  pub column : x < 64
  pub row : y < 64

near : (grid : Grid) (x y : ℕ) → IsGrid grid → is_open grid x y ≡ true → IsNear x y
unfolding is_open
near grid x y is free =
    let wide = and_parts (nat_lt x grid.width) (nat_lt y grid.height && not (is_walled grid x y)) free in
    let high = and_parts (nat_lt y grid.height) (not (is_walled grid x y)) wide.1 in
    record { column = omega (arith, ltb-true _ _ wide.0, is.width.1); row = omega (arith, ltb-true _ _ high.0, is.height.1) }

state_fits : (grid : Grid) (name score : List ℕ) (state : State) → IsGrid grid → IsShort name → IsShort score → IsState grid state → IsBlockLine (spaced (state_words name score state))
state_fits grid name score (Live b) is named scored body =
    let cell = near grid b.spot.x b.spot.y is body.free in
    block_line (codes "live") name (decimal b.spot.x ∷ decimal b.spot.y ∷ face_word b.spot.face ∷ decimal b.health ∷ decimal b.ammo ∷ score ∷ []) refl (
      live_short,
      (
        named,
        (
          number_short b.spot.x (omega (arith, cell.column)),
          (
            number_short b.spot.y (omega (arith, cell.row)),
            (
              face_short b.spot.face,
              (
                number_short b.health (omega (arith, body.health.1)),
                (number_short b.ammo (omega (arith, body.ammo)), (scored, tt)),
              ),
            ),
          ),
        ),
      ),
    )
    (lit≤ tt)
state_fits grid name score (Dead wait) is named scored short =
    block_line (codes "dead") name (decimal wait ∷ score ∷ []) refl (dead_short, (named, (number_short wait (omega (arith, short)), (scored, tt)))) (lit≤ tt)

players_shown : (grid : Grid) (names : List (List ℕ)) (number : ℕ) (players : List Player) → IsGrid grid
    → AllByRecursion (λ n. is_name n ≡ true) names → All (IsPlayer grid) players
    → IsShownIn (length players) (state_lines names number players)
unfolding state_lines state_line
players_shown grid names number [] is named each = no_line
players_shown grid names number (p ∷ players) is named each =
    let possible : IsPlayer grid p = All-head (IsPlayer grid) p players each in
    line_more (length players) (spaced (state_words (name_of names number) (signed_decimal p.score) p.state)) (state_lines names (number + 1) players)
    (state_fits grid (name_of names number) (signed_decimal p.score) p.state is (named_short names number named) (score_short p.score possible.score.0 possible.score.1) possible.state)
    (players_shown grid names (number + 1) players is named (All-tail (IsPlayer grid) p players each))

shots_shown : (grid : Grid) (names : List (List ℕ)) (count : ℕ) (shots : List Shot) → IsGrid grid
    → AllByRecursion (λ n. is_name n ≡ true) names → All (IsShot grid count) shots
    → IsShownIn (length shots) (flat_map (shot_line names) shots)
unfolding shot_line
shots_shown grid names count [] is named each = no_line
shots_shown grid names count (s ∷ shots) is named each =
    let possible : IsShot grid count s = All-head (IsShot grid count) s shots each in
    let cell = near grid s.spot.x s.spot.y is possible.free in
    let behind : List (List ℕ) = decimal s.spot.x ∷ decimal s.spot.y ∷ face_word s.spot.face ∷ decimal s.left ∷ [] in
    line_more (length shots) (spaced (codes "shot" ∷ name_of names s.owner ∷ behind)) (flat_map (shot_line names) shots)
    (block_line (codes "shot") (name_of names s.owner) behind refl (
      shot_short,
      (
        named_short names s.owner named,
        (
          number_short s.spot.x (omega (arith, cell.column)),
          (
            number_short s.spot.y (omega (arith, cell.row)),
            (face_short s.spot.face, (number_short s.left (omega (arith, possible.left.1)), tt)),
          ),
        ),
      ),
    )
    (lit≤ tt))
    (shots_shown grid names count shots is named (All-tail (IsShot grid count) s shots each))

items_shown : (grid : Grid) (pickups : List Pickup) → IsGrid grid → All (IsPickup grid) pickups → IsShownIn (length pickups) (flat_map item_line pickups)
unfolding item_line
items_shown grid [] is each = no_line
items_shown grid (p ∷ pickups) is each =
    let possible : IsPickup grid p = All-head (IsPickup grid) p pickups each in
    let cell = near grid p.place.x p.place.y is possible.free in
    let behind : List (List ℕ) = decimal p.place.y ∷ kind_word p.place.kind ∷ decimal p.wait ∷ [] in
    line_more (length pickups) (spaced (codes "item" ∷ decimal p.place.x ∷ behind)) (flat_map item_line pickups)
    (block_line (codes "item") (decimal p.place.x) behind refl (
      item_short,
      (
        number_short p.place.x (omega (arith, cell.column)),
        (
          number_short p.place.y (omega (arith, cell.row)),
          (kind_short p.place.kind, (number_short p.wait (omega (arith, possible.wait)), tt)),
        ),
      ),
    )
    (lit≤ tt))
    (items_shown grid pickups is (All-tail (IsPickup grid) p pickups each))

-- 32 players, 64 shots and 32 pickups at most
pub world_shown : (world : World) (names : List (List ℕ)) → IsWorld world → AllByRecursion (λ n. is_name n ≡ true) names → IsShownIn 128 (block_of world names)
unfolding block_of
world_shown world names sound named =
    let players = players_shown world.grid names 0 world.players sound.grid named sound.players.each in
    let shots = shots_shown world.grid names (length world.players) world.shots sound.grid named sound.shots.each in
    let items = items_shown world.grid world.pickups sound.grid sound.pickups.each in
    let few = sound.players.count in
    let rest = both_texts (length world.shots) (length world.pickups) (flat_map (shot_line names) world.shots) (flat_map item_line world.pickups) shots items in
    more_room (length world.players + (length world.shots + length world.pickups)) 128
    (state_lines names 0 world.players ++ (flat_map (shot_line names) world.shots
    ++ flat_map item_line world.pickups))
    (omega (arith, few, sound.shots.count, sound.pickups.count))
    (both_texts (length world.players) (length world.shots + length world.pickups) (state_lines names 0 world.players)
    (flat_map (shot_line names) world.shots ++ flat_map item_line world.pickups) players rest)

-- ---- how long such a text is

lines_short : (lines : List (List ℕ)) → AllByRecursion IsBlockLine lines → Short 120 lines
lines_short [] h = tt
lines_short (l ∷ lines) h = (ltb-false _ _ h.0.1, lines_short lines h.1)

pub shown_length : (text : List ℕ) → IsShownIn 128 text → length text ≤ 15488
shown_length text h =
    let long = lines_length 120 h.lines (lines_short h.lines h.each) in
    omega (arith, long, h.few, ap (λ (t : List ℕ). length t) h.whole)
