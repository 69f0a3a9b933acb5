-- The text of the answer to a match that is played to watchers, and its names.
use Rattle.std.proofs.Common.{◌≡◌, ℕ, ◌<◌, ◌≤◌, Bool, true, false, ◌&&◌, ◌||◌, nat_le, List, [], ◌∷◌, ◌++◌, length, refl, sym, ap, subst, ◌∙◌, append_assoc, arith}
use Rattle.std.specs.List.{AllByRecursion, list_all}
use Rattle.std.specs.Str.{IsAscii}
use Rattle.std.proofs.lemmas.Bool.Decides.{nat_tests}
use Rattle.std.proofs.lemmas.List.Elements.{All-from_recursion}
use Rattle.std.proofs.lemmas.Str.Ascii.{IsAscii-from_all}
use Rattle.match_data.specs.Data.{MatchData}
use Rattle.match_data.specs.Names.{is_letter, is_name_byte, is_name}
use Rattle.report_text.specs.Ends.{done_line}
use Rattle.report_text.specs.Score.{standings_text}
use Rattle.tss_io.specs.Lines.{as_line}
use Rattle.watch_board.specs.Behaviour.{Behaviour}
use Rattle.watch_board.specs.Board.{board, last_lines}
use Rattle.watch_board.specs.Told.{AreTold}
use Rattle.watch_board.proofs.Told.{board-closed}
use Rattle.match_hall.specs.Notes.{notes_of_all}
use Rattle.match_score.specs.Score.{standings, ends_of, watched_text}

both : (a b : Bool) → (a && b) ≡ true → (a ≡ true) × (b ≡ true)
both true true e = (refl, refl)
both true false e = absurd cc
both false b e = absurd cc

either : (a b : Bool) (P : Type 0) → (a || b) ≡ true → (a ≡ true → P) → (b ≡ true → P) → P
either true b P e f g = f refl
either false b P e f g = g e

between : (low high b : ℕ) → high < 128 → (nat_le low b && nat_le b high) ≡ true → b < 128
between low high b small e =
    let upper = (both (nat_le low b) (nat_le b high) e).1 in
    let below : b ≤ high = grind (arith, nat_tests) in
    omega (arith, below, small)

letter-ascii : (b : ℕ) → is_letter b ≡ true → b < 128
letter-ascii b e = between 97 122 b (omega arith) e

byte-ascii : (b : ℕ) → is_name_byte b ≡ true → b < 128
byte-ascii b e = either (is_letter b) (nat_le 48 b && nat_le b 57) (b < 128) e (letter-ascii b) (λ h. between 48 57 b (omega arith) h)

bytes-ascii : (bytes : List ℕ) → list_all is_name_byte bytes ≡ true → AllByRecursion (λ b. b < 128) bytes
bytes-ascii [] e = tt
bytes-ascii (b ∷ bytes) e = let h = both (is_name_byte b) (list_all is_name_byte bytes) e in (byte-ascii b h.0, bytes-ascii bytes h.1)

name-ascii : (name : List ℕ) → is_name name ≡ true → IsAscii name
unfolding is_name
name-ascii [] e = absurd cc
name-ascii (b ∷ bytes) e =
    let h = both (is_letter b) (nat_le (length bytes) 11 && list_all is_name_byte bytes) e in
    let more = both (nat_le (length bytes) 11) (list_all is_name_byte bytes) h.1 in
    IsAscii-from_all (b ∷ bytes) (All-from_recursion (λ c. c < 128) (b ∷ bytes) (letter-ascii b h.0, bytes-ascii bytes more.1))

-- the names of a match's players are ASCII
pub names-ascii : (names : List (List ℕ)) → AllByRecursion (λ n. is_name n ≡ true) names → AllByRecursion IsAscii names
names-ascii [] h = tt
names-ascii (n ∷ names) h = (name-ascii n h.0, names-ascii names h.1)

-- the scoreboard, the lines of watchers that left, those of the others, and the last line
pub watched :
    (ws now : List Behaviour) (m : MatchData) (scores lines text : List ℕ) → scores ≡ standings_text m.names (standings 0 (ends_of m))
    → AreTold (notes_of_all 0 (ends_of m)) ws now [] lines
    → text ≡ ((scores ++ 10 ∷ []) ++ lines) ++ (last_lines now ++ done_line) → text ≡ watched_text ws m
unfolding watched_text
watched ws now m scores lines text told_scores told closed =
    let head = scores ++ 10 ∷ [] in
    let notes = notes_of_all 0 (ends_of m) in
    closed
    ∙ append_assoc head lines (last_lines now ++ done_line)
    ∙ ap (λ (rest : List ℕ). head ++ rest) (sym (append_assoc lines (last_lines now) done_line))
    ∙ ap (λ (said : List ℕ). head ++ (said ++ done_line)) (board-closed notes ws now [] lines (lines ++ last_lines now) told refl)
    ∙ ap (λ (s : List ℕ). as_line s ++ (board ws notes ++ done_line)) told_scores

-- the same, where the parts go by other names
pub watched_by :
    (ws begun now : List Behaviour) (m : MatchData) (scores first before lines second text : List ℕ) → begun ≡ ws → before ≡ []
    → scores ≡ standings_text m.names (standings 0 (ends_of m)) → first ≡ scores → second ≡ lines
    → AreTold (notes_of_all 0 (ends_of m)) begun now before lines
    → text ≡ ((first ++ 10 ∷ []) ++ second) ++ (last_lines now ++ done_line) → text ≡ watched_text ws m
watched_by ws begun now m scores first before lines second text same fresh told_scores is_first is_second told closed =
    watched ws now m scores lines text told_scores
    (subst (λ (b : List ℕ). AreTold (notes_of_all 0 (ends_of m)) ws now b lines) fresh
    (subst (λ (vs : List Behaviour). AreTold (notes_of_all 0 (ends_of m)) vs now before lines) same told))
    (closed ∙ ap (λ (f : List ℕ). ((f ++ 10 ∷ []) ++ second) ++ (last_lines now ++ done_line)) is_first
    ∙ ap (λ (l : List ℕ). ((scores ++ 10 ∷ []) ++ l) ++ (last_lines now ++ done_line)) is_second)
