-- The lines of what is left in the links make each link whole.
use Rattle.std.proofs.Common.{◌≡◌, ℕ, zero, suc, ◌+◌, ◌-◌, ◌<◌, ◌≤◌, true, false, ◌==◌, List, [], ◌∷◌, ◌++◌, length, get_or, set, drop, inl, inr, refl, ap, sym, ◌∙◌, subst, append-nil, arith}
use Rattle.std.specs.List.{AllByRecursion}
use Rattle.std.proofs.lemmas.List.{length-append, length-drop, length-take, get_or-set_same}
use Rattle.std.proofs.lemmas.Bool.{cases_eq}
use Rattle.std.proofs.lemmas.Bool.Decides.{nat_tests}
use Rattle.game_trait.specs.declared.command.Command.{Command}
use Rattle.game_trait.proofs.Lists.{all-append}
use Rattle.match_data.specs.Data.{MatchData}
use Rattle.lossy_text.specs.declared.net_line.NetLine.{NetLine}
use Rattle.lossy_text.specs.declared.net_line.NetLine.TheVariants.{Send, Carry}
use Rattle.lossy_link.specs.Ends.{is_open}
use Rattle.lossy_link.specs.Link.{LinkState, IsLinked, new_link, has_flown, next_of, brought, after_send, after_carry, after_take}
use Rattle.lossy_link.specs.Links.{NetLinks, AreLinks, row_at, link_at, changed, next_links}
use Rattle.lossy_link.specs.Finish.{packet_lines, link_lines, row_lines, rows_lines}
use Rattle.lossy_link.specs.Way.{IsThere}
use Rattle.lossy_link.proofs.LinkLaws.{carry-is, received-most}
use Rattle.lossy_link.proofs.Places.{changed-same, changed-other, same-place}
use Rattle.lossy_link.proofs.LinksLaws.{send-still, carry-sent, carry-received, place-in, next-AreLinks}

-- the links after net lines
unfoldable pub links_after : List Command → NetLinks → List NetLine → NetLinks
links_after commands n [] = n
links_after commands n (l ∷ ls) = links_after commands (next_links commands n l) ls

links-append : (commands : List Command) (n : NetLinks) (ls rest : List NetLine) → links_after commands n (ls ++ rest) ≡ links_after commands (links_after commands n ls) rest
unfolding links_after
links-append commands n [] rest = refl
links-append commands n (l ∷ ls) rest = links-append commands (next_links commands n l) ls rest

-- what was sent stays, and no less is received
pub record Grows (a b : NetLinks) : Type 0 where
  pub sent : (i j : ℕ) → (link_at b.rows i j).sent ≡ (link_at a.rows i j).sent
  pub received : (i j : ℕ) → length (link_at a.rows i j).received ≤ length (link_at b.rows i j).received

grows-not : (a : NetLinks) → Grows a a
grows-not a = record { sent = λ i j. refl; received = λ i j. omega arith }

grows-on : (a b c : NetLinks) → Grows a b → Grows b c → Grows a c
grows-on a b c h k =
    record { sent = λ i j. k.sent i j ∙ h.sent i j; received = λ i j. (let one = h.received i j in let two = k.received i j in omega arith) }

-- a line that sends or carries
abbrev pub Moves : ℕ → NetLine → Type 0
Moves mirrors (Send from to k) = (from < mirrors) × (to < mirrors)
Moves mirrors (Carry from to k) = (from < mirrors) × (to < mirrors)
Moves mirrors l = ⊥

changed-grows :
    (m : MatchData) (n : NetLinks) (f : LinkState → LinkState) (from to : ℕ) → AreLinks m n → from < m.mirrors → to < m.mirrors
    → (f (link_at n.rows from to)).sent ≡ (link_at n.rows from to).sent → length (link_at n.rows from to).received ≤ length (f (link_at n.rows from to)).received
    → Grows n (record n { rows = changed f from to n.rows })
changed-grows m n f from to h a b sent received =
    let place = place-in m n from to h a b in
    record {
      sent = λ i j.
          elim (same-place i j from to) [
            | inl same ↦ subst (λ (x : ℕ). (link_at (changed f from to n.rows) x j).sent ≡ (link_at n.rows x j).sent) (sym same.0)
                (subst (λ (y : ℕ). (link_at (changed f from to n.rows) from y).sent ≡ (link_at n.rows from y).sent) (sym same.1)
                (ap (λ (t : LinkState). t.sent) (changed-same f from to n.rows place) ∙ sent))
            | inr apart ↦ ap (λ (t : LinkState). t.sent) (changed-other f from to n.rows i j place apart)
          ];
      received = λ i j.
          elim (same-place i j from to) [
            | inl same ↦ subst (λ (x : ℕ). length (link_at n.rows x j).received ≤ length (link_at (changed f from to n.rows) x j).received) (sym same.0)
                (subst (λ (y : ℕ). length (link_at n.rows from y).received ≤ length (link_at (changed f from to n.rows) from y).received) (sym same.1)
                (let is = ap (λ (t : LinkState). length t.received) (changed-same f from to n.rows place) in omega arith))
            | inr apart ↦ (let is = ap (λ (t : LinkState). length t.received) (changed-other f from to n.rows i j place apart) in omega arith)
          ];
    }

move-grows : (m : MatchData) (n : NetLinks) (l : NetLine) → AreLinks m n → Moves m.mirrors l → Grows n (next_links m.commands n l)
unfolding next_links
move-grows m n (Send from to k) h a =
    let still = send-still k (link_at n.rows from to) in
    changed-grows m n (after_send k) from to h a.0 a.1 still.sent (let same = ap (λ (xs : List Command). length xs) still.received in omega arith)
move-grows m n (Carry from to k) h a =
    let l = link_at n.rows from to in
    changed-grows m n (after_carry k) from to h a.0 a.1 (carry-sent k l).0
    (let more = ap (λ (xs : List Command). length xs) (carry-received k l) ∙ length-append l.received (brought k l) in omega arith)
move-grows m n l h a = absurd a

pub moves-there : (mirrors : ℕ) (l : NetLine) → Moves mirrors l → IsThere mirrors l
moves-there mirrors (Send from to k) a = a
moves-there mirrors (Carry from to k) a = a
moves-there mirrors l a = absurd a

pub moves-links : (m : MatchData) (n : NetLinks) (ls : List NetLine) → AllByRecursion (Moves m.mirrors) ls
    → AreLinks m n → AreLinks m (links_after m.commands n ls) × Grows n (links_after m.commands n ls)
unfolding links_after
moves-links m n [] a h = (h, grows-not n)
moves-links m n (l ∷ ls) a h =
    let next = next-AreLinks m n l (moves-there m.mirrors l a.0) h in
    let rest = moves-links m (next_links m.commands n l) ls a.1 next in
    (rest.0, grows-on n (next_links m.commands n l) (links_after m.commands (next_links m.commands n l) ls) (move-grows m n l h a.0) rest.1)

-- ---- one packet, sent and carried

-- the packet that is next brings its command
pub sent-brings : (k : ℕ) (l : LinkState) → IsLinked l → k ≡ length l.received → k < length l.sent → length (after_carry k (after_send k l)).received ≡ k + 1
unfolding after_send after_take
sent-brings k l h at below =
    let acked = h.acked in
    let room = h.room in
    let size = h.packet_room in
    let may : is_open l.acked l.sent k ≡ true = grind (arith, nat_tests) in
    let flies : has_flown (set l.packets k true) k ≡ true = get_or-set_same l.packets k true false (omega arith) in
    let same : (k == length l.received) ≡ true = grind (arith, nat_tests) in
    let left : length (drop (length l.received) l.sent) ≡ length l.sent - length l.received = length-drop (length l.received) l.sent in
    let one : length (next_of l) ≡ 1 = length-take 1 (drop (length l.received) l.sent) ∙ omega arith in
    let long = length-append l.received (next_of l) in
    ap (λ (s : LinkState). length s.received) (carry-is k (after_send k l)) ∙ rw (may, flies, same) (omega arith)

link-grown : (m : MatchData) (n : NetLinks) (from to k : ℕ) → AreLinks m n → from < m.mirrors → to < m.mirrors → k ≤ length (link_at n.rows from to).received → k < length (link_at n.rows from to).sent
    → k + 1 ≤ length (link_at (next_links m.commands (next_links m.commands n (Send from to k)) (Carry from to k)).rows from to).received
unfolding next_links
link-grown m n from to k h a b low below =
    let l = link_at n.rows from to in
    let first = record n { rows = changed (after_send k) from to n.rows } in
    let h1 : AreLinks m first = next-AreLinks m n (Send from to k) (a, b) h in
    let at1 = changed-same (after_send k) from to n.rows (place-in m n from to h a b) in
    let at2 = changed-same (after_carry k) from to first.rows (place-in m first from to h1 a b) in
    let is : (link_at (changed (after_carry k) from to first.rows) from to) ≡ after_carry k (after_send k l) = at2 ∙ ap (after_carry k) at1 in
    let long = ap (λ (t : LinkState). length t.received) is in
    elim (cases_eq k (length l.received)) [
      | inl same ↦ (let brought_one = sent-brings k l (h.links from to a b).linked same below in omega arith)
      | inr apart ↦
          (let still = ap (λ (xs : List Command). length xs) (send-still k l).received in
          let more = ap (λ (xs : List Command). length xs) (carry-received k (after_send k l)) ∙ length-append (after_send k l).received (brought k (after_send k l)) in
          omega arith)
    ]

packets-move : (mirrors from to k j : ℕ) → from < mirrors → to < mirrors → AllByRecursion (Moves mirrors) (packet_lines from to k j)
unfolding packet_lines
packets-move mirrors from to k zero a b = tt
packets-move mirrors from to k (suc j) a b = ((a, b), ((a, b), packets-move mirrors from to (k + 1) j a b))

packets-whole :
    (m : MatchData) (n : NetLinks) (from to k j : ℕ) → AreLinks m n → from < m.mirrors → to < m.mirrors
    → k ≤ length (link_at n.rows from to).received → k + j ≡ length (link_at n.rows from to).sent
    → length (link_at n.rows from to).sent ≤ length (link_at (links_after m.commands n (packet_lines from to k j)).rows from to).received
unfolding links_after packet_lines
packets-whole m n from to k zero h a b low all = omega arith
packets-whole m n from to k (suc j) h a b low all =
    let n1 = next_links m.commands n (Send from to k) in
    let n2 = next_links m.commands n1 (Carry from to k) in
    let h1 : AreLinks m n1 = next-AreLinks m n (Send from to k) (a, b) h in
    let h2 : AreLinks m n2 = next-AreLinks m n1 (Carry from to k) (a, b) h1 in
    let grown = grows-on n n1 n2 (move-grows m n (Send from to k) h (a, b)) (move-grows m n1 (Carry from to k) h1 (a, b)) in
    let same = ap (λ (xs : List Command). length xs) (grown.sent from to) in
    let one = link-grown m n from to k h a b low (omega arith) in
    let rest = packets-whole m n2 from to (k + 1) j h2 a b one (omega arith) in
    omega arith

-- ---- a row, and all rows

row-moves : (mirrors from to : ℕ) (row : List LinkState) → from < mirrors → to + length row ≤ mirrors → AllByRecursion (Moves mirrors) (row_lines from to row)
unfolding row_lines
row-moves mirrors from to [] a b = tt
row-moves mirrors from to (l ∷ row) a b =
    all-append (Moves mirrors) (link_lines from to l) (row_lines from (to + 1) row)
    (packets-move mirrors from to (length l.received) (length l.sent - length l.received) a (omega arith)) (row-moves mirrors from (to + 1) row a (omega arith))

-- the links from a mirror stand as in a row, or further
abbrev Stand : NetLinks → ℕ → ℕ → List LinkState → Type 0
Stand n from to row = (j : ℕ) → j < length row
    → ((link_at n.rows from (to + j)).sent ≡ (get_or row j (new_link 0)).sent)
    × (length (get_or row j (new_link 0)).received ≤ length (link_at n.rows from (to + j)).received)

stand-on : (a b : NetLinks) (from to : ℕ) (row : List LinkState) → Grows a b → Stand a from to row → Stand b from to row
stand-on a b from to row grown h =
    λ j below. (grown.sent from (to + j) ∙ (h j below).0, (let before = (h j below).1 in let more = grown.received from (to + j) in omega arith))

-- the first link of a row is emptied
record Head (m : MatchData) (n : NetLinks) (from to : ℕ) (l : LinkState) (row : List LinkState) : Type 0 where
  first : length (link_at n.rows from to).sent ≤ length (link_at (links_after m.commands n (link_lines from to l)).rows from to).received
  links : AreLinks m (links_after m.commands n (link_lines from to l))
  grown : Grows n (links_after m.commands n (link_lines from to l))
  more : Grows (links_after m.commands n (link_lines from to l)) (links_after m.commands (links_after m.commands n (link_lines from to l)) (row_lines from (to + 1) row))

row-head :
    (m : MatchData) (n : NetLinks) (from to : ℕ) (l : LinkState) (row : List LinkState) → AreLinks m n → from < m.mirrors → to + suc (length row) ≤ m.mirrors → Stand n from to (l ∷ row)
    → Head m n from to l row
row-head m n from to l row h a b stand =
    let lines = link_lines from to l in
    let n1 = links_after m.commands n lines in
    let here : to + 0 ≡ to = omega arith in
    let at = subst (λ (t : ℕ). ((link_at n.rows from t).sent ≡ l.sent) × (length l.received ≤ length (link_at n.rows from t).received)) here (stand 0 (omega arith)) in
    let most = received-most (link_at n.rows from to) (h.links from to a (omega arith)).linked in
    let size = ap (λ (xs : List Command). length xs) at.0 in
    let low = at.1 in
    let after_first = moves-links m n lines (packets-move m.mirrors from to (length l.received) (length l.sent - length l.received) a (omega arith)) h in
    record {
      first = packets-whole m n from to (length l.received) (length l.sent - length l.received) h a (omega arith) low (omega arith);
      links = after_first.0;
      grown = after_first.1;
      more = (moves-links m n1 (row_lines from (to + 1) row) (row-moves m.mirrors from (to + 1) row a (omega arith)) after_first.0).1;
    }

row-whole :
    (m : MatchData) (n : NetLinks) (from to : ℕ) (row : List LinkState) → AreLinks m n → from < m.mirrors → to + length row ≤ m.mirrors → Stand n from to row
    → (j : ℕ) → j < length row → length (link_at n.rows from (to + j)).sent ≤ length (link_at (links_after m.commands n (row_lines from to row)).rows from (to + j)).received
unfolding row_lines
row-whole m n from to [] h a b stand j below = absurd (omega arith)
row-whole m n from to (l ∷ row) h a b stand zero below =
    let head = row-head m n from to l row h a b stand in
    let n1 = links_after m.commands n (link_lines from to l) in
    let here : to ≡ to + 0 = omega arith in
    subst (λ (e : NetLinks). length (link_at n.rows from (to + 0)).sent ≤ length
    (link_at e.rows from (to + 0)).received) (sym
    (links-append m.commands n (link_lines from to l) (row_lines from (to + 1) row)))
    (subst (λ (t : ℕ). length (link_at n.rows from t).sent ≤ length (link_at (links_after m.commands n1 (row_lines from (to + 1) row)).rows from t).received) here
    (let first = head.first in let further = head.more.received from to in omega arith))
row-whole m n from to (l ∷ row) h a b stand (suc j) below =
    let head = row-head m n from to l row h a b stand in
    let n1 = links_after m.commands n (link_lines from to l) in
    let here : (to + 1) + j ≡ to + suc j = omega arith in
    let moved : Stand n1 from (to + 1) row =
    λ k under. (let same : to + suc k ≡ (to + 1) + k = omega arith in
    let before = subst (λ (t : ℕ). ((link_at n.rows from t).sent ≡ (get_or row k (new_link 0)).sent)
    × (length (get_or row k (new_link 0)).received ≤ length (link_at n.rows from t).received)) same
    (stand (suc k) (omega arith)) in
    (head.grown.sent from ((to + 1) + k) ∙ before.0, (let more_there = head.grown.received from ((to + 1) + k) in let was = before.1 in omega arith))) in
    let tail = row-whole m n1 from (to + 1) row head.links a (omega arith) moved j (omega arith) in
    let same_sent = ap (λ (xs : List Command). length xs) (head.grown.sent from ((to + 1) + j)) in
    subst (λ (e : NetLinks). length (link_at n.rows from (to + suc j)).sent ≤ length
    (link_at e.rows from (to + suc j)).received) (sym
    (links-append m.commands n (link_lines from to l) (row_lines from (to + 1) row)))
    (subst (λ (t : ℕ). length (link_at n.rows from t).sent ≤ length (link_at (links_after m.commands n1 (row_lines from (to + 1) row)).rows from t).received) here (omega arith))

rows-move : (mirrors from : ℕ) (rows : List (List LinkState)) → from + length rows ≤ mirrors
    → ((i : ℕ) → i < length rows → length (row_at rows i) ≤ mirrors)
    → AllByRecursion (Moves mirrors) (rows_lines from rows)
unfolding rows_lines
rows-move mirrors from [] a b = tt
rows-move mirrors from (row ∷ rows) a b =
    all-append (Moves mirrors) (row_lines from 0 row) (rows_lines (from + 1) rows)
    (row-moves mirrors from 0 row (omega arith) (let long = b 0 (omega arith) in omega arith)) (rows-move mirrors (from + 1) rows (omega arith) (λ i below. b (suc i) (omega arith)))

rows-whole :
    (m : MatchData) (n : NetLinks) (from : ℕ) (rows : List (List LinkState)) → AreLinks m n → from + length rows ≤ m.mirrors
    → ((i : ℕ) → i < length rows → length (row_at rows i) ≤ m.mirrors)
    → ((i : ℕ) → i < length rows → Stand n (from + i) 0 (row_at rows i))
    → (i j : ℕ) → i < length rows → j < length (row_at rows i)
    → length (link_at n.rows (from + i) j).sent ≤ length (link_at (links_after m.commands n (rows_lines from rows)).rows (from + i) j).received
unfolding rows_lines
rows-whole m n from [] h a b stand i j bi bj = absurd (omega arith)
rows-whole m n from (row ∷ rows) h a b stand zero j bi bj =
    let lines = row_lines from 0 row in
    let rest = rows_lines (from + 1) rows in
    let n1 = links_after m.commands n lines in
    let long : length row ≤ m.mirrors = b 0 (omega arith) in
    let here : from + 0 ≡ from = omega arith in
    let first = row-whole m n from 0 row h (omega arith) (omega arith) (subst (λ (f : ℕ). Stand n f 0 row) here (stand 0 (omega arith))) in
    let after_first = moves-links m n lines (row-moves m.mirrors from 0 row (omega arith) (omega arith)) h in
    let behind = moves-links m n1 rest (rows-move m.mirrors (from + 1) rows (omega arith) (λ k below. b (suc k) (omega arith))) after_first.0 in
    let place : 0 + j ≡ j = omega arith in
    let own = subst (λ (t : ℕ). length (link_at n.rows from t).sent ≤ length (link_at n1.rows from t).received) place (first j bj) in
    subst (λ (e : NetLinks). length (link_at n.rows (from + 0) j).sent ≤ length (link_at e.rows (from + 0) j).received) (sym (links-append m.commands n lines rest))
    (subst (λ (f : ℕ). length (link_at n.rows f j).sent ≤ length (link_at (links_after m.commands n1 rest).rows f j).received) (sym here)
    (let further = behind.1.received from j in omega arith))
rows-whole m n from (row ∷ rows) h a b stand (suc i) j bi bj =
    let lines = row_lines from 0 row in
    let rest = rows_lines (from + 1) rows in
    let n1 = links_after m.commands n lines in
    let long : length row ≤ m.mirrors = b 0 (omega arith) in
    let after_first = moves-links m n lines (row-moves m.mirrors from 0 row (omega arith) (omega arith)) h in
    let here : (from + 1) + i ≡ from + suc i = omega arith in
    let moved : (k : ℕ) → k < length rows → Stand n1 ((from + 1) + k) 0 (row_at rows k) =
    λ k under. (let same : from + suc k ≡ (from + 1) + k = omega arith in
    stand-on n n1 ((from + 1) + k) 0 (row_at rows k) after_first.1 (subst (λ (f : ℕ). Stand n f 0 (row_at rows k)) same (stand (suc k) (omega arith)))) in
    let tail = rows-whole m n1 (from + 1) rows after_first.0 (omega arith) (λ k under. b (suc k) (omega arith)) moved i j (omega arith) bj in
    let same_sent = ap (λ (xs : List Command). length xs) (after_first.1.sent ((from + 1) + i) j) in
    subst (λ (e : NetLinks). length (link_at n.rows (from + suc i) j).sent ≤ length (link_at e.rows (from + suc i) j).received) (sym (links-append m.commands n lines rest))
    (subst (λ (f : ℕ). length (link_at n.rows f j).sent ≤ length (link_at (links_after m.commands n1 rest).rows f j).received) here (omega arith))

-- ---- all links are whole

prefix-whole : (l : LinkState) → IsLinked l → length l.sent ≤ length l.received → l.received ≡ l.sent
prefix-whole l h enough =
    let both = ap (λ (xs : List Command). length xs) h.prefix.1 ∙ length-append l.received h.prefix.0 in
    let none : length h.prefix.0 ≡ 0 = omega arith in
    sym (h.prefix.1 ∙ ap (λ (xs : List Command). l.received ++ xs) (empty h.prefix.0 none) ∙ append-nil l.received)
  where
    empty : (xs : List Command) → length xs ≡ 0 → xs ≡ []
    empty [] e = refl
    empty (x ∷ xs) e = absurd (omega arith)

pub left-moves : (m : MatchData) (n : NetLinks) → AreLinks m n → AllByRecursion (Moves m.mirrors) (rows_lines 0 n.rows)
left-moves m n h = rows-move m.mirrors 0 n.rows (let rows = h.rows in omega arith) (λ i below. (let rows = h.rows in let row = h.row i (omega arith) in omega arith))

pub emptied :
    (m : MatchData) (n : NetLinks) → AreLinks m n → (i j : ℕ) → i < m.mirrors → j < m.mirrors
    → (link_at (links_after m.commands n (rows_lines 0 n.rows)).rows i j).received ≡ (link_at (links_after m.commands n (rows_lines 0 n.rows)).rows i j).sent
emptied m n h i j a b =
    let end = links_after m.commands n (rows_lines 0 n.rows) in
    let after_all = moves-links m n (rows_lines 0 n.rows) (left-moves m n h) h in
    let rows = h.rows in
    let row = h.row i a in
    let whole = rows-whole m n 0 n.rows h (omega arith) (λ k below. (let long = h.row k (omega arith) in omega arith))
    (λ k below t under. (let at : 0 + t ≡ t = omega arith in let place : 0 + k ≡ k = omega arith in
    subst (λ (f : ℕ). ((link_at n.rows f (0 + t)).sent ≡ (link_at n.rows k t).sent) × (length (link_at n.rows k t).received ≤ length (link_at n.rows f (0 + t)).received)) (sym place)
    (subst (λ (u : ℕ). ((link_at n.rows k u).sent ≡ (link_at n.rows k t).sent) × (length (link_at n.rows k t).received ≤ length (link_at n.rows k u).received)) (sym at) (refl, omega arith))))
    i j (omega arith) (omega arith) in
    let place : 0 + i ≡ i = omega arith in
    let enough = subst (λ (f : ℕ). length (link_at n.rows f j).sent ≤ length (link_at end.rows f j).received) place whole in
    let same = ap (λ (xs : List Command). length xs) (after_all.1.sent i j) in
    prefix-whole (link_at end.rows i j) (after_all.0.links i j a b).linked (omega arith)
