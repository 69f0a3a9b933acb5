-- What a head opens: the match whose text it is, and no other.
use Rattle.std.proofs.Common.{◌≡◌, ℕ, zero, suc, ◌+◌, ◌≤◌, Bool, true, false, cond, eqb, ltb, List, [], ◌∷◌, ◌++◌, length, Result, Ok, Err, refl, sym, ap, subst, ◌∙◌, append_assoc, append-nil, arith}
use Rattle.std.specs.Prelude.{flat_map, min}
use Rattle.std.specs.List.{AllByRecursion}
use Rattle.std.proofs.lemmas.Bool.{ltb-false}
use Rattle.std.proofs.lemmas.List.{take_all, length-take}
use Rattle.tss_io.specs.declared.cause.Cause.{Cause}
use Rattle.tss_io.specs.declared.cause.Cause.TheVariants.{Long}
use Rattle.tss_io.specs.declared.limits.TheConstants.{LONGEST_LINE}
use Rattle.tss_io.specs.Kinds.{is_long}
use Rattle.tss_io.specs.Lines.{Lines, torn, line, onto, as_line, lines_of, lines_text, text_of}
use Rattle.tss_io.specs.Machines.{reads}
use Rattle.tss_io.specs.Reading.{refused_at}
use Rattle.tss_io.specs.Results.{◌>>=◌}
use Rattle.tss_io.specs.Runs.{ahead, Follows, Stop}
use Rattle.tss_io.proofs.FormLaws.{through}
use Rattle.tss_io.proofs.LineLaws.{text_of-lines_of}
use Rattle.tss_io.proofs.MachineLaws.{lines_whole}
use Rattle.tss_io.proofs.Results.{guard_then, unless_ok}
use Rattle.tss_io.proofs.RunLaws.{is_end_takes}
use Rattle.tss_io.proofs.RunToLaws.{to_takes}
use Rattle.tss_io.proofs.Spaced.{Lacks}
use Rattle.game_trait.specs.Run.{IsPrefix}
use Rattle.report_text.specs.Ends.{refused_text}
use Rattle.line_talk.specs.Hearing.{Hearing, hear, told_of, hear_each, told_of_each, fresh, kept}
use Rattle.line_talk.specs.Talk.{IsTorn}
use Rattle.line_talk.proofs.HearingLaws.{hear-over, hear-fresh, hear-each, told-each}
use Rattle.match_data.specs.Data.{MatchData, IsMatch}
use Rattle.match_file.specs.Around.{Around, first_due, in_match, behind, read_around}
use Rattle.match_file.specs.Reading.{read_text}
use Rattle.match_file.specs.Text.{match_lines, match_text}
use Rattle.match_file.proofs.AroundLaws.{ExactTail, around_again, around_exact, around_said, match_lacks, reads_is}
use Rattle.match_file.proofs.TextLaws.{whole_found, whole_read}
use Rattle.live_talk.specs.Head.{Place, heading, asking, refused, head_machine, head_told, led_to, after_head, nothing_behind, opening_headed}
use Rattle.live_talk.specs.Lines.{next_line, ok_line}
use Rattle.live_talk.specs.Talked.{Asking, AskedState, TalkState, asked_way, talk_from, talk_kind}
use Rattle.live_talk.proofs.AlongLaws.{IsHead}

-- nothing comes behind a head
nothing : ExactTail nothing_behind tt (λ _ _. Unit {0}) (λ _ _. [])
nothing = record {
  exact = λ m is. record { says = λ s l t _ short e. absurd cc; fault = λ s l _. refl };
  starts = λ m is. tt;
  nothing = λ m. refl;
}

-- ---- lines

-- a line without a newline
lacks-torn : (l : List ℕ) → IsTorn l → Lacks 10 l
unfolding lines_of
lacks-torn [] e = tt
lacks-torn (b ∷ l) e =
    elim (eqb b 10) as (λ t. eqb b 10 ≡ t → cond t (line [] (lines_of l)) (onto b (lines_of l)) ≡ torn (b ∷ l) → (eqb b 10 ≡ false) × Lacks 10 l) [
      | true ↦ λ is f. absurd cc
      | false ↦ λ is f. (is, lacks-torn l (behind-onto b l (lines_of l) f))
    ] refl e
  where
    rest : Lines → List ℕ
    rest (torn []) = []
    rest (torn (b ∷ bytes)) = bytes
    rest (line l more) = []

    behind-onto : (b : ℕ) (l : List ℕ) (lines : Lines) → onto b lines ≡ torn (b ∷ l) → lines ≡ torn l
    behind-onto b l (torn bytes) e = ap (λ (ls : Lines). torn (rest ls)) e
    behind-onto b l (line k more) e = absurd cc

-- the lines, each of which ended
lines_in : Lines → List (List ℕ)
lines_in (torn bytes) = []
lines_in (line l rest) = l ∷ lines_in rest

lines_in-ahead : (lines : List (List ℕ)) → lines_in (ahead lines (torn [])) ≡ lines
unfolding ahead lines_in
lines_in-ahead [] = refl
lines_in-ahead (l ∷ lines) = ap (λ (ls : List (List ℕ)). l ∷ ls) (lines_in-ahead lines)

-- a short line is looked at whole, and what is looked at of a long one is too long
kept-short : (l : List ℕ) → is_long l ≡ false → kept l ≡ l
kept-short l e = let s = ltb-false LONGEST_LINE (length l) e in take_all (LONGEST_LINE + 1) l (omega (arith, s))

short-kept : (l : List ℕ) → is_long (kept l) ≡ false → kept l ≡ l
short-kept l e =
    let s = ltb-false LONGEST_LINE (length (kept l)) e in
    let t = length-take (LONGEST_LINE + 1) l in
    take_all (LONGEST_LINE + 1) l (omega (arith, s, t))

-- ---- numbers of lines

-- the number of a line, so many lines on
counted : ℕ → ℕ → ℕ
counted n zero = n
counted n (suc k) = counted (next_line n) k

counted-is : (n k : ℕ) → n ≤ 4294967295 → counted n k ≡ min (n + k) 4294967295
unfolding counted
counted-is n zero small = omega (arith, small)
counted-is n (suc k) small =
    let more = counted-is (next_line n) k (omega arith) in
    more ∙ omega (arith, small)

-- ---- the lines of a head

module _ {S : Type 0} (a : Asking S) (number : ℕ) where
  -- at this line of the head
  abbrev at_line : ℕ → Around (Unit {0}) → AskedState S
  at_line n at = record { number = number; place = heading n at }

  -- where the lines of the head lead that were read
  abbrev behind_lines : ℕ → Around (Unit {0}) → Result (Place (TalkState S)) Cause
  behind_lines n at = led_to (talk_kind a) number n at

  abbrev standing : Result (Place (TalkState S)) Cause → AskedState S
  standing r = record { number = number; place = after_head r }

  abbrev take_head : Around (Unit {0}) → List ℕ → Result (Around (Unit {0})) Cause
  take_head at l = (head_machine a.first_line).take at l

  abbrev is_whole : Around (Unit {0}) → Bool
  is_whole at = (head_machine a.first_line).is_last at

  goes-on : (n : ℕ) (at : Around (Unit {0})) → is_whole at ≡ false → behind_lines n at ≡ Ok (heading n at)
  goes-on n first_due e = refl
  goes-on n (in_match b) e = refl
  goes-on n (behind m t) e = absurd cc

  -- one good line
  hear-one : (n : ℕ) (at to : Around (Unit {0})) (l : List ℕ) (rest : Lines) → is_long l ≡ false → take_head at l ≡ Ok to
      → hear (asked_way a) (fresh (at_line n at)) (line l rest) ≡ hear (asked_way a) (fresh (standing (behind_lines (next_line n) to))) rest
  unfolding hear
  hear-one n at to l rest short e = let k = kept-short l short in rw (k, short, e) refl

  tell-one : (n : ℕ) (at to : Around (Unit {0})) (l : List ℕ) (rest : Lines) → is_long l ≡ false → take_head at l ≡ Ok to
      → told_of (asked_way a) (fresh (at_line n at)) (line l rest)
      ≡ head_told n (behind_lines (next_line n) to) ++ told_of (asked_way a) (fresh (standing (behind_lines (next_line n) to))) rest
  unfolding told_of
  tell-one n at to l rest short e = let k = kept-short l short in rw (k, short, e) refl

  -- good lines up to the last of the head
  hear-lines : (n : ℕ) (at to : Around (Unit {0})) (l : List ℕ) (front : List (List ℕ)) → Follows take_head is_whole at (l ∷ front) to → is_whole to ≡ true
      → hear (asked_way a) (fresh (at_line n at)) (ahead (l ∷ front) (torn [])) ≡ fresh (standing (behind_lines (counted (next_line n) (length front)) to))
  unfolding Follows ahead counted
  hear-lines n at to l [] good last =
      hear-one n at good.2 l (torn []) good.1 good.3 ∙ ap (λ (t : Around (Unit {0})). hear (asked_way a) (fresh (standing (behind_lines (next_line n) t))) (torn [])) good.4
      ∙ hear-fresh (asked_way a) (standing (behind_lines (next_line n) to))
  hear-lines n at to l (k ∷ front) good last =
      hear-one n at good.2 l (ahead (k ∷ front) (torn [])) good.1 good.3
      ∙ ap (λ (r : Result (Place (TalkState S)) Cause). hear (asked_way a) (fresh (standing r)) (ahead (k ∷ front) (torn []))) (goes-on (next_line n) good.2 good.4.0)
      ∙ hear-lines (next_line n) good.2 to k front good.4 last

  tell-lines : (n : ℕ) (at to : Around (Unit {0})) (l : List ℕ) (front : List (List ℕ)) → Follows take_head is_whole at (l ∷ front) to → is_whole to ≡ true
      → told_of (asked_way a) (fresh (at_line n at)) (ahead (l ∷ front) (torn []))
      ≡ head_told (counted n (length front)) (behind_lines (counted (next_line n) (length front)) to)
  unfolding Follows ahead counted told_of
  tell-lines n at to l [] good last =
      tell-one n at good.2 l (torn []) good.1 good.3 ∙ append-nil (head_told n (behind_lines (next_line n) good.2)) ∙ ap (λ (t : Around (Unit {0})). head_told n (behind_lines (next_line n) t)) good.4
  tell-lines n at to l (k ∷ front) good last =
      tell-one n at good.2 l (ahead (k ∷ front) (torn [])) good.1 good.3
      ∙ ap (λ (r : Result (Place (TalkState S)) Cause). head_told n r ++ told_of (asked_way a) (fresh (standing r)) (ahead (k ∷ front) (torn []))) (goes-on (next_line n) good.2 good.4.0)
      ∙ tell-lines (next_line n) good.2 to k front good.4 last

  -- ---- the head of a match

  abbrev head_lines : MatchData → List (List ℕ)
  head_lines m = a.first_line ∷ match_lines m

  abbrev head_text : MatchData → List ℕ
  head_text m = as_line a.first_line ++ match_text m

  text-is : (m : MatchData) → lines_text (head_lines m) ≡ head_text m
  unfolding lines_text
  text-is m = refl

  head-lacks : (m : MatchData) → IsTorn a.first_line → IsMatch m → AllByRecursion (Lacks 10) (head_lines m)
  head-lacks m one is = (lacks-torn a.first_line one, match_lacks m is)

  head-lines : (m : MatchData) → IsTorn a.first_line → IsMatch m → lines_of (head_text m) ≡ ahead (head_lines m) (torn [])
  head-lines m one is = ap lines_of (sym (text-is m)) ∙ lines_whole (head_lines m) (head-lacks m one is)

  -- its lines are good ones
  head-reads : (m : MatchData) → IsTorn a.first_line → is_long a.first_line ≡ false → IsMatch m → reads (length (head_text m)) (head_machine a.first_line) first_due (head_text m) ≡ Ok (behind m tt)
  unfolding Follows
  head-reads m one short is =
      let none = append-nil (match_lines m) in
      let again = around_again (length (head_text m)) a.first_line nothing_behind tt m [] tt short (lacks-torn a.first_line one) is tt
      (rw (none, text-is m) (omega arith)) refl refl in
      let read : read_around (length (head_text m)) a.first_line nothing_behind tt (head_text m) ≡ Ok (m, tt) =
      subst (λ (text : List ℕ). read_around (length (head_text m)) a.first_line nothing_behind tt text ≡ Ok (m, tt)) (ap (λ (ls : List (List ℕ)). lines_text (a.first_line ∷ ls)) none ∙ text-is m) again in
      reads_is (length (head_text m)) a.first_line nothing_behind tt (head_text m) ∙ rw read refl

  head-follows : (m : MatchData) → IsTorn a.first_line → is_long a.first_line ≡ false → IsMatch m → Follows take_head is_whole first_due (head_lines m) (behind m tt)
  unfolding reads
  head-follows m one short is =
      let g = guard_then (ltb (length (head_text m)) (length (head_text m))) (refused_at 0 Long) _ (behind m tt) (head-reads m one short is) in
      through _ _ _ g.1 (λ (stop : Stop (Around (Unit {0}))) stop_is e.
      let end = unless_ok _ _ _ _ e in
      let r = to_takes take_head is_whole 1 first_due (lines_of (head_text m)) stop stop_is in
      let rest : stop.rest ≡ torn [] = is_end_takes stop.rest end.0 in
      let same : r.front ≡ head_lines m = sym (lines_in-ahead r.front) ∙ ap lines_in (ap (ahead r.front) (sym rest) ∙ sym r.whole ∙ head-lines m one is) ∙ lines_in-ahead (head_lines m) in
      subst (λ (t : Around (Unit {0})). Follows take_head is_whole first_due (head_lines m) t) end.1
      (subst (λ (front : List (List ℕ)). Follows take_head is_whole first_due front stop.state) same r.good))

  -- the numbers of its last line, and of the next one
  abbrev last_number : MatchData → ℕ
  last_number m = min (1 + length (match_lines m)) 4294967295

  abbrev next_number : MatchData → ℕ
  next_number m = min (2 + length (match_lines m)) 4294967295

  last-number : (m : MatchData) → counted 1 (length (match_lines m)) ≡ last_number m
  last-number m = counted-is 1 (length (match_lines m)) (omega arith)

  next-number : (m : MatchData) → counted (next_line 1) (length (match_lines m)) ≡ next_number m
  next-number m = let two : next_line 1 ≡ 2 = omega arith in counted-is (next_line 1) (length (match_lines m)) (omega arith) ∙ rw two refl

  head-heard : (m : MatchData) → IsTorn a.first_line → is_long a.first_line ≡ false → IsMatch m
      → hear (asked_way a) (fresh (opening_headed number)) (lines_of (head_text m)) ≡ fresh (standing (behind_lines (next_number m) (behind m tt)))
  head-heard m one short is =
      ap (hear (asked_way a) (fresh (at_line 1 first_due))) (head-lines m one is) ∙ hear-lines 1 first_due (behind m tt) a.first_line (match_lines m) (head-follows m one short is) refl
      ∙ ap (λ (n : ℕ). fresh (standing (behind_lines n (behind m tt)))) (next-number m)

  head-told : (m : MatchData) → IsTorn a.first_line → is_long a.first_line ≡ false → IsMatch m
      → told_of (asked_way a) (fresh (opening_headed number)) (lines_of (head_text m)) ≡ head_told (last_number m) (behind_lines (next_number m) (behind m tt))
  head-told m one short is =
      ap (told_of (asked_way a) (fresh (at_line 1 first_due))) (head-lines m one is) ∙ tell-lines 1 first_due (behind m tt) a.first_line (match_lines m) (head-follows m one short is) refl
      ∙ ap (λ (n : ℕ). head_told n (behind_lines (counted (next_line 1) (length (match_lines m))) (behind m tt))) (last-number m)
      ∙ ap (λ (n : ℕ). head_told (last_number m) (behind_lines n (behind m tt))) (next-number m)

  -- ---- no other

  abbrev so_far : Around (Unit {0}) → List ℕ
  so_far at = around_said a.first_line (λ _ _. []) at

  -- a text begins with the head of a match that opens this mirror
  abbrev Opener : List ℕ → Type 0
  Opener bytes = (m : MatchData) × (s : S) × IsMatch m × (a.begun m number ≡ Ok s) × IsPrefix (head_text m) bytes

  never : {P : Type 0} (c : Cause) (rest : Lines) (t : TalkState S) → (hear (asked_way a) (fresh (standing (Err c))) rest).state.place ≡ asking t → P
  never c rest t e =
      let over : refused ≡ asking t = sym (ap (λ (h : Hearing (AskedState S)). h.state.place) (hear-over (asked_way a) (fresh (standing (Err c))) rest refl)) ∙ e in
      absurd cc

  begun-at : (n : ℕ) (m : MatchData) (rest : Lines) (t : TalkState S) (r : Result S Cause) → IsMatch m → a.begun m number ≡ r
      → (hear (asked_way a) (fresh (standing ((r >>= λ s. Ok (talk_from s n)) >>= λ u. Ok (asking u)))) rest).state.place ≡ asking t → Opener (so_far (behind m tt) ++ text_of rest)
  begun-at n m rest t (Ok s) is begun e =
      (m, s, is, begun, (text_of rest, ap (λ (x : List ℕ). (as_line a.first_line ++ x) ++ text_of rest) (append-nil (match_text m))))
  begun-at n m rest t (Err c) is begun e = never c rest t e

  opened-at : (n : ℕ) (to : Around (Unit {0})) (rest : Lines) (t : TalkState S) → IsHead to
      → ((hear (asked_way a) (fresh (at_line n to)) rest).state.place ≡ asking t → Opener (so_far to ++ text_of rest))
      → (hear (asked_way a) (fresh (standing (behind_lines n to))) rest).state.place ≡ asking t → Opener (so_far to ++ text_of rest)
  opened-at n first_due rest t is further e = further e
  opened-at n (in_match b) rest t is further e = further e
  opened-at n (behind m u) rest t is further e = begun-at n m rest t (a.begun m number) is.0 refl e

  opens-along : (lines : Lines) (n : ℕ) (at : Around (Unit {0})) (t : TalkState S) → IsHead at → (hear (asked_way a) (fresh (at_line n at)) lines).state.place ≡ asking t → Opener (so_far at ++ text_of lines)
  unfolding hear text_of
  opens-along (torn bytes) n at t is e = absurd cc
  opens-along (line l rest) n at t is e =
      elim (is_long (kept l)) as (λ long. is_long (kept l) ≡ long
      → (hear (asked_way a) (fresh (standing (cond long (Err Long) (take_head at (kept l) >>= λ read. behind_lines (next_line n) read)))) rest).state.place ≡ asking t → Opener (so_far at ++ (as_line l ++ text_of rest))) [
        | true ↦ λ _ e. never Long rest t e
        | false ↦ λ short e.
            elim (take_head at (kept l)) as (λ r. take_head at (kept l) ≡ r
            → (hear (asked_way a) (fresh (standing (r >>= λ read. behind_lines (next_line n) read))) rest).state.place ≡ asking t → Opener (so_far at ++ (as_line l ++ text_of rest))) [
              | Ok to ↦ λ took e.
                  let k = (around_exact a.first_line nothing).says at (kept l) to is short took in
                  let whole : so_far to ++ text_of rest ≡ so_far at ++ (as_line l ++ text_of rest) =
                  ap (λ (x : List ℕ). x ++ text_of rest) k.0 ∙ ap (λ (x : List ℕ). (so_far at ++ as_line x) ++ text_of rest) (short-kept l short) ∙ append_assoc (so_far at) (as_line l) (text_of rest) in
                  subst Opener whole (opened-at (next_line n) to rest t k.1 (λ f. opens-along rest (next_line n) to t k.1 f) e)
              | Err c ↦ λ _ e. never c rest t e
            ] refl e
      ] refl e

  opened-by : (bytes : List ℕ) (t : TalkState S) → (hear (asked_way a) (fresh (opening_headed number)) (lines_of bytes)).state.place ≡ asking t → Opener bytes
  opened-by bytes t e = subst Opener (text_of-lines_of bytes) (opens-along (lines_of bytes) 1 first_due t tt e)

  -- ---- as texts are read

  abbrev opening_place : ℕ → Result S Cause → Result (Place (TalkState S)) Cause
  opening_place n r = (r >>= λ s. Ok (talk_from s n)) >>= λ u. Ok (asking u)

  -- in pieces
  in-pieces : (m : MatchData) (text : List ℕ) (pieces : List (List ℕ)) (r : Result S Cause) → IsTorn a.first_line → is_long a.first_line ≡ false → read_text text ≡ Ok m → a.begun m number ≡ r
      → flat_map (λ piece. piece) pieces ≡ as_line a.first_line ++ text
      → (hear_each (asked_way a) (fresh (opening_headed number)) pieces ≡ fresh (standing (opening_place (next_number m) r)))
      × (told_of_each (asked_way a) (fresh (opening_headed number)) pieces ≡ head_told (last_number m) (opening_place (next_number m) r))
  in-pieces m text pieces r one short read begun whole =
      let is = whole_found text m read in
      let bytes : flat_map (λ piece. piece) pieces ≡ head_text m = whole ∙ ap (λ (t : List ℕ). as_line a.first_line ++ t) is.1 in (
        hear-each (asked_way a) (opening_headed number) pieces ∙ ap (λ (x : List ℕ). hear (asked_way a) (fresh (opening_headed number)) (lines_of x)) bytes
            ∙ head-heard m one short is.0 ∙ ap (λ (q : Result S Cause). fresh (standing (opening_place (next_number m) q))) begun,
        told-each (asked_way a) (opening_headed number) pieces ∙ ap (λ (x : List ℕ). told_of (asked_way a) (fresh (opening_headed number)) (lines_of x)) bytes
            ∙ head-told m one short is.0 ∙ ap (λ (q : Result S Cause). head_told (last_number m) (opening_place (next_number m) q)) begun,
      )

  pub opens : (m : MatchData) (s : S) (text : List ℕ) (pieces : List (List ℕ)) → IsTorn a.first_line → is_long a.first_line ≡ false → read_text text ≡ Ok m → a.begun m number ≡ Ok s
      → flat_map (λ piece. piece) pieces ≡ as_line a.first_line ++ text
      → (hear_each (asked_way a) (fresh (opening_headed number)) pieces
      ≡ fresh (record { number = number; place = asking (record { session = s; line = min (2 + length (match_lines m)) 4294967295; is_over = false }) }))
      × (told_of_each (asked_way a) (fresh (opening_headed number)) pieces ≡ ok_line)
  opens m s text pieces one short read begun whole = in-pieces m text pieces (Ok s) one short read begun whole

  pub turns-away : (m : MatchData) (cause : Cause) (text : List ℕ) (pieces : List (List ℕ)) → IsTorn a.first_line → is_long a.first_line ≡ false → read_text text ≡ Ok m → a.begun m number ≡ Err cause
      → flat_map (λ piece. piece) pieces ≡ as_line a.first_line ++ text
      → (hear_each (asked_way a) (fresh (opening_headed number)) pieces ≡ fresh (record { number = number; place = refused }))
      × (told_of_each (asked_way a) (fresh (opening_headed number)) pieces ≡ refused_text (refused_at (min (1 + length (match_lines m)) 4294967295) cause))
  turns-away m cause text pieces one short read begun whole = in-pieces m text pieces (Err cause) one short read begun whole

  pub opened-only : (bytes : List ℕ) (t : TalkState S) → (hear (asked_way a) (fresh (opening_headed number)) (lines_of bytes)).state.place ≡ asking t
      → (text : List ℕ) × (m : MatchData) × (s : S) × (read_text text ≡ Ok m) × (a.begun m number ≡ Ok s) × IsPrefix (as_line a.first_line ++ text) bytes
  opened-only bytes t e = let o = opened-by bytes t e in (match_text o.0, o.0, o.1, whole_read o.0 o.2, o.3, o.4)
