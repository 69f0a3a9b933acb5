-- The lines behind the match, both ways.
use Rattle.std.proofs.Common.{◌≡◌, ℕ, ◌+◌, ◌-◌, ◌<◌, ◌≤◌, Bool, true, false, eqb, ltb, List, [], ◌∷◌, ◌++◌, length, map, Ok, Err, refl, sym, ap, subst, ◌∙◌}
use Rattle.std.proofs.Common.{append_assoc, append-nil, length-append, arith, lit<, lit≤}
use Rattle.std.specs.Prelude.{not}
use Rattle.std.specs.List.{AllByRecursion}
use Rattle.std.proofs.lemmas.Bool.{and_parts, eqb-true, ltb-true, lt-ltb, le-ltb}
use Rattle.std.proofs.lemmas.List.{map-append}
use Rattle.game_trait.specs.declared.limits.TheConstants.{GREATEST_NET_NUMBER}
use Rattle.tss_io.specs.declared.cause.Cause.TheVariants.{Shape}
use Rattle.tss_io.specs.Lines.{words_of, as_line, lines_text}
use Rattle.tss_io.specs.Forms.{front_at, last_at}
use Rattle.tss_io.specs.Kinds.{Kind, Sound, is_long, step}
use Rattle.tss_io.specs.Machines.{take_by, take_words, take_whole}
use Rattle.tss_io.specs.Runs.{Follows}
use Rattle.tss_io.proofs.AboveLaws.{not_above}
use Rattle.tss_base.proofs.ListLaws.{all_push}
use Rattle.tss_io.proofs.FormLaws.{number_exact}
use Rattle.tss_io.proofs.Lengths.{section_length}
use Rattle.tss_io.proofs.KindLaws.{ExactKind, line_text, line_fits, line_length}
use Rattle.tss_io.proofs.MachineLaws.{Said, in_text, table_exact}
use Rattle.tss_io.proofs.Printing.{lines_text-append}
use Rattle.tss_io.proofs.RunLaws.{follows_more}
use Rattle.tss_base.proofs.ListLaws.{all_append}
use Rattle.tss_io.proofs.Spaced.{Lacks, Lacks-spaced}
use Rattle.tss_io.proofs.TableLaws.{ExactTable, entry_exact, alone_exact, entry_again, not_this}
use Rattle.match_data.specs.Data.{MatchData, IsMatch}
use Rattle.match_file.proofs.AroundLaws.{ExactTail}
use Rattle.game_trait.specs.declared.limits.TheConstants.{MOST_NET_LINES}
use Rattle.lossy_text.specs.declared.net_line.NetLine.{NetLine}
use Rattle.lossy_text.specs.declared.net_line.NetLine.TheVariants.{Issue, Send, Carry, Ack, Hear, Turn}
use Rattle.lossy_text.specs.declared.tail.Stage.{Stage}
use Rattle.lossy_text.specs.declared.tail.Stage.TheVariants.{NetDue, InNet, Done}
use Rattle.lossy_text.specs.declared.tail.Tail.{Tail}
use Rattle.lossy_text.specs.Data.{IsLink, IsNetLine}
use Rattle.lossy_text.specs.Kinds.{is_net_due, is_in_net, is_done, no_tail, is_event_due, is_end_due, with_line, net_kind, net_table, is_last, net_machine}
use Rattle.lossy_text.specs.Text.{count_line, net_line, last_line, net_lines}
use Rattle.lossy_text.proofs.ExactKinds.{NetFits, LinkFits, PacketFits, net_exact, issue_exact, send_exact, carry_exact, ack_exact, hear_exact, turn_exact}

-- ---- what was read

net_due_is : (stage : Stage) → is_net_due stage ≡ true → stage ≡ NetDue
net_due_is NetDue h = refl
net_due_is InNet h = absurd cc
net_due_is Done h = absurd cc

in_net_is : (stage : Stage) → is_in_net stage ≡ true → stage ≡ InNet
in_net_is NetDue h = absurd cc
in_net_is InNet h = refl
in_net_is Done h = absurd cc

done_is : (stage : Stage) → is_done stage ≡ true → stage ≡ Done
done_is NetDue h = absurd cc
done_is InNet h = absurd cc
done_is Done h = refl

-- what is always true of what was read
pub record IsTail (m : MatchData) (t : Tail) : Type 0 where
  pub few : length t.lines + t.left ≤ MOST_NET_LINES
  pub each : AllByRecursion (IsNetLine m) t.lines
  pub fresh : is_net_due t.stage ≡ true → t.lines ≡ []
  pub whole : is_done t.stage ≡ true → t.left ≡ 0

abbrev stage_said : Stage → ℕ → List NetLine → List (List ℕ)
stage_said NetDue count lines = []
stage_said InNet count lines = count_line count ∷ map net_line lines
stage_said Done count lines = count_line count ∷ (map net_line lines ++ last_line ∷ [])

abbrev pub tail_said : MatchData → Tail → List (List ℕ)
tail_said m t = stage_said t.stage (length t.lines + t.left) t.lines

abbrev Says : MatchData → Tail → List ℕ → Tail → Type 0
Says m t l u = Said (IsTail m) (tail_said m) t l u

-- ---- each line says itself

event_says : (m : MatchData) (t : Tail) (x : NetLine) → IsTail m t → is_event_due t ≡ true → IsNetLine m x → Says m t (net_line x) (with_line t x)
event_says m t x is due fit =
    let at = and_parts (is_in_net t.stage) _ due in
    let stage = in_net_is t.stage at.0 in
    let some : 0 < t.left = ltb-true _ _ at.1 in
    let count : length (t.lines ++ x ∷ []) + (t.left - 1) ≡ length t.lines + t.left = omega (arith, length-append t.lines (x ∷ [])) in
    let few = is.few in (
      rw (stage, count) (ap (λ (ls : List (List ℕ)). count_line (length t.lines + t.left) ∷ ls) (map-append net_line t.lines (x ∷ []))),
      record {
        few = omega (arith, count);
        each = all_push (IsNetLine m) t.lines x is.each fit;
        fresh = λ h. absurd (let k : is_net_due t.stage ≡ false = rw stage refl in cc);
        whole = λ h. absurd (let k : is_done t.stage ≡ false = rw stage refl in cc);
      },
    )

net_says : (m : MatchData) (t : Tail) (count : ℕ) → IsTail m t → is_net_due t.stage ≡ true → count ≤ MOST_NET_LINES → Says m t (count_line count) (record t { stage = InNet; left = count })
net_says m t count is due few =
    let none = is.fresh due in
    let stage = net_due_is t.stage due in
    let from_none : 0 + count ≡ count = omega arith in
    (rw (stage, none, from_none) refl, record { few = rw none (omega (arith, few)); each = is.each; fresh = λ h. absurd cc; whole = λ h. absurd cc })

end_says : (m : MatchData) (t : Tail) → IsTail m t → is_end_due t ≡ true → Says m t last_line (record t { stage = Done })
end_says m t is due =
    let at = and_parts (is_in_net t.stage) _ due in
    let stage = in_net_is t.stage at.0 in
    let none : t.left ≡ 0 = eqb-true t.left 0 at.1 in
    (rw stage refl, record { few = is.few; each = is.each; fresh = λ h. absurd cc; whole = λ _. none })

-- two numbers that a test tells apart
differ_is : (b : Bool) → not b ≡ true → b ≡ false
differ_is true h = absurd cc
differ_is false h = refl

differ_again : (b : Bool) → b ≡ false → not b ≡ true
differ_again b h = rw h refl

-- a mirror up to the last is there
there : (m : MatchData) → IsMatch m → (n : ℕ) → n ≤ m.mirrors - 1 → n < m.mirrors
there m is n h = let some = is.mirrors.0 in omega arith

link_is : (m : MatchData) → IsMatch m → (from to : ℕ) → from ≤ m.mirrors - 1 → to ≤ m.mirrors - 1 → not (eqb from to) ≡ true → IsLink m from to
link_is m is from to f t d = record { sender = there m is from f; receiver = there m is to t; differ = differ_is (eqb from to) d }

net_table_exact : (m : MatchData) → IsMatch m → ExactTable (IsTail m) (Says m) (net_table m)
net_table_exact m is = record {
  wholes = (alone_exact last_line is_end_due (λ t. record t { stage = Done }) (end_says m), tt);
  entries = (
    entry_exact (issue_exact m is) (λ t a h s. event_says m t (Issue a.0 a.1) h s.stands (there m is a.0 s.fits.0.1, s.fits.1.1, s.tests.0)),
    (
      entry_exact (send_exact m is) (λ t a h s. event_says m t (Send a.0 a.1.0 a.1.1) h s.stands (link_is m is a.0 a.1.0 s.fits.0.1 s.fits.1.0.1 s.tests.0, s.fits.1.1.1)),
      (
        entry_exact (carry_exact m is) (λ t a h s. event_says m t (Carry a.0 a.1.0 a.1.1) h s.stands (link_is m is a.0 a.1.0 s.fits.0.1 s.fits.1.0.1 s.tests.0, s.fits.1.1.1)),
        (
          entry_exact (ack_exact m is) (λ t a h s. event_says m t (Ack a.0 a.1) h s.stands (link_is m is a.0 a.1 s.fits.0.1 s.fits.1.1 s.tests.0)),
          (
            entry_exact (hear_exact m is) (λ t a h s. event_says m t (Hear a.0 a.1.0 a.1.1) h s.stands (link_is m is a.0 a.1.0 s.fits.0.1 s.fits.1.0.1 s.tests.0, s.fits.1.1.1)),
            (
              entry_exact (turn_exact m is) (λ t a h s. event_says m t (Turn a) h s.stands (there m is a s.fits.1)),
              (entry_exact net_exact (λ t count h s. net_says m t count h s.stands s.fits.1), tt),
            ),
          ),
        ),
      ),
    ),
  );
}

pub net_tail : ExactTail net_machine no_tail IsTail (λ m t. lines_text (tail_said m t))
unfolding lines_text
net_tail = record {
  exact = λ m is. in_text (table_exact (net_table m) is_last (net_table_exact m is));
  starts = λ m is. record { few = lit≤ tt; each = tt; fresh = λ _. refl; whole = λ h. absurd cc };
  nothing = λ m. refl;
}

-- what was read to its end
pub said_whole : (m : MatchData) (t : Tail) → IsTail m t → is_done t.stage ≡ true → (tail_said m t ≡ net_lines t.lines) × (length t.lines ≤ MOST_NET_LINES)
said_whole m t is last =
    let none = is.whole last in
    let stage = done_is t.stage last in
    let count : length t.lines + t.left ≡ length t.lines = omega (arith, none) in
    let few = is.few in
    (rw (stage, count) refl, omega arith)

-- ---- what is written is taken

alone_done : front_at (words_of last_line) ≡ Err Shape
unfolding front_at words_of
alone_done = refl

pub record Item (m : MatchData) (t : Tail) (x : NetLine) : Type 0 where
  pub short : length (net_line x) ≤ 16
  pub lacks : Lacks 10 (net_line x)
  pub taken : take_by (net_table m) t (net_line x) ≡ Ok (with_line t x)

-- what a kind writes
kind_item : {R A : Type 0} {k : Kind Tail R A Tail} {Fits : Tail → A → Type 0} (m : MatchData) (x : ExactKind k Fits)
    (t : Tail) (a : A) (e : NetLine) → Sound k Fits t a → line_text k t a ≡ net_line e → k.put t a ≡ with_line t e
    → length k.keyword + x.longest a ≤ 16 → take_words (net_table m).entries t k.keyword ((k.form t).words a) ≡ step k t ((k.form t).words a) → Item m t e
kind_item {k = k} m x t a e h line put short led = record {
  short = let s = line_length x t a h in let same = ap length line in omega (arith, s, short, same);
  lacks = subst (Lacks 10) line (Lacks-spaced _ (line_fits x t a h));
  taken = subst (λ (l : List ℕ). take_by (net_table m) t l ≡ Ok (with_line t e)) line (entry_again (net_table m) x t a h (not_this x t a h last_line alone_done, tt) led ∙ ap Ok put);
}

link_fits : (m : MatchData) (t : Tail) (from to : ℕ) → IsLink m from to → LinkFits m t (from, to)
link_fits m t from to h = let f = h.sender in let k = h.receiver in ((omega arith, omega arith), (omega arith, omega arith))

packet_fits : (m : MatchData) (t : Tail) (from to n : ℕ) → IsLink m from to → n ≤ GREATEST_NET_NUMBER → PacketFits m t (from, (to, n))
packet_fits m t from to n h small = let f = h.sender in let k = h.receiver in ((omega arith, omega arith), ((omega arith, omega arith), (omega arith, small)))

pub item : (m : MatchData) → IsMatch m → (t : Tail) (x : NetLine) → is_event_due t ≡ true → IsNetLine m x → Item m t x
unfolding take_words issue_exact send_exact carry_exact ack_exact hear_exact turn_exact
item m is t (Issue from number) due fit =
    let f = fit.0 in
    kind_item m (issue_exact m is) t (from, number) (Issue from number)
    (record {
      stands = due;
      fits = ((omega arith, omega arith), (omega arith, fit.1));
      room = refl;
      tests = (fit.2, tt);
    }) refl refl (lit≤ tt) refl
item m is t (Send from to packet) due fit =
    kind_item m (send_exact m is) t (from, (to, packet)) (Send from to packet)
    (record {
      stands = due;
      fits = packet_fits m t from to packet fit.0 fit.1;
      room = refl;
      tests = (differ_again (eqb from to) fit.0.differ, tt);
    }) refl refl (lit≤ tt) refl
item m is t (Carry from to packet) due fit =
    kind_item m (carry_exact m is) t (from, (to, packet)) (Carry from to packet)
    (record {
      stands = due;
      fits = packet_fits m t from to packet fit.0 fit.1;
      room = refl;
      tests = (differ_again (eqb from to) fit.0.differ, tt);
    }) refl refl (lit≤ tt) refl
item m is t (Ack from to) due fit =
    kind_item m (ack_exact m is) t (from, to) (Ack from to) (record {
      stands = due;
      fits = link_fits m t from to fit;
      room = refl;
      tests = (differ_again (eqb from to) fit.differ, tt);
    }) refl refl (lit≤ tt) refl
item m is t (Hear from to count) due fit =
    kind_item m (hear_exact m is) t (from, (to, count)) (Hear from to count)
    (record {
      stands = due;
      fits = packet_fits m t from to count fit.0 fit.1;
      room = refl;
      tests = (differ_again (eqb from to) fit.0.differ, tt);
    }) refl refl (lit≤ tt) refl
item m is t (Turn mirror) due fit =
    let f : mirror < m.mirrors = fit in
    kind_item m (turn_exact m is) t mirror (Turn mirror) (record { stands = due; fits = (omega arith, omega arith); room = refl; tests = tt }) refl refl (lit≤ tt) refl

not_long : (l : List ℕ) (n : ℕ) → length l ≤ n → n ≤ 120 → is_long l ≡ false
not_long l n short few = le-ltb _ _ (omega (arith, short, few))

-- the lines of the net, one after another
events_follow : (m : MatchData) → IsMatch m → (t : Tail) (lines : List NetLine) → t.stage ≡ InNet → t.left ≡ length lines → AllByRecursion (IsNetLine m) lines
    → Follows (take_by (net_table m)) is_last t (map net_line lines) (record t { lines = t.lines ++ lines; left = 0 })
unfolding Follows
events_follow m is t [] stage count fit = λ i. record t { lines = sym (append-nil t.lines) i; left = count i }
events_follow m is t (x ∷ lines) stage count fit =
    let some : ltb 0 t.left ≡ true = lt-ltb _ _ (omega (arith, count)) in
    let due : is_event_due t ≡ true = rw (stage, some) refl in
    let one = item m is t x due fit.0 in
    let rest = events_follow m is (with_line t x) lines stage (omega (arith, count)) fit.1 in
    let same : record (with_line t x) { lines = (t.lines ++ x ∷ []) ++ lines; left = 0 }
    ≡ record t { lines = t.lines ++ x ∷ lines; left = 0 } =
    λ i. record t { lines = append_assoc t.lines (x ∷ []) lines i; left = 0 } in (
      rw stage refl,
      not_long (net_line x) 16 one.short (lit≤ tt),
      with_line t x,
      one.taken,
      subst (Follows (take_by (net_table m)) is_last (with_line t x) (map net_line lines)) same rest,
    )

abbrev started : ℕ → Tail
started count = record { stage = InNet; left = count; lines = [] }

abbrev pub ended_with : List NetLine → Tail
ended_with lines = record { stage = Done; left = 0; lines = lines }

net_taken : (m : MatchData) (count : ℕ) → count ≤ MOST_NET_LINES → (is_long (count_line count) ≡ false)
    × Lacks 10 (count_line count) × (take_by (net_table m) no_tail (count_line count) ≡ Ok (started count))
    × (length (count_line count) ≤ 10)
unfolding take_words net_exact last_at
net_taken m count few =
    let word = (number_exact 0 262144 6 (lit< tt) (lit< tt) (lit< tt)).fit count (omega arith, few) in
    let s : Sound net_kind NetFits no_tail count = record { stands = refl; fits = (omega arith, few); room = rw (word, not_above MOST_NET_LINES count few (lit< tt)) refl; tests = tt } in
    let short : length (count_line count) ≤ 10 = line_length net_exact no_tail count s in (
      not_long (count_line count) 10 short (lit≤ tt),
      Lacks-spaced _ (line_fits net_exact no_tail count s),
      entry_again (net_table m) net_exact no_tail count s (not_this net_exact no_tail count s last_line alone_done, tt) refl,
      short,
    )

done_lacks : Lacks 10 last_line
done_lacks = (refl, (refl, (refl, (refl, tt))))

pub net_follows : (m : MatchData) → IsMatch m → (lines : List NetLine) → length lines ≤ MOST_NET_LINES
    → AllByRecursion (IsNetLine m) lines → Follows (take_by (net_table m)) is_last no_tail (net_lines lines)
    (ended_with lines)
unfolding Follows take_by take_whole
net_follows m is lines few fit =
    let opens = net_taken m (length lines) few in (
      refl,
      opens.0,
      started (length lines),
      opens.2,
      follows_more (take_by (net_table m)) is_last (started (length lines)) (map net_line lines) (record (started (length lines)) { lines = lines; left = 0 }) (last_line ∷ []) (ended_with lines)
          (events_follow m is (started (length lines)) lines refl refl fit)
          (refl, refl, ended_with lines, refl, refl),
    )

-- any state in which an event is due
items_lack : (m : MatchData) → IsMatch m → (lines : List NetLine) → AllByRecursion (IsNetLine m) lines
    → AllByRecursion (Lacks 10) (map net_line lines) × AllByRecursion (λ l. length l ≤ 16) (map net_line lines)
items_lack m is [] fit = (tt, tt)
items_lack m is (x ∷ lines) fit =
    let one = item m is (started 1) x refl fit.0 in
    let rest = items_lack m is lines fit.1 in
    ((one.lacks, rest.0), (one.short, rest.1))

pub net_lacks : (m : MatchData) → IsMatch m → (lines : List NetLine) → length lines ≤ MOST_NET_LINES → AllByRecursion (IsNetLine m) lines → AllByRecursion (Lacks 10) (net_lines lines)
net_lacks m is lines few fit = ((net_taken m (length lines) few).1, all_append (Lacks 10) (map net_line lines) (last_line ∷ []) (items_lack m is lines fit).0 (done_lacks, tt))

pub net_short : (m : MatchData) → IsMatch m → (lines : List NetLine) → length lines ≤ MOST_NET_LINES → AllByRecursion (IsNetLine m) lines → length (lines_text (net_lines lines)) ≤ 4456464
unfolding lines_text
net_short m is lines few fit =
    let first = (net_taken m (length lines) few).3 in
    let all = section_length net_line lines 16 262144 (items_lack m is lines fit).1 few in
    omega (
      arith,
      first,
      all,
      length-append (as_line (count_line (length lines)))
          (lines_text (map net_line lines ++ last_line ∷ [])),
      length-append (count_line (length lines)) (10 ∷ []),
      ap length (lines_text-append (map net_line lines) (last_line ∷ [])),
      length-append (lines_text (map net_line lines)) (lines_text (last_line ∷ [])),
    )
