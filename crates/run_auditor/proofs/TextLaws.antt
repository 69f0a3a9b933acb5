-- A legal record of the arena is one that a text can give, where its logs have few enough events.
use Rattle.std.proofs.Common.{◌≡◌, ℕ, zero, suc, ◌+◌, ◌*◌, ◌^◌, ◌<◌, ◌≤◌, List, [], ◌∷◌, ◌++◌, length, map, refl, ap, sym, ◌∙◌, subst, arith, lit<, lit≤, length-append}
use Rattle.std.specs.Prelude.{codes, decimal, slice_index_or}
use Rattle.std.specs.List.{AllByRecursion}
use Rattle.std.proofs.lemmas.Fmt.{length-decimal-le}
use Rattle.std.proofs.lemmas.List.{length-map}
use Rattle.std.proofs.lemmas.List.Elements.{All-from_recursion, All-contains}
use Rattle.game_trait.specs.declared.command.Item.{Item}
use Rattle.game_trait.specs.declared.event.Event.{Event}
use Rattle.game_trait.specs.declared.event.Event.TheVariants.{Tick, Arrive, Step, Restagger}
use Rattle.game_trait.specs.declared.limits.TheConstants.{LONGEST_MATCH_TEXT, MOST_LOGGED_EVENTS}
use Rattle.game_trait.specs.Run.{beats, world_of}
use Rattle.game_trait.proofs.KeyOrder.{all-weaker}
use Rattle.tss_io.specs.Lines.{as_line, spaced}
use Rattle.tss_io.proofs.Lengths.{Short, lines_length}
use Rattle.arena_rules.specs.Block.{block_of}
use Rattle.arena_rules.specs.World.{World, IsWorld, opening_world, arena_rules}
use Rattle.arena_rules.proofs.Worlds.{IsWorld-opening_world, IsWorld-world_of}
use Rattle.sync_model.specs.Change.{after, Fits}
use Rattle.sync_model.specs.Drafts.{run_of}
use Rattle.sync_model.specs.Legal.{NamesWhatIsThere, IsLegal}
use Rattle.sync_model.specs.Staggered.{IsStaggered}
use Rattle.sync_model.specs.State.{MirrorState}
use Rattle.sync_model.proofs.Along.{staggered_along}
use Rattle.sync_model.proofs.Cases.{after-fixed}
use Rattle.sync_model.proofs.Legal.{named-fits}
use Rattle.sync_model.proofs.Staggered.{opening_staggered}
use Rattle.match_data.specs.Data.{MatchData, IsMatch, IsCommand, all_plans}
use Rattle.match_file.specs.Text.{match_text}
use Rattle.match_file.proofs.TextLaws.{text_small}
use Rattle.report_text.specs.Worlds.{copy_block}
use Rattle.match_data.specs.declared.log.MirrorLog.{MirrorLog}
use Rattle.run_recorder.specs.declared.race_record.RaceRecord.{RaceRecord}
use Rattle.run_recorder.specs.Data.{EachNumbered, IsEventOf, IsLogOf, IsBlock, AreWorldsOf, IsRecord}
use Rattle.report_text.specs.Logs.{event_line, log_line, log_text}
use Rattle.run_recorder.specs.Text.{record_head, last_line, world_line, blocks_text, record_mirrors_text}
use Rattle.run_auditor.specs.Arena.{arena_shown}
use Rattle.run_auditor.specs.Audit.{start, IsStated, IsRight, AllRight, IsLegalRecord}
use Rattle.run_auditor.proofs.BlockLines.{world_shown, shown_length}
use Rattle.run_auditor.proofs.Named.{copies_there, event_of}

-- ---- a mirror after a legal log

within-at : (n c : ℕ) (runs : List (List Item)) → AllByRecursion (λ run. beats run ≤ n) runs → beats (slice_index_or runs c []) ≤ n
unfolding beats
within-at n c [] h = omega arith
within-at n zero (run ∷ runs) h = h.0
within-at n (suc c) (run ∷ runs) h = within-at n c runs h.1

-- of the arena: its opening world, and that no copy is past the match's end
record IsWalked (m : MatchData) (s : MirrorState World) : Type 0 where
  pub opening : s.opening ≡ opening_world m.layout
  pub within : (copy : ℕ) → beats (run_of s copy) ≤ m.length

walked : (m : MatchData) (log : List Event) → IsMatch m → IsLegal m.commands (start (opening_world m.layout) m) log → IsWalked m (after (start (opening_world m.layout) m) log)
walked m log is legal =
    let s = start (opening_world m.layout) m in
    let due : AllByRecursion (λ x. x.time < m.length) m.commands = all-weaker (IsCommand m) (λ x. x.time < m.length) m.commands (λ x h. h.time) is.commands in
    let fits = all-weaker (NamesWhatIsThere m.commands s) (Fits s) log (λ e h. named-fits m.commands s due e h) legal.there in
    let staggered : IsStaggered (after s log) = staggered_along log s fits (opening_staggered (opening_world m.layout) m.length (all_plans m) 0 0) in
    let same = after-fixed log s in
    record {
      opening = same.opening;
      within = λ copy. subst (λ (n : ℕ). beats (run_of (after s log) copy) ≤ n) same.length (within-at (after s log).length copy (after s log).runs staggered.in_bounds.within_match);
    }

-- ---- lines of two, three and four words

two_words : (a b : List ℕ) → length (spaced (a ∷ b ∷ [])) ≡ length a + 1 + length b
unfolding spaced
two_words a b = omega (arith, length-append a (32 ∷ b))

three_words : (a b c : List ℕ) → length (spaced (a ∷ b ∷ c ∷ [])) ≡ length a + 1 + length b + 1 + length c
unfolding spaced
three_words a b c = omega (arith, length-append a (32 ∷ (b ++ 32 ∷ c)), length-append b (32 ∷ c))

four_words : (a b c d : List ℕ) → length (spaced (a ∷ b ∷ c ∷ d ∷ [])) ≡ length a + 1 + length b + 1 + length c + 1 + length d
unfolding spaced
four_words a b c d = omega (arith, length-append a (32 ∷ (b ++ 32 ∷ (c ++ 32 ∷ d))), length-append b (32 ∷ (c ++ 32 ∷ d)), length-append c (32 ∷ d))

one_digit : (n : ℕ) → n < 10 → length (decimal n) ≤ 1
one_digit n small = length-decimal-le 1 n (lit< tt) (omega (arith, small)) (omega (arith, small))

six_digits : (n : ℕ) → n < 1000000 → length (decimal n) ≤ 6
six_digits n small = length-decimal-le 6 n (lit< tt) (omega (arith, small)) (omega (arith, small))

ten_digits : (n : ℕ) → n < 2 ^ 32 → length (decimal n) ≤ 10
ten_digits n small = length-decimal-le 10 n (lit< tt) (omega (arith, small)) (omega (arith, small))

-- ---- logs

arrive_length : (from number : ℕ) → from < 10 → number < 1000000 → length (spaced (codes "arrive" ∷ decimal from ∷ decimal number ∷ [])) ≤ 15
arrive_length from number one six =
    let words : length (spaced (codes "arrive" ∷ decimal from ∷ decimal number ∷ [])) ≡ 6 + 1 + length (decimal from)
    + 1 + length (decimal number) = three_words (codes "arrive") (decimal from) (decimal number) in
    omega (arith, words, one_digit from one, six_digits number six)

step_length : (copy : ℕ) → copy < 10 → length (spaced (codes "step" ∷ decimal copy ∷ [])) ≤ 15
step_length copy one =
    let words : length (spaced (codes "step" ∷ decimal copy ∷ [])) ≡ 4 + 1 + length (decimal copy) = two_words (codes "step") (decimal copy) in
    omega (arith, words, one_digit copy one)

restagger_length : (plan : ℕ) → plan < 10 → length (spaced (codes "restagger" ∷ decimal plan ∷ [])) ≤ 15
restagger_length plan one =
    let words : length (spaced (codes "restagger" ∷ decimal plan ∷ [])) ≡ 9 + 1 + length (decimal plan) = two_words (codes "restagger") (decimal plan) in
    omega (arith, words, one_digit plan one)

log_length : (mirror count : ℕ) → mirror < 10 → count < 1000000 → length (log_line mirror count) ≤ 15
log_length mirror count one six =
    let words : length (log_line mirror count) ≡ 3 + 1 + length (decimal mirror) + 1 + length (decimal count) = three_words (codes "log") (decimal mirror) (decimal count) in
    omega (arith, words, one_digit mirror one, six_digits count six)

event_length : {W : Type 0} (opening : W) (m : MatchData) → IsMatch m → (e : Event) → NamesWhatIsThere m.commands (start opening m) e → length (event_line e) ≤ 15
event_length opening m is Tick named = lit≤ tt
event_length opening m is (Arrive x) named =
    let of_match : IsCommand m x = All-contains (IsCommand m) m.commands x (All-from_recursion (IsCommand m) m.commands is.commands) named in
    arrive_length x.from x.number (omega (arith, of_match.from, is.mirrors.1)) (omega (arith, of_match.number))
event_length opening m is (Step copy) named = step_length copy (omega (arith, copies_there opening m, named, is.delays.few_copies))
event_length opening m is (Restagger plan) named = restagger_length plan (omega (arith, named, is.plan_count))

events_short : {W : Type 0} (opening : W) (m : MatchData) → IsMatch m → (events : List Event) → AllByRecursion (NamesWhatIsThere m.commands (start opening m)) events → Short 15 (map event_line events)
events_short opening m is [] named = tt
events_short opening m is (e ∷ events) named = (event_length opening m is e named.0, events_short opening m is events named.1)

-- a log's first line, and at most 131,072 lines of events
log_text_length : {W : Type 0} (opening : W) (m : MatchData) → IsMatch m → (mirror : ℕ) (events : List Event)
    → mirror < 10 → length events ≤ MOST_LOGGED_EVENTS
    → AllByRecursion (NamesWhatIsThere m.commands (start opening m)) events
    → length (log_text mirror (length events) events) ≤ 2097168
log_text_length opening m is mirror events one few named =
    let long = lines_length 15 (log_line mirror (length events) ∷ map event_line events) (log_length mirror (length events) one (omega (arith, few)), events_short opening m is events named) in
    omega (arith, long, length-map events event_line, few)

-- ---- worlds

-- a block of the copy of this number, which a text can give
record IsShortBlock (number copy : ℕ) (block : List ℕ) : Type 0 where
  pub block_is : IsBlock number copy block
  pub short : length block ≤ 15509

-- the block of any run that isn't past the match's end
stated_block : (m : MatchData) (number copy : ℕ) (opening : World) (run : List Item) → IsMatch m → IsWorld opening → number < 10 → copy < 10 → beats run ≤ m.length
    → IsShortBlock number copy (copy_block (arena_shown m) number opening copy run)
stated_block m number copy opening run is sound one_mirror one_copy within =
    let late : beats run < 2 ^ 32 = omega (arith, within, is.ticks.1) in
    let world = world_of arena_rules opening run in
    let shown = world_shown world m.names (IsWorld-world_of run opening sound) is.names in
    let lines = shown_length (block_of world m.names) shown in
    let words : List (List ℕ) = codes "world" ∷ decimal number ∷ decimal copy ∷ decimal (beats run) ∷ [] in
    let head : length (spaced words) ≡ 5 + 1 + length (decimal number) + 1 + length (decimal copy) + 1
    + length (decimal (beats run)) = four_words (codes "world") (decimal number) (decimal copy) (decimal (beats run)) in
    record {
      block_is = record {
        time = beats run;
        lines = shown.lines;
        in_range = late;
        each = shown.each;
        whole = ap (λ (text : List ℕ). as_line (world_line number copy (beats run)) ++ text) shown.whole;
      };
      short = omega (
        arith,
        lines,
        head,
        one_digit number one_mirror,
        one_digit copy one_copy,
        ten_digits (beats run) late,
        length-append (as_line (spaced words)) (block_of world m.names),
        length-append (spaced words) (10 ∷ []),
      );
    }

block_of_copy : (m : MatchData) (number copy : ℕ) (s : MirrorState World) (block : List ℕ) → IsMatch m → IsWalked m s → number < 10 → copy < 10
    → IsStated (arena_shown m) number s copy block → IsShortBlock number copy block
block_of_copy m number copy s block is walked one_mirror one_copy stated =
    let sound : IsWorld s.opening = subst IsWorld (sym walked.opening) (IsWorld-opening_world m.layout is.layout) in
    subst (IsShortBlock number copy) (sym stated) (stated_block m number copy s.opening (run_of s copy) is sound one_mirror one_copy (walked.within copy))

-- the blocks of copies, of which the first has this number
blocks_are : (m : MatchData) (number copy : ℕ) (s : MirrorState World) (blocks : List (List ℕ)) → IsMatch m → IsWalked m s → number < 10 → copy + length blocks ≤ 8
    → EachNumbered (IsStated (arena_shown m) number s) copy blocks
    → EachNumbered (IsBlock number) copy blocks × (length (blocks_text blocks) ≤ length blocks * 15509)
unfolding EachNumbered blocks_text
blocks_are m number copy s [] is walked one few stated = (tt, omega arith)
blocks_are m number copy s (block ∷ blocks) is walked one few stated =
    let here = block_of_copy m number copy s block is walked one (omega (arith, few)) stated.0 in
    let rest = blocks_are m number (copy + 1) s blocks is walked one (omega (arith, few)) stated.1 in (
      (here.block_is, rest.0),
      omega (arith, here.short, rest.1, length-append block (blocks_text blocks)),
    )

-- ---- mirrors

-- the log of this mirror, with few enough events, and a block for each copy
pub record IsSized (m : MatchData) (number : ℕ) (log : MirrorLog) (blocks : List (List ℕ)) : Type 0 where
  pub mirror : log.mirror ≡ number
  pub few : length log.events ≤ MOST_LOGGED_EVENTS
  pub copies : length blocks ≡ length m.delays

-- the same of mirrors, of which the first has this number
unfoldable pub AreSized : MatchData → ℕ → List MirrorLog → List (List (List ℕ)) → Type 0
AreSized m n [] [] = Unit {0}
AreSized m n [] (blocks ∷ worlds) = ⊥
AreSized m n (log ∷ logs) [] = ⊥
AreSized m n (log ∷ logs) (blocks ∷ worlds) = IsSized m n log blocks × AreSized m (n + 1) logs worlds

-- what a record has of this mirror, which a text can give
record IsGiven (m : MatchData) (number : ℕ) (log : MirrorLog) (blocks : List (List ℕ)) : Type 0 where
  pub log_is : IsLogOf m number log
  pub worlds_are : AreWorldsOf m number blocks
  pub short : length (log_text log.mirror (length log.events) log.events ++ blocks_text blocks) ≤ 2221240

mirror_given : (m : MatchData) (number : ℕ) (log : MirrorLog) (blocks : List (List ℕ)) → IsMatch m → number < 8 → IsSized m number log blocks
    → IsRight (arena_shown m) (opening_world m.layout) m number log.events blocks → IsGiven m number log blocks
mirror_given m number log blocks is one sized right =
    let opening = opening_world m.layout in
    let fewer = is.delays.few_copies in
    let copies : length blocks ≤ 8 = omega (arith, sized.copies, fewer) in
    let worlds = blocks_are m number 0 (after (start opening m) log.events) blocks is (walked m log.events is right.legal) (omega (arith, one)) (omega (arith, copies)) right.worlds in
    let text = log_text_length opening m is log.mirror log.events (omega (arith, sized.mirror, one)) sized.few right.legal.there in
    record {
      log_is = record {
        mirror = sized.mirror;
        few = sized.few;
        events = all-weaker (NamesWhatIsThere m.commands (start opening m)) (IsEventOf m) log.events (event_of opening m is.commands_differ) right.legal.there;
      };
      worlds_are = (sized.copies, worlds.0);
      short = omega (arith, text, worlds.1, copies, length-append (log_text log.mirror (length log.events) log.events) (blocks_text blocks));
    }

-- what a record has of mirrors, of which the first has this number
record AreGiven (m : MatchData) (n : ℕ) (logs : List MirrorLog) (worlds : List (List (List ℕ))) : Type 0 where
  pub level : length worlds ≡ length logs
  pub logs_are : EachNumbered (IsLogOf m) n logs
  pub worlds_are : EachNumbered (AreWorldsOf m) n worlds
  pub short : length (record_mirrors_text logs worlds) ≤ length logs * 2221240

mirrors_given : (m : MatchData) (n : ℕ) (logs : List MirrorLog) (worlds : List (List (List ℕ))) → IsMatch m → n + length logs ≤ 8 → AreSized m n logs worlds
    → AllRight (arena_shown m) (opening_world m.layout) m n logs worlds → AreGiven m n logs worlds
unfolding EachNumbered AllRight AreSized record_mirrors_text
mirrors_given m n [] [] is few sized right = record { level = refl; logs_are = tt; worlds_are = tt; short = omega arith }
mirrors_given m n [] (blocks ∷ worlds) is few sized right = absurd sized
mirrors_given m n (log ∷ logs) [] is few sized right = absurd sized
mirrors_given m n (log ∷ logs) (blocks ∷ worlds) is few sized right =
    let here = mirror_given m n log blocks is (omega (arith, few)) sized.0 right.0 in
    let rest = mirrors_given m (n + 1) logs worlds is (omega (arith, few)) sized.1 right.1 in
    record {
      level = omega (arith, rest.level);
      logs_are = (here.log_is, rest.logs_are);
      worlds_are = (here.worlds_are, rest.worlds_are);
      short = omega (arith, here.short, rest.short, length-append (log_text log.mirror (length log.events) log.events ++ blocks_text blocks) (record_mirrors_text logs worlds));
    }

-- ---- the record

pub record_of_text : (r : RaceRecord) → IsMatch r.game → length r.logs ≡ r.game.mirrors → AreSized r.game 0 r.logs r.worlds
    → IsLegalRecord (arena_shown r.game) (opening_world r.game.layout) r → IsRecord r
record_of_text r is count sized legal =
    let few : length r.logs ≤ 8 = omega (arith, count, is.mirrors.1) in
    let given = mirrors_given r.game 0 r.logs r.worlds is (omega (arith, few)) sized legal in
    let game : length (match_text r.game) ≤ LONGEST_MATCH_TEXT = text_small r.game is in
    let mirrors = record_mirrors_text r.logs r.worlds in
    let head : length (as_line record_head) ≡ 13 = refl in
    let last : length (as_line last_line) ≡ 5 = refl in
    record {
      game = is;
      log_count = count;
      logs = given.logs_are;
      world_count = given.level ∙ count;
      worlds = given.worlds_are;
      short = omega (
        arith,
        given.short,
        few,
        game,
        head,
        last,
        length-append (as_line record_head) (match_text r.game ++ (mirrors ++ as_line last_line)),
        length-append (match_text r.game) (mirrors ++ as_line last_line),
        length-append mirrors (as_line last_line),
      );
    }
