-- Each kind of line is exact: what is read by it is written so, and what it writes is read.
use Rattle.std.proofs.Common.{ℕ, ◌-◌, ◌^◌, ◌<◌, ◌≤◌, length, refl, arith, lit<, lit≤}
use Rattle.game_trait.specs.declared.limits.TheConstants.{GREATEST_NUMBER, MOST_LOGGED_EVENTS}
use Rattle.tss_io.specs.Forms.{is_word, InRange, number}
use Rattle.tss_io.proofs.FormLaws.{ExactField, number_exact, only_exact, then_exact}
use Rattle.tss_io.proofs.KindLaws.{ExactKind}
use Rattle.match_data.specs.Data.{MatchData, IsMatch}
use Rattle.run_recorder.specs.declared.tail.Tail.{Tail}
use Rattle.run_recorder.specs.Kinds.{log_kind, record_arrive_kind, record_step_kind, record_restagger_kind, record_world_kind}

-- a match whose numbers are small enough for the lines
pub record IsSmall (m : MatchData) : Type 0 where
  pub mirrors : m.mirrors ≤ 8
  pub some : 0 < length m.delays
  pub copies : length m.delays ≤ 8
  pub plans : length m.plans ≤ 7

pub small_match : (m : MatchData) → IsMatch m → IsSmall m
small_match m is = let few = is.plan_count in record { mirrors = is.mirrors.1; some = is.delays.some_copy; copies = is.delays.few_copies; plans = omega arith }

-- ---- the numbers of each kind

abbrev pub LogFits : MatchData → Tail → ℕ × ℕ → Type 0
LogFits m t a = InRange 0 (m.mirrors - 1) a.0 × InRange 0 MOST_LOGGED_EVENTS a.1

abbrev pub ArriveFits : MatchData → Tail → ℕ × ℕ → Type 0
ArriveFits m t a = InRange 0 (m.mirrors - 1) a.0 × InRange 0 GREATEST_NUMBER a.1

abbrev pub StepFits : MatchData → Tail → ℕ → Type 0
StepFits m t copy = InRange 0 (length m.delays - 1) copy

abbrev pub RestaggerFits : MatchData → Tail → ℕ → Type 0
RestaggerFits m t plan = InRange 0 (length m.plans) plan

abbrev pub WorldFits : MatchData → Tail → ℕ × (ℕ × ℕ) → Type 0
WorldFits m t a = InRange 0 (m.mirrors - 1) a.0 × (InRange 0 (length m.delays - 1) a.1.0 × InRange 0 (2 ^ 32 - 1) a.1.1)

-- ---- the kinds

pub mirror_exact : (m : MatchData) → IsSmall m → ExactField (number 0 (m.mirrors - 1)) (InRange 0 (m.mirrors - 1)) (λ _. 1)
mirror_exact m small = let few = small.mirrors in number_exact 0 (m.mirrors - 1) 1 (lit< tt) (omega arith) (omega arith)

pub copy_exact : (m : MatchData) → IsSmall m → ExactField (number 0 (length m.delays - 1)) (InRange 0 (length m.delays - 1)) (λ _. 1)
copy_exact m small = let few = small.copies in number_exact 0 (length m.delays - 1) 1 (lit< tt) (omega arith) (omega arith)

unfoldable pub log_exact : (m : MatchData) → IsSmall m → ExactKind (log_kind m) (LogFits m)
unfolding is_word
log_exact m small = record {
  keyword = refl;
  longest = λ _. 9;
  form = λ _. then_exact (mirror_exact m small) (only_exact (number_exact 0 131072 6 (lit< tt) (lit< tt) (lit< tt)));
  short = λ _ _ _. lit≤ tt;
}

unfoldable pub arrive_exact : (m : MatchData) → IsSmall m → ExactKind (record_arrive_kind m) (ArriveFits m)
unfolding is_word
arrive_exact m small = record {
  keyword = refl;
  longest = λ _. 9;
  form = λ _. then_exact (mirror_exact m small) (only_exact (number_exact 0 999999 6 (lit< tt) (lit< tt) (lit< tt)));
  short = λ _ _ _. lit≤ tt;
}

unfoldable pub step_exact : (m : MatchData) → IsSmall m → ExactKind (record_step_kind m) (StepFits m)
unfolding is_word
step_exact m small = record { keyword = refl; longest = λ _. 2; form = λ _. only_exact (copy_exact m small); short = λ _ _ _. lit≤ tt }

unfoldable pub restagger_exact : (m : MatchData) → IsSmall m → ExactKind (record_restagger_kind m) (RestaggerFits m)
unfolding is_word
restagger_exact m small = let few = small.plans in
    record {
      keyword = refl;
      longest = λ _. 2;
      form = λ _. only_exact (number_exact 0 (length m.plans) 1 (lit< tt) (omega arith) (omega arith));
      short =
          λ _ _ _. lit≤ tt;
    }

unfoldable pub world_exact : (m : MatchData) → IsSmall m → ExactKind (record_world_kind m) (WorldFits m)
unfolding is_word
world_exact m small = record {
  keyword = refl;
  longest = λ _. 15;
  form = λ _. then_exact (mirror_exact m small)
      (then_exact (copy_exact m small) (only_exact (number_exact 0 (2 ^ 32 - 1) 10 (lit< tt) (lit< tt) (lit< tt))));
  short = λ _ _ _. lit≤ tt;
}
