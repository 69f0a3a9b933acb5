-- Walking over a text, line by line.
use Rattle.std.specs.Prelude.{ℕ, ◌+◌, List, [], ◌∷◌, drop, length, if◌then◌else◌}
use Rattle.tss_io.specs.declared.lines.LineStep.{LineStep}
use Rattle.tss_io.specs.declared.lines.LineStep.TheVariants as steps
use Rattle.tss_io.specs.Kinds.{is_long}
use Rattle.tss_io.specs.Lines.{Lines, torn, line, lines_of}

-- a text, and how many bytes of it are walked over
pub record Walk : Type 0 where
  pub text : List ℕ
  pub start : ℕ

-- what is left
abbrev pub left_of : Walk → List ℕ
left_of walk = drop walk.start walk.text

-- what a walk that is at this byte finds next
abbrev pub step_at : ℕ → Lines → LineStep
step_at start (torn []) = steps.End
step_at start (torn (b ∷ bytes)) = if is_long (b ∷ bytes) then steps.Long else steps.Torn
step_at start (line l rest) = if is_long l then steps.Long else steps.Line start (length l)

-- where it is then
abbrev pub start_after : ℕ → Lines → ℕ
start_after start (torn bytes) = start
start_after start (line l rest) = if is_long l then start else start + (length l + 1)

-- the walk after a step
abbrev pub walked : Walk → Walk
walked walk = record walk { start = start_after walk.start (lines_of (left_of walk)) }
