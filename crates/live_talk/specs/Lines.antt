-- What is told beside the answers themselves, and how lines are counted.
use Rattle.std.specs.Prelude.{ℕ, ◌+◌, min, Bool, true, false, List, [], ◌∷◌, codes, if◌then◌else◌}
use Rattle.tss_io.specs.declared.cause.Cause.{Cause}
use Rattle.tss_io.specs.declared.cause.Cause.TheVariants.{Long, End}
use Rattle.tss_io.specs.Kinds.{is_long}
use Rattle.tss_io.specs.Lines.{as_line}
use Rattle.tss_io.specs.Reading.{refused_at}
use Rattle.report_text.specs.Ends.{done_line, refused_text}
use Rattle.live_text.specs.declared.request.Request.{Request}
use Rattle.live_text.specs.declared.request.Request.TheVariants.{Own, Cmd, Tick, Turn, Step, Restagger, World, Run, Commands, End as AskEnd}

-- the number of the next line; it stays at its type's last value
abbrev pub next_line : ℕ → ℕ
next_line n = min (n + 1) 4294967295

abbrev pub ok_line : List ℕ
ok_line = as_line (codes "ok")

-- why a head is refused that ends behind these bytes of a line
abbrev pub cut_short : List ℕ → Cause
cut_short begun = if is_long begun then Long else End

-- what is told, at the end of the text, of bytes behind its last newline, however many
abbrev pub torn_told : ℕ → List ℕ → List ℕ
torn_told line [] = []
torn_told line (b ∷ begun) = refused_text (refused_at line End)

-- no line comes behind it
abbrev pub is_end : Request → Bool
is_end (Own player act) = false
is_end (Cmd x) = false
is_end Tick = false
is_end Turn = false
is_end (Step copy) = false
is_end (Restagger plan) = false
is_end (World copy) = false
is_end (Run copy) = false
is_end Commands = false
is_end AskEnd = true

-- the line that ends an answer
abbrev pub last_line : Request → List ℕ
last_line r = if is_end r then done_line else ok_line
