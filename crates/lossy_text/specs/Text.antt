-- The text of a match and of what a net does, line by line.
use Rattle.std.specs.Prelude.{ℕ, List, [], ◌∷◌, ◌++◌, length, map, codes, decimal}
use Rattle.tss_io.specs.Lines.{spaced, lines_text}
use Rattle.match_file.specs.Text.{match_lines}
use Rattle.lossy_text.specs.declared.net_line.NetLine.{NetLine}
use Rattle.lossy_text.specs.declared.net_line.NetLine.TheVariants.{Issue, Send, Carry, Ack, Hear, Turn}
use Rattle.lossy_text.specs.Data.{LossyData}

-- the first line
abbrev pub lossy_head : List ℕ
lossy_head = codes "tss lossy 1"

-- how many lines of the net follow
abbrev pub count_line : ℕ → List ℕ
count_line count = spaced (codes "net" ∷ decimal count ∷ [])

-- a line of the net
abbrev pub net_line : NetLine → List ℕ
net_line (Issue from number) = spaced (codes "issue" ∷ decimal from ∷ decimal number ∷ [])
net_line (Send from to packet) =
    spaced (codes "send" ∷ decimal from ∷ decimal to ∷ decimal packet ∷ [])
net_line (Carry from to packet) =
    spaced (codes "carry" ∷ decimal from ∷ decimal to ∷ decimal packet ∷ [])
net_line (Ack from to) = spaced (codes "ack" ∷ decimal from ∷ decimal to ∷ [])
net_line (Hear from to count) =
    spaced (codes "hear" ∷ decimal from ∷ decimal to ∷ decimal count ∷ [])
net_line (Turn mirror) = spaced (codes "turn" ∷ decimal mirror ∷ [])

-- the last line
abbrev pub last_line : List ℕ
last_line = codes "done"

-- the lines behind the match
abbrev pub net_lines : List NetLine → List (List ℕ)
net_lines lines = count_line (length lines) ∷ (map net_line lines ++ last_line ∷ [])

-- the one text of a match and of lines of a net
abbrev pub lossy_text : LossyData → List ℕ
lossy_text x = lines_text (lossy_head ∷ (match_lines x.game ++ net_lines x.lines))
