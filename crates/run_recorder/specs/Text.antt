-- The text of a record, line by line.
use Rattle.std.specs.Prelude.{ℕ, Bool, ◌&&◌, ◌||◌, List, [], ◌∷◌, ◌++◌, flat_map, length, Result, Ok, Err, bytes_eq, codes, decimal}
use Rattle.std.specs.List.{list_all}
use Rattle.tss_io.specs.declared.cause.Cause.{Cause}
use Rattle.tss_io.specs.Forms.{is_word, front_at}
use Rattle.tss_io.specs.Lines.{as_line, spaced, words_of}
use Rattle.report_text.specs.Logs.{log_text}
use Rattle.match_file.specs.Text.{match_text}
use Rattle.match_data.specs.declared.log.MirrorLog.{MirrorLog}
use Rattle.run_recorder.specs.declared.race_record.RaceRecord.{RaceRecord}

-- the first line
abbrev pub record_head : List ℕ
record_head = codes "tss record 1"

-- the last line
abbrev pub last_line : List ℕ
last_line = codes "done"

-- the line that opens the block of a copy: its mirror, its number, and its clock
abbrev pub world_line : ℕ → ℕ → ℕ → List ℕ
world_line mirror copy time =
    spaced (codes "world" ∷ decimal mirror ∷ decimal copy ∷ decimal time ∷ [])

-- the first word of a line, or the line where it is one word alone
abbrev pub first_of : List ℕ → Result (List ℕ × List (List ℕ)) Cause → List ℕ
first_of l (Ok front) = front.0
first_of l (Err cause) = l

abbrev pub first_word : List ℕ → List ℕ
first_word l = first_of l (front_at (words_of l))

-- a word that opens a line of a block
abbrev pub is_shown : List ℕ → Bool
is_shown word =
    bytes_eq word (codes "live")
    || (bytes_eq word (codes "dead")
    || (bytes_eq word (codes "shot") || bytes_eq word (codes "item")))

-- a line of a block, behind its head
unfoldable pub is_block_line : List ℕ → Bool
is_block_line l = is_shown (first_word l) && list_all is_word (words_of l)

-- blocks, one after another
unfoldable pub blocks_text : List (List ℕ) → List ℕ
blocks_text blocks = flat_map (λ block. block) blocks

-- the log of each mirror, and behind it the blocks of its copies
unfoldable pub record_mirrors_text : List MirrorLog → List (List (List ℕ)) → List ℕ
record_mirrors_text [] worlds = []
record_mirrors_text (log ∷ logs) [] = []
record_mirrors_text (log ∷ logs) (blocks ∷ worlds) =
    (log_text log.mirror (length log.events) log.events ++ blocks_text blocks)
    ++ record_mirrors_text logs worlds

-- the one text of a record
abbrev pub record_text : RaceRecord → List ℕ
record_text r =
    as_line record_head
    ++ (match_text r.game ++ (record_mirrors_text r.logs r.worlds ++ as_line last_line))
