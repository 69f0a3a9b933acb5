-- What is printed of one mirror. It is only looked at here.
use Rattle.std.specs.Prelude.{ℕ, zero, suc, ◌+◌, List, [], ◌∷◌, ◌++◌, flat_map, length, if◌then◌else◌}
use Rattle.game_trait.specs.declared.command.Item.{Item}
use Rattle.game_trait.specs.declared.event.Reply.{Reply}
use Rattle.sync_model.specs.State.{MirrorState}
use Rattle.sync_model.specs.Change.{answers}
use Rattle.sync_model.specs.History.{repaired_in, repairs}
use Rattle.sync_model.specs.Turns.{turn, turn_events, is_drained}
use Rattle.report_text.specs.Replies.{repair_line}
use Rattle.report_text.specs.Mirrors.{mirror_line}
use Rattle.report_text.specs.Worlds.{Showing, copy_block}

-- ---- turns, and draining

-- what the answers to a turn's events print: the line of each repair
abbrev pub repairs_text : ℕ → List Reply → List ℕ
repairs_text number replies = flat_map (λ reply. repair_line number (repaired_in reply)) replies

-- what a turn prints of the mirror of this number
abbrev pub turn_text : {W : Type 0} → ℕ → MirrorState W → List ℕ
turn_text number s = repairs_text number (answers s (turn_events (length s.runs)))

-- what turns print until a mirror is drained, at most n of them
unfoldable pub drain_text : {W : Type 0} → ℕ → ℕ → MirrorState W → List ℕ
drain_text number zero s = []
drain_text number (suc n) s =
    if is_drained s then [] else (turn_text number s ++ drain_text number n (turn s))

-- ---- the mirror, and its copies

-- the line of the mirror of this number
abbrev pub line_of_mirror : {W : Type 0} → ℕ → MirrorState W → List ℕ
line_of_mirror number s = mirror_line number (length s.accepted) (length s.turned) (repairs s)

-- the blocks of copies, of which the first has this number
unfoldable pub copy_blocks : {W : Type 0} → Showing W → ℕ → W → ℕ → List (List Item) → List ℕ
copy_blocks show number opening copy [] = []
copy_blocks show number opening copy (run ∷ behind) =
    copy_block show number opening copy run ++ copy_blocks show number opening (copy + 1) behind
