-- What is printed of a mirror, and of the run of one of its copies.
use Rattle.std.specs.Prelude.{ℕ, List, [], ◌∷◌, ◌++◌, codes, decimal}
use Rattle.game_trait.specs.declared.command.Item.{Item}
use Rattle.game_trait.specs.declared.command.Item.TheVariants.{Cmd, Beat}
use Rattle.tss_io.specs.Lines.{as_line, spaced}
use Rattle.tss_io.specs.Words.{behind_spaces}

-- a mirror's line: how many commands it accepted, how many arrivals it turned away, and how many
-- copies it repaired
unfoldable pub mirror_line : ℕ → ℕ → ℕ → ℕ → List ℕ
mirror_line mirror accepted turned repairs = as_line (spaced (
    codes "mirror" ∷ decimal mirror ∷ codes "accepted" ∷ decimal accepted
    ∷ codes "turned" ∷ decimal turned ∷ codes "repairs" ∷ decimal repairs ∷ []))

-- the mark of an item of a run: a command's mirror and number, or a bar for a beat
unfoldable pub item_mark : Item → List ℕ
item_mark (Cmd x) = decimal x.from ++ (codes "." ++ decimal x.number)
item_mark Beat = codes "|"

-- what a run line begins with: mirror and copy
unfoldable pub run_head : ℕ → ℕ → List ℕ
run_head mirror copy = spaced (codes "run" ∷ decimal mirror ∷ decimal copy ∷ []) ++ codes ":"

-- the line of a copy's run: its mirror and number, and then each item's mark
unfoldable pub run_line : ℕ → ℕ → List Item → List ℕ
run_line mirror copy run = as_line (run_head mirror copy ++ behind_spaces item_mark run)
