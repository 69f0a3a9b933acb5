-- What is printed of looks at the ticks of a match.
use Rattle.std.specs.Prelude.{ℕ, List, [], ◌∷◌, ◌++◌}
use Rattle.game_trait.specs.declared.command.Command.{Command}
use Rattle.game_trait.specs.Ordered.{time_ordered}
use Rattle.match_data.specs.Data.{MatchData}
use Rattle.report_text.specs.Ends.{done_line}
use Rattle.report_text.specs.Hits.{hits_line}
use Rattle.report_text.specs.Worlds.{Showing, block_text, at_head}
use Rattle.rewind_store.specs.Rewound.{hits_of}

-- the blocks of the worlds at these ticks
unfoldable pub looks_text : {W : Type 0} → Showing W → W → List Command → List ℕ → List ℕ
looks_text show opening commands [] = []
looks_text show opening commands (t ∷ ts) =
    block_text show.lines show.names (at_head t) (time_ordered show.rules opening commands t)
    ++ looks_text show opening commands ts

-- the worlds at these ticks, and how many of them were cached where there is room for `room` worlds; how
-- far apart the kept worlds stand doesn't show
unfoldable pub rewind_text : {W : Type 0} → Showing W → W → MatchData → ℕ → List ℕ → List ℕ
rewind_text show opening m room ticks =
    looks_text show opening m.commands ticks ++ (hits_line (hits_of room [] ticks) ++ done_line)
