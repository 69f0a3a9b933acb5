-- What is printed of worlds.
use Rattle.std.specs.Prelude.{ℕ, List, [], ◌∷◌, ◌++◌, codes, decimal}
use Rattle.game_trait.specs.declared.command.Item.{Item}
use Rattle.game_trait.specs.Game.{Rules}
use Rattle.game_trait.specs.Run.{beats, world_of}
use Rattle.tss_io.specs.Lines.{as_line, spaced}

-- how the worlds of a match are shown: by the rules of its game, the lines of a world, and the
-- players' names
pub record Showing (W : Type 0) : Type 0 where
  pub rules : Rules W
  pub lines : W → List (List ℕ) → List ℕ
  pub names : List (List ℕ)

abbrev pub showing : {W : Type 0} → Rules W → (W → List (List ℕ) → List ℕ) → List (List ℕ)
    → Showing W
showing rules lines names = record { rules = rules; lines = lines; names = names }

-- a block: a head line of these words, and the lines of a world with the players' names
abbrev pub block_text : {W : Type 0} → (W → List (List ℕ) → List ℕ) → List (List ℕ) → List (List ℕ)
    → W → List ℕ
block_text lines names head world = as_line (spaced head) ++ lines world names

-- the words of the head of a copy's block: its mirror, its number and its clock
abbrev pub copy_head : ℕ → ℕ → ℕ → List (List ℕ)
copy_head mirror copy clock = codes "world" ∷ decimal mirror ∷ decimal copy ∷ decimal clock ∷ []

-- the block of a copy with this run
abbrev pub copy_block : {W : Type 0} → Showing W → ℕ → W → ℕ → List Item → List ℕ
copy_block show mirror opening copy run =
    block_text show.lines show.names (copy_head mirror copy (beats run))
    (world_of show.rules opening run)

-- the words of the head of the block of the time-ordered execution after a number of ticks
abbrev pub order_head : ℕ → List (List ℕ)
order_head length = codes "order" ∷ decimal length ∷ []

-- the words of the head of the block of a match's world at a tick
abbrev pub at_head : ℕ → List (List ℕ)
at_head tick = codes "at" ∷ decimal tick ∷ []
