-- A pile of stones, of which four players take: the rules.
use Rattle.std.specs.Prelude.{ℕ, ◌+◌, ◌-◌, min, nat_lt, if◌then◌else◌, slice_index_or, slice_set}
use Rattle.game_trait.specs.Game.{Rules}
use Rattle.game_trait.specs.declared.command.Act.{Act}
use Rattle.game_trait.specs.declared.command.Act.TheVariants.{Go, Left, Right, Shoot, Dash}
use Rattle.own_game.specs.declared.pile.Pile.{Pile}

-- the pile after a player takes so many stones, or all that there are
abbrev pub taken : Pile → ℕ → ℕ → Pile
taken pile player most =
    if nat_lt player 4
    then record pile {
      stones = pile.stones - most;
      held = slice_set pile.held player
          (min (slice_index_or pile.held player 0 + min most pile.stones) 4294967295);
    }
    else pile

-- the pile after an act: a player who goes takes one, and who dashes takes three
abbrev pub acted : Pile → ℕ → Act → Pile
acted pile player Go = taken pile player 1
acted pile player Dash = taken pile player 3
acted pile player Left = pile
acted pile player Right = pile
acted pile player Shoot = pile

-- the rules: at a tick's end the pile grows by a stone, up to a hundred
abbrev pub pile_rules : Rules Pile
pile_rules = record {
  apply = λ pile x. acted pile x.player x.act;
  beat = λ pile. record pile { stones = min (pile.stones + 1) 100 };
}
