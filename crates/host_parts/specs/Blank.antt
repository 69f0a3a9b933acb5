-- The rules of a world of nothing.
use Rattle.game_trait.specs.Game.{Rules}
use Rattle.host_parts.specs.declared.blank.Blank.{Blank}

abbrev pub blank_rules : Rules Blank
blank_rules = record { apply = λ world x. world; beat = λ world. world }
