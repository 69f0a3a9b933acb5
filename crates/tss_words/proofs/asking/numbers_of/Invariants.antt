use Rattle.std.proofs.Common.{◌≡◌, ◌≤◌, ◌++◌, map, drop, length, option_map}
use Rattle.game_trait.specs.declared.limits.TheConstants.{LONGEST_MATCH}
use Rattle.std.specs.List.{AllByRecursion}
use Rattle.std.specs.String.{string_bytes}
use Rattle.tss_words.specs.Subcommands.{numbers_of}
use Rattle.tss_words.proofs.asking.numbers_of.Given as goal

abbrev pub invariant-loop-word : goal.invariant-loop-word
invariant-loop-word l = record {
  read : option_map (λ ns. l.ticks ++ ns) (numbers_of (map string_bytes (drop l.word-index l.words)) LONGEST_MATCH) ≡ numbers_of (map string_bytes l.words) LONGEST_MATCH;
  count : length l.ticks ≡ l.word-index;
  each : AllByRecursion (λ t. t ≤ LONGEST_MATCH) l.ticks;
}
