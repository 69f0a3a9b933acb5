-- What is told, part after part.
use Rattle.std.proofs.Common.{◌≡◌, ℕ, ◌≤◌, List, ◌++◌, length, map, take, ap, sym, ◌∙◌}
use Rattle.std.proofs.lemmas.List.{take_all}
use Rattle.std.proofs.lemmas.Simd.{map-map}
use Rattle.game_trait.specs.declared.command.Command.{Command}
use Rattle.game_trait.specs.Later.{later}
use Rattle.tss_io.specs.Lines.{lines_text}
use Rattle.command_lines.specs.CommandLine.{command_line}

-- the lines of commands that are due later
pub later-lines : (by i : ℕ) (xs : List Command) (old new : List ℕ) → length xs ≤ i → new ≡ old ++ lines_text (map (λ x. command_line (later by x)) (take i xs))
    → new ≡ old ++ lines_text (map command_line (map (later by) xs))
later-lines by i xs old new all so_far =
    so_far ∙ ap (λ (ys : List Command). old ++ lines_text (map (λ x. command_line (later by x)) ys)) (take_all i xs all)
    ∙ ap (λ (ls : List (List ℕ)). old ++ lines_text ls) (sym (map-map command_line (later by) xs))
