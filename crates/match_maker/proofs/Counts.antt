-- How many lines the script has: each command arrives once at each mirror, and each mirror has its turns.
use Rattle.std.proofs.Common.{◌≡◌, ℕ, ◌+◌, ◌/◌, ◌%◌, ◌<◌, true, false, ◌==◌, cond, [], ◌∷◌, length, refl, ap, ◌∙◌, length-append, arith}
use Rattle.match_data.specs.declared.script_line.ScriptLine.TheVariants.{Arrive, Turn}
use Rattle.match_maker.specs.Below.{joined_below}
use Rattle.match_maker.specs.Generator.{lag, arrival_lines, arrivals, mirror_lines, tick_lines}
use Rattle.match_maker.proofs.Bounds.{lag-below}
use Rattle.match_maker.proofs.Sums.{sum_below, length_joined, sum_same, sum_swap, sum_and_same, sum_equal, sum_once}

-- one line or none
length_arrival : (seed tick mirror j : ℕ) → length (arrival_lines seed tick mirror j) ≡ cond (j / 8 + lag seed j mirror == tick) 1 0
unfolding arrival_lines
length_arrival seed tick mirror j =
    elim (j / 8 + lag seed j mirror == tick) as (λ v. length (cond v (Arrive mirror (j % 8) (j / 8) ∷ []) []) ≡ cond v 1 0)
    [ true ↦ refl | false ↦ refl ]

-- a command arrives once at a mirror
arrives_once : (seed mirror j : ℕ) → j < 4096 → sum_below (λ tick. length (arrival_lines seed tick mirror j)) 544 ≡ 1
arrives_once seed mirror j h =
    sum_equal (λ tick. length (arrival_lines seed tick mirror j)) (λ tick. cond (j / 8 + lag seed j mirror == tick) 1 0) 544
    (λ tick l. length_arrival seed tick mirror j)
    ∙ sum_once (j / 8 + lag seed j mirror) 544 (omega (arith, h, lag-below seed j mirror))

-- all arrivals at a mirror
arrivals_of : (seed mirror : ℕ) → sum_below (λ tick. length (arrivals seed tick mirror)) 544 ≡ 4096
arrivals_of seed mirror =
    sum_equal (λ tick. length (arrivals seed tick mirror)) (λ tick. sum_below (λ j. length (arrival_lines seed tick mirror j)) 4096) 544
    (λ tick l. length_joined (arrival_lines seed tick mirror) 4096)
    ∙ (sum_swap (λ tick j. length (arrival_lines seed tick mirror j)) 544 4096
    ∙ sum_same (λ j. sum_below (λ tick. length (arrival_lines seed tick mirror j)) 544) 1 4096 (arrives_once seed mirror))

-- all lines of a mirror
lines_of_mirror : (seed mirror : ℕ) → sum_below (λ tick. length (mirror_lines seed tick mirror)) 544 ≡ 4640
lines_of_mirror seed mirror =
    sum_equal (λ tick. length (mirror_lines seed tick mirror)) (λ tick. length (arrivals seed tick mirror) + 1) 544
    (λ tick l. length-append (arrivals seed tick mirror) (Turn mirror ∷ []))
    ∙ (sum_and_same (λ tick. length (arrivals seed tick mirror)) 1 544
    ∙ ap (λ n. n + 544) (arrivals_of seed mirror))

-- all lines
pub length_script : (seed : ℕ) → length (joined_below (tick_lines seed) 544) ≡ 37120
length_script seed =
    length_joined (tick_lines seed) 544
    ∙ (sum_equal (λ tick. length (tick_lines seed tick)) (λ tick. sum_below (λ mirror. length (mirror_lines seed tick mirror)) 8) 544
    (λ tick l. length_joined (mirror_lines seed tick) 8)
    ∙ (sum_swap (λ tick mirror. length (mirror_lines seed tick mirror)) 544 8
    ∙ sum_same (λ mirror. sum_below (λ tick. length (mirror_lines seed tick mirror)) 544) 4640 8
    (λ mirror l. lines_of_mirror seed mirror)))
