-- What arrives in a tick is due in this tick or in one of the 31 before.
use Rattle.std.proofs.Common.{◌≡◌, ℕ, ◌+◌, ◌-◌, ◌*◌, ◌/◌, false, ◌==◌, [], min, refl, sym, ap, ◌∙◌, arith}
use Rattle.std.proofs.lemmas.Bool.Decides.{nat_tests}
use Rattle.match_maker.specs.Below.{joined_below}
use Rattle.match_maker.specs.Generator.{lag, arrival_lines, arrivals}
use Rattle.match_maker.proofs.Lists.{joined_nothing, joined_rest}
use Rattle.match_maker.proofs.Bounds.{lag-below}

-- a command of another tick
arrival-none : (seed tick mirror j : ℕ) → (j / 8 + lag seed j mirror ≡ tick → ⊥) → arrival_lines seed tick mirror j ≡ []
unfolding arrival_lines
arrival-none seed tick mirror j h =
    let e : (j / 8 + lag seed j mirror == tick) ≡ false = grind (arith, nat_tests) in rw e refl

-- none arrives before
pub arrivals-front : (seed tick mirror : ℕ) → joined_below (arrival_lines seed tick mirror) (8 * (tick - 31)) ≡ []
arrivals-front seed tick mirror =
    joined_nothing (arrival_lines seed tick mirror) (8 * (tick - 31))
    (λ j h. arrival-none seed tick mirror j (λ e. omega (arith, h, e, lag-below seed j mirror)))

-- none arrives from the next tick on
pub arrivals-end : (seed tick mirror end : ℕ) → end ≡ min (8 * tick + 8) 4096
    → joined_below (arrival_lines seed tick mirror) end ≡ arrivals seed tick mirror
arrivals-end seed tick mirror end e =
    let whole : end + (4096 - end) ≡ 4096 = omega (arith, e) in
    sym (joined_rest (arrival_lines seed tick mirror) end (4096 - end)
    (λ j l m. arrival-none seed tick mirror j (λ s. omega (arith, e, l, m, s))))
    ∙ ap (joined_below (arrival_lines seed tick mirror)) whole
