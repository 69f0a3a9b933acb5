use Rattle.std.proofs.Common.{◌≡◌, ◌-◌, ℕ, List, length, ap, ◌∙◌, arith}
use Rattle.std.specs.Prelude.{get_or}
use Rattle.match_data.specs.Data.{MatchData}
use Rattle.stagger_clock.proofs.Limits.{longest_delay-last}
use Rattle.race_hall.proofs.racing.budget_of.Goals as goal

pub returns-clause-turns : goal.returns-clause-turns
returns-clause-turns c =
    let m = c.args.m.now in
    let long : c.from.result ≡ m.length = c.from.ensures ∙ ap (λ (d : MatchData). d.length) c.m.view_is in
    let count : c.len.result ≡ length m.delays = c.len.ensures ∙ ap (λ (d : MatchData). length d.delays) c.m.view_is in
    let list : c.as_slice.result.now ≡ m.delays = c.as_slice.ensures ∙ ap (λ (d : MatchData). d.delays) c.m.view_is in
    let last : c.from-2.result ≡ get_or m.delays (length m.delays - 1) 0 =
    c.from-2.ensures ∙ ap (λ (l : List ℕ). get_or l (c.len.result - 1) 0) list ∙ ap (λ (n : ℕ). get_or m.delays (n - 1) 0) count in
    omega (arith, long, last, longest_delay-last m.delays)
