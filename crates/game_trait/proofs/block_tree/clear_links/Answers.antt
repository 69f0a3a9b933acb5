use Rattle.std.proofs.Common.{◌≡◌, ◌∙◌, ap, ℕ, replicate, arith}
use Rattle.std.specs.Prelude.{vec_len}
use Rattle.game_trait.proofs.block_tree.clear_links.Goals as goal

pub returns-clause-none : goal.returns-clause-none
returns-clause-none c = λ empty.
    let cut = c.truncate.ensures.len in
    let long = c.args.links.now.ok.0 in
    let none : vec_len c.truncate.new.self ≡ 0 = omega arith in
    c.fill.ensures.items (λ y same. same) ∙ ap (λ (n : ℕ). replicate n 0) none

pub returns-clause-roots : goal.returns-clause-roots
returns-clause-roots c = λ some.
    let cut = c.truncate.ensures.len in
    let long = c.args.links.now.ok.0 in
    let roots : vec_len c.truncate.new.self ≡ 4096 = omega arith in
    c.fill.ensures.items (λ y same. same) ∙ ap (λ (n : ℕ). replicate n 0) roots
