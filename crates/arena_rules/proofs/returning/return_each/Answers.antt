use Rattle.std.proofs.Common.{sym, ◌∙◌, arith}
use Rattle.arena_rules.proofs.Returns.{returns-next, returns-all, nobody}
use Rattle.arena_rules.proofs.returning.return_each.Goals as goal

pub loop-number-preserved : goal.loop-number-preserved
loop-number-preserved c =
    let number = c.loop-number.number in
    let players = c.loop-number.players in
    record {
      count = c.return_one.ensures.count ∙ c.loop-number.invariant.count;
      so_far = rw (c.return_one.ensures.returned nobody) (returns-next players number nobody (omega (arith, c.loop-number.invariant.count)) ∙ c.loop-number.invariant.so_far);
    }

pub returns : goal.returns
returns c = sym (returns-all c.loop-number.players c.loop-number.number (omega (arith, c.loop-number.invariant.count))) ∙ c.loop-number.invariant.so_far
