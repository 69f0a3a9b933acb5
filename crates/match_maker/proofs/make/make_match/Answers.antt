use Rattle.match_maker.proofs.Sound.{IsMatch-of}
use Rattle.match_maker.proofs.make.make_match.Goals as goal

pub invariant_of-result : goal.invariant_of-result
invariant_of-result c =
    IsMatch-of c.args.seed c.in_ok-commands.lags _ _ _ _ _ _ c.in_ok-delays.ensures c.new.ensures c.setup.ensures c.in_ok-roster.ensures
    c.in_ok-commands.ensures.commands c.in_ok-commands.ensures.lags c.in_ok-script.ensures
