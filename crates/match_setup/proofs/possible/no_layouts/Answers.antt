use Rattle.std.proofs.Common.{sym, arith}
use Rattle.std.proofs.lemmas.Bool.{false≢true}
use Rattle.match_setup.proofs.Computing.{computing}
use Rattle.std.specs.List.{IsDistinct}
use Rattle.match_setup.proofs.possible.no_layouts.Goals as goal

pub returns : goal.returns
unfolding computing IsDistinct
returns c = record {
  nobody = λ l. absurd (omega (arith, l.players.0));
  players = λ l. absurd (omega (arith, l.players.1));
  pickups = λ l. absurd (omega (arith, l.pickups));
  two_players = λ l. false≢true (sym l.apart.0.0);
  two_pickups = λ l. false≢true (sym l.apart.0.0);
  player_and_pickup = λ l. false≢true (sym l.apart.0.0);
  player_on_wall = λ l. false≢true l.free;
  pickup_on_wall = λ l. false≢true l.free;
  player_outside = λ l. false≢true l.free;
  pickup_outside = λ l. false≢true l.free;
}
