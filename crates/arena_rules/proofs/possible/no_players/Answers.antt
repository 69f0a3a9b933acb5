use Rattle.std.proofs.Common.{pos, sym, arith, lit<}
use Rattle.std.proofs.lemmas.Bool.{false≢true}
use Rattle.std.proofs.lemmas.Int.{ints}
use Rattle.arena_rules.specs.Worked.{dead, ann_home}
use Rattle.arena_rules.proofs.Computing.{computing}
use Rattle.std.specs.List.{IsDistinct}
use Rattle.arena_rules.proofs.possible.no_players.Goals as goal

pub returns : goal.returns
unfolding computing IsDistinct
returns c = record {
  health_0 = λ w. absurd (omega (arith, (w.players.each 0 (dead ann_home 0 (pos 0)) (lit< tt)).state.health.0));
  health_4 = λ w. absurd (omega (arith, (w.players.each 0 (dead ann_home 0 (pos 0)) (lit< tt)).state.health.1));
  ammo_10 = λ w. absurd (omega (arith, (w.players.each 0 (dead ann_home 0 (pos 0)) (lit< tt)).state.ammo));
  richer = λ w. absurd (omega (arith, ints, (w.players.each 0 (dead ann_home 0 (pos 0)) (lit< tt)).score.1));
  poorer = λ w. absurd (omega (arith, ints, (w.players.each 0 (dead ann_home 0 (pos 0)) (lit< tt)).score.0));
  wait_11 = λ w. absurd (omega (arith, (w.players.each 0 (dead ann_home 0 (pos 0)) (lit< tt)).state));
  on_wall = λ w. false≢true (w.players.each 0 (dead ann_home 0 (pos 0)) (lit< tt)).state.free;
  outside = λ w. false≢true (w.players.each 0 (dead ann_home 0 (pos 0)) (lit< tt)).state.free;
  home_on_wall = λ w. false≢true (w.players.each 0 (dead ann_home 0 (pos 0)) (lit< tt)).home;
  one_cell = λ w. false≢true (sym w.players.apart.0.0);
  too_many = λ w. absurd (omega (arith, w.players.count));
}
