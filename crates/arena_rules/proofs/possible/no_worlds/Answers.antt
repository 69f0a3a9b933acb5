use Rattle.std.proofs.Common.{sym, arith, lit<}
use Rattle.std.proofs.lemmas.Bool.{false≢true}
use Rattle.arena_rules.specs.Worked.{shot, item, ann_home}
use Rattle.match_setup.specs.declared.pickup.Kind.TheVariants.{Gold}
use Rattle.arena_rules.proofs.Computing.{computing}
use Rattle.std.specs.List.{IsDistinct}
use Rattle.arena_rules.proofs.possible.no_worlds.Goals as goal

pub returns : goal.returns
unfolding computing IsDistinct
returns c = record {
  no_owner = λ w. absurd (omega (arith, (w.shots.each 0 (shot 0 ann_home 0) (lit< tt)).owner));
  left_0 = λ w. absurd (omega (arith, (w.shots.each 0 (shot 0 ann_home 0) (lit< tt)).left.0));
  left_9 = λ w. absurd (omega (arith, (w.shots.each 0 (shot 0 ann_home 0) (lit< tt)).left.1));
  shot_on_wall = λ w. false≢true (w.shots.each 0 (shot 0 ann_home 0) (lit< tt)).free;
  shots_65 = λ w. absurd (omega (arith, w.shots.count));
  wait_21 = λ w. absurd (omega (arith, (w.pickups.each 0 (item 0 0 Gold 0) (lit< tt)).wait));
  pickup_on_wall = λ w. false≢true (w.pickups.each 0 (item 0 0 Gold 0) (lit< tt)).free;
  one_cell = λ w. false≢true (sym w.pickups.apart.0.0);
  pickups_33 = λ w. absurd (omega (arith, w.pickups.count));
  no_time = λ w. absurd (omega (arith, w.time));
}
