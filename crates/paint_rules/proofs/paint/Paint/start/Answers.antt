use Rattle.std.proofs.Common.{refl}
use Rattle.paint_rules.proofs.Openings.{homes-near, pickups-lie, pickups-near}
use Rattle.paint_rules.proofs.Homes.{opening-homes, opening-others}
use Rattle.paint_rules.proofs.Places.{homes-stand, homes-apart, owners-opening}
use Rattle.paint_rules.proofs.paint.Paint.start.Goals as goal

pub settle-requires-clause-within : goal.settle-requires-clause-within
settle-requires-clause-within c = rw c.deref.ensures.0 (homes-near _ c.requires)

pub new-requires : goal.new-requires
new-requires c = pickups-near _ _ c.requires.grid (pickups-lie _ c.requires)

pub invariant_of-result : goal.invariant_of-result
invariant_of-result c = rw (c.copied.ensures, c.new.ensures) (record {
  grid = c.requires.grid;
  players = c.requires.players.1;
  stand = homes-stand _ c.requires;
  apart = homes-apart _ c.requires;
  owners = rw (c.settle.ensures, c.deref.ensures.0, c.unowned-cells.ensures) (owners-opening _ c.requires);
  count = c.requires.pickups;
  pickups = pickups-lie _ c.requires;
})

pub returns-clause-opening : goal.returns-clause-opening
returns-clause-opening c = rw (c.copied.ensures, c.new.ensures, c.settle.ensures, c.deref.ensures.0, c.unowned-cells.ensures) refl

pub returns-clause-homes : goal.returns-clause-homes
returns-clause-homes c = rw (c.copied.ensures, c.new.ensures, c.settle.ensures, c.deref.ensures.0, c.unowned-cells.ensures) (opening-homes _ c.requires)

pub returns-clause-others : goal.returns-clause-others
returns-clause-others c = rw (c.copied.ensures, c.new.ensures, c.settle.ensures, c.deref.ensures.0, c.unowned-cells.ensures) (opening-others _ c.requires)
