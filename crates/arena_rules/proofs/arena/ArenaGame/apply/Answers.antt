use Rattle.std.proofs.Common.{subst}
use Rattle.arena_rules.specs.World.{IsWorld}
use Rattle.arena_rules.proofs.Worlds.{IsWorld-gone, IsWorld-turned, IsWorld-shot_by}
use Rattle.arena_rules.proofs.arena.ArenaGame.apply.Goals as goal

pub returns-in-Go-clause-sound : goal.returns-in-Go-clause-sound
returns-in-Go-clause-sound c = rw c.go.ensures.gone (IsWorld-gone _ _ (subst IsWorld c.self.view_is c.self.invariant))

pub returns-in-Left-clause-sound : goal.returns-in-Left-clause-sound
returns-in-Left-clause-sound c = rw c.turn_left.ensures.turned (IsWorld-turned _ _ _ (subst IsWorld c.self.view_is c.self.invariant))

pub returns-in-Right-clause-sound : goal.returns-in-Right-clause-sound
returns-in-Right-clause-sound c = rw c.turn_right.ensures.turned (IsWorld-turned _ _ _ (subst IsWorld c.self.view_is c.self.invariant))

pub returns-in-Shoot-clause-sound : goal.returns-in-Shoot-clause-sound
returns-in-Shoot-clause-sound c = rw c.shoot.ensures.shot (IsWorld-shot_by _ _ (subst IsWorld c.self.view_is c.self.invariant))

pub returns-in-Dash-clause-sound : goal.returns-in-Dash-clause-sound
returns-in-Dash-clause-sound c = rw (c.go-in-Dash-2.ensures.gone, c.go-in-Dash.ensures.gone) (IsWorld-gone _ _ (IsWorld-gone _ _ (subst IsWorld c.self.view_is c.self.invariant)))
