use Rattle.std.proofs.Common.{sym, ◌∙◌, ap, subst}
use Rattle.arena_rules.specs.Beat.{beaten}
use Rattle.arena_rules.specs.World.{IsWorld}
use Rattle.arena_rules.proofs.Worlds.{IsWorld-beaten, beaten_by_parts}
use Rattle.arena_rules.proofs.arena.ArenaGame.beat.Goals as goal

pub returns-clause-beaten : goal.returns-clause-beaten
returns-clause-beaten c =
    beaten_by_parts _ c.fly_shots.new.players c.return_all.new.players c.fly_shots.new.shots.items c.wait.new.self
    c.saturating_add-self-inside.result c.fly_shots.ensures c.return_all.ensures c.wait.ensures
    c.saturating_add-self-inside.ensures
    ∙ ap beaten c.self.view_is

pub returns-clause-sound : goal.returns-clause-sound
returns-clause-sound c = subst IsWorld (sym (returns-clause-beaten c)) (IsWorld-beaten _ (subst IsWorld c.self.view_is c.self.invariant))

pub invariant_of-self : goal.invariant_of-self
invariant_of-self c = returns-clause-sound c
