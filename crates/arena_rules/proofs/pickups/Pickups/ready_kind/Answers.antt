use Rattle.std.proofs.Common.{◌∙◌, ap}
use Rattle.match_setup.specs.Setup.{spot_cell}
use Rattle.arena_rules.specs.Pickup.{ready_kind}
use Rattle.arena_rules.proofs.Restings.{ready_kind-seen}
use Rattle.arena_rules.proofs.pickups.Pickups.ready_kind.Goals as goal

pub returns : goal.returns
returns c =
    let cell = spot_cell c.args.spot in
    rw (c.ready_kind.ensures, c.deref.ensures.0) (ready_kind-seen c.self.inside.beats cell c.self.inside.list.items ∙ ap (λ ps. ready_kind ps cell) c.self.view_is)
