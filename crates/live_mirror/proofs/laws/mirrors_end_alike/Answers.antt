use Rattle.std.specs.Prelude.{◌-◌}
use Rattle.game_trait.proofs.KeyOrder.{NamesDiffer-same}
use Rattle.game_trait.proofs.OrderedParts.{ticks-same}
use Rattle.live_mirror.specs.Session.{mirror_after}
use Rattle.live_mirror.proofs.Ends.{ended-alike, same-blocks}
use Rattle.live_mirror.proofs.laws.mirrors_end_alike.Goals as goal

pub returns : goal.returns
unfolding mirror_after
returns g c = λ show s t number is it opening ticks copies same.
    let accepted = s.mirror.accepted in
    let other = t.mirror.accepted in
    let differ = is.staggered.in_bounds.names in
    same-blocks show number s.mirror t.mirror opening
    (ended-alike s.mirror t.mirror is it ticks copies
    (ticks-same accepted other 0 (s.mirror.length - 0) differ (NamesDiffer-same accepted other same differ) same))
