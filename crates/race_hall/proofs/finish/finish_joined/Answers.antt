use Rattle.std.proofs.Common.{◌∙◌}
use Rattle.race_hall.proofs.JoinsHeld.{held-same}
use Rattle.race_hall.proofs.finish.finish_joined.Goals as goal

pub finish_race-requires : goal.finish_race-requires
finish_race-requires g c = record {
  held = (
    c.requires.joined.0,
    held-same c.requires.joined.0 c.args.mirrors.now c.args.ends.items c.deref_mut.result.now c.deref_mut-2.result.now c.deref.result.now
        (c.deref_mut.ensures.value ∙ c.part_ends.ensures.sends) (c.deref_mut-2.ensures.value ∙ c.part_ends.ensures.rows) (c.deref.ensures.value ∙ c.part_ends.ensures.senders) c.requires.joined.1,
  );
}

pub returns : goal.returns
returns g c = λ h joined.
    c.finish_race.ensures.ends h
    (held-same h c.args.mirrors.now c.args.ends.items c.deref_mut.result.now c.deref_mut-2.result.now c.deref.result.now
    (c.deref_mut.ensures.value ∙ c.part_ends.ensures.sends) (c.deref_mut-2.ensures.value ∙ c.part_ends.ensures.rows) (c.deref.ensures.value ∙ c.part_ends.ensures.senders) joined)

pub part_ends-requires-clause-empty : goal.part_ends-requires-clause-empty
part_ends-requires-clause-empty g c = c.requires.empty

pub part_ends-requires-clause-room : goal.part_ends-requires-clause-room
part_ends-requires-clause-room g c = c.requires.room
