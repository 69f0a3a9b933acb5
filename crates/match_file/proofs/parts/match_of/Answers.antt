use Rattle.match_file.proofs.ReadIsMatch.{is_match_of, walls_within}
use Rattle.match_file.proofs.CountLaws.{counts_of}
use Rattle.match_file.proofs.parts.match_of.Goals as goal

pub roster_of-requires : goal.roster_of-requires
roster_of-requires c = rw c.as_slice.ensures (is_match_of c.args.opening c.args.body c.requires).named_apart

pub ground_of-requires-clause-walls : goal.ground_of-requires-clause-walls
ground_of-requires-clause-walls c = rw c.as_slice-2.ensures (walls_within c.args.opening c.requires.opening.grid.fits.0.1 c.args.body.walls c.requires.body.walls)

pub pickups_of-requires : goal.pickups_of-requires
pickups_of-requires c = rw c.as_slice-3.ensures (counts_of c.args.opening c.args.body c.requires.opening c.requires.body).pickups

pub homes_of-requires : goal.homes_of-requires
homes_of-requires c = rw c.as_slice-4.ensures (counts_of c.args.opening c.args.body c.requires.opening c.requires.body).players

pub invariant_of-result : goal.invariant_of-result
invariant_of-result c =
    rw (
      c.ground_of.ensures,
      c.as_slice-2.ensures,
      c.pickups_of.ensures,
      c.as_slice-3.ensures,
      c.homes_of.ensures,
      c.as_slice-4.ensures,
      c.in_ok-roster.ensures,
      c.as_slice.ensures,
      c.into_list.ensures,
      c.into_seq.ensures,
    )
    (is_match_of c.args.opening c.args.body c.requires)
