use Rattle.match_join.proofs.EndLaws.{mirror-drained, mirror-length, mirror-world, joiner-drained, joiner-from, joiner-world, told-ends}
use Rattle.match_join.proofs.laws.both_are_drained.Goals as goal

pub returns : goal.returns
returns g c = record {
  told = λ show opening m number k text h. told-ends show opening m number k text h;
  mirror = λ show opening m number k text sound h. (
    mirror-drained show.rules opening m number k sound,
    mirror-length show.rules opening m number k sound,
    mirror-world show.rules opening m number k sound,
  );
  joiner = λ show opening m number k text sound h. (
    joiner-drained show.rules opening m number k sound h.left,
    joiner-from show.rules opening m number k sound h.left,
    joiner-world show.rules opening m number k sound h.left,
  );
}
