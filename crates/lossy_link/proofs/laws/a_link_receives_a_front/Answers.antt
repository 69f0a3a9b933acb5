use Rattle.lossy_link.proofs.laws.a_link_receives_a_front.Goals as goal

pub returns : goal.returns
returns c = record {
  received = λ m n from to h there its. (let k = h from to there its in (k.prefix, k.acked));
  packets = λ m n from to k h there its flown. (h from to there its).packets k flown;
  counts = λ m n from to k h there its flown. (h from to there its).counts k flown;
}
