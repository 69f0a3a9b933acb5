use Rattle.match_hall.proofs.laws.a_played_mirror_is_at_its_log.Goals as goal

pub returns : goal.returns
returns g c = record {
  log = λ m start end log h. (h.all, h.leads);
  legal = λ m start end log h. h.legal;
  drained = λ m start end log h. h.drained;
  worlds = λ m start end log h. h.worlds;
}
