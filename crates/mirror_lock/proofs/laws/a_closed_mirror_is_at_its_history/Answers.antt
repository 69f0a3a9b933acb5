use Rattle.mirror_lock.proofs.laws.a_closed_mirror_is_at_its_history.Goals as goal

pub returns : goal.returns
returns g c = record {
  whole = λ opening mirror seats h. h.whole.object_is;
  history = λ opening mirror seats h. (h.history, h.state);
  plan = λ opening mirror seats h. h.same_plan;
  staggered = λ opening mirror seats h. h.consistent.staggered;
}
