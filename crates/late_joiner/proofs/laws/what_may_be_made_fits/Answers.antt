use Rattle.late_joiner.proofs.laws.what_may_be_made_fits.Goals as goal

pub returns : goal.returns
returns g c = record {
  tick = λ s. tt;
  arrive = λ s x within. within;
  step = λ s copy there. there;
  restagger = λ s plan there. there;
}
