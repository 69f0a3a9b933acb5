use Rattle.std.proofs.Common.{◌≡◌, List, ℕ, sym, subst}
use Rattle.tss_program.specs.Promises.{Keeps}
use Rattle.tss_program.proofs.RunLaws.{told-same}
use Rattle.tss_program.proofs.laws.kept_logs_are_of_the_match.Goals as goal

pub returns : goal.returns
returns c = record {
  asked = λ r h. (h.asked_for, h.keeps);
  told = λ s left kept h input told. (let same = sym (told-same left input h.input told h.told) in (same, subst (λ (i : List ℕ). Keeps s i kept) same h.keeps));
  played = λ input kept k. (k.0, k.1.0, k.1.1, k.2);
  scored = λ input kept k. (k.0, k.1.0, k.1.1, k.2);
  painted = λ input kept k. (k.0, k.1.0, k.1.1, k.2);
  raced = λ input kept k. (k.0, k.1.0, k.1.1, k.2, k.3);
  netted = λ input kept k. (k.0, k.1, k.2.ended, k.2.logs);
  soaked = λ number input kept k. k;
}
