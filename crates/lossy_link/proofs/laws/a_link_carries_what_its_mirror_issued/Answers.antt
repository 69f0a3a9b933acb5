use Rattle.std.proofs.Common.{◌∙◌}
use Rattle.lossy_link.proofs.Linked.{lossy-way, way-each, way-brought}
use Rattle.lossy_link.proofs.laws.a_link_carries_what_its_mirror_issued.Goals as goal

pub returns : goal.returns
returns g c = record {
  way = λ x opening lossy k. lossy-way x opening k lossy;
  count = λ m opening n h. way-each m opening n h;
  sent = λ m opening n from to h a b. (h.links.links from to a b).sent;
  own = λ m opening n from h a. h.links.own from a ∙ (h.links.links from from a a).sent;
  brought = λ m opening n to from number s h below is. way-brought m opening n to from number s h below is;
}
