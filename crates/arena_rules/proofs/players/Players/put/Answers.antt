use Rattle.std.proofs.Common.{length, arith, set, sym, ◌∙◌, ap, length-set}
use Rattle.std.proofs.lemmas.List.{map-set}
use Rattle.arena_rules.specs.Kept.{place_number}
use Rattle.arena_rules.proofs.Changes.{refill-set}
use Rattle.arena_rules.proofs.Numbers.{take-set, are_live-put}
use Rattle.arena_rules.proofs.players.Players.put.Goals as goal

pub invariant_of-self : goal.invariant_of-self
invariant_of-self c =
    let items = c.self.inside.list.items in
    let n = c.args.number in
    let p = c.args.player in
    rw (c.deref_mut.ensures.value, refill-set, c.place_number.ensures) (record {
      count = omega (arith, length-set items n p, c.self.invariant.count);
      front = rw (length-set items n p) (take-set c.self.inside.numbers n (length items) (place_number p.state)
          ∙ ap (λ l. set l n (place_number p.state)) c.self.invariant.front
          ∙ sym (map-set (λ q. place_number q.state) items n p));
      live = are_live-put items n p c.self.inside.may_be_dead c.is_live.result c.is_live.ensures c.self.invariant.live;
    })
