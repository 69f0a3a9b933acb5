use Rattle.std.proofs.Common.{◌-◌, ◌∙◌, ap, sym, length, ℕ, List, not, ◌==◌}
use Rattle.std.specs.List.{flat_map}
use Rattle.peer_packet.specs.Packet.{Part, part_bytes}
use Rattle.peer_packet.specs.Filling.{filled, put_in, weight}
use Rattle.peer_packet.proofs.PutLaws.{Puts-of}
use Rattle.peer_sending.specs.Supply.{supply_of, all_due}
use Rattle.peer_sending.proofs.Walks.{from-is}
use Rattle.peer_sending.proofs.supply.Supply.fill.Goals as goal

pub returns-clause-bytes : goal.returns-clause-bytes
returns-clause-bytes c =
    let same = from-is c.args.cursor (all_due (supply_of c.args.self.now)) c.weigh-weights.result.waiting c.beginning.result c.weigh-weights.ensures.waiting c.beginning.ensures in
    Puts-of (ap (λ (l : List Part). flat_map part_bytes (filled (length c.args.out.now - c.args.at) l).parts) (sym same)) c.put-put.ensures.bytes

pub returns-clause-cursor : goal.returns-clause-cursor
returns-clause-cursor c =
    let same = from-is c.args.cursor (all_due (supply_of c.args.self.now)) c.weigh-weights.result.waiting c.beginning.result c.weigh-weights.ensures.waiting c.beginning.ensures in
    c.put-put.ensures.cursor ∙ ap (λ (l : List Part). (filled (length c.args.out.now - c.args.at) l).cursor) (sym same)

pub returns-clause-more : goal.returns-clause-more
returns-clause-more c =
    let same = from-is c.args.cursor (all_due (supply_of c.args.self.now)) c.weigh-weights.result.waiting c.beginning.result c.weigh-weights.ensures.waiting c.beginning.ensures in
    let put = c.put-put.ensures.weight ∙ ap (λ (l : List Part). weight (filled (length c.args.out.now - c.args.at) l).parts) (sym same) in
    ap (λ (n : ℕ). not (n == c.weigh-weights.result.due)) put ∙ ap (λ (n : ℕ). not (weight (put_in c.args.cursor (length c.args.out.now - c.args.at) (all_due (supply_of c.args.self.now))).parts == n)) c.weigh-weights.ensures.due
