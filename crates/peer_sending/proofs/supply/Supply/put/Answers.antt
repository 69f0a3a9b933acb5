use Rattle.std.proofs.Common.{◌<◌, ◌+◌, ◌-◌, ◌∙◌, ap, sym, subst, refl, arith, length, ℕ}
use Rattle.std.specs.List.{flat_map}
use Rattle.peer_packet.specs.Packet.{part_bytes}
use Rattle.peer_packet.specs.Filling.{Filled, weight, behind_cursor}
use Rattle.peer_packet.proofs.PutLaws.{Puts-of, Puts-none}
use Rattle.peer_sending.specs.Filling.{EndsWith, GoesOn}
use Rattle.peer_sending.specs.Supply.{supply_of, due_at}
use Rattle.peer_sending.proofs.Loops.{waits_to, goes-on, puts-on, weighs-on, ended, ended-puts, ended-weighs, all-put, put-fits, none-of, some-of}
use Rattle.peer_sending.proofs.supply.Supply.put.Goals as goal

pub loop-origin-init : goal.loop-origin-init
unfolding weight
loop-origin-init c = record { bytes = Puts-none c.args.out.now c.args.at; goes = λ more. refl; heavy = refl }

pub overflow_add-weight : goal.overflow_add-weight
overflow_add-weight c =
    let s = supply_of c.args.self.now in
    let inv = c.loop-origin.invariant in
    let step = c.put_slot-step in
    let fits = put-fits (waits_to c.args.cursor s c.loop-origin.origin) _ c.args.out.now c.loop-origin.out step.new.out c.args.at c.loop-origin.behind step.result.behind c.loop-origin.weight step.result.weight
    inv.heavy step.ensures.weight inv.bytes step.ensures.bytes in
    omega (arith, fits, step.type_inv)

pub returns-in-Some-clause-bytes : goal.returns-in-Some-clause-bytes
returns-in-Some-clause-bytes c =
    let s = supply_of c.args.self.now in
    let inv = c.loop-origin.invariant in
    let step = c.put_slot-step in
    let less = subst (λ (n : ℕ). c.loop-origin.origin < n) c.slots-origin-end.ensures c.loop-origin-test.true in
    let ends = some-of step.result.end c.in-Some.cursor (λ d. EndsWith _ (behind_cursor c.args.cursor (due_at s c.loop-origin.origin)) d) c.in-Some.is step.ensures.ends in
    ended-puts c.args.cursor s (length c.args.out.now - c.args.at) (length c.loop-origin.out - c.loop-origin.behind) c.loop-origin.origin inv.goes c.in-Some.cursor c.args.out.now c.loop-origin.out step.new.out c.args.at c.loop-origin.behind step.result.behind
    less ends inv.bytes step.ensures.bytes

pub returns-in-Some-clause-weight : goal.returns-in-Some-clause-weight
returns-in-Some-clause-weight c =
    let s = supply_of c.args.self.now in
    let inv = c.loop-origin.invariant in
    let step = c.put_slot-step in
    let less = subst (λ (n : ℕ). c.loop-origin.origin < n) c.slots-origin-end.ensures c.loop-origin-test.true in
    let ends = some-of step.result.end c.in-Some.cursor (λ d. EndsWith _ (behind_cursor c.args.cursor (due_at s c.loop-origin.origin)) d) c.in-Some.is step.ensures.ends in
    ended-weighs c.args.cursor s (length c.args.out.now - c.args.at) (length c.loop-origin.out - c.loop-origin.behind) c.loop-origin.origin inv.goes c.in-Some.cursor c.loop-origin.weight step.result.weight
    less ends inv.heavy step.ensures.weight

pub returns-in-Some-clause-cursor : goal.returns-in-Some-clause-cursor
returns-in-Some-clause-cursor c =
    let s = supply_of c.args.self.now in
    let inv = c.loop-origin.invariant in
    let step = c.put_slot-step in
    let less = subst (λ (n : ℕ). c.loop-origin.origin < n) c.slots-origin-end.ensures c.loop-origin-test.true in
    let ends = some-of step.result.end c.in-Some.cursor (λ d. EndsWith _ (behind_cursor c.args.cursor (due_at s c.loop-origin.origin)) d) c.in-Some.is step.ensures.ends in
    ap (λ (f : Filled). f.cursor)
    (sym (ended c.args.cursor s (length c.args.out.now - c.args.at) (length c.loop-origin.out - c.loop-origin.behind) c.loop-origin.origin inv.goes c.in-Some.cursor less ends))

pub loop-origin-preserved : goal.loop-origin-preserved
loop-origin-preserved c =
    let s = supply_of c.args.self.now in
    let inv = c.loop-origin.invariant in
    let step = c.put_slot-step in
    let room = length c.args.out.now - c.args.at in
    let left = length c.loop-origin.out - c.loop-origin.behind in
    let last = length c.loop-origin.out - step.result.behind in
    let o = c.loop-origin.origin in
    let goes = none-of step.result.end (GoesOn left last (behind_cursor c.args.cursor (due_at s o))) c.in_default.not-Some step.ensures.goes in
    record {
      bytes = puts-on c.args.cursor s room left o inv.goes c.args.out.now c.loop-origin.out step.new.out c.args.at c.loop-origin.behind step.result.behind last goes inv.bytes step.ensures.bytes;
      goes = subst (λ (n : ℕ). GoesOn room (n - step.result.behind) (waits_to c.args.cursor s (o + 1))) (sym step.ensures.bytes.same) (goes-on c.args.cursor s room left o inv.goes last goes);
      heavy = weighs-on c.args.cursor s room left o inv.goes c.loop-origin.weight step.result.weight last goes inv.heavy step.ensures.weight;
    }

pub returns-clause-bytes : goal.returns-clause-bytes
returns-clause-bytes c =
    let s = supply_of c.args.self.now in
    let inv = c.loop-origin.invariant in
    let end = c.slots-origin-end.ensures in
    let over = c.loop-origin-test.false in
    let within = c.loop-origin.auto.origin-end in
    Puts-of (ap (λ (f : Filled). flat_map part_bytes f.parts)
    (sym (all-put c.args.cursor s (length c.args.out.now - c.args.at) (length c.loop-origin.out - c.loop-origin.behind) c.loop-origin.origin inv.goes (omega arith) (omega arith)))) inv.bytes

pub returns-clause-weight : goal.returns-clause-weight
returns-clause-weight c =
    let s = supply_of c.args.self.now in
    let inv = c.loop-origin.invariant in
    let end = c.slots-origin-end.ensures in
    let over = c.loop-origin-test.false in
    let within = c.loop-origin.auto.origin-end in
    inv.heavy ∙ ap (λ (f : Filled). weight f.parts)
    (sym (all-put c.args.cursor s (length c.args.out.now - c.args.at) (length c.loop-origin.out - c.loop-origin.behind) c.loop-origin.origin inv.goes (omega arith) (omega arith)))

pub returns-clause-cursor : goal.returns-clause-cursor
returns-clause-cursor c =
    let s = supply_of c.args.self.now in
    let inv = c.loop-origin.invariant in
    let end = c.slots-origin-end.ensures in
    let over = c.loop-origin-test.false in
    let within = c.loop-origin.auto.origin-end in
    ap (λ (f : Filled). f.cursor)
    (sym (all-put c.args.cursor s (length c.args.out.now - c.args.at) (length c.loop-origin.out - c.loop-origin.behind) c.loop-origin.origin inv.goes (omega arith) (omega arith)))
