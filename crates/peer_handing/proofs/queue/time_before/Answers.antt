use Rattle.std.proofs.Common.{ap, ◌∙◌, ◌≡◌, ◌-◌, ◌<◌, ℕ, suc, [], length, take, arith}
use Rattle.peer_model.specs.Queue.{Sent, last_time}
use Rattle.peer_packet.specs.Packet as wire
use Rattle.peer_calls.specs.Wire.{as_sent}
use Rattle.peer_handing.proofs.Queues.{sent-at, last-take, last-none}
use Rattle.peer_handing.proofs.queue.time_before.Goals as goal

abbrev no_sent : Sent
no_sent = record { time = 0; bytes = [] }

pub returns-then-place-eq0 : goal.returns-then-place-eq0
returns-then-place-eq0 c = c.gone.ensures ∙ last-none c.args.queue.now.queue.gone c.args.place c.args.queue.now.queue.commands c.if-place-eq0.true

pub returns-else-place-eq0 : goal.returns-else-place-eq0
returns-else-place-eq0 c =
    let q = c.args.queue.now.queue in
    let some = c.if-place-eq0.false in
    let there = c.requires in
    let within : c.args.place - 1 < length q.commands = omega arith in
    let n : suc (c.args.place - 1) ≡ c.args.place = omega arith in
    c.time.ensures (as_sent no_sent) ∙ ap (λ (x : wire.Sent). x.time) (sent-at q.commands (c.args.place - 1) no_sent within)
    ∙ last-take q.gone q.commands (c.args.place - 1) no_sent within
    ∙ ap (λ (k : ℕ). last_time q.gone (take k q.commands)) n
