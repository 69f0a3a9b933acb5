use Rattle.std.proofs.Common.{◌≡◌, ◌≤◌, ◌<◌, ◌+◌, ◌^◌, ◌∙◌, Option, ap, subst, arith, length, ℕ}
use Rattle.std.specs.Prelude.{IfSome}
use Rattle.std.proofs.lemmas.Bool.{ne_eqb}
use Rattle.peer_packet.specs.Packet.{Packet, bytes_of}
use Rattle.peer_slots.specs.Links.{LinkState, links_of, with_links}
use Rattle.peer_slots.specs.Queues.{queues_of}
use Rattle.peer_sending.specs.Supply.{Supply, IsLegal, supply_of}
use Rattle.peer_sending.specs.Sending.{state_of}
use Rattle.peer_sending.proofs.Packets.{other-is, head-is, supply-is, is-put, put-said, put-leaves, packet-is, said-short, after-short}
use Rattle.peer_sending.proofs.sending.put_packet.Goals as goal

pub returns-then-out-size-clause-answer : goal.returns-then-out-size-clause-answer
returns-then-out-size-clause-answer g c start =
    let config = c.args.config.now in
    let s = state_of c.args.me start (queues_of c.args.queues.now) (links_of c.args.links.now) c.args.mirror.now in
    let now : c.clock.result ≡ c.args.mirror.now.left.clock + c.args.mirror.now.base = (let e = c.clock.ensures.clock in omega arith) in
    let head = head-is config c.args.to s c.of-head.result c.clock.result c.echo.result _ _ _ c.of-head.ensures.head now c.echo.ensures c.counts.ensures.counts c.requires.queues c.newest_mark.ensures in
    let other = other-is c.args.to c.args.me config.terms.slots c.if-to-config.false (ne_eqb c.args.to c.args.me c.if-to-me.false) in
    let long = c.size-size.ensures config.terms.session ∙ ap (λ (h : Packet). length (bytes_of config.terms.session h)) head in
    said-short config c.args.to (length c.args.out.now) s other c.size-size.result long c.if-out-size.true

pub returns-then-out-size-clause-state : goal.returns-then-out-size-clause-state
returns-then-out-size-clause-state g c start =
    let config = c.args.config.now in
    let s = state_of c.args.me start (queues_of c.args.queues.now) (links_of c.args.links.now) c.args.mirror.now in
    let now : c.clock.result ≡ c.args.mirror.now.left.clock + c.args.mirror.now.base = (let e = c.clock.ensures.clock in omega arith) in
    let head = head-is config c.args.to s c.of-head.result c.clock.result c.echo.result _ _ _ c.of-head.ensures.head now c.echo.ensures c.counts.ensures.counts c.requires.queues c.newest_mark.ensures in
    let other = other-is c.args.to c.args.me config.terms.slots c.if-to-config.false (ne_eqb c.args.to c.args.me c.if-to-me.false) in
    let long = c.size-size.ensures config.terms.session ∙ ap (λ (h : Packet). length (bytes_of config.terms.session h)) head in
    after-short config c.args.to (length c.args.out.now) s other (subst (λ (n : ℕ). length c.args.out.now < n) long c.if-out-size.true)

pub put-at-requires : goal.put-at-requires
put-at-requires g c = subst (λ (n : ℕ). n ≤ length c.args.out.now) (c.size-size.ensures c.args.config.now.terms.session) c.if-out-size.false

pub returns-clause-answer : goal.returns-clause-answer
returns-clause-answer g c start =
    let config = c.args.config.now in
    let s = state_of c.args.me start (queues_of c.args.queues.now) (links_of c.args.links.now) c.args.mirror.now in
    let now : c.clock.result ≡ c.args.mirror.now.left.clock + c.args.mirror.now.base = (let e = c.clock.ensures.clock in omega arith) in
    let head = head-is config c.args.to s c.of-head.result c.clock.result c.echo.result _ _ _ c.of-head.ensures.head now c.echo.ensures c.counts.ensures.counts c.requires.queues c.newest_mark.ensures in
    let other = other-is c.args.to c.args.me config.terms.slots c.if-to-config.false (ne_eqb c.args.to c.args.me c.if-to-me.false) in
    let again : c.clock-2.result ≡ c.args.mirror.now.left.clock + c.args.mirror.now.base = (let e = c.clock-2.ensures.clock in omega arith) in
    let supply = supply-is config c.args.to s (supply_of c.of.result) c.clock-2.result _ (ap supply_of c.of.ensures) c.requires.queues again in
    let made = is-put config c.args.to s c.of-head.result (supply_of c.of.result) c.size-size.result c.put-at.result c.fill-filled.result.behind c.cursor-cursor.result c.fill-filled.result.cursor c.fill-filled.result.is_more
    c.args.out.now c.put-at.new.out c.fill-filled.new.out head supply c.cursor-cursor.ensures (c.size-size.ensures config.terms.session) c.if-out-size.false c.put-at.ensures
    (c.fill-filled.ensures.bytes, c.fill-filled.ensures.cursor, c.fill-filled.ensures.more) in
    put-said config c.args.to s c.args.out.now c.fill-filled.new.out c.fill-filled.result.is_more c.fill-filled.result.behind c.fill-filled.result.cursor other made

pub returns-clause-state : goal.returns-clause-state
returns-clause-state g c start =
    let config = c.args.config.now in
    let s = state_of c.args.me start (queues_of c.args.queues.now) (links_of c.args.links.now) c.args.mirror.now in
    let now : c.clock.result ≡ c.args.mirror.now.left.clock + c.args.mirror.now.base = (let e = c.clock.ensures.clock in omega arith) in
    let head = head-is config c.args.to s c.of-head.result c.clock.result c.echo.result _ _ _ c.of-head.ensures.head now c.echo.ensures c.counts.ensures.counts c.requires.queues c.newest_mark.ensures in
    let other = other-is c.args.to c.args.me config.terms.slots c.if-to-config.false (ne_eqb c.args.to c.args.me c.if-to-me.false) in
    let again : c.clock-2.result ≡ c.args.mirror.now.left.clock + c.args.mirror.now.base = (let e = c.clock-2.ensures.clock in omega arith) in
    let supply = supply-is config c.args.to s (supply_of c.of.result) c.clock-2.result _ (ap supply_of c.of.ensures) c.requires.queues again in
    let made = is-put config c.args.to s c.of-head.result (supply_of c.of.result) c.size-size.result c.put-at.result c.fill-filled.result.behind c.cursor-cursor.result c.fill-filled.result.cursor c.fill-filled.result.is_more
    c.args.out.now c.put-at.new.out c.fill-filled.new.out head supply c.cursor-cursor.ensures (c.size-size.ensures config.terms.session) c.if-out-size.false c.put-at.ensures
    (c.fill-filled.ensures.bytes, c.fill-filled.ensures.cursor, c.fill-filled.ensures.more) in
    ap (λ (l : LinkState). with_links l s) c.set_cursor.ensures
    ∙ put-leaves config c.args.to s c.args.out.now c.fill-filled.new.out c.fill-filled.result.is_more c.fill-filled.result.behind c.fill-filled.result.cursor other made

pub returns-clause-bytes : goal.returns-clause-bytes
returns-clause-bytes g c start =
    let config = c.args.config.now in
    let s = state_of c.args.me start (queues_of c.args.queues.now) (links_of c.args.links.now) c.args.mirror.now in
    let now : c.clock.result ≡ c.args.mirror.now.left.clock + c.args.mirror.now.base = (let e = c.clock.ensures.clock in omega arith) in
    let head = head-is config c.args.to s c.of-head.result c.clock.result c.echo.result _ _ _ c.of-head.ensures.head now c.echo.ensures c.counts.ensures.counts c.requires.queues c.newest_mark.ensures in
    let again : c.clock-2.result ≡ c.args.mirror.now.left.clock + c.args.mirror.now.base = (let e = c.clock-2.ensures.clock in omega arith) in
    let supply = supply-is config c.args.to s (supply_of c.of.result) c.clock-2.result _ (ap supply_of c.of.ensures) c.requires.queues again in
    let made = is-put config c.args.to s c.of-head.result (supply_of c.of.result) c.size-size.result c.put-at.result c.fill-filled.result.behind c.cursor-cursor.result c.fill-filled.result.cursor c.fill-filled.result.is_more
    c.args.out.now c.put-at.new.out c.fill-filled.new.out head supply c.cursor-cursor.ensures (c.size-size.ensures config.terms.session) c.if-out-size.false c.put-at.ensures
    (c.fill-filled.ensures.bytes, c.fill-filled.ensures.cursor, c.fill-filled.ensures.more) in
    made.bytes.front

pub returns-clause-packet : goal.returns-clause-packet
returns-clause-packet g c start terms short =
    let config = c.args.config.now in
    let s = state_of c.args.me start (queues_of c.args.queues.now) (links_of c.args.links.now) c.args.mirror.now in
    let now : c.clock.result ≡ c.args.mirror.now.left.clock + c.args.mirror.now.base = (let e = c.clock.ensures.clock in omega arith) in
    let other = other-is c.args.to c.args.me config.terms.slots c.if-to-config.false (ne_eqb c.args.to c.args.me c.if-to-me.false) in
    let again : c.clock-2.result ≡ c.args.mirror.now.left.clock + c.args.mirror.now.base = (let e = c.clock-2.ensures.clock in omega arith) in
    let supply = supply-is config c.args.to s (supply_of c.of.result) c.clock-2.result _ (ap supply_of c.of.ensures) c.requires.queues again in
    let legal = subst (λ (l : Supply). (o : ℕ) → o < l.slots → IsLegal (l.queues o)) supply c.fill-filled.ensures.legal in
    let numbers = c.of-head.ensures.numbers in
    packet-is config c.args.to (length c.args.out.now) s terms c.requires.me other (subst (λ (n : ℕ). n < 2 ^ 32) now numbers.0) (subst (λ (n : ℕ). n < 2 ^ 32) c.echo.ensures numbers.1)
    (subst (λ (m : Option (ℕ × ℕ)). IfSome m (λ x. (x.0 < 2 ^ 32) × (x.1 < 2 ^ 32))) c.newest_mark.ensures numbers.2) legal short
