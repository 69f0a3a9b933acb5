use Rattle.std.proofs.Common.{◌≡◌, ℕ, ◌+◌, ◌-◌, ap, sym, ◌∙◌, subst, arith}
use Rattle.rolling_mirror.specs.Rolling.{RollState, last_tick}
use Rattle.peer_slots.specs.Queues.{QueueState, queues_of}
use Rattle.peer_session.specs.Parts.{PeerParts, state_of, forgotten_by}
use Rattle.peer_session.proofs.Forgets.{Forgot, turn-forgets, bounded}
use Rattle.peer_session.proofs.Turned.{turned-state}
use Rattle.peer_session.proofs.Shorts.{trimmed-short}
use Rattle.peer_session.proofs.peer.Peer.turn.Goals as goal

pub overflow_sub-ticks : goal.overflow_sub-ticks
overflow_sub-ticks g c =
    let i = c.self.inside.mirror in
    let f = subst (λ (r : RollState _). Forgot i.base i.spare r.base r.spare (forgotten_by i)) (sym c.turn-replies.ensures.state) (turn-forgets g.G.Game.rules i) in
    let up = f.base_rises in
    let b = c.base.ensures in
    let b0 = c.base-base.ensures in
    omega arith

pub overflow_sub-commands : goal.overflow_sub-commands
overflow_sub-commands g c =
    let i = c.self.inside.mirror in
    let f = subst (λ (r : RollState _). Forgot i.base i.spare r.base r.spare (forgotten_by i)) (sym c.turn-replies.ensures.state) (turn-forgets g.G.Game.rules i) in
    let more = f.spare_rises in
    let s = c.spare.ensures in
    let s0 = c.spare-spare.ensures in
    omega arith

pub overflow_add-self-2 : goal.overflow_add-self-2
overflow_add-self-2 g c =
    let i = c.self.inside.mirror in
    let f = subst (λ (r : RollState _). Forgot i.base i.spare r.base r.spare (forgotten_by i)) (sym c.turn-replies.ensures.state) (turn-forgets g.G.Game.rules i) in
    let up = f.base_rises in
    let more = f.spare_rises in
    let both = f.both in
    let b = c.base.ensures in
    let b0 = c.base-base.ensures in
    let s = c.spare.ensures in
    let s0 = c.spare-spare.ensures in
    let t = c.from.ensures in
    let k = c.from-2.ensures in
    let few = bounded i.base i.spare c.turn-replies.new.self.base c.turn-replies.new.self.spare (forgotten_by i) c.self.inside.forgotten f (let fits = c.spare.type_inv in omega arith) c.self.invariant.few in
    let fits = c.base.type_inv in
    omega arith

pub invariant_of-self : goal.invariant_of-self
invariant_of-self g c =
    let i = c.self.inside.mirror in
    let f = subst (λ (r : RollState _). Forgot i.base i.spare r.base r.spare (forgotten_by i)) (sym c.turn-replies.ensures.state) (turn-forgets g.G.Game.rules i) in
    let up = f.base_rises in
    let more = f.spare_rises in
    let both = f.both in
    let b = c.base.ensures in
    let b0 = c.base-base.ensures in
    let s = c.spare.ensures in
    let s0 = c.spare-spare.ensures in
    let t = c.from.ensures in
    let k = c.from-2.ensures in
    let few = bounded i.base i.spare c.turn-replies.new.self.base c.turn-replies.new.self.spare (forgotten_by i) c.self.inside.forgotten f (let fits = c.spare.type_inv in omega arith) c.self.invariant.few in
    let sum : c.self.inside.forgotten + (c.from.result + c.from-2.result) ≡ c.self.inside.forgotten + forgotten_by i = omega arith in
    record {
      terms = c.self.invariant.terms;
      there = c.self.invariant.there;
      queues = c.self.invariant.queues;
      links = c.self.invariant.links;
      room = c.self.invariant.room;
      short = c.self.invariant.short;
      few = rw sum few;
    }

pub invariant_of-self-2 : goal.invariant_of-self-2
invariant_of-self-2 g c =
    let i = c.self.inside.mirror in
    let f = subst (λ (r : RollState _). Forgot i.base i.spare r.base r.spare (forgotten_by i)) (sym c.turn-replies.ensures.state) (turn-forgets g.G.Game.rules i) in
    let up = f.base_rises in
    let more = f.spare_rises in
    let both = f.both in
    let b = c.base.ensures in
    let b0 = c.base-base.ensures in
    let s = c.spare.ensures in
    let s0 = c.spare-spare.ensures in
    let t = c.from.ensures in
    let k = c.from-2.ensures in
    let few = bounded i.base i.spare c.turn-replies.new.self.base c.turn-replies.new.self.spare (forgotten_by i) c.self.inside.forgotten f (let fits = c.spare.type_inv in omega arith) c.self.invariant.few in
    let sum : c.self.inside.forgotten + (c.from.result + c.from-2.result) ≡ c.self.inside.forgotten + forgotten_by i = omega arith in
    record {
      terms = c.self.invariant.terms;
      there = c.self.invariant.there;
      queues = ap (λ (q : QueueState). q.slots) c.trim.ensures ∙ c.self.invariant.queues;
      links = c.self.invariant.links;
      room = ap (λ (q : QueueState). q.room) c.trim.ensures ∙ c.self.invariant.room;
      short = trimmed-short c.self.inside.config.terms.payload c.saturating_sub-bound.result (queues_of c.self.inside.queues) (queues_of c.trim.new.self) c.trim.ensures c.self.invariant.short;
      few = rw sum few;
    }

pub returns-clause-state : goal.returns-clause-state
returns-clause-state g c =
    let i = c.self.inside in
    let old : PeerParts _ = record { config = i.config; me = i.me; start = i.start; queues = i.queues; links = i.links; roll = i.mirror; forgotten = i.forgotten } in
    let last = c.last_tick.ensures in
    let bound : c.saturating_sub-bound.result ≡ last_tick c.turn-replies.new.self - i.config.keep = c.saturating_sub-bound.ensures ∙ ap (λ (n : ℕ). n - i.config.keep) last in
    rw (← c.self.view_is) (turned-state g.G.Game.rules i.config (state_of old) (queues_of c.trim.new.self).queues c.turn-replies.new.self c.saturating_sub-bound.result
    c.turn-replies.ensures.state bound (λ o. ap (λ (q : QueueState). q.queues o) c.trim.ensures))

pub returns-clause-forgotten : goal.returns-clause-forgotten
returns-clause-forgotten g c =
    let i = c.self.inside.mirror in
    let f = subst (λ (r : RollState _). Forgot i.base i.spare r.base r.spare (forgotten_by i)) (sym c.turn-replies.ensures.state) (turn-forgets g.G.Game.rules i) in
    let up = f.base_rises in
    let more = f.spare_rises in
    let both = f.both in
    let b = c.base.ensures in
    let b0 = c.base-base.ensures in
    let s = c.spare.ensures in
    let s0 = c.spare-spare.ensures in
    let t = c.from.ensures in
    let k = c.from-2.ensures in
    rw (← c.self.view_is) (omega arith)
