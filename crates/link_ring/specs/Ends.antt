-- What contracts see of the two ends of a link.
use Rattle.std.specs.Prelude.{ℕ, List}
use Rattle.rtrb.specs.Ring.{sent, received, known_items, producer_capacity, IsPair, SameProducer, SameConsumer}
use Rattle.link_ring.specs.declared.message.Message.{Message}
use Rattle.link_ring.specs.declared.send.LinkSend.{LinkSend}
use Rattle.link_ring.specs.declared.receive.LinkReceive.{LinkReceive}

-- every message sent so far
abbrev pub sent_of : LinkSend → List Message
sent_of s = sent s.producer

-- how many messages may be sent in all
abbrev pub room_of : LinkSend → ℕ
room_of s = producer_capacity s.producer

-- every message received so far
abbrev pub received_of : LinkReceive → List Message
received_of r = received r.consumer

-- the messages that are known to be on their way
abbrev pub waiting_of : LinkReceive → List Message
waiting_of r = known_items r.consumer

-- how often nothing was seen
abbrev pub misses_of : LinkReceive → ℕ
misses_of r = r.misses

-- the two ends of one link
abbrev pub IsLink : LinkSend → LinkReceive → Type 0
IsLink s r = IsPair s.producer r.consumer

-- the same end, later
abbrev pub SameSend : LinkSend → LinkSend → Type 0
SameSend a b = SameProducer a.producer b.producer

-- the same of the other end
abbrev pub SameReceive : LinkReceive → LinkReceive → Type 0
SameReceive a b = SameConsumer a.consumer b.consumer
