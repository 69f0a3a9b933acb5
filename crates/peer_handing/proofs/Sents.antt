-- The size of commands, one after another.
use Rattle.std.proofs.Common.{◌≡◌, ℕ, ◌+◌, ◌≤◌, ◌<◌, List, length, length-append, take, drop, get_or, ap, arith}
use Rattle.std.specs.List.{flat_map}
use Rattle.peer_packet.specs.Packet.{Sent, sent_bytes}
use Rattle.peer_packet.proofs.FillLaws.{sents_more}

pub size-on : (cs : List Sent) (from count i size : ℕ) (d : Sent) (one : ℕ) → i < count → from + count ≤ length cs
    → size ≡ length (flat_map sent_bytes (take i (drop from cs))) → one ≡ length (get_or cs (from + i) d).payload
    → size + (5 + one) ≡ length (flat_map sent_bytes (take (i + 1) (drop from cs)))
size-on cs from count i size d one lt le so_far is =
    let more = ap (λ (t : List ℕ). length t) (sents_more cs from count i d lt le) in
    let both = length-append (flat_map sent_bytes (take i (drop from cs))) (sent_bytes (get_or cs (from + i) d)) in
    let here : length (sent_bytes (get_or cs (from + i) d)) ≡ 5 + length (get_or cs (from + i) d).payload = omega arith in
    omega arith
