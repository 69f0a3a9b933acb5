-- Walks over the first commands of a part.
use Rattle.std.proofs.Common.{◌≡◌, ℕ, zero, suc, ◌+◌, ◌-◌, ◌≤◌, ◌<◌, min, List, [], ◌∷◌, map, length, take, drop, refl, ap, sym, ◌∙◌, arith}
use Rattle.std.proofs.Math.Seq.{drop-drop}
use Rattle.std.specs.Prelude.{Option, Some, None}
use Rattle.peer_model.specs.Queue.{last_time}
use Rattle.peer_packet.specs.declared.part.SentView.{SentView}
use Rattle.peer_packet.specs.Seen.{IsNextSent}
use Rattle.peer_packet.specs.Packet as wire
use Rattle.peer_calls.specs.Wire.{sent_from}

pub map-drop : (n : ℕ) (cs : List wire.Sent) → map sent_from (drop n cs) ≡ drop n (map sent_from cs)
map-drop zero cs = refl
map-drop (suc n) [] = refl
map-drop (suc n) (c ∷ cs) = map-drop n cs

-- a command passed
pub pass-some : (t : ℕ) (c : wire.Sent) (old new : List wire.Sent) → old ≡ c ∷ new → c.time ≡ last_time t (map sent_from (take 1 old))
unfolding last_time
pass-some t c old new is = rw is refl

pub pass-none : (t : ℕ) (old : List wire.Sent) → old ≡ [] → t ≡ last_time t (map sent_from (take 1 old))
unfolding last_time
pass-none t old is = rw is refl

pub next-rest : (r : Option SentView) (old new : List wire.Sent) → IsNextSent r old new → new ≡ drop 1 old
next-rest None old new h = h.1 ∙ ap (drop 1) (sym h.0)
next-rest (Some v) old new h = ap (drop 1) (sym h)

-- the first so many, of which one is passed
pass-one :
    (t k : ℕ) (cs : List wire.Sent)
    → last_time (last_time t (map sent_from (take 1 cs))) (take k (map sent_from (drop 1 cs))) ≡ last_time t (take (suc k) (map sent_from cs))
unfolding last_time
pass-one t zero [] = refl
pass-one t (suc k) [] = refl
pass-one t k (c ∷ cs) = refl

pub time-on :
    (t u count i : ℕ) (cs new : List wire.Sent) (total : ℕ) → i < count
    → u ≡ last_time t (map sent_from (take 1 cs)) → new ≡ drop 1 cs
    → last_time t (take (count - i) (map sent_from cs)) ≡ total
    → last_time u (take (count - (i + 1)) (map sent_from new)) ≡ total
time-on t u count i cs new total there time rest so_far =
    let n : suc (count - (i + 1)) ≡ count - i = omega arith in
    (λ j. last_time (time j) (take (count - (i + 1)) (map sent_from (rest j)))) ∙ pass-one t (count - (i + 1)) cs
    ∙ ap (λ (k : ℕ). last_time t (take k (map sent_from cs))) n ∙ so_far

pub time-done :
    (t count i total : ℕ) (cs : List wire.Sent) → count ≤ i → last_time t (take (count - i) (map sent_from cs)) ≡ total → t ≡ total
unfolding last_time
time-done t count i total cs past so_far =
    let n : 0 ≡ count - i = omega arith in
    ap (λ (k : ℕ). last_time t (take k (map sent_from cs))) n ∙ so_far

-- commands behind the first so many
pub behind-on :
    (cs new all : List wire.Sent) (m i : ℕ) → i < m → new ≡ drop 1 cs → drop (m - i) cs ≡ all → drop (m - (i + 1)) new ≡ all
behind-on cs new all m i there rest so_far =
    let n : 1 + (m - (i + 1)) ≡ m - i = omega arith in
    ap (drop (m - (i + 1))) rest ∙ drop-drop (m - (i + 1)) 1 cs ∙ ap (λ (k : ℕ). drop k cs) n ∙ so_far

pub behind-done : (cs all : List wire.Sent) (m i : ℕ) → m ≤ i → drop (m - i) cs ≡ all → cs ≡ all
behind-done cs all m i past so_far = (let n : 0 ≡ m - i = omega arith in ap (λ (k : ℕ). drop k cs) n ∙ so_far)

at-most : (cs : List wire.Sent) (count : ℕ) → drop (min count (length cs)) cs ≡ drop count cs
at-most [] zero = refl
at-most [] (suc n) = (let e : min (suc n) 0 ≡ 0 = omega arith in ap (λ (k : ℕ). drop {A = wire.Sent} k []) e)
at-most (c ∷ cs) zero = (let e : min 0 (suc (length cs)) ≡ 0 = omega arith in ap (λ (k : ℕ). drop k (c ∷ cs)) e)
at-most (c ∷ cs) (suc n) =
    (let e : min (suc n) (suc (length cs)) ≡ suc (min n (length cs)) = omega arith in ap (λ (k : ℕ). drop k (c ∷ cs)) e ∙ at-most cs n)

pub behind-min : (cs : List wire.Sent) (count m : ℕ) → m ≡ min count (length cs) → drop m cs ≡ drop count cs
behind-min cs count m is = (ap (λ (k : ℕ). drop k cs) is ∙ at-most cs count)
