-- What a source gave and what a sink gained, piece after piece.
use Rattle.std.proofs.Common.{◌≡◌, ℕ, ◌+◌, ◌<◌, ◌≤◌, ◌↔◌, List, [], ◌++◌, length, take, drop, Option, Some, None, refl, sym, ap, ◌∙◌, append_assoc, arith}
use Rattle.std.specs.Prelude.{IfSome}
use Rattle.std.proofs.Math.Seq.{take-add}
use Rattle.std.proofs.lemmas.List.{append-nil, drop-drop, length-append, take_all, take-append-drop}
use Rattle.tss_io.specs.Streams.{Yields, Gains}

pub same-le : (n : ℕ) → n ≤ n
same-le n = omega arith

-- the bytes at a place, which stand at the front of others now, are given from there on
pub given-front : (bytes others : List ℕ) (at n : ℕ) → take n others ≡ take n (drop at bytes) → drop at bytes ≡ take n others ++ drop (at + n) bytes
given-front bytes others at n is = rw (is, ← drop-drop n at bytes) (sym (take-append-drop n (drop at bytes)))

-- nothing is given
pub Yields-none : (left : Option (List ℕ)) → Yields left [] left
Yields-none (Some bytes) = refl
Yields-none None = tt

-- two pieces that are given one after the other are one piece
pub Yields-join : (a b c : Option (List ℕ)) (p q : List ℕ) → Yields a p b → Yields b q c → Yields a (p ++ q) c
Yields-join (Some a) (Some b) (Some c) p q first then = first ∙ ap (λ (t : List ℕ). p ++ t) then ∙ sym (append_assoc p q c)
Yields-join (Some a) (Some b) None p q first then = then
Yields-join (Some a) None c p q first then = absurd first
Yields-join None (Some b) c p q first then = absurd first
Yields-join None None (Some c) p q first then = then
Yields-join None None None p q first then = tt

-- a piece with no bytes adds none
pub Yields-nothing : (a b c : Option (List ℕ)) (p q : List ℕ) (n : ℕ) → n ≡ 0 → Yields a p b → Yields b (take n q) c → Yields a p c
Yields-nothing a b c p q n none first then =
    rw append-nil at (Yields-join a b c p [] first (rw none at then))

-- nothing is left where a read gave nothing
pub Yields-end : (a b : Option (List ℕ)) (q : List ℕ) (n : ℕ) → n ≡ 0 → IfSome a (λ bytes. (n ≡ 0) ↔ (bytes ≡ [])) → Yields a (take n q) b → IfSome b (λ rest. rest ≡ [])
Yields-end (Some a) (Some b) q n none end gives =
    let same : a ≡ b = rw none at gives in
    sym same ∙ end.0 none
Yields-end (Some a) None q n none end gives = absurd gives
Yields-end None (Some b) q n none end gives = absurd gives
Yields-end None None q n none end gives = tt

-- more was left than is allowed, where more was given
pub Yields-over : (a b : Option (List ℕ)) (p : List ℕ) (limit : ℕ) → Yields a p b → limit < length p → IfSome a (λ bytes. limit < length bytes)
Yields-over (Some a) (Some b) p limit gives over = omega (arith, ap length gives, length-append p b)
Yields-over (Some a) None p limit gives over = absurd gives
Yields-over None b p limit gives over = tt

-- what was left before, where nothing is left now, is what was given
pub Yields-all : (a b : Option (List ℕ)) (p : List ℕ) → Yields a p b → IfSome b (λ rest. rest ≡ []) → IfSome a (λ bytes. p ≡ bytes)
Yields-all (Some a) (Some b) p gives end = sym (gives ∙ ap (λ (t : List ℕ). p ++ t) end ∙ append-nil p)
Yields-all (Some a) None p gives end = absurd gives
Yields-all None b p gives end = tt

-- what was left is within the limit where all of it was given and is within
pub Yields-within : (a b : Option (List ℕ)) (p : List ℕ) (limit : ℕ) → Yields a p b → IfSome b (λ rest. rest ≡ []) → length p ≤ limit → IfSome a (λ bytes. length bytes ≤ limit)
Yields-within (Some a) b p limit gives end le = rw (Yields-all (Some a) b p gives end) at le
Yields-within None b p limit gives end le = tt

-- nothing is gained
pub Gains-none : (taken : Option (List ℕ)) → Gains taken [] taken
Gains-none (Some bytes) = sym (append-nil bytes)
Gains-none None = tt

-- two pieces that are gained one after the other are one piece
pub Gains-join : (a b c : Option (List ℕ)) (p q : List ℕ) → Gains a p b → Gains b q c → Gains a (p ++ q) c
Gains-join (Some a) (Some b) (Some c) p q first then = then ∙ ap (λ (t : List ℕ). t ++ q) first ∙ append_assoc a p q
Gains-join (Some a) (Some b) None p q first then = then
Gains-join (Some a) None c p q first then = absurd first
Gains-join None (Some b) c p q first then = absurd first
Gains-join None None (Some c) p q first then = then
Gains-join None None None p q first then = tt

-- the front of a text and the piece behind it are a longer front
pub Gains-more : (a b c : Option (List ℕ)) (text : List ℕ) (at n : ℕ) → Gains a (take at text) b → Gains b (take n (drop at text)) c → Gains a (take (at + n) text) c
Gains-more a b c text at n first then = rw take-add (Gains-join a b c (take at text) (take n (drop at text)) first then)

-- all of a text is gained once its front reaches its end
pub Gains-whole : (a b : Option (List ℕ)) (text : List ℕ) (at : ℕ) → length text ≤ at → Gains a (take at text) b → Gains a text b
Gains-whole a b text at end gains = rw (take_all at text end) at gains
