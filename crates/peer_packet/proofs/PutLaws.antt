-- Putting one piece behind another.
use Rattle.std.proofs.Common.{◌≡◌, ℕ, ◌+◌, List, [], ◌++◌, length, length-append, take, refl, sym, ap, ◌∙◌, append_assoc, arith}
use Rattle.std.proofs.lemmas.List.{append-nil}
use Rattle.peer_packet.specs.Putting.{Puts}

pub Puts-then : {old mid new x y : List ℕ} {at next end : ℕ} → Puts old mid at next x → Puts mid new next end y → Puts old new at end (x ++ y)
Puts-then {old} {mid} {new} {x} {y} {at} {next} {end} p q =
    let a = p.place in
    let b = q.place in
    record {
      front = q.front ∙ ap (λ (t : List ℕ). t ++ y) p.front ∙ append_assoc (take at old) x y;
      place = omega (arith, a, b, length-append x y);
      same = q.same ∙ p.same;
    }

pub Puts-of : {old new x y : List ℕ} {at end : ℕ} → x ≡ y → Puts old new at end x → Puts old new at end y
Puts-of {old} {new} {x} {y} {at} {end} e p = record { front = p.front ∙ ap (λ (t : List ℕ). take at old ++ t) e; place = p.place ∙ ap (λ (t : List ℕ). at + length t) e; same = p.same }

pub Puts-none : (out : List ℕ) (at : ℕ) → Puts out out at at []
Puts-none out at = record { front = sym (append-nil (take at out)); place = omega arith; same = refl }
