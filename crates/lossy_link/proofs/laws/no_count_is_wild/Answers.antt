use Rattle.std.proofs.Common.{◌≡◌, ℕ, ◌≤◌, ◌⊎◌, inl, inr, true, false, cond, ltb, leb, List, ◌++◌, length, length-append, refl, ap, arith}
use Rattle.std.proofs.lemmas.Bool.Decides.{nat_tests}
use Rattle.game_trait.specs.declared.command.Command.{Command}
use Rattle.lossy_link.specs.declared.packet.Heard.{Heard}
use Rattle.lossy_link.specs.declared.packet.Heard.TheVariants.{Moved, Old, Wild}
use Rattle.lossy_link.specs.Ends.{OutState, heard}
use Rattle.lossy_link.specs.Link.{LinkState, IsLinked, has_flown}
use Rattle.lossy_link.specs.Links.{link_at}
use Rattle.lossy_link.proofs.laws.no_count_is_wild.Goals as goal

tame : (e : OutState) (k : ℕ) → k ≤ length e.sent → (heard e k ≡ Old) ⊎ (heard e k ≡ Moved)
tame e k given =
    let few : ltb (length e.sent) k ≡ false = grind (arith, nat_tests) in
    elim (leb k e.acked) as (λ v. leb k e.acked ≡ v → (heard e k ≡ Old) ⊎ (heard e k ≡ Moved)) [
      | true ↦ λ old. inl (rw (few, old) refl)
      | false ↦ λ new. inr (rw (few, new) refl)
    ]
    refl

within : (l : LinkState) → IsLinked l → (k : ℕ) → has_flown l.counts k ≡ true → k ≤ length l.sent
within l h k flown =
    let received = h.counts k flown in
    let whole : length l.sent ≡ length (l.received ++ h.prefix.0) = ap (λ (xs : List Command). length xs) h.prefix.1 in
    let both = length-append l.received h.prefix.0 in
    omega arith

pub returns : goal.returns
returns c = λ m n from to count are a b flown.
    tame (record { room = (link_at n.rows from to).room; sent = (link_at n.rows from to).sent; acked = (link_at n.rows from to).acked }) count
    (within (link_at n.rows from to) (are from to a b) count flown)
