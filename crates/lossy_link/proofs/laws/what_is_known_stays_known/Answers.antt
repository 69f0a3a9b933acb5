use Rattle.std.proofs.Common.{◌≡◌, ℕ, ◌≤◌, ◌<◌, max, Bool, true, false, cond, ltb, leb, length, refl, arith}
use Rattle.std.proofs.lemmas.Bool.Decides.{nat_tests}
use Rattle.lossy_link.specs.declared.packet.Heard.TheVariants.{Old}
use Rattle.lossy_link.specs.Ends.{OutState, is_open, heard, after_heard}
use Rattle.lossy_link.specs.Link.{LinkState, has_flown, after_send, after_hear}
use Rattle.lossy_link.proofs.laws.what_is_known_stays_known.Goals as goal

at-link : (k : ℕ) (l : LinkState) → l.acked ≤ (after_hear k l).acked
unfolding after_hear
at-link k l =
    elim (has_flown l.counts k) as (λ v. l.acked ≤ (cond v (record l { acked = max l.acked k }) l).acked)
    [ true ↦ omega arith | false ↦ omega arith ]

at-end : (k : ℕ) (e : OutState) → e.acked ≤ (after_heard e k).acked
at-end k e =
    elim (ltb (length e.sent) k) as (λ v. e.acked ≤ (cond v e (cond (leb k e.acked) e (record e { acked = k }))).acked) [
      | true ↦ omega arith
      | false ↦
          elim (leb k e.acked) as (λ v. leb k e.acked ≡ v → e.acked ≤ (cond v e (record e { acked = k })).acked)
          [ true ↦ λ _. omega arith | false ↦ λ more. grind (arith, nat_tests) ] refl
    ]

known : (k : ℕ) (e : OutState) → k ≤ e.acked → k ≤ length e.sent → (heard e k ≡ Old) × (after_heard e k ≡ e)
known k e was given =
    let tame : ltb (length e.sent) k ≡ false = grind (arith, nat_tests) in
    let old : leb k e.acked ≡ true = grind (arith, nat_tests) in
    (rw (tame, old) refl, rw (tame, old) refl)

closed : (k : ℕ) (l : LinkState) → k < l.acked → after_send k l ≡ l
unfolding after_send
closed k l below = (let shut : is_open l.acked l.sent k ≡ false = grind (arith, nat_tests) in rw shut refl)

pub returns : goal.returns
returns c = record { link = at-link; end = at-end; old = known; sent = closed }
