-- Marks that packets carry.
use Rattle.std.proofs.Common.{◌≡◌, ℕ, Bool, true, false, cond, Some, refl}
use Rattle.rolling_mirror.specs.Rolling.{last_tick}
use Rattle.peer_model.specs.declared.mark.Mark.{Mark}
use Rattle.peer_model.specs.Marks.{is_marked, marked}
use Rattle.peer_calls.specs.declared.config.Config.{Config}
use Rattle.peer_calls.specs.State.{State}
use Rattle.peer_calls.specs.Sending.{packet_for, newest_mark}
use Rattle.peer_calls.specs.Moving.{after_mark}
use Rattle.peer_laws.specs.Marked.{TicksRise}
use Rattle.peer_laws.proofs.Marked.{rise-64, newest-64}

pub marks-rise : {W : Type 0} (sum : ℕ) (s : State W) → TicksRise s.marks.own → TicksRise (after_mark sum s).marks.own
marks-rise sum s h =
    let x : Mark = record { tick = last_tick s.roll; sum = sum } in
    elim (is_marked (last_tick s.roll) s.marks) as (λ v. is_marked (last_tick s.roll) s.marks ≡ v → TicksRise (cond v s (record s { marks = marked x s.marks })).marks.own) [
      | true ↦ λ e. h
      | false ↦ λ e. rise-64 s.marks.own x e h
    ] refl

mark-if : {W : Type 0} (b : Bool) (x : Mark) (s : State W) → b ≡ false → newest_mark (cond b s (record s { marks = marked x s.marks })).marks.own ≡ Some (x.tick, x.sum)
mark-if true x s e = absurd (cc)
mark-if false x s e = newest-64 s.marks.own x

pub mark-carried : {W : Type 0} (c : Config) (sum to room : ℕ) (s : State W) → is_marked (last_tick s.roll) s.marks ≡ false
    → (packet_for c to room (after_mark sum s)).mark ≡ Some (last_tick s.roll, sum)
mark-carried c sum to room s e =
    mark-if (is_marked (last_tick s.roll) s.marks) (record { tick = last_tick s.roll; sum = sum }) s e
