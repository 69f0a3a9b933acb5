-- The mirror of a joiner beside the one that remembers all.
use Rattle.std.proofs.Common.{◌≡◌, ℕ, zero, suc, ◌≤◌, ◌<◌, ◌^◌, List, [], ◌∷◌, Result, Ok, Err, map, length, replicate, get_or, refl, ap, sym, ◌∙◌, subst, arith}
use Rattle.std.specs.Prelude.{IfOk}
use Rattle.std.proofs.lemmas.List.{length-replicate}
use Rattle.game_trait.specs.declared.command.Command.{Command}
use Rattle.game_trait.specs.declared.command.Item.{Item}
use Rattle.game_trait.specs.Game.{Rules}
use Rattle.game_trait.specs.Later.{earlier}
use Rattle.sync_model.specs.Lists.{last_of}
use Rattle.sync_model.specs.Schedule.{Schedule, delays_of_each, copies_of_first}
use Rattle.sync_model.specs.State.{MirrorState, last_clock}
use Rattle.rolling_mirror.specs.declared.handed.SessionSnapshot.{SessionSnapshot}
use Rattle.rolling_mirror.specs.Rolling.{RollState, IsWindowOf}
use Rattle.rolling_mirror.specs.Snapshot.{IsSnapshotOf, IsOpenable, opened_at, rolled_back}
use Rattle.peer_window.specs.Window.{IsRolled}
use Rattle.peer_join.specs.Join.{joined_mirror}
use Rattle.peer_join.proofs.Joins.{last-same, trailing-none}

pub first-copies : (plans : List Schedule) → length (get_or (delays_of_each plans) 0 []) ≡ copies_of_first plans
first-copies [] = refl
first-copies (plan ∷ plans) = refl

each-same : (r s : List Item) (n : ℕ) → map (λ run. s) (replicate n r) ≡ replicate n s
each-same r s zero = refl
each-same r s (suc n) = ap (λ (l : List (List Item)). s ∷ l) (each-same r s n)

-- its copies go back to where they are
back-joined : {W : Type 0} (plans : List (List ℕ)) (accepted : List Command) (clock : ℕ) (s : MirrorState W) → 0 < length (get_or plans 0 [])
    → rolled_back (joined_mirror plans accepted clock s) ≡ joined_mirror plans accepted clock s
back-joined plans accepted clock s some =
    let n = length (get_or plans 0 []) in
    let r = last_of [] s.runs in
    ap (λ (runs : List (List Item)). record (joined_mirror plans accepted clock s) { runs = runs })
    (each-same r (last_of [] (replicate n r)) n ∙ ap (λ (run : List Item). replicate n run) (last-same r n some))

pub opened-rolled :
    {W : Type 0} (rules : Rules W) (snap : SessionSnapshot W) (plans : List Schedule) (room keep : ℕ) (r : RollState W)
    → r ≡ opened_at snap plans room keep → IsOpenable snap plans room → snap.clock ≡ snap.base
    → (whole : MirrorState W) (accepted : List Command)
    → IsWindowOf rules (rolled_back (joined_mirror (delays_of_each plans) accepted (last_clock whole.runs) whole)) r
    → 2 ^ 32 ≤ whole.length → IsRolled rules (joined_mirror (delays_of_each plans) accepted (last_clock whole.runs) whole) r
opened-rolled {W} rules snap plans room keep r is fits at_base whole accepted window long =
    let joined = joined_mirror (delays_of_each plans) accepted (last_clock whole.runs) whole in
    let copies = copies_of_first plans in
    let runs : length r.left.runs ≡ copies = ap (λ (s : RollState W). length s.left.runs) is ∙ length-replicate {A = List Item} copies [] in
    let there = window.some_copy in
    let some : 0 < copies = omega arith in
    let first = first-copies plans in
    let reaches = fits.reaches_clock in
    let session = fits.in_session in
    let back = back-joined (delays_of_each plans) accepted (last_clock whole.runs) whole (omega arith) in
    subst (IsRolled rules joined) (sym is) (record {
      window = subst (IsWindowOf rules joined) is (subst (λ (s : MirrorState W). IsWindowOf rules s r) back window);
      trailing = trailing-none (map (earlier snap.base) snap.commands) copies some;
      within = omega arith;
      in_session = omega arith;
      long = long;
    })

pub opens-rolled :
    {W E : Type 0} (rules : Rules W) (snap : SessionSnapshot W) (plans : List Schedule) (room keep : ℕ) (result : Result (RollState W) E)
    → IsOpenable snap plans room → snap.clock ≡ snap.base
    → IfOk result (λ r. r ≡ opened_at snap plans room keep)
    → IfOk result (λ r. (whole : MirrorState W) → IsSnapshotOf rules whole snap → whole.plans ≡ delays_of_each plans → length whole.runs ≡ copies_of_first plans
    → IsWindowOf rules (rolled_back whole) r)
    → IfOk result (λ r. (whole : MirrorState W) (accepted : List Command)
    → IsSnapshotOf rules (joined_mirror (delays_of_each plans) accepted (last_clock whole.runs) whole) snap
    → 2 ^ 32 ≤ whole.length
    → IsRolled rules (joined_mirror (delays_of_each plans) accepted (last_clock whole.runs) whole) r)
opens-rolled rules snap plans room keep (Err e) fits at_base is window = tt
opens-rolled rules snap plans room keep (Ok r) fits at_base is window = λ whole accepted of long.
    let joined = joined_mirror (delays_of_each plans) accepted (last_clock whole.runs) whole in
    let n = length (get_or (delays_of_each plans) 0 []) in
    opened-rolled rules snap plans room keep r is fits at_base whole accepted
    (window joined of refl (length-replicate {A = List Item} n (last_of [] whole.runs) ∙ first-copies plans)) long
