-- What a mirror comes to at the end.
use Rattle.std.proofs.Common.{◌≡◌, ℕ, zero, suc, List, [], ◌∷◌, length, refl, sym, ap, ◌∙◌, arith}
use Rattle.std.specs.Prelude.{slice_index_or}
use Rattle.std.specs.List.{AllByRecursion}
use Rattle.game_trait.specs.declared.command.Item.{Item}
use Rattle.game_trait.specs.Game.{Rules}
use Rattle.game_trait.specs.Ordered.{ordered, time_ordered}
use Rattle.game_trait.specs.Run.{world_of}
use Rattle.game_trait.proofs.KeyOrder.{all-weaker}
use Rattle.sync_model.specs.State.{MirrorState}
use Rattle.sync_model.specs.Consistent.{IsConsistent}
use Rattle.sync_model.specs.Turns.{drain, EndsInOrder}
use Rattle.sync_model.specs.Schedule.{DelaysRise, IsSchedule}
use Rattle.sync_model.proofs.Drain.{drain-fixed, drain-ordered, draining_delivers_nothing, draining_ends}
use Rattle.report_text.specs.Worlds.{Showing}
use Rattle.mirror_report.specs.Report.{copy_blocks}

-- the delays of each plan rise, also of one that isn't there
rising : (ticks : ℕ) (plans : List (List ℕ)) (p : ℕ) → AllByRecursion (λ delays. IsSchedule (record { delays = delays; length = ticks })) plans → DelaysRise (slice_index_or plans p [])
unfolding DelaysRise
rising ticks [] p h = tt
rising ticks (delays ∷ plans) zero h = h.0.delays_rise
rising ticks (delays ∷ plans) (suc p) h = rising ticks plans p h.1

pub ended : {W : Type 0} (s : MirrorState W) → IsConsistent s → EndsInOrder s
ended s is =
    let rise = rising s.length s.plans s.plan is.well_formed.plans.schedules in
    record { drained = draining_ends s rise is.staggered; arrivals = draining_delivers_nothing s; in_order = drain-ordered s rise is.staggered }

pub ended-worlds : {W : Type 0} (rules : Rules W) (s : MirrorState W) → IsConsistent s
    → AllByRecursion (λ run. world_of rules s.opening run ≡ time_ordered rules s.opening s.accepted s.length) (drain s).runs
ended-worlds rules s is =
    all-weaker (λ run. run ≡ ordered s.accepted 0 s.length) (λ run. world_of rules s.opening run ≡ time_ordered rules s.opening s.accepted s.length) (drain s).runs
    (λ run e. ap (world_of rules s.opening) e) (ended s is).in_order

-- as many runs, of which each is one run, are the same
same-runs : (xs ys : List (List Item)) (a b : List Item) → AllByRecursion (λ x. x ≡ a) xs → AllByRecursion (λ y. y ≡ b) ys → a ≡ b → length xs ≡ length ys → xs ≡ ys
same-runs [] [] a b left right same long = refl
same-runs [] (y ∷ ys) a b left right same long = absurd (omega (arith, long))
same-runs (x ∷ xs) [] a b left right same long = absurd (omega (arith, long))
same-runs (x ∷ xs) (y ∷ ys) a b left right same long =
    let head : x ≡ y = left.0 ∙ same ∙ sym right.0 in
    let tail : xs ≡ ys = same-runs xs ys a b left.1 right.1 same (omega (arith, long)) in
    λ i. head i ∷ tail i

-- two mirrors that accepted the same commands
pub ended-alike : {W : Type 0} (s t : MirrorState W) → IsConsistent s → IsConsistent t → s.length ≡ t.length → length s.runs ≡ length t.runs
    → ordered s.accepted 0 s.length ≡ ordered t.accepted 0 s.length → (drain s).runs ≡ (drain t).runs
ended-alike s t is it ticks copies same =
    same-runs (drain s).runs (drain t).runs (ordered s.accepted 0 s.length) (ordered t.accepted 0 t.length) (ended s is).in_order (ended t it).in_order
    (same ∙ ap (ordered t.accepted 0) ticks) ((drain-fixed s).copies ∙ copies ∙ sym (drain-fixed t).copies)

pub same-blocks : {W : Type 0} (show : Showing W) (number : ℕ) (s t : MirrorState W) → s.opening ≡ t.opening → (drain s).runs ≡ (drain t).runs
    → copy_blocks show number (drain s).opening 0 (drain s).runs ≡ copy_blocks show number (drain t).opening 0 (drain t).runs
same-blocks show number s t opening runs =
    let o : (drain s).opening ≡ (drain t).opening = (drain-fixed s).opening ∙ opening ∙ sym (drain-fixed t).opening in
    λ i. copy_blocks show number (o i) 0 (runs i)
