use Rattle.std.proofs.Common.{◌≡◌, ◌<◌, ◌⊎◌, inl, inr, ℕ, List, [], ◌++◌, Some, length, take, ap, ◌∙◌}
use Rattle.std.proofs.lemmas.List.{append-nil}
use Rattle.tss_program.specs.declared.due.Due.{Due}
use Rattle.tss_program.specs.Due.{code}
use Rattle.tss_program.specs.Run.{Run, IsPut, IsSilent, whole, front}
use Rattle.tss_program.specs.Promises.{EndsWith}
use Rattle.tss_program.specs.Promises as promises
use Rattle.tss_program.proofs.RunLaws.{gained-told}
use Rattle.tss_program.proofs.laws.a_run_wrote_all_or_a_front_or_nothing.Goals as goal

abbrev Wrote : Run → Due → List ℕ → Type 0
Wrote r due bytes =
    (((r.status ≡ 1) ⊎ (r.status ≡ 3)) × (r.sink_new.bytes ≡ Some bytes) × (r.kept ≡ []))
    ⊎ ((r.status ≡ code due.status) × (r.sink_new.bytes ≡ Some (bytes ++ due.text)) × (r.kept ≡ due.kept))
    ⊎ ((r.status ≡ 4) × (r.kept ≡ due.kept) × ((n : ℕ) × (n < length due.text) × (r.sink_new.bytes ≡ Some (bytes ++ take n due.text))))

silent : (r : Run) (due : Due) (bytes : List ℕ) → r.sink_old.bytes ≡ Some bytes → (r.status ≡ 1) ⊎ (r.status ≡ 3) → IsSilent r.sink_old r.sink_new r.kept → Wrote r due bytes
silent r due bytes first at none =
    inl (at, gained-told bytes [] r.sink_old.bytes r.sink_new.bytes first none.bytes ∙ ap (λ (l : List ℕ). Some l) (append-nil bytes), none.nothing)

put : (r : Run) (due : Due) (bytes : List ℕ) → r.sink_old.bytes ≡ Some bytes → IsPut due r.sink_old r.sink_new r.status r.kept → Wrote r due bytes
put r due bytes first (whole at steady gains kept) = inr (inl (at, gained-told bytes due.text r.sink_old.bytes r.sink_new.bytes first gains, kept))
put r due bytes first (front n less at rose gains kept) = inr (inr (at, kept, (n, less, gained-told bytes (take n due.text) r.sink_old.bytes r.sink_new.bytes first gains)))

by : (r : Run) (due : Due) (bytes : List ℕ) → EndsWith due r → r.sink_old.bytes ≡ Some bytes → Wrote r due bytes
by r due bytes (promises.no_memory at none) first = silent r due bytes first (inl at) none
by r due bytes (promises.unread at none) first = silent r due bytes first (inr at) none
by r due bytes (promises.put is) first = put r due bytes first is

pub returns : goal.returns
returns c = λ r due bytes ends first. by r due bytes ends first
