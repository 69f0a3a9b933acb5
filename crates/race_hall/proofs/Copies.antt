-- What a copy's worker asks are steps alone.
use Rattle.std.proofs.Common.{◌≡◌, ℕ, List, [], ◌∷◌, ◌++◌, ap, sym, ◌∙◌, subst}
use Rattle.std.specs.Prelude.{flat_map}
use Rattle.std.specs.List.{AllByRecursion}
use Rattle.copy_workers.specs.declared.copy_job.CopyEnd.{CopyEnd}
use Rattle.copy_workers.specs.declared.copy_job.CopyJob.{CopyJob}
use Rattle.copy_workers.specs.declared.post.Asked.{Asked}
use Rattle.copy_workers.specs.declared.post.TrailMark.{TrailMark}
use Rattle.copy_workers.specs.Copied.{CopyTurn, idle, wide, ran, stale, asked_of, CopyEnds}
use Rattle.race_hall.specs.Entries.{IsStepping}

steps-alone : (c : ℕ) (turns : List CopyTurn) → AllByRecursion (λ p. IsStepping p.event) (flat_map (asked_of c) turns)
steps-alone c [] = tt
steps-alone c (idle ∷ rest) = steps-alone c rest
steps-alone c (wide stepped ∷ rest) = (tt, steps-alone c rest)
steps-alone c (ran n ∷ rest) = (tt, steps-alone c rest)
steps-alone c (stale ∷ rest) = steps-alone c rest

-- where nothing was asked before
pub copy-steps :
    (job : CopyJob) (end : CopyEnd) (calls left : ℕ) (asked now : List Asked) (trail trail_now : List TrailMark)
    → CopyEnds job end calls left asked now trail trail_now → asked ≡ [] → AllByRecursion (λ p. IsStepping p.event) now
copy-steps job end calls left asked now trail trail_now ends none =
    subst (AllByRecursion (λ p. IsStepping p.event))
    (sym (ends.works.asks ∙ ap (λ (l : List Asked). l ++ flat_map (asked_of job.copy) ends.works.turns) none))
    (steps-alone job.copy ends.works.turns)
