-- Jobs that were begun: a thread does it, it was kept, or it is done.
use Rattle.std.specs.Prelude.{◌≡◌}
use Rattle.task_threads.specs.declared.tasks.Begun.{Begun}
use Rattle.task_threads.specs.declared.tasks.Given.{Given}
use Rattle.task_threads.specs.declared.tasks.Given.TheVariants.{Back, Done as IsDone}
use Rattle.task_threads.specs.declared.tasks.Begun.TheVariants.{Thread, Kept, Done}

-- this is an end of the job, or the job itself
abbrev pub IsGivenFor : {J E : Type 0} → (J → E → Type 0) → J → Given J E → Type 0
IsGivenFor Ends job (Back other) = other ≡ job
IsGivenFor Ends job (IsDone end) = Ends job end

-- this job was begun so: the thread has promised it, or it is the job that was kept, or this is its
-- end
abbrev pub IsBegun : {H J E : Type 0} → (H → J) → (J → E → Type 0) → J → Begun H J E → Type 0
IsBegun promised Ends job (Thread handle) = promised handle ≡ job
IsBegun promised Ends job (Kept other) = other ≡ job
IsBegun promised Ends job (Done end) = Ends job end

-- the same, where none is kept any more
abbrev pub IsGoing : {H J E : Type 0} → (H → J) → (J → E → Type 0) → J → Begun H J E → Type 0
IsGoing promised Ends job (Thread handle) = promised handle ≡ job
IsGoing promised Ends job (Kept other) = ⊥
IsGoing promised Ends job (Done end) = Ends job end
