-- How a run ends: what is read is answered, and the answer is put.
use Rattle.std.proofs.Common.{◌≡◌, true, ℕ, ◌<◌, ◌+◌, List, [], ◌∷◌, ◌++◌, map, ap, ◌∙◌, Option, Some, None, Result, Ok, Err, sym, subst, refl, arith}
use Rattle.std.specs.Result.{IsErrAnd}
use Rattle.tss_io.specs.declared.fault.Refused.{Refused}
use Rattle.match_data.specs.declared.log.MirrorLog.{MirrorLog}
use Rattle.watch_board.specs.Behaviour.{Behaviour}
use Rattle.match_data.specs.Data.{MatchData}
use Rattle.run_recorder.specs.declared.race_record.RaceRecord.{RaceRecord}
use Rattle.lossy_text.specs.Data.{LossyData}
use Rattle.tss_words.specs.declared.subcommand.MatchTask.{MatchTask}
use Rattle.tss_words.specs.declared.subcommand.MatchTask.TheVariants.{Order, Play, Race, Lift, Score, PaintOrder, PaintPlay, Join, Rewind}
use Rattle.tss_words.specs.declared.subcommand.Subcommand.{Subcommand}
use Rattle.tss_words.specs.declared.subcommand.Subcommand.TheVariants.{OfMatch, Audit, Lossy, Soak}
use Rattle.tss_program.specs.declared.status.Status.{Status}
use Rattle.tss_program.specs.declared.status.Status.TheVariants.{Complete}
use Rattle.tss_program.specs.declared.stop.Stop.{Stop}
use Rattle.tss_program.specs.declared.stop.Stop.TheVariants as stops
use Rattle.tss_program.specs.declared.due.Due.{Due}
use Rattle.tss_words.specs.Subcommands.{most_read, most_asked, races}
use Rattle.tss_program.specs.Due.{IsDueFor, answer, refusal, refusal_due, complete, IsMatchText, IsFaultyMatch, IsMatchAnswer, IsRecordText}
use Rattle.tss_program.specs.Due.{IsFaultyRecord, IsLossyText, IsFaultyLossy, IsAudited, due_of_lossy, due_of_number, IsAnswer}
use Rattle.tss_program.specs.Run.{Seen, Taken, OfInput, ReadsAtMost, WhyStopped, Answers, Gives, IsPut, IsStopped, IsEnded, Run, asked, Ends, no_memory, unread, answered, IsRun}
use Rattle.tss_program.proofs.Inputs.{some-input, behind-none, reads-none}

-- what holds of an input makes something else hold of it
pub of-input : {most : ℕ} {old new : Seen} {P Q : List ℕ → Type 0} → ((input : List ℕ) → P input → Q input) → OfInput most old new P → OfInput most old new Q
of-input f o = record { input = o.input; told = o.told; holds = f o.input o.holds; left = o.left; faults = o.faults }

never-none : (s : Subcommand) → Some s ≡ None → ⊥
never-none s e = absurd cc

-- ---- what is read is answered

-- the text wasn't read, or is refused
pub answers-stopped :
    (ws : List Behaviour) (s : Subcommand) (Refuses : List ℕ → Refused → Type 0) (old new : Seen) (stop : Stop)
    → ((input : List ℕ) (refused : Refused) → Refuses input refused → IsAnswer ws s input (refusal_due refused)) → 0 < most_read s
    → WhyStopped (most_read s) Refuses old new stop → Answers ws (Some s) old new (Err stop)
answers-stopped ws s Refuses old new stops.WrongWords refuses reads why = absurd why
answers-stopped ws s Refuses old new stops.NoMemory refuses reads why = (never-none s, why)
answers-stopped ws s Refuses old new stops.ReadFault refuses reads why = (reads, why)
answers-stopped ws s Refuses old new (stops.Refused refused) refuses reads why = of-input (λ input. refuses input refused) why

-- what was read of the text was answered
pub answers-given :
    (ws : List Behaviour) (s : Subcommand) (IsText : List ℕ → Type 0) (IsDue : Due → Type 0) (old new : Seen) (result : Result Due Stop)
    → ((input : List ℕ) (due : Due) → IsText input → IsDue due → IsAnswer ws s input due)
    → OfInput (most_read s) old new IsText → Gives IsDue result → Answers ws (Some s) old new result
answers-given ws s IsText IsDue old new (Ok due) makes read given = of-input (λ input text. makes input due text given) read
answers-given ws s IsText IsDue old new (Err stops.WrongWords) makes read given = absurd given
answers-given ws s IsText IsDue old new (Err stops.NoMemory) makes read given = (never-none s, read.faults)
answers-given ws s IsText IsDue old new (Err stops.ReadFault) makes read given = absurd given
answers-given ws s IsText IsDue old new (Err (stops.Refused refused)) makes read given = of-input (λ input text. makes input (refusal_due refused) text given) read

-- a stop that a fault is turned into is what was answered
of-fault : {T : Type 0} (r : Result T Stop) (stop : Stop) (P : Result T Stop → Type 0) → IsErrAnd r (λ s. s ≡ stop) → P (Err stop) → P r
of-fault (Ok x) stop P is p = absurd is
of-fault (Err s) stop P is p = subst (λ (x : Stop). P (Err x)) (sym is) p

-- what was answered, by another name of what was asked; to whichever watchers
pub answers-as : (ws : List Behaviour) (s t : Subcommand) (old new : Seen) (r : Result Due Stop) → s ≡ t → Answers ws (Some t) old new r → Answers ws (Some s) old new r
answers-as ws s t old new r is answers = subst (λ (x : Subcommand). Answers ws (Some x) old new r) (sym is) answers

pub answers-any :
    (s t : Subcommand) (old new : Seen) (r : Result Due Stop) → s ≡ t → ((ws : List Behaviour) → Answers ws (Some t) old new r)
    → (ws : List Behaviour) → Answers ws (Some s) old new r
answers-any s t old new r is answers ws = answers-as ws s t old new r is (answers ws)

-- of a match
pub stopped-match :
    (ws : List Behaviour) (task : MatchTask) (old new : Seen) (r : Result Due Stop) (stop : Stop) → IsErrAnd r (λ x. x ≡ stop)
    → WhyStopped (most_read (OfMatch task)) IsFaultyMatch old new stop → Answers ws (Some (OfMatch task)) old new r
stopped-match ws task old new r stop is why =
    of-fault r stop (λ x. Answers ws (Some (OfMatch task)) old new x) is
    (answers-stopped ws (OfMatch task) IsFaultyMatch old new stop (λ input refused lacks. refusal refused lacks refl) (omega arith) why)

pub given-match :
    (ws : List Behaviour) (task : MatchTask) (m : MatchData) (old new : Seen) (r : Result Due Stop)
    → OfInput (most_read (OfMatch task)) old new (λ input. IsMatchText m input) → Gives (λ due. IsMatchAnswer ws task m due) r → Answers ws (Some (OfMatch task)) old new r
given-match ws task m old new r read given =
    answers-given ws (OfMatch task) (λ input. IsMatchText m input) (λ due. IsMatchAnswer ws task m due) old new r (λ input due text is. answer m text is) read given

-- what was answered to a match, by another name of what was asked
pub shown-as :
    (m : MatchData) (t u : MatchTask) (r : Result Due Stop) → t ≡ u → ((ws : List Behaviour) → Gives (λ due. IsMatchAnswer ws u m due) r)
    → (ws : List Behaviour) → Gives (λ due. IsMatchAnswer ws t m due) r
shown-as m t u r is given ws = subst (λ (x : MatchTask). Gives (λ due. IsMatchAnswer ws x m due) r) (sym is) (given ws)

-- of a record
pub stopped-record :
    (ws : List Behaviour) (old new : Seen) (r : Result Due Stop) (stop : Stop) → IsErrAnd r (λ x. x ≡ stop)
    → WhyStopped (most_read Audit) IsFaultyRecord old new stop → Answers ws (Some Audit) old new r
stopped-record ws old new r stop is why =
    of-fault r stop (λ x. Answers ws (Some Audit) old new x) is
    (answers-stopped ws Audit IsFaultyRecord old new stop (λ input refused lacks. refusal refused lacks refl) (omega arith) why)

pub given-record :
    (ws : List Behaviour) (q : RaceRecord) (old new : Seen) (r : Result Due Stop)
    → OfInput (most_read Audit) old new (λ input. IsRecordText q input) → Gives (λ due. IsAudited q due) r → Answers ws (Some Audit) old new r
given-record ws q old new r read given =
    answers-given ws Audit (λ input. IsRecordText q input) (λ due. IsAudited q due) old new r (λ input due text is. answer q text is) read given

-- of a match over its net
pub stopped-lossy :
    (ws : List Behaviour) (old new : Seen) (r : Result Due Stop) (stop : Stop) → IsErrAnd r (λ x. x ≡ stop)
    → WhyStopped (most_read Lossy) IsFaultyLossy old new stop → Answers ws (Some Lossy) old new r
stopped-lossy ws old new r stop is why =
    of-fault r stop (λ x. Answers ws (Some Lossy) old new x) is
    (answers-stopped ws Lossy IsFaultyLossy old new stop (λ input refused lacks. refusal refused lacks refl) (omega arith) why)

pub given-lossy :
    (ws : List Behaviour) (x : LossyData) (old new : Seen) (r : Result Due Stop)
    → OfInput (most_read Lossy) old new (λ input. IsLossyText x input) → Gives (λ due. due ≡ due_of_lossy x) r → Answers ws (Some Lossy) old new r
given-lossy ws x old new r read given =
    answers-given ws Lossy (λ input. IsLossyText x input) (λ due. due ≡ due_of_lossy x) old new r
    (λ input due text is. answer x text is) read given

-- of a number, and of nothing
pub given-number : (ws : List Behaviour) (n : ℕ) (old : Seen) (due : Due) → due ≡ due_of_number n → Answers ws (Some (Soak n)) old old (Ok due)
given-number ws n old due is =
    let input = some-input old.left in
    record { input = input.0; told = input.1; holds = is; left = behind-none old.left; faults = refl }

pub given-none : (ws : List Behaviour) (what : Option Subcommand) (old : Seen) → what ≡ None → Answers ws what old old (Err stops.WrongWords)
given-none ws what old none =
    let input = some-input old.left in
    subst (λ (o : Option Subcommand). Answers ws o old old (Err stops.WrongWords)) (sym none) (record { input = input.0; told = input.1; holds = refl; left = behind-none old.left; faults = refl })

-- where memory ran out before anything was read
pub given-no_memory :
    (ws : List Behaviour) (what : Option Subcommand) (s : Subcommand) (old : Seen) → what ≡ Some s → Answers ws what old old (Err stops.NoMemory)
given-no_memory ws what s old is = subst (λ (o : Option Subcommand). Answers ws o old old (Err stops.NoMemory)) (sym is) (never-none s, refl)

-- ---- the answer is put

-- what was put, by another name of it
pub put-same : (due other : Due) (old new : Taken) (status : ℕ) (kept : List MirrorLog) → due ≡ other → IsPut due old new status kept → IsPut other old new status kept
put-same due other old new status kept same put = subst (λ (d : Due). IsPut d old new status kept) same put

pub ended-as : (put other : Result Due Stop) (old new : Taken) (status : ℕ) (kept : List MirrorLog) → put ≡ other → IsEnded other old new status kept → IsEnded put old new status kept
ended-as put other old new status kept same ended = subst (λ (a : Result Due Stop). IsEnded a old new status kept) (sym same) ended

pub stopped-as : (stop other : Stop) (old new : Taken) (status : ℕ) (kept : List MirrorLog) → stop ≡ other → IsStopped other old new status kept → IsStopped stop old new status kept
stopped-as stop other old new status kept same ended = subst (λ (s : Stop). IsStopped s old new status kept) (sym same) ended

pub due-same : (status : Status) (bytes text : List ℕ) (logs others : List MirrorLog) → bytes ≡ text → logs ≡ others
    → let is : Due = record { status = status; text = bytes; kept = logs } in let also : Due = record { status = status; text = text; kept = others } in is ≡ also
due-same status bytes text logs others same are = λ i. record { status = status; text = same i; kept = are i }

-- an answer that was made, part by part
pub complete-due : (bytes text : List ℕ) (logs others : List MirrorLog) → bytes ≡ text → logs ≡ others → complete bytes logs ≡ complete text others
complete-due bytes text logs others same are = due-same Complete bytes text logs others same are

-- a run whose words were answered so, and whose answer was put so
pub run-ended :
    (r : Run) (put : Result Due Stop) → Answers r.watchers (asked r) r.source_old r.source_new put → ReadsAtMost (most_asked (asked r)) r.source_old r.source_new
    → IsEnded put r.sink_old r.sink_new r.status r.kept → IsRun r
run-ended r put answers most ended = record { most = most; ends = ends put answers ended }
  where
    ends : (put : Result Due Stop) → Answers r.watchers (asked r) r.source_old r.source_new put → IsEnded put r.sink_old r.sink_new r.status r.kept → Ends r
    ends (Ok due) answers ended = answered due answers ended
    ends (Err stops.WrongWords) answers ended = answered _ answers ended
    ends (Err (stops.Refused refused)) answers ended = answered _ answers ended
    ends (Err stops.NoMemory) answers ended = no_memory ended.0 answers.0 answers.1 ended.1
    ends (Err stops.ReadFault) answers ended = unread ended.0 answers.0 answers.1 ended.1

-- a run that ended before anything was read
pub run-unbegun :
    (r : Run) (stop : Stop) → ((source : Seen) → Answers r.watchers (asked r) source source (Err stop)) → r.source_new ≡ r.source_old
    → IsEnded (Err stop) r.sink_old r.sink_new r.status r.kept → IsRun r
run-unbegun r stop answers same ended =
    run-ended r (Err stop) (subst (λ (s : Seen). Answers r.watchers (asked r) r.source_old s (Err stop)) (sym same) (answers r.source_old))
    (reads-none _ r.source_old r.source_new same) ended

-- three watchers, put one after another
pub three-told :
    {B : Type 0} (see : B → Behaviour) (none one two three : List B) (a b c : B) (x y z : Behaviour) → none ≡ []
    → one ≡ none ++ a ∷ [] → two ≡ one ++ b ∷ [] → three ≡ two ++ c ∷ [] → see a ≡ x → see b ≡ y → see c ≡ z → map see three ≡ x ∷ y ∷ z ∷ []
three-told {B} see none one two three a b c x y z empty first second third p q r =
    ap (λ (l : List B). map see l) (third ∙ ap (λ (l : List B). l ++ c ∷ []) (second ∙ ap (λ (l : List B). l ++ b ∷ []) (first ∙ ap (λ (l : List B). l ++ a ∷ []) empty)))
    ∙ (λ i. p i ∷ q i ∷ r i ∷ [])

-- a run by another name of its watchers
pub run-told-as : (r : Run) (watchers : List Behaviour) → r.watchers ≡ watchers → IsRun r → IsRun (record r { watchers = watchers })
run-told-as r watchers same run = subst (λ (ws : List Behaviour). IsRun (record r { watchers = ws })) same run

-- ---- a race

-- words that ask for a race
race-asked : (what : Option Subcommand) → races what ≡ true → what ≡ Some (OfMatch Race)
race-asked None is = absurd cc
race-asked (Some (OfMatch Order)) is = absurd cc
race-asked (Some (OfMatch Play)) is = absurd cc
race-asked (Some (OfMatch Race)) is = refl
race-asked (Some (OfMatch Lift)) is = absurd cc
race-asked (Some (OfMatch Score)) is = absurd cc
race-asked (Some (OfMatch PaintOrder)) is = absurd cc
race-asked (Some (OfMatch PaintPlay)) is = absurd cc
race-asked (Some (OfMatch (Join number lines))) is = absurd cc
race-asked (Some (OfMatch (Rewind every room ticks))) is = absurd cc
race-asked (Some Audit) is = absurd cc
race-asked (Some Lossy) is = absurd cc
race-asked (Some (Soak number)) is = absurd cc

-- a race tells no watchers
any-watchers : (ws : List Behaviour) (old new : Seen) (r : Result Due Stop) → Answers [] (Some (OfMatch Race)) old new r → Answers ws (Some (OfMatch Race)) old new r
any-watchers ws old new (Ok due) answers = answers
any-watchers ws old new (Err stops.WrongWords) answers = answers
any-watchers ws old new (Err (stops.Refused refused)) answers = answers
any-watchers ws old new (Err stops.NoMemory) answers = answers
any-watchers ws old new (Err stops.ReadFault) answers = answers

pub run-raced :
    (r : Run) (put : Result Due Stop) → races (asked r) ≡ true → Answers [] (Some (OfMatch Race)) r.source_old r.source_new put
    → ReadsAtMost (most_read (OfMatch Race)) r.source_old r.source_new → IsEnded put r.sink_old r.sink_new r.status r.kept → IsRun r
run-raced r put race answers most ended =
    let asks = sym (race-asked (asked r) race) in
    run-ended r put (subst (λ (o : Option Subcommand). Answers r.watchers o r.source_old r.source_new put) asks (any-watchers r.watchers r.source_old r.source_new put answers))
    (subst (λ (o : Option Subcommand). ReadsAtMost (most_asked o) r.source_old r.source_new) asks most) ended
