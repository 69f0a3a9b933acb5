-- A mirror of a session without an end as what is asked line by line, and all that it is told and tells.
use Rattle.std.specs.Prelude.{ℕ, ◌+◌, Bool, nat_le, nat_lt, ◌&&◌, List, Result, Ok, Err, codes, if◌then◌else◌}
use Rattle.std.specs.List.{list_all}
use Rattle.game_trait.specs.Game.{Rules}
use Rattle.sync_model.specs.Schedule.{Schedule, longest_delay}
use Rattle.tss_io.specs.declared.cause.Cause.{Cause}
use Rattle.tss_io.specs.declared.cause.Cause.TheVariants.{Number, Shape}
use Rattle.line_talk.specs.Hearing.{Answering, Hearing}
use Rattle.match_data.specs.Data.{MatchData, schedules}
use Rattle.live_text.specs.declared.request.Request.{Request}
use Rattle.live_text.specs.declared.request.Request.TheVariants.{Own, Cmd, Tick, Turn, Step, Restagger, World, Run, Commands, End}
use Rattle.live_text.specs.Requests.{request_at}
use Rattle.live_talk.specs.Staging.{Staging}
use Rattle.live_talk.specs.Talked.{Asking, AskedState, asked_way, asked_due, asked_heard}
use Rattle.endless_mirror.specs.Session.{SessionState, terms_of, after_request, opening_session}
use Rattle.endless_mirror.specs.Told.{answer_text}

-- what is told of a request there, before the line that ends the answer
abbrev pub answer_by : {W : Type 0} → Rules W → (W → List (List ℕ) → List ℕ) → SessionState W
    → Request → List ℕ
answer_by rules lines s r =
    answer_text (record { rules = rules; lines = lines; names = s.names }) s r

-- the run of a copy can't be told, of which only the end is remembered: such a request has no form here
unfoldable pub but_for_runs : Request → Result Request Cause
but_for_runs (Own player act) = Ok (Own player act)
but_for_runs (Cmd x) = Ok (Cmd x)
but_for_runs Tick = Ok Tick
but_for_runs Turn = Ok Turn
but_for_runs (Step copy) = Ok (Step copy)
but_for_runs (Restagger plan) = Ok (Restagger plan)
but_for_runs (World copy) = Ok (World copy)
but_for_runs (Run copy) = Err Shape
but_for_runs Commands = Ok Commands
but_for_runs End = Ok End

abbrev pub without_runs : Result Request Cause → Result Request Cause
without_runs (Ok r) = but_for_runs r
without_runs (Err cause) = Err cause

-- the window lets the last copy run: it is longer by two ticks than the delay of each plan's last copy
abbrev pub lets_run : Schedule → Bool
lets_run plan = nat_le (longest_delay plan.delays + 2) plan.length

-- a match has this mirror, and a window for each of its plans
abbrev pub may_open : MatchData → ℕ → Bool
may_open m number = nat_lt number m.mirrors && list_all lets_run (schedules m)

-- the first line of such a text
abbrev pub first_line : List ℕ
first_line = codes "tss live 2"

-- a mirror of a session of this game, as what is asked
abbrev pub session_asking : {W : Type 0} → Staging W → Asking (SessionState W)
session_asking g = record {
  first_line = first_line;
  begun = λ m number.
      if may_open m number then Ok (opening_session (g.opening m.layout) m number)
      else Err Number;
  terms = λ s. terms_of s;
  asked = λ s l. without_runs (request_at (terms_of s) l);
  played = λ s r. after_request g.rules s r;
  answer = λ s r. answer_by g.rules g.lines s r;
}

-- a mirror without an end, and as what answers lines
abbrev pub EndlessState : Type 0 → Type 0
EndlessState W = AskedState (SessionState W)

abbrev pub endless_way : {W : Type 0} → Staging W → Answering (EndlessState W)
endless_way g = asked_way (session_asking g)

-- what is due of the whole lines of a text, of the mirror of this number, and what was heard by then
abbrev pub endless_due : {W : Type 0} → Staging W → ℕ → List ℕ → List ℕ
endless_due g number bytes = asked_due (session_asking g) number bytes

abbrev pub endless_heard : {W : Type 0} → Staging W → ℕ → List ℕ → Hearing (EndlessState W)
endless_heard g number bytes = asked_heard (session_asking g) number bytes
