-- What a peer answers to an own command.
use Rattle.std.specs.Prelude.{ℕ, ◌+◌, ◌-◌, ◌^◌, max, nat_le, nat_lt, ◌||◌, ◌==◌, if◌then◌else◌}
use Rattle.peer_model.specs.declared.own.OwnNow.{OwnNow}
use Rattle.peer_model.specs.declared.own.OwnAnswer.{OwnAnswer}
use Rattle.peer_model.specs.declared.own.OwnAnswer.TheVariants as answers

-- it is due so many ticks behind the clock, and never before the last own one
abbrev pub due_at : OwnNow → ℕ → ℕ
due_at now ahead = max (now.clock + ahead) now.last

abbrev pub said_to_own : OwnNow → ℕ → ℕ → ℕ → OwnAnswer
said_to_own now payload size ahead =
    if nat_lt payload size then answers.TooLong
    else if nat_lt now.clock now.start then answers.Behind now.start
    else if nat_le (2 ^ 32 - 1) (due_at now ahead) || (now.have == 2 ^ 32 - 1) then answers.End
    else if nat_le now.end (due_at now ahead) then answers.Far now.end
    else if now.is_full then answers.Full
    else answers.Taken (due_at now ahead) now.have
