use Rattle.sync_model.proofs.Alone.{schedule-parts, longest-schedule, no_copy-alone, nine_copies-alone, equal_delays-alone, falling_delays-alone, long_delay-alone, no_tick-alone, long_match-alone}
use Rattle.sync_model.proofs.pinned.schedule_parts.Goals as goal

pub returns : goal.returns
returns c =
    record {
      parts = λ s. schedule-parts s;
      no_copy = no_copy-alone;
      nine_copies = nine_copies-alone;
      equal_delays = equal_delays-alone;
      falling_delays = falling_delays-alone;
      long_delay = long_delay-alone;
      no_tick = no_tick-alone;
      long_match = long_match-alone;
      longest = longest-schedule;
    }
