use Rattle.sync_model.proofs.Alone.{staggered-parts, unchained-alone, lacking-alone, doubled-alone, strange-alone, hasty-alone, last_too_late-alone}
use Rattle.sync_model.proofs.Alone.{last_unsorted-alone, too_early-alone, past_match-alone, past_clock-alone, past_end-alone, past_delay-alone}
use Rattle.sync_model.proofs.Alone.{third_copy-alone, same_names-alone, never_due-alone, wrong_bound-alone}
use Rattle.sync_model.proofs.pinned.staggered_parts.Goals as goal

pub returns : goal.returns
returns g c =
    record {
      parts = λ s. staggered-parts s;
      unchained = λ o. unchained-alone o;
      lacking = λ o. lacking-alone o;
      doubled = λ o. doubled-alone o;
      strange = λ o. strange-alone o;
      hasty = λ o. hasty-alone o;
      last_too_late = λ o. last_too_late-alone o;
      last_unsorted = λ o. last_unsorted-alone o;
      too_early = λ o. too_early-alone o;
      past_match = λ o. past_match-alone o;
      past_clock = λ o. past_clock-alone o;
      past_end = λ o. past_end-alone o;
      past_delay = λ o. past_delay-alone o;
      third_copy = λ o. third_copy-alone o;
      same_names = λ o. same_names-alone o;
      never_due = λ o. never_due-alone o;
      wrong_bound = λ o. wrong_bound-alone o;
    }
