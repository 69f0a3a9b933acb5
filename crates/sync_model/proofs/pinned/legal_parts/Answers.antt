use Rattle.sync_model.proofs.Alone.{legal-parts, late-legal, idle-alone, repeated-alone, stranger-alone, third_step-alone, third_restagger-alone}
use Rattle.sync_model.proofs.pinned.legal_parts.Goals as goal

pub returns : goal.returns
returns g c =
    record {
      parts = λ commands s log. legal-parts commands s log;
      idle = λ o. idle-alone o;
      repeated = λ o. repeated-alone o;
      stranger = λ o. stranger-alone o;
      third_copy = λ o. third_step-alone o;
      third_plan = λ o. third_restagger-alone o;
      late = λ o. late-legal o;
    }
