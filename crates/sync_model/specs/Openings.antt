-- A mirror of one game, as one of another.
use Rattle.sync_model.specs.State.{MirrorState}

-- the same but for its opening
abbrev pub with_opening : {V W : Type 0} → W → MirrorState V → MirrorState W
with_opening opening s = record {
  opening = opening;
  length = s.length;
  plans = s.plans;
  plan = s.plan;
  clock = s.clock;
  accepted = s.accepted;
  turned = s.turned;
  runs = s.runs;
  history = s.history;
  spare = s.spare;
  plan_spare = s.plan_spare;
}
