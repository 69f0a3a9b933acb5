use Rattle.std.proofs.Common.{sym}
use Rattle.sync_model.specs.Change.{after}
use Rattle.sync_model.specs.History.{opening_of}
use Rattle.sync_model.proofs.History.{late_exactly}
use Rattle.tss_program.proofs.RacedLogs.{raced-end, raced-front}
use Rattle.tss_program.proofs.laws.raced_logs_are_as_played_ones.Goals as goal

pub returns : goal.returns
returns g c = record {
  staggered = λ m opening mirrors number t front rest sound raced at whole. raced-front g.G.Game.rules m opening mirrors number t front rest sound raced at whole;
  late = λ m opening mirrors number t front rest x bound raced at whole. late_exactly (after (opening_of t) front) x bound;
  leads = λ m opening mirrors number t raced at. sym (raced-end g.G.Game.rules m opening mirrors number t raced at).from_history;
}
