use Rattle.std.proofs.Common.{◌≡◌, ℕ, ◌<◌, get_or}
use Rattle.std.specs.List.{AllZip}
use Rattle.sync_model.specs.State.{MirrorState}
use Rattle.copy_workers.specs.Sending.{UpTo}
use Rattle.race_hall.specs.Finish.{EndsAtFold}
use Rattle.link_mesh.specs.Mesh.{SameSends}
use Rattle.race_hall.specs.AfterJoins.{Holding, AreHeld}
use Rattle.race_hall.proofs.finish.finish_race.Given as goal

abbrev pub invariant-loop-number : goal.invariant-loop-number
invariant-loop-number g l = record {
  sends : AllZip SameSends l.fn.sends l.sends;
  mirrors : UpTo (λ a b. Unit {0}) l.number l.fn.mirrors l.mirrors;
  rows : UpTo (λ a b. Unit {0}) l.number l.fn.rows l.rows;
  done : (h : Holding _) → AreHeld h l.fn.mirrors l.fn.sends l.fn.rows l.senders
      → (i : ℕ) (s : MirrorState _) → i < l.number → s ≡ get_or l.mirrors i s → EndsAtFold g.G.Game.rules h.course h.opening s;
}
