use Rattle.std.proofs.Common.{List, [], ◌∷◌, ◌++◌, map}
use Rattle.game_trait.specs.declared.command.Command.{Command}
use Rattle.game_trait.specs.declared.event.Event.{Event}
use Rattle.game_trait.specs.declared.event.Event.TheVariants.{Arrive}
use Rattle.sync_model.specs.State.{MirrorState}
use Rattle.sync_model.specs.Change.{next, said, after}
use Rattle.race_hall.specs.Entries.{AllTaken, IsNeverRefused}
use Rattle.race_hall.specs.Finish.{delivered}
use Rattle.race_hall.proofs.laws.what_is_left_is_taken.Goals as goal

taken-there : {W : Type 0} (s : MirrorState W) (front behind : List Command) (x : Command) → AllTaken s (map Arrive (front ++ x ∷ behind)) → IsNeverRefused (said (delivered s front) (Arrive x))
unfolding AllTaken after
taken-there s [] behind x all = all.0
taken-there s (y ∷ front) behind x all = taken-there (next s (Arrive y)) front behind x all.1

asked-there : {W : Type 0} (s : MirrorState W) (front behind : List Event) (x : Command) → AllTaken s (front ++ Arrive x ∷ behind) → IsNeverRefused (said (after s front) (Arrive x))
unfolding AllTaken after
asked-there s [] behind x all = all.0
asked-there s (e ∷ front) behind x all = asked-there (next s e) front behind x all.1

pub returns : goal.returns
returns g c = record {
  none = λ course opening spare m marked left history s h. h.turned;
  arrived = λ course opening spare m marked left history s front behind x h whole. asked-there _ front behind x (rw whole at h.taken);
  accepted = λ course opening spare m marked left history s h. h.accepted;
  later = λ course opening spare m marked left history s front behind x h whole. taken-there s front behind x (rw whole at h.later);
}
