-- What is true of a mirror when its workers have ended, before the finish.
use Rattle.std.proofs.Common.{refl, ℕ, ◌≤◌, ◌<◌, true, List, [], ◌∷◌, ◌++◌, map, length, ap, sym, ◌∙◌, subst, arith}
use Rattle.std.specs.List.{AllByRecursion}
use Rattle.game_trait.specs.declared.command.Command.{Command}
use Rattle.game_trait.specs.declared.event.Event.TheVariants.{Arrive}
use Rattle.game_trait.proofs.Counts.{times-append, times-all}
use Rattle.game_trait.proofs.KeyOrder.{NamesDiffer-same}
use Rattle.game_trait.proofs.Lists.{all-second}
use Rattle.game_trait.proofs.CommandLists.{NamesDiffer-front}
use Rattle.link_ring.specs.declared.message.Message.{Message}
use Rattle.sync_model.specs.State.{MirrorState}
use Rattle.sync_model.specs.Change.{after, Fits}
use Rattle.sync_model.proofs.Staggered.{opening_staggered}
use Rattle.sync_model.proofs.Cases.{after-fixed}
use Rattle.race_hall.specs.Entries.{Entry, pairs_of, events_asked, commands_asked, AllTaken}
use Rattle.race_hall.specs.Race.{Course, IsCourse, Raced, race_opening}
use Rattle.race_hall.specs.Finish.{left_over, never_issued, to_deliver, NothingLate}
use Rattle.race_hall.proofs.Entries.{sound-fits}
use Rattle.race_hall.proofs.Taking.{takes}
use Rattle.race_hall.proofs.Late.{history-in_time, shared-out}
use Rattle.race_hall.proofs.Fold.{opening-runs, runs-take, delivers, taken-last}

arrivals-fit : {W : Type 0} (s : MirrorState W) (xs : List Command) → AllByRecursion (Fits s) (map Arrive xs) → AllByRecursion (λ x. x.time < s.length) xs
arrivals-fit s [] h = tt
arrivals-fit s (x ∷ xs) h = (h.0, arrivals-fit s xs h.1)

pub nothing-late :
    {W : Type 0} (c : Course) (opening : W) (spare m : ℕ) (marked : ℕ → ℕ) (got left : ℕ → List Message) (seat : ℕ) (H : List Entry) (s : MirrorState W)
    → IsCourse c → length c.commands ≤ spare → m < c.mirrors → Raced c opening spare m marked got left seat H s
    → NothingLate c opening spare m marked left H s
nothing-late {W} c opening spare m marked got left seat H s course room there r =
    let runs = delivers c opening spare m marked got left seat H s course there r in
    let all = runs-take c opening spare (events_asked (pairs_of H) ++ map Arrive (to_deliver c m marked left)) (after s (map Arrive (to_deliver c m marked left))) course room runs in
    let share = shared-out c opening spare m marked got left seat H s course there r in
    let names = NamesDiffer-front (commands_asked (events_asked (pairs_of H))) (to_deliver c m marked left)
    (NamesDiffer-same c.commands (commands_asked (events_asked (pairs_of H)) ++ to_deliver c m marked left)
    (λ p. (let a = share p in let b = times-append p (commands_asked (events_asked (pairs_of H)))
    (to_deliver c m marked left) in let d = times-append p (left_over c m left) (never_issued c marked) in
    omega arith)) course.names) in
    let few : length (commands_asked (events_asked (pairs_of H))) ≤ spare =
    (let a = share (λ x. true) in let b = times-all c.commands in
    let d = times-all (commands_asked (events_asked (pairs_of H))) in omega arith) in
    let here = takes (events_asked (pairs_of H)) (race_opening c opening spare) (opening_staggered opening c.length c.plans spare 0) refl (opening-runs c opening spare course.some_copy)
    (sound-fits (pairs_of H) (race_opening c opening spare) r.sound) (history-in_time c opening spare m marked got left seat H s course there r) names few in
    record {
      accepted = ap (λ (u : MirrorState W). u.accepted) r.state ∙ here.accepted;
      turned = ap (λ (u : MirrorState W). u.turned) r.state ∙ here.turned;
      taken = here.taken;
      shared = share;
      can = record {
        within = subst (λ (n : ℕ). AllByRecursion (λ x. x.time < n) (to_deliver c m marked left))
            (sym (ap (λ (u : MirrorState W). u.length) r.state
            ∙ (after-fixed (events_asked (pairs_of H)) (race_opening c opening spare)).length))
            (arrivals-fit (race_opening c opening spare) (to_deliver c m marked left)
            (all-second (Fits (race_opening c opening spare)) (events_asked (pairs_of H))
            (map Arrive (to_deliver c m marked left)) runs.fit));
        room = (let a = share (λ x. true) in let b = times-all c.commands in let d = times-all (commands_asked (events_asked (pairs_of H))) in let e = times-all (to_deliver c m marked left) in
            let f = times-append (λ x. true) (left_over c m left) (never_issued c marked) in let k = here.spare in let l = ap (λ (u : MirrorState W). u.spare) r.state in omega arith);
      };
      later = subst (λ (u : MirrorState W). AllTaken u (map Arrive (to_deliver c m marked left))) (sym r.state)
          (taken-last (events_asked (pairs_of H)) (map Arrive (to_deliver c m marked left))
          (race_opening c opening spare) all.taken);
    }
