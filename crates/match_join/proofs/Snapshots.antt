-- A mirror of a match after its first lines, whose snapshot is one from which a joiner can be opened.
use Rattle.std.proofs.Common.{◌≡◌, refl, ◌∙◌, ap, sym, subst, ℕ, ◌<◌, List, [], ◌∷◌, map, length, drop, arith}
use Rattle.std.proofs.lemmas.List.{length-map}
use Rattle.std.specs.List.{AllByRecursion}
use Rattle.game_trait.specs.declared.event.Event.{Event}
use Rattle.game_trait.specs.Count.{times}
use Rattle.game_trait.specs.Game.{Rules}
use Rattle.game_trait.proofs.Lists.{all-weaker}
use Rattle.sync_model.specs.Schedule.{IsSchedule, ticks_of_first}
use Rattle.sync_model.specs.State.{MirrorState}
use Rattle.sync_model.specs.Change.{next, after, Fits}
use Rattle.sync_model.specs.Consistent.{IsConsistent}
use Rattle.sync_model.specs.History.{EachChanges, HasRoomAlong}
use Rattle.sync_model.specs.Legal.{NamesWhatIsThere}
use Rattle.sync_model.proofs.Along.{all-fit-next, well_formed_kept}
use Rattle.sync_model.proofs.Legal.{named-fits}
use Rattle.sync_model.proofs.Room.{from_history_kept, from_history_reached, history_of_changes, opening_from_history}
use Rattle.sync_model.proofs.Staggered.{staggered_kept}
use Rattle.match_data.specs.Data.{MatchData, IsMatch, schedule_of, schedules, all_plans}
use Rattle.match_hall.specs.Script.{arrives_at, restaggers_at, opening_mirror}
use Rattle.match_hall.proofs.Along.{room-along}
use Rattle.match_hall.proofs.OnWay.{due-within, opening-length, opening-staggered, way-length, way-plans}
use Rattle.late_joiner.specs.Snapshot.{IsSnapshot, snapshot_of}
use Rattle.late_joiner.proofs.Taken.{snapshot_sound}
use Rattle.match_join.specs.Join.{mirror_before}
use Rattle.match_join.proofs.Way.{way-before}

-- what always holds of a mirror, events that fit and find room keep
consistent-along :
    {W : Type 0} (es : List Event) (s : MirrorState W) → AllByRecursion (Fits s) es → HasRoomAlong s es → IsConsistent s → IsConsistent (after s es)
unfolding after HasRoomAlong
consistent-along [] s fits room here = here
consistent-along (e ∷ es) s fits room here =
    consistent-along es (next s e) (all-fit-next s e es fits.1) room.1 (record {
      staggered = staggered_kept s e fits.0 here.staggered;
      well_formed = well_formed_kept s e fits.0 here.well_formed;
      from_history = from_history_kept s e room.0 here.from_history;
      each_changes = history_of_changes s e (from_history_reached s here.from_history) here.each_changes;
    })

consistent-opening : {W : Type 0} (opening : W) (m : MatchData) (number : ℕ) → IsMatch m → IsConsistent (opening_mirror opening m number)
unfolding opening_mirror EachChanges
consistent-opening opening m number sound =
    let copies : length m.delays ≡ length (map (λ (delay : ℕ). []) m.delays) = sym (length-map m.delays (λ (delay : ℕ). [])) in
    record {
      staggered = opening-staggered m opening number;
      well_formed = record {
        plans = record {
          some_plan = omega arith;
          few_plans = (let few = sound.plan_count in omega arith);
          schedules = (sound.delays, all-weaker _ (λ p. IsSchedule (schedule_of m p)) m.plans (λ p h. h.0) sound.plans);
          equal_copies = (copies, all-weaker _ (λ p. length p ≡ length (map (λ (delay : ℕ). []) m.delays)) m.plans (λ p h. h.1 ∙ copies) sound.plans);
        };
        in_force = omega arith;
      };
      from_history = opening_from_history opening m.length (all_plans m) (times (arrives_at number) m.script) (times (restaggers_at number) m.script);
      each_changes = tt;
    }

opening-room :
    {W : Type 0} (opening : W) (m : MatchData) (number : ℕ)
    → ((opening_mirror opening m number).spare ≡ times (arrives_at number) m.script)
    × ((opening_mirror opening m number).plan_spare ≡ times (restaggers_at number) m.script)
unfolding opening_mirror
opening-room opening m number = (refl, refl)

module _ {W : Type 0} (rules : Rules W) (opening : W) (m : MatchData) (number k : ℕ) (sound : IsMatch m) where
  consistent-before : IsConsistent (mirror_before opening m number k)
  consistent-before =
      let start = opening_mirror opening m number in
      let way = way-before opening m number k sound in
      let due = subst (λ (n : ℕ). AllByRecursion (λ x. x.time < n) m.commands) (sym (opening-length m opening number)) (due-within m sound) in
      let fit = all-weaker (NamesWhatIsThere m.commands start) (Fits start) way.es (λ e named. named-fits m.commands start due e named) way.named in
      let spare = opening-room opening m number in
      let room = room-along way.es start 0 0 (let s = spare.0 in let a = way.arrivals in omega arith) (let s = spare.1 in let a = way.restaggers in omega arith) in
      subst (λ (t : MirrorState W). IsConsistent t) (sym way.reached) (consistent-along way.es start fit room.0 (consistent-opening opening m number sound))

  -- a joiner of the match can be opened from its snapshot
  pub snapshot-stands : IsSnapshot rules (ticks_of_first (schedules m)) (length (schedules m)) (snapshot_of rules (mirror_before opening m number k))
  snapshot-stands =
      let t = mirror_before opening m number k in
      let way = way-before opening m number k sound in
      let ticks : t.length ≡ m.length = way-length m opening number (drop k m.script) t way in
      let plans : length t.plans ≡ length (schedules m) =
      ap (λ (ps : List (List ℕ)). length ps) (way-plans m opening number (drop k m.script) t way) ∙ sym (length-map (all_plans m) (schedule_of m)) in
      subst (λ (n : ℕ). IsSnapshot rules m.length n (snapshot_of rules (mirror_before opening m number k))) plans
      (subst (λ (n : ℕ). IsSnapshot rules n (length (mirror_before opening m number k).plans) (snapshot_of rules (mirror_before opening m number k))) ticks
      (snapshot_sound rules t consistent-before))
