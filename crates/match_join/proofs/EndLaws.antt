-- At the end a mirror of a match and one that joined late from it have run the whole match, each with
-- the time-ordered execution of what it accepted.
use Rattle.std.proofs.Common.{◌≡◌, refl, ◌∙◌, ap, sym, subst, ℕ, zero, suc, ◌+◌, ◌<◌, Bool, true, false, cond, eqb, List, [], ◌∷◌, ◌++◌, map, filter, length, drop, get_or}
use Rattle.std.proofs.Common.{append_assoc, arith}
use Rattle.std.specs.List.{AllByRecursion}
use Rattle.game_trait.specs.declared.event.Event.{Event}
use Rattle.game_trait.specs.declared.event.Event.TheVariants.{Tick, Arrive, Step, Restagger}
use Rattle.game_trait.specs.Count.{times}
use Rattle.game_trait.specs.Game.{Rules}
use Rattle.game_trait.specs.Ordered.{time_ordered}
use Rattle.game_trait.specs.Run.{world_of}
use Rattle.game_trait.proofs.Lists.{all-append, all-at, all-weaker}
use Rattle.sync_model.specs.Schedule.{DelaysRise}
use Rattle.sync_model.specs.State.{MirrorState, last_clock}
use Rattle.sync_model.specs.Drafts.{run_of}
use Rattle.sync_model.specs.Legal.{NamesWhatIsThere}
use Rattle.sync_model.specs.Turns.{IsDrained}
use Rattle.sync_model.proofs.Cases.{after-fixed}
use Rattle.sync_model.proofs.Drain.{draining_ends, draining_delivers_nothing, drain-fixed, staggered-drain}
use Rattle.sync_model.proofs.Legal.{named-fits}
use Rattle.match_data.specs.Data.{MatchData, IsMatch, IsScriptLine, schedules, all_plans}
use Rattle.match_data.specs.declared.script_line.ScriptLine.{ScriptLine}
use Rattle.match_hall.specs.Headline.{IsPlayed}
use Rattle.match_hall.specs.Script.{mirror_of, names, events_of, arrives_at, restaggers_at, opening_mirror, after_lines}
use Rattle.match_hall.proofs.Headline.{way-IsPlayed}
use Rattle.match_hall.proofs.OnWay.{OnWay, due-within, named-line, way-copies, way-length}
use Rattle.report_text.specs.Worlds.{Showing}
use Rattle.game_trait.specs.Later.{later}
use Rattle.late_joiner.specs.declared.handed.Snapshot.{Snapshot}
use Rattle.late_joiner.specs.Joiner.{JoinerState, full_length, all_accepted, world_of_run, joiner_next, joiner_after, FitsJoiner, IsFrom}
use Rattle.late_joiner.specs.Snapshot.{snapshot_of}
use Rattle.late_joiner.proofs.Joining.{IsKept, ends_in_order, in_order, kept-along, opened-kept}
use Rattle.match_join.specs.Join.{mirror_before, mirror_end, joiner_before, joiner_end, joiner_line, joiner_lines, joiner_drained, mirror_world, joiner_world}
use Rattle.match_join.specs.Join.{last_copy, lines_after, join_text, ends_text, join_head, joiner_text, TellsOfBoth}
use Rattle.match_join.specs.Lines.{IsJoinerOf, IsReady}
use Rattle.match_join.proofs.Before.{opened-ready}
use Rattle.match_join.proofs.Fits.{leaves-after}
use Rattle.match_join.proofs.Snapshots.{snapshot-stands}
use Rattle.match_join.proofs.Way.{way-before, way-end}

-- ---- the mirror

opening-is : {W : Type 0} (opening : W) (m : MatchData) (number : ℕ) → (opening_mirror opening m number).opening ≡ opening
unfolding opening_mirror
opening-is opening m number = refl

module _ {W : Type 0} (rules : Rules W) (opening : W) (m : MatchData) (number k : ℕ) (sound : IsMatch m) where
  -- behind all its lines, and then drained
  abbrev behind : MirrorState W
  behind = after_lines m.commands (lines_after m number k) (mirror_before opening m number k)

  abbrev end : MirrorState W
  end = mirror_end opening m number k

  behind-way : OnWay m opening number [] behind
  behind-way = way-end opening m number k sound

  end-played : IsPlayed rules m (opening_mirror opening m number) end end.history
  end-played = way-IsPlayed rules m opening number behind sound behind-way

  pub mirror-drained : IsDrained (mirror_end opening m number k)
  mirror-drained = end-played.drained

  pub mirror-length : (mirror_end opening m number k).length ≡ m.length
  mirror-length = (drain-fixed behind).length ∙ way-length m opening number [] behind behind-way

  end-some_copy : 0 < length end.runs
  end-some_copy =
      let same = (drain-fixed behind).copies in
      let many = way-copies m opening number [] behind behind-way in
      let some = sound.delays.some_copy in
      omega arith

  end-opening : end.opening ≡ opening
  end-opening =
      (drain-fixed behind).opening
      ∙ ap (λ (t : MirrorState W). t.opening) behind-way.reached
      ∙ (after-fixed behind-way.es (opening_mirror opening m number)).opening
      ∙ opening-is opening m number

  pub mirror-world : mirror_world rules (mirror_end opening m number k) ≡ time_ordered rules opening (mirror_end opening m number k).accepted m.length
  mirror-world =
      let start = (opening_mirror opening m number).opening in
      let same : start ≡ opening = opening-is opening m number in
      ap (λ (w : W). world_of rules w (run_of end (last_copy end))) (end-opening ∙ sym same)
      ∙ all-at (λ run. world_of rules start run ≡ time_ordered rules start end.accepted m.length) end.runs (last_copy end) [] end-played.worlds
      (let some = end-some_copy in omega arith)
      ∙ ap (λ (w : W). time_ordered rules w end.accepted m.length) same

-- ---- the joiner along its lines

-- what names what is there fits a joiner of the match
named-fits_joiner :
    {W : Type 0} (m : MatchData) (s : JoinerState W) → IsMatch m → full_length s ≡ m.length
    → (e : Event) → NamesWhatIsThere m.commands s.inner e → FitsJoiner s e
named-fits_joiner m s sound whole Tick named = tt
named-fits_joiner m s sound whole (Step c) named = named
named-fits_joiner m s sound whole (Restagger p) named = named
named-fits_joiner m s sound whole (Arrive x) named =
    named-fits m.commands (record s.inner { length = full_length s })
    (subst (λ (n : ℕ). AllByRecursion (λ y. y.time < n) m.commands) (sym whole) (due-within m sound)) (Arrive x) named

joiner_after-append : {W : Type 0} (es fs : List Event) (s : JoinerState W) → joiner_after s (es ++ fs) ≡ joiner_after (joiner_after s es) fs
unfolding joiner_after
joiner_after-append [] fs s = refl
joiner_after-append (e ∷ es) fs s = joiner_after-append es fs (joiner_next s e)

-- a joiner of the match with these copies makes events along its lines, which fit the one with which
-- it began
record HasMade {W : Type 0} (begun s t : JoinerState W) : Type 0 where
  pub es : List Event
  pub reached : t ≡ joiner_after s es
  pub fit : AllByRecursion (FitsJoiner begun) es

made-lines :
    {W : Type 0} (m : MatchData) (number : ℕ) (begun : JoinerState W) (ls : List ScriptLine) (s : JoinerState W)
    → IsMatch m → IsJoinerOf m begun → AllByRecursion (IsScriptLine m) ls → length s.inner.runs ≡ length m.delays
    → HasMade begun s (joiner_lines m.commands (filter (names number) ls) s)
unfolding joiner_lines joiner_after
made-lines m number begun [] s sound of_match lines copies = record { es = []; reached = refl; fit = tt }
made-lines m number begun (l ∷ ls) s sound of_match lines copies =
    elim (eqb (mirror_of l) number) as (λ v. HasMade begun s
    (joiner_lines m.commands (cond v (l ∷ filter (names number) ls) (filter (names number) ls)) s)) [
      | true ↦
          let es = events_of m.commands (length s.inner.runs) l in
          let more = made-lines m number begun ls (joiner_line m.commands l s) sound of_match lines.1 ((leaves-after es s).copies ∙ copies) in
          record {
            es = es ++ more.es;
            reached = more.reached ∙ sym (joiner_after-append es more.es s);
            fit =
                all-append (FitsJoiner begun) es more.es
                (all-weaker (NamesWhatIsThere m.commands begun.inner) (FitsJoiner begun) es (λ e named. named-fits_joiner m begun sound of_match.ticks e named)
                (named-line m begun.inner l (length s.inner.runs) (copies ∙ sym of_match.copies) of_match.copies of_match.plans lines.0))
                more.fit;
          }
      | false ↦ made-lines m number begun ls s sound of_match lines.1 copies
    ]

-- ---- and drained

-- the delays of each plan rise, also of one that isn't there
rises : (plans : List (List ℕ)) (p : ℕ) → AllByRecursion DelaysRise plans → DelaysRise (get_or plans p [])
unfolding DelaysRise
rises [] p h = tt
rises (delays ∷ plans) zero h = h.0
rises (delays ∷ plans) (suc p) h = rises plans p h.1

-- draining keeps what a joiner goes on from
drained-from : {W : Type 0} (snap : Snapshot W) (ticks : ℕ) (s : JoinerState W) → IsFrom snap ticks s → IsFrom snap ticks (joiner_drained s)
drained-from snap ticks s h = record {
  opening = h.opening;
  start = h.start;
  passed = h.passed;
  length = (let length = (drain-fixed s.inner).length in let was = h.length in omega arith);
  rest = (h.rest.0, ap (map (later s.start)) (draining_delivers_nothing s.inner).accepted ∙ h.rest.1);
}

drained-kept : {W : Type 0} (rules : Rules W) (s : JoinerState W) → IsKept rules s → IsKept rules (joiner_drained s)
drained-kept rules s h =
    let same = drain-fixed s.inner in
    record {
      joined = record {
        opened = same.opening ∙ h.joined.opened;
        passed = h.joined.passed;
        short = (let short = h.joined.short in let length = same.length in omega arith);
      };
      staggered = staggered-drain s.inner h.staggered;
    }

module _ {W : Type 0} (rules : Rules W) (opening : W) (m : MatchData) (number k : ℕ) (sound : IsMatch m)
    (left : last_clock (mirror_before opening m number k).runs < m.length) where
  abbrev snap : Snapshot W
  snap = snapshot_of rules (mirror_before opening m number k)

  -- as it opens, behind all its lines, and then drained
  abbrev begun : JoinerState W
  begun = joiner_before rules opening m number k

  abbrev lined : JoinerState W
  lined = joiner_lines m.commands (lines_after m number k) begun

  abbrev joined : JoinerState W
  joined = joiner_end rules opening m number k

  begun-ready : IsReady m number (drop k m.script) begun
  begun-ready =
      opened-ready rules m number k m.script (drop k m.script) (mirror_before opening m number k) begun sound refl refl (record { left = left; is = refl })

  lined-made : HasMade begun begun lined
  lined-made = made-lines m number begun (drop k m.script) begun sound begun-ready.joiner begun-ready.lines begun-ready.joiner.copies

  lined-from : IsFrom snap m.length lined
  lined-from =
      subst (IsFrom snap m.length) (sym lined-made.reached)
      (ends_in_order rules snap (schedules m) (length snap.rest + times (arrives_at number) (drop k m.script))
      (1 + times (restaggers_at number) (drop k m.script)) lined-made.es (snapshot-stands rules opening m number k sound) sound.ticks.1 lined-made.fit).0

  lined-kept : IsKept rules lined
  lined-kept =
      subst (IsKept rules) (sym lined-made.reached)
      (kept-along rules lined-made.es begun lined-made.fit
      (opened-kept rules snap (schedules m) (length snap.rest + times (arrives_at number) (drop k m.script))
      (1 + times (restaggers_at number) (drop k m.script)) (snapshot-stands rules opening m number k sound) sound.ticks.1))

  pub joiner-from : IsFrom (snapshot_of rules (mirror_before opening m number k)) m.length (joiner_end rules opening m number k)
  joiner-from = drained-from snap m.length lined lined-from

  pub joiner-drained : IsDrained (joiner_end rules opening m number k).inner
  joiner-drained =
      let rise : AllByRecursion DelaysRise (all_plans m) =
      (sound.delays.delays_rise, all-weaker _ DelaysRise m.plans (λ p h. h.0.delays_rise) sound.plans) in
      let plans : lined.inner.plans ≡ all_plans m =
      ap (λ (s : JoinerState W). s.inner.plans) lined-made.reached ∙ (leaves-after lined-made.es begun).plans_are ∙ begun-ready.joiner.plans in
      draining_ends lined.inner (rises lined.inner.plans lined.inner.plan (subst (AllByRecursion DelaysRise) (sym plans) rise)) lined-kept.staggered

  joined-some_copy : 0 < length joined.inner.runs
  joined-some_copy =
      let drained = (drain-fixed lined.inner).copies in
      let reached = ap (λ (s : JoinerState W). length s.inner.runs) lined-made.reached in
      let made = (leaves-after lined-made.es begun).copies in
      let many = begun-ready.joiner.copies in
      let some = sound.delays.some_copy in
      omega arith

  joined-opening : joined.opening ≡ opening
  joined-opening =
      let way = way-before opening m number k sound in
      joiner-from.opening
      ∙ ap (λ (t : MirrorState W). t.opening) way.reached
      ∙ (after-fixed way.es (opening_mirror opening m number)).opening
      ∙ opening-is opening m number

  pub joiner-world :
      joiner_world rules (joiner_end rules opening m number k) ≡ time_ordered rules opening (all_accepted (joiner_end rules opening m number k)) m.length
  joiner-world =
      all-at (λ run. world_of_run rules joined run ≡ time_ordered rules joined.opening (all_accepted joined) (full_length joined)) joined.inner.runs (last_copy joined.inner) []
      (in_order rules joined (drained-kept rules lined lined-kept) joiner-drained) (let some = joined-some_copy in omega arith)
      ∙ ap (λ (w : W). time_ordered rules w (all_accepted joined) (full_length joined)) joined-opening
      ∙ ap (time_ordered rules opening (all_accepted joined)) joiner-from.length

-- ---- what is told

pub told-ends :
    {W : Type 0} (show : Showing W) (opening : W) (m : MatchData) (number k : ℕ) (text : List ℕ) → TellsOfBoth show opening m number k text
    → (front : List ℕ) × (same : Bool)
    × (text ≡ front ++ ends_text show number m.length (mirror_end opening m number k) (joiner_end show.rules opening m number k) same)
unfolding join_text
told-ends show opening m number k text h =
    let head = join_head number k (last_clock (mirror_before opening m number k).runs) in
    let lines = joiner_text m.commands (lines_after m number k) (joiner_before show.rules opening m number k) in
    let ends = ends_text show number m.length (mirror_end opening m number k) (joiner_end show.rules opening m number k) h.same in
    (head ++ lines, h.same, h.lines ∙ sym (append_assoc head lines ends))
