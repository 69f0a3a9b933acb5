-- Live mirrors that have all commands end at one world; and what always holds of one, whatever it was told.
use Rattle.std.proofs.Common.{◌≡◌, ◌≤◌, ◌+◌, ◌-◌, ℕ, false, List, [], ◌∷◌, refl, sym, subst, arith}
use Rattle.std.specs.List.{AllByRecursion, AllZip}
use Rattle.std.proofs.lemmas.Bool.{le-ltb}
use Rattle.game_trait.specs.declared.command.Act.{Act}
use Rattle.game_trait.specs.declared.command.Command.{Command}
use Rattle.game_trait.specs.declared.command.Item.{Item}
use Rattle.game_trait.specs.declared.event.Event.TheVariants as events
use Rattle.game_trait.specs.declared.event.Arrived.TheVariants.{Taken}
use Rattle.game_trait.specs.declared.event.Reply.TheVariants.{Arrive as ToArrive}
use Rattle.game_trait.specs.Keys.{NamesDiffer}
use Rattle.game_trait.specs.Ordered.{time_ordered}
use Rattle.game_trait.specs.Run.{beats, world_of}
use Rattle.tss_io.specs.Lines.{lines_of}
use Rattle.line_talk.specs.Hearing.{hear, fresh}
use Rattle.sync_model.specs.Change.{said, is_late}
use Rattle.sync_model.specs.Consistent.{IsConsistent}
use Rattle.sync_model.specs.Lists.{last_of}
use Rattle.sync_model.specs.Schedule.{longest_delay}
use Rattle.sync_model.specs.Staggered.{IsUnchangedPlan}
use Rattle.sync_model.specs.State.{MirrorState, delays_of}
use Rattle.match_data.specs.Data.{MatchData, IsMatch}
use Rattle.live_talk.specs.Head.{asking, opening_headed}
use Rattle.live_talk.specs.Staging.{Staging}
use Rattle.live_talk.specs.Talked.{TalkState}
use Rattle.live_mirror.specs.Led.{begun}
use Rattle.live_mirror.specs.Session.{SessionState, own_command}
use Rattle.live_mirror.specs.Way.{live_way}
use Rattle.live_mirror.proofs.LedLaws.{led-where}
use Rattle.live_mirror.proofs.LiveNumbers.{numbers-above}
use Rattle.live_mirror.proofs.Made.{requests-keep}
use Rattle.live_mirror.proofs.Own.{own-taken}
use Rattle.live_laws.specs.Record.{AreEnds}
use Rattle.live_laws.specs.Talks.{EndedTalk, AreAllTalks, HasThemAll, states_of}
use Rattle.live_laws.proofs.Audited.{opening-consistent}
use Rattle.live_laws.proofs.EndLaws.{all_talks_end}
use Rattle.live_laws.proofs.Handed.{worlds-at_end}

-- ---- one world

abbrev AreOrdered : {W : Type 0} → Staging W → MatchData → List Command → EndedTalk W → Type 0
AreOrdered g m commands t =
    AllByRecursion (λ run. world_of g.rules (g.opening m.layout) run ≡ time_ordered g.rules (g.opening m.layout) commands m.length) t.state.mirror.runs

each-ordered : {W : Type 0} (g : Staging W) (m : MatchData) (commands : List Command) (n : ℕ) (talks : List (EndedTalk W)) → IsMatch m → NamesDiffer commands
    → AreEnds (g.opening m.layout) m commands n (states_of talks) → AllByRecursion (HasThemAll commands) talks → AllByRecursion (AreOrdered g m commands) talks
unfolding AreEnds
each-ordered g m commands n [] is differ ends has = tt
each-ordered g m commands n (t ∷ ts) is differ ends has =
    (worlds-at_end g m commands n t is differ ends.0 has.0, each-ordered g m commands (n + 1) ts is differ ends.1 has.1)

pub one-world : {W : Type 0} (g : Staging W) (m : MatchData) (commands : List Command) (talks : List (EndedTalk W)) → IsMatch m → AreAllTalks g m commands talks → AllByRecursion (HasThemAll commands) talks
    → AllByRecursion (AreOrdered g m commands) talks
one-world g m commands talks is all has =
    let ends = all_talks_end g m commands talks all in each-ordered g m commands 0 talks is all.arrived.differ ends.1.1 has

-- ---- whatever a mirror was told

module _ {W : Type 0} (g : Staging W) (number : ℕ) (bytes : List ℕ) (t : TalkState (SessionState W)) (e : (hear (live_way g) (fresh (opening_headed number)) (lines_of bytes)).state.place ≡ asking t) where
  pub always-consistent : IsConsistent t.session.mirror
  always-consistent =
      let is = led-where g number bytes t e in
      let first = begun g.opening is.game number in
      subst (λ (s : SessionState W). IsConsistent s.mirror) (sym is.led)
      (requests-keep is.asked first (opening-consistent (g.opening is.game.layout) is.game first.mirror.spare first.mirror.plan_spare is.is_match) is.fit)

  pub own-always : (player : ℕ) (act : Act) → said t.session.mirror (events.Arrive (own_command t.session player act)) ≡ ToArrive (Taken 0)
  own-always player act = own-taken t.session player act always-consistent (numbers-above g number bytes t e)

-- ---- a command that isn't older than the clock less the last delay

last-zip : (clock : ℕ) (delay : ℕ) (run : List Item) (runs : List (List Item)) (delays : List ℕ) → beats run ≤ clock - delay → AllZip (λ r d. beats r ≤ clock - d) runs delays
    → beats (last_of run runs) ≤ clock - last_of delay delays
unfolding last_of
last-zip clock delay run [] [] here zip = here
last-zip clock delay run (r ∷ runs) (d ∷ delays) here zip = last-zip clock d r runs delays zip.0 zip.1
last-zip clock delay run [] (d ∷ delays) here zip = absurd zip
last-zip clock delay run (r ∷ runs) [] here zip = absurd zip

none-beats : beats [] ≡ 0
unfolding beats
none-beats = refl

pub in-time : {W : Type 0} (s : MirrorState W) (x : Command) → IsConsistent s → IsUnchangedPlan s → s.clock ≤ x.time + longest_delay (delays_of s) → is_late s x ≡ false
in-time s x is unchanged early =
    let none : beats [] ≤ s.clock - 0 = omega (arith, none-beats) in
    let last = last-zip s.clock 0 [] s.runs (delays_of s) none (is.staggered.in_bounds.behind_delays unchanged) in
    le-ltb _ _ (omega (arith, last, early))
