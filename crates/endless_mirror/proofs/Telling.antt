-- What is told is told of the mirror that remembers all.
use Rattle.std.proofs.Common.{◌≡◌, ℕ, ◌+◌, ◌-◌, ◌≤◌, ◌<◌, true, false, cond, List, [], ◌∷◌, ◌++◌, map, length, refl, ap, sym, ◌∙◌, arith}
use Rattle.std.specs.Prelude.{IfSome, is_some}
use Rattle.std.proofs.lemmas.List.{length-map}
use Rattle.game_trait.specs.declared.command.Act.{Act}
use Rattle.game_trait.specs.declared.command.Command.{Command}
use Rattle.game_trait.specs.declared.event.Event.{Event}
use Rattle.game_trait.specs.declared.event.Event.TheVariants as events
use Rattle.game_trait.specs.declared.event.Reply.{Reply}
use Rattle.game_trait.specs.declared.event.Reply.TheVariants.{Tick as ToTick, Arrive as ToArrive}
use Rattle.game_trait.specs.declared.event.Ticked.TheVariants.{Moved, Over}
use Rattle.game_trait.specs.Game.{Rules}
use Rattle.game_trait.specs.Later.{later, later_event, later_reply}
use Rattle.game_trait.specs.Ordered.{ordered}
use Rattle.game_trait.specs.Run.{world_of}
use Rattle.command_lines.specs.CommandLine.{command_line}
use Rattle.tss_io.specs.Lines.{as_line, lines_text}
use Rattle.sync_model.specs.Change.{said, answers}
use Rattle.sync_model.specs.Forgetting.{arrive_from, said_from}
use Rattle.sync_model.specs.State.{MirrorState}
use Rattle.sync_model.specs.Turns.{steps_from, turn_events}
use Rattle.sync_model.proofs.Cases.{step-cases}
use Rattle.sync_model.proofs.Forgetting.{as-many, copy-clocks}
use Rattle.sync_model.proofs.Forgotten.{left-worlds}
use Rattle.report_text.specs.Replies.{tick_text}
use Rattle.report_text.specs.Worlds.{Showing, showing, block_text, copy_head}
use Rattle.rolling_mirror.specs.declared.arrival.Arrival.{Arrival}
use Rattle.rolling_mirror.specs.declared.arrival.Arrival.TheVariants.{Taken, Repeat, Late, Far, Full}
use Rattle.rolling_mirror.specs.Rolling.{RollState, IsWindowOf, left_after, is_held, arrived, as_arrived, said_to_arrival, said_to_turn}
use Rattle.rolling_mirror.proofs.Arrivals.{exact-window}
use Rattle.rolling_mirror.proofs.Windows.{event-window, tick-window}
use Rattle.live_text.specs.Requests.{FitsTerms}
use Rattle.live_text.specs.declared.request.Request.{Request}
use Rattle.live_text.specs.declared.request.Request.TheVariants.{Own, Cmd, Tick, Turn, Step, Restagger, World, Run, Commands, End}
use Rattle.endless_mirror.specs.Session.{SessionState, terms_of, is_past, own_command}
use Rattle.endless_mirror.specs.Talk.{IsWholeOf, reply_text, copy_of_whole, due_on, end_of_whole, told_of_whole}
use Rattle.endless_mirror.specs.Told.{arrival_told, turn_reply_text, replies_told, step_told, copy_told, base_line, log_line, last_copy, end_text, answer_text}
use Rattle.endless_mirror.proofs.Whole.{went-both, held-both}

-- a step's answer has no tick that would be told later
step-now : {W : Type 0} (b : ℕ) (s : MirrorState W) (c : ℕ) → later_reply b (said s (events.Step c)) ≡ said s (events.Step c)
unfolding later_reply
step-now b s c = step-cases s c (λ t r. later_reply b r ≡ r) (λ e. refl) (λ e. refl)

module _
    {W : Type 0} (rules : Rules W) (lines : W → List (List ℕ) → List ℕ) (names : List (List ℕ)) (whole : MirrorState W) (s : SessionState W)
    (is : IsWholeOf rules whole s) where
  abbrev m : RollState W
  m = s.mirror

  abbrev b : ℕ
  b = m.base

  abbrev show : Showing W
  show = showing rules lines names

  own-told : (player : ℕ) (act : Act) → answer_text show s (Own player act) ≡ told_of_whole show whole s (Own player act)
  unfolding answer_text told_of_whole
  own-told player act =
      let clock = is.window.clock in
      let at : b + m.left.clock ≡ whole.clock = omega arith in
      elim (is_past s) as (λ v. cond v (tick_text s.number Over) (as_line (command_line (own_command s player act)))
      ≡ cond v (tick_text s.number Over) (as_line (command_line (record (own_command s player act) { time = whole.clock })))) [
        | true ↦ refl
        | false ↦ ap (λ (t : ℕ). as_line (command_line (record (own_command s player act) { time = t }))) at
      ]

  arrival-of-whole :
      (x : Command) (a : Arrival) → IfSome (as_arrived a) (λ answer. IsWindowOf rules (arrive_from b whole x) (arrived m x a) × (said_from b whole x ≡ ToArrive answer))
      → arrival_told s.number x a ≡ cond (is_some (as_arrived a)) (reply_text s.number x (said_from b whole x)) (arrival_told s.number x a)
  unfolding arrival_told reply_text
  arrival-of-whole x (Taken repaired) k = sym (ap (reply_text s.number x) k.1)
  arrival-of-whole x Repeat k = sym (ap (reply_text s.number x) k.1)
  arrival-of-whole x (Late bound) k = sym (ap (reply_text s.number x) k.1)
  arrival-of-whole x (Far end) k = refl
  arrival-of-whole x Full k = refl

  tick-told : answer_text show s Tick ≡ told_of_whole show whole s Tick
  unfolding answer_text told_of_whole turn_reply_text
  tick-told =
      let before = is.before_end in
      elim (is_held m) as (λ v. tick_text s.number (cond v Over Moved) ≡ cond v (tick_text s.number Over) (turn_reply_text s.number (said whole events.Tick))) [
        | true ↦ refl
        | false ↦ sym (ap (turn_reply_text s.number) (tick-window rules m (left_after m events.Tick) refl is.stands.within_window whole is.window (omega arith)).1)
      ]

  turn-told : answer_text show s Turn ≡ told_of_whole show whole s Turn
  unfolding answer_text told_of_whole
  turn-told =
      ap (replies_told s.number)
      (elim (is_held m) as (λ v. is_held m ≡ v
      → said_to_turn rules m ≡ cond v (ToTick Over ∷ answers whole (steps_from 0 (length whole.runs))) (answers whole (turn_events (length whole.runs)))) [
        | true ↦ λ e. (held-both rules m is.stands whole is.window is.before_end e).1
        | false ↦ λ e. (went-both rules m is.stands whole is.window is.before_end e).1
      ] refl)

  step-told : (c : ℕ) → c < length m.left.runs → answer_text show s (Step c) ≡ told_of_whole show whole s (Step c)
  unfolding answer_text told_of_whole later_event
  step-told c there =
      let before = is.before_end in
      let many = as-many rules b whole m.left is.window in
      let both = event-window rules m (left_after m (events.Step c)) (events.Step c) refl is.stands.within_window whole is.window (omega arith) (omega arith) in
      ap (step_told s.number c) (sym (both.1 ∙ step-now b m.left c))

  copy-of-whole : (c : ℕ) → c < length m.left.runs → copy_told show s.number m c ≡ copy_of_whole show s.number whole c
  copy-of-whole c there =
      let clock : b + _ ≡ _ = sym (copy-clocks rules b whole m.left is.window c there) in
      let world = left-worlds rules b whole m.left c is.window there in
      λ i. block_text lines names (copy_head s.number c (clock i)) (world i)

  end-told : end_text show s.number m ≡ end_of_whole show s.number b whole
  end-told =
      let some = is.stands.some_copy in
      let many : length m.left.runs ≡ length whole.runs = sym (as-many rules b whole m.left is.window) in
      let due : map (later b) m.left.accepted ≡ due_on b whole = sym is.window.accepted in
      let count : length m.left.accepted ≡ length (due_on b whole) = sym (length-map m.left.accepted (later b)) ∙ ap length due in
      let copy : copy_told show s.number m (last_copy m) ≡ copy_of_whole show s.number whole (length whole.runs - 1) =
      copy-of-whole (length m.left.runs - 1) (omega arith) ∙ ap (λ (n : ℕ). copy_of_whole show s.number whole (n - 1)) many in
      λ i.
      base_line s.number b
      ++ (block_text lines names (copy_head s.number (many i - 1) b) (is.window.opening i)
      ++ (log_line s.number (count i) ++ (lines_text (map command_line (due i)) ++ copy i)))

  pub told-of-whole : (r : Request) → FitsTerms (terms_of s) r → answer_text show s r ≡ told_of_whole show whole s r
  unfolding answer_text told_of_whole
  told-of-whole (Own player act) fits = own-told player act
  told-of-whole (Cmd x) fits =
      let before = is.before_end in
      let a = said_to_arrival m x in
      arrival-of-whole x a (exact-window rules m x is.stands.within_window whole is.window (omega arith) (arrived m x a) a refl refl)
  told-of-whole Tick fits = tick-told
  told-of-whole Turn fits = turn-told
  told-of-whole (Step c) fits = step-told c (let some = is.stands.some_copy in omega arith)
  told-of-whole (Restagger plan) fits = refl
  told-of-whole (World c) fits = copy-of-whole c (let some = is.stands.some_copy in omega arith)
  told-of-whole (Run c) fits = refl
  told-of-whole Commands fits = ap (λ (xs : List Command). lines_text (map command_line xs)) (sym is.window.accepted)
  told-of-whole End fits = end-told
