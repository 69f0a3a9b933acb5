-- A command at what is left of a mirror, beside the mirror that remembers all.
use Rattle.std.proofs.Common.{◌≡◌, refl, ◌∙◌, ap, sym, subst, ℕ, ◌+◌, ◌-◌, ◌≤◌, ◌<◌, Bool, true, false, cond, ◌||◌, eqb, leb, ltb}
use Rattle.std.proofs.Common.{List, [], ◌∷◌, ◌++◌, map, filter, arith}
use Rattle.std.specs.Prelude.{IfSome}
use Rattle.std.specs.List.{list_any}
use Rattle.std.proofs.lemmas.Bool.{lt-ltb, le-ltb, ltb-false}
use Rattle.std.proofs.lemmas.Bool.Decides.{nat_tests}
use Rattle.game_trait.specs.declared.command.Command.{Command}
use Rattle.game_trait.specs.declared.event.Event.TheVariants.{Arrive}
use Rattle.game_trait.specs.declared.event.Arrived.TheVariants.{Late as AsLate}
use Rattle.game_trait.specs.declared.event.Reply.TheVariants.{Arrive as ToArrive}
use Rattle.game_trait.specs.Game.{Rules}
use Rattle.game_trait.specs.CommandList.{name_of, has_command}
use Rattle.game_trait.specs.NameTree.{has_name}
use Rattle.game_trait.proofs.CommandLists.{has-named}
use Rattle.game_trait.specs.Keys.{same_name}
use Rattle.game_trait.specs.Later.{later, earlier, later_event, later_reply}
use Rattle.game_trait.proofs.Later.{command-later-earlier}
use Rattle.sync_model.specs.State.{MirrorState, last_clock}
use Rattle.sync_model.specs.Settle.{settle, repaired}
use Rattle.sync_model.specs.Change.{next, said, is_repeat, is_late, proposed_by_arrival}
use Rattle.sync_model.proofs.Cases.{away, arrive-cases}
use Rattle.sync_model.proofs.Answered.{arrive_repeat, arrive_late, arrive_taken}
use Rattle.sync_model.specs.Forgetting.{is_repeat_from, arrive_from, said_from}
use Rattle.sync_model.proofs.Forgetting.{any-split, named-later, last-clocks, from_repeat, from_late, arrival-exact}
use Rattle.rolling_mirror.specs.declared.arrival.Arrival.{Arrival}
use Rattle.rolling_mirror.specs.declared.arrival.Arrival.TheVariants.{Taken, Repeat, Late, Far, Full}
use Rattle.rolling_mirror.specs.Rolling.{RollState, IsWindowOf, without_lists, left_after, last_tick, window_end, in_window, said_to_arrival, arrived, as_arrived}
use Rattle.rolling_mirror.proofs.Windows.{event-window, left-bare}

-- ---- names

-- an earlier command has the same name
pub named-earlier : (xs : List Command) (b : ℕ) (x : Command) → list_any (same_name (earlier b x)) xs ≡ list_any (same_name x) xs
unfolding same_name
named-earlier xs b x = refl

-- a name is remembered where a command has it
pub repeat-named :
    (xs : List Command) (x : Command) (names : List (ℕ × ℕ)) (v : Bool) → names ≡ map name_of xs
    → v ≡ has_name names x.from x.number → list_any (same_name x) xs ≡ v
unfolding same_name
repeat-named xs x names v are told =
    sym (told ∙ ap (λ (l : List (ℕ × ℕ)). has_name l x.from x.number) are ∙ has-named xs x.from x.number)

-- a command of this mirror and number is remembered where its name is
pub named-in :
    (xs : List Command) (from number : ℕ) (names : List (ℕ × ℕ)) (v : Bool) → names ≡ map name_of xs
    → v ≡ has_name names from number → v ≡ has_command xs from number
named-in xs from number names v are told =
    told ∙ ap (λ (l : List (ℕ × ℕ)). has_name l from number) are ∙ has-named xs from number

-- ---- the answer, case by case

module _ {W : Type 0} (r : RollState W) (x : Command) where
  said-repeat : is_repeat r.left x ≡ true → Repeat ≡ said_to_arrival r x
  said-repeat again = rw again refl

  said-late : (bound : ℕ) → bound ≡ last_tick r → is_repeat r.left x ≡ false → x.time < bound → Late bound ≡ said_to_arrival r x
  said-late bound is new late =
      let old : ltb x.time (last_tick r) ≡ true = lt-ltb x.time (last_tick r) (omega arith) in
      rw (new, old) (ap Late is)

  module _ (bound window : ℕ) (is : bound ≡ last_tick r) (ticks : window ≡ r.left.length) (new : is_repeat r.left x ≡ false) (due : bound ≤ x.time) where
    on_time : ltb x.time (last_tick r) ≡ false
    on_time = le-ltb x.time (last_tick r) (omega arith)

    said-far : window ≤ x.time - r.base → Far (r.base + window) ≡ said_to_arrival r x
    said-far far =
        let at : leb (window_end r) x.time ≡ true = grind (arith, nat_tests) in
        rw (new, on_time, at) (ap (λ (n : ℕ). Far (r.base + n)) ticks)

    said-full : x.time - r.base < window → r.spare ≡ 0 → Full ≡ said_to_arrival r x
    said-full near full =
        let at : leb (window_end r) x.time ≡ false = grind (arith, nat_tests) in
        let none : eqb r.spare 0 ≡ true = grind (arith, nat_tests) in
        rw (new, on_time, at, none) refl

    said-in :
        x.time - r.base < window → (r.spare ≡ 0 → ⊥)
        → Taken (repaired (r.left.accepted ++ in_window r x ∷ []) (proposed_by_arrival (in_window r x) r.left.runs)) ≡ said_to_arrival r x
    said-in near some =
        let at : leb (window_end r) x.time ≡ false = grind (arith, nat_tests) in
        let room : eqb r.spare 0 ≡ false = grind (arith, nat_tests) in
        rw (new, on_time, at, room) refl

  -- a command that is accepted
  pub after-taken :
      is_repeat r.left x ≡ false → last_clock r.left.runs ≤ x.time
      → record (left_after r (Arrive x)) { spare = r.spare - 1 }
      ≡ record r {
        left = record (without_lists r.left) {
          accepted = r.left.accepted ++ x ∷ [];
          runs = settle (r.left.accepted ++ x ∷ []) (proposed_by_arrival x r.left.runs);
        };
        spare = r.spare - 1;
      }
  unfolding next
  after-taken new due =
      let on : is_late r.left x ≡ false = le-ltb x.time (last_clock r.left.runs) due in
      rw (new, on) refl

  said-cases :
      (Q : Arrival → Type 0)
      → (is_repeat r.left x ≡ true → Q Repeat)
      → (is_repeat r.left x ≡ false → ltb x.time (last_tick r) ≡ true → Q (Late (last_tick r)))
      → Q (Far (window_end r)) → Q Full
      → (is_repeat r.left x ≡ false → ltb x.time (last_tick r) ≡ false
      → Q (Taken (repaired (r.left.accepted ++ in_window r x ∷ []) (proposed_by_arrival (in_window r x) r.left.runs))))
      → Q (said_to_arrival r x)
  said-cases Q again late far full taken =
      let n = repaired (r.left.accepted ++ in_window r x ∷ []) (proposed_by_arrival (in_window r x) r.left.runs) in
      elim (is_repeat r.left x) as (λ v. is_repeat r.left x ≡ v → Q (cond v Repeat (cond (ltb x.time (last_tick r)) (Late (last_tick r)) (cond (leb (window_end r) x.time) (Far (window_end r)) (cond (eqb r.spare 0) Full (Taken n)))))) [
        | true ↦ again
        | false ↦ λ e.
            elim (ltb x.time (last_tick r)) as (λ v. ltb x.time (last_tick r) ≡ v → Q (cond v (Late (last_tick r)) (cond (leb (window_end r) x.time) (Far (window_end r)) (cond (eqb r.spare 0) Full (Taken n))))) [
              | true ↦ late e
              | false ↦ λ l.
                  elim (leb (window_end r) x.time) as (λ v. Q (cond v (Far (window_end r)) (cond (eqb r.spare 0) Full (Taken n)))) [
                    | true ↦ far
                    | false ↦ elim (eqb r.spare 0) as (λ v. Q (cond v Full (Taken n))) [ true ↦ full | false ↦ taken e l ]
                  ]
            ]
            refl
      ]
      refl

-- the same where the parts are known

module _ {W : Type 0} {i r : RollState W} (view : i ≡ r) (x : Command) where
  pub is-repeat : is_repeat i.left x ≡ true → Repeat ≡ said_to_arrival r x
  is-repeat again = subst (λ (s : RollState W). Repeat ≡ said_to_arrival s x) view (said-repeat i x again)

  pub is-late : (bound : ℕ) → bound ≡ last_tick i → is_repeat i.left x ≡ false → x.time < bound → Late bound ≡ said_to_arrival r x
  is-late bound is new late = subst (λ (s : RollState W). Late bound ≡ said_to_arrival s x) view (said-late i x bound is new late)

  module _ (bound window : ℕ) (is : bound ≡ last_tick i) (ticks : window ≡ i.left.length) (new : is_repeat i.left x ≡ false) (due : bound ≤ x.time) where
    pub is-far : window ≤ x.time - i.base → Far (i.base + window) ≡ said_to_arrival r x
    is-far far =
        subst (λ (s : RollState W). Far (i.base + window) ≡ said_to_arrival s x) view (said-far i x bound window is ticks new due far)

    pub is-full : x.time - i.base < window → i.spare ≡ 0 → Full ≡ said_to_arrival r x
    is-full near full = subst (λ (s : RollState W). Full ≡ said_to_arrival s x) view (said-full i x bound window is ticks new due near full)

    pub is-in :
        (y : Command) → y ≡ in_window i x → x.time - i.base < window → (i.spare ≡ 0 → ⊥)
        → Taken (repaired (r.left.accepted ++ y ∷ []) (proposed_by_arrival y r.left.runs)) ≡ said_to_arrival r x
    is-in y told near some =
        subst (λ (s : RollState W). Taken (repaired (s.left.accepted ++ y ∷ []) (proposed_by_arrival y s.left.runs)) ≡ said_to_arrival s x) view
        (ap (λ (z : Command). Taken (repaired (i.left.accepted ++ z ∷ []) (proposed_by_arrival z i.left.runs))) told
        ∙ said-in i x bound window is ticks new due near some)

-- ---- and the mirror that remembers all

-- a command that it turns away leaves the window as it is
away-window :
    {W : Type 0} (rules : Rules W) (r : RollState W) (x : Command) (whole : MirrorState W)
    → IsWindowOf rules whole r → IsWindowOf rules (away whole x) r
away-window rules r x whole h = record {
  some_copy = h.some_copy;
  opening = h.opening;
  plans = h.plans;
  plan = h.plan;
  clock = h.clock;
  accepted = h.accepted;
  runs = h.runs;
}

module _ {W : Type 0} (rules : Rules W) (r : RollState W) (x : Command) (within : r.left.clock < r.left.length)
    (whole : MirrorState W) (h : IsWindowOf rules whole r) (before : whole.clock < whole.length)
    (known : list_any (same_name x) (filter (λ y. ltb y.time r.base) whole.accepted) ≡ false) where
  same-repeat : is_repeat whole x ≡ is_repeat r.left x
  unfolding same_name
  same-repeat =
      any-split r.base (same_name x) whole.accepted
      ∙ ap (λ (v : Bool). v || list_any (same_name x) (filter (λ y. leb r.base y.time) whole.accepted)) known
      ∙ ap (list_any (same_name x)) h.accepted
      ∙ named-later r.base x r.left.accepted

  same-late : is_late whole x ≡ ltb x.time (last_tick r)
  same-late = ap (ltb x.time) (last-clocks rules r.base whole r.left h)

  -- the promise for an answer
  abbrev Holds : Arrival → Type 0
  Holds a =
      IfSome (as_arrived a)
      (λ answer. IsWindowOf rules (next whole (Arrive x)) (arrived r x a) × (said whole (Arrive x) ≡ ToArrive answer))

  repeat-window : is_repeat r.left x ≡ true → Holds Repeat
  repeat-window e = (let w = arrive_repeat whole x (same-repeat ∙ e) in (rw w.0 h, w.1))

  late-window : is_repeat r.left x ≡ false → ltb x.time (last_tick r) ≡ true → Holds (Late (last_tick r))
  late-window e l =
      let w = arrive_late whole x (same-repeat ∙ e) (same-late ∙ l) in
      (rw w.0 (away-window rules r x whole h), w.1 ∙ ap (λ (n : ℕ). ToArrive (AsLate n)) (last-clocks rules r.base whole r.left h))

  taken-window :
      is_repeat r.left x ≡ false → ltb x.time (last_tick r) ≡ false
      → Holds (Taken (repaired (r.left.accepted ++ in_window r x ∷ []) (proposed_by_arrival (in_window r x) r.left.runs)))
  unfolding later_event later_reply same_name
  taken-window e l =
      let due : r.base + last_clock r.left.runs ≤ x.time = grind (arith, nat_tests) in
      let y = in_window r x in
      let back = command-later-earlier r.base x (omega arith) in
      let on_time : is_late r.left y ≡ false = grind (arith, nat_tests) in
      let here = arrive_taken r.left y e on_time in
      let both = event-window rules r (left_after r (Arrive y)) (Arrive y) refl within whole h before known in (
        subst (λ (z : Command). IsWindowOf rules (next whole (Arrive z)) (left_after r (Arrive y))) back both.0,
        ap (λ (z : Command). said whole (Arrive z)) (sym back) ∙ both.1 ∙ ap (later_reply r.base) here.1,
      )

  pub arrival-window :
      (t : RollState W) (a : Arrival) → a ≡ said_to_arrival r x → t ≡ arrived r x a
      → IfSome (as_arrived a) (λ answer. IsWindowOf rules (next whole (Arrive x)) t × (said whole (Arrive x) ≡ ToArrive answer))
  arrival-window t a answer state =
      subst (λ (u : RollState W). IfSome (as_arrived a) (λ answer. IsWindowOf rules (next whole (Arrive x)) u × (said whole (Arrive x) ≡ ToArrive answer))) (sym state)
      (subst Holds (sym answer) (said-cases r x Holds repeat-window late-window tt tt taken-window))

-- the same of any command, where the whole asks of names only what is remembered
module _ {W : Type 0} (rules : Rules W) (r : RollState W) (x : Command) (within : r.left.clock < r.left.length)
    (whole : MirrorState W) (h : IsWindowOf rules whole r) (before : whole.clock < whole.length) where
  repeat-from : is_repeat_from r.base whole x ≡ is_repeat r.left x
  unfolding same_name
  repeat-from = ap (list_any (same_name x)) h.accepted ∙ named-later r.base x r.left.accepted

  late-from : is_late whole x ≡ ltb x.time (last_tick r)
  late-from = ap (ltb x.time) (last-clocks rules r.base whole r.left h)

  abbrev HoldsFrom : Arrival → Type 0
  HoldsFrom a =
      IfSome (as_arrived a)
      (λ answer. IsWindowOf rules (arrive_from r.base whole x) (arrived r x a) × (said_from r.base whole x ≡ ToArrive answer))

  repeat-exact : is_repeat r.left x ≡ true → HoldsFrom Repeat
  repeat-exact e = (let w = from_repeat r.base whole x (repeat-from ∙ e) in (rw w.0 h, w.1))

  late-exact : is_repeat r.left x ≡ false → ltb x.time (last_tick r) ≡ true → HoldsFrom (Late (last_tick r))
  late-exact e l =
      let w = from_late r.base whole x (repeat-from ∙ e) (late-from ∙ l) in
      (rw w.0 (away-window rules r x whole h), w.1 ∙ ap (λ (n : ℕ). ToArrive (AsLate n)) (last-clocks rules r.base whole r.left h))

  taken-exact :
      is_repeat r.left x ≡ false → ltb x.time (last_tick r) ≡ false
      → HoldsFrom (Taken (repaired (r.left.accepted ++ in_window r x ∷ []) (proposed_by_arrival (in_window r x) r.left.runs)))
  unfolding later_reply same_name
  taken-exact e l =
      let due : r.base + last_clock r.left.runs ≤ x.time = grind (arith, nat_tests) in
      let y = in_window r x in
      let back = command-later-earlier r.base x (omega arith) in
      let on_time : is_late r.left y ≡ false = grind (arith, nat_tests) in
      let here = arrive_taken r.left y e on_time in
      let both = arrival-exact rules r.base whole r.left h y in (
        subst (λ (z : Command). IsWindowOf rules (arrive_from r.base whole z) (left_after r (Arrive y))) back
            (left-bare rules r.base (arrive_from r.base whole (later r.base y)) (next r.left (Arrive y)) (next r.left (Arrive y)).length both.0),
        ap (λ (z : Command). said_from r.base whole z) (sym back) ∙ both.1 ∙ ap (later_reply r.base) here.1,
      )

  pub exact-window :
      (t : RollState W) (a : Arrival) → a ≡ said_to_arrival r x → t ≡ arrived r x a
      → IfSome (as_arrived a) (λ answer. IsWindowOf rules (arrive_from r.base whole x) t × (said_from r.base whole x ≡ ToArrive answer))
  exact-window t a answer state =
      subst (λ (u : RollState W). IfSome (as_arrived a) (λ answer. IsWindowOf rules (arrive_from r.base whole x) u × (said_from r.base whole x ≡ ToArrive answer))) (sym state)
      (subst HoldsFrom (sym answer) (said-cases r x HoldsFrom repeat-exact late-exact tt tt taken-exact))

-- a command that the last copy has run past changes no copy of either, also where its name was forgotten
module _ {W : Type 0} (rules : Rules W) (r : RollState W) (x : Command) (whole : MirrorState W) (h : IsWindowOf rules whole r)
    (past : x.time < last_tick r) where
  passed : IsWindowOf rules (next whole (Arrive x)) r
  passed =
      arrive-cases whole x (λ t a. IsWindowOf rules t r) (λ e. h)
      (λ e l. away-window rules r x whole h)
      (λ e l. absurd (let at = last-clocks rules r.base whole r.left h in let due = ltb-false x.time (last_clock whole.runs) l in omega arith))

  pub passed-window :
      (t : RollState W) (a : Arrival) → a ≡ said_to_arrival r x → t ≡ arrived r x a → IsWindowOf rules (next whole (Arrive x)) t
  passed-window t a answer state =
      subst (IsWindowOf rules (next whole (Arrive x))) (sym state)
      (subst (λ (b : Arrival). IsWindowOf rules (next whole (Arrive x)) (arrived r x b)) (sym answer)
      (said-cases r x (λ b. IsWindowOf rules (next whole (Arrive x)) (arrived r x b)) (λ e. passed) (λ e l. passed) passed passed
      (λ e l. absurd (let due = ltb-false x.time (last_tick r) l in omega arith))))

-- the state after a command that was accepted
pub taken-state :
    {W : Type 0} (r t : RollState W) (x due : Command) (a : Arrival) (n : ℕ) → a ≡ Taken n → due ≡ in_window r x
    → t ≡ record (left_after r (Arrive due)) { spare = r.spare - 1 } → t ≡ arrived r x a
taken-state {W} r t x due a n answer is state =
    state
    ∙ ap (λ (y : Command). record (left_after r (Arrive y)) { spare = r.spare - 1 }) is
    ∙ ap (arrived r x) (sym answer)
