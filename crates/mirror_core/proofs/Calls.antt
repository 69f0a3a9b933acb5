-- The tests that a mirror makes, as the model's.
use Rattle.std.proofs.Common.{◌≡◌, refl, ◌∙◌, ap, sym, ℕ, ◌+◌, ◌^◌, ◌≤◌, ◌<◌, Bool}
use Rattle.std.proofs.Common.{true, false, cond, eqb, leb, eq-eqb, get_or, subst, List, [], ◌∷◌}
use Rattle.std.proofs.Common.{◌++◌, length, arith}
use Rattle.std.proofs.lemmas.Bool.{lt-ltb, le-ltb}
use Rattle.std.proofs.lemmas.Bool.Decides.{nat_tests}
use Rattle.std.proofs.lemmas.List.Folds.{list_any-append}
use Rattle.std.specs.List.{AllByRecursion, list_all}
use Rattle.std.specs.Prelude.{◌||◌}
use Rattle.sync_model.specs.Lists.{last_of}
use Rattle.sync_model.specs.Staggered.{IsChained}
use Rattle.game_trait.specs.declared.command.Command.{Command}
use Rattle.game_trait.specs.declared.command.Item.{Item}
use Rattle.game_trait.specs.Run.{beats, world_of}
use Rattle.game_trait.specs.Keys.{is_named}
use Rattle.game_trait.specs.CommandList.{has_command, same_pair}
use Rattle.game_trait.specs.NameTree.{has_name}
use Rattle.sync_model.specs.Schedule.{Schedule}
use Rattle.sync_model.specs.State.{MirrorState, copy_clock, last_clock, step_limit}
use Rattle.sync_model.specs.Change.{is_over, is_late, is_idle}
use Rattle.sync_model.specs.Turns.{is_drained}
use Rattle.sync_model.proofs.Staggered.{greatest-most}
use Rattle.game_trait.specs.Game.{Rules}
use Rattle.game_trait.specs.declared.event.Event.TheVariants.{Step}
use Rattle.sync_model.specs.Change.{next}
use Rattle.sync_model.specs.Drafts.{epoch, run_of, DraftTick, ReadyTick, draft_of, ready_of}
use Rattle.sync_model.specs.Drafts.{IsDueTick, FitsReady}
use Rattle.sync_model.proofs.Epochs.{draft_fits}
use Rattle.game_trait.specs.Ordered.{due_at}
use Rattle.sync_model.proofs.Cases.{ran}
use Rattle.mirror_core.specs.declared.drafts.Drafted.{Drafted}
use Rattle.mirror_core.specs.declared.drafts.Drafted.TheVariants.{Draft}
use Rattle.mirror_core.specs.Drafts.{is_current, committed_to, IfDraft}
use Rattle.sync_model.proofs.Answered.{step_ran}
use Rattle.mirror_core.specs.Kept.{Room, IsKept}
use Rattle.mirror_core.proofs.PlanLaws.{greatest-short, ticks-few}
use Rattle.mirror_core.proofs.Clocks.{drained-last}
use Rattle.mirror_core.proofs.Kept.{some-copies, before-end}

-- one command more has its name there, and the others as before
pub has-push :
    (names : List (ℕ × ℕ)) (xs : List Command) (x : Command)
    → ((from number : ℕ) → has_name names from number ≡ has_command xs from number)
    → (from number : ℕ)
    → has_name (names ++ (x.from, x.number) ∷ []) from number
    ≡ has_command (xs ++ x ∷ []) from number
has-push names xs x same from number =
    list_any-append (same_pair (from, number)) names ((x.from, x.number) ∷ [])
    ∙ ap (λ (b : Bool). b || (is_named from number x || false)) (same from number)
    ∙ sym (list_any-append (is_named from number) xs (x ∷ []))

le-false : (limit clock : ℕ) → clock < limit → leb limit clock ≡ false
le-false limit clock below = grind (arith, nat_tests)

module _ {W : Type 0} {s : MirrorState W} {plans : List Schedule} {is_taken : ℕ → ℕ → Bool}
    {repairs_now : ℕ} {numbers : List ℕ} {room : Room}
    (h : IsKept s plans is_taken repairs_now numbers room) where
  -- a tick
  pub clock-fits : s.clock ≤ 9216
  clock-fits =
      let upto = h.consistent.staggered.in_bounds.before_end in
      let few = ticks-few s.plans s.length (length s.runs) h.consistent.well_formed.plans in
      let short = greatest-short s.plans s.length h.consistent.well_formed.plans.schedules in
      omega arith

  pub note-moved : is_over s ≡ false → length s.history < room.history
  note-moved more =
      let before = before-end h more in
      let most = greatest-most s.plans s.plan in
      let left = h.room_left.to_note in
      omega arith

  -- an arrival
  pub late-at :
      (x : Command) (bound : ℕ) → bound ≡ last_clock s.runs → x.time < bound → is_late s x ≡ true
  late-at x bound is late = lt-ltb x.time (last_clock s.runs) (omega arith)

  pub on-time :
      (x : Command) (bound : ℕ) → bound ≡ last_clock s.runs → bound ≤ x.time → is_late s x ≡ false
  on-time x bound is due = le-ltb x.time (last_clock s.runs) (omega arith)

  -- no more repairs than fit
  pub repairs-fit : (n : ℕ) → n ≤ 8 → repairs_now + n < 2 ^ 64
  repairs-fit n few =
      let upto = h.few_repairs in
      let left = h.room_left.to_note in
      let short = h.room_left.short_history in
      omega arith

  -- a ready tick of its copy's present epoch is the copy's due tick, which the copy may run
  pub due-now :
      (rules : Rules W) (r : ReadyTick W) (copy held now : ℕ) → FitsReady rules s r → copy ≡ r.copy
      → held ≡ r.epoch → now ≡ get_or numbers copy 0 → held ≡ now
      → (r.epoch ≡ epoch s r.copy) × IsDueTick rules s r
  due-now rules r copy held now fits own had kept same =
      let there = fits.there in
      let many = h.epochs.as_many in
      let is = h.epochs.each copy (omega arith) in
      let current : r.epoch ≡ epoch s r.copy = sym had ∙ same ∙ kept ∙ is ∙ ap (epoch s) own in
      (current, fits.due current)

  pub commit-runs :
      (rules : Rules W) (r : ReadyTick W) (copy held now : ℕ) → FitsReady rules s r → copy ≡ r.copy
      → held ≡ r.epoch → now ≡ get_or numbers copy 0 → held ≡ now
      → is_idle s copy ≡ false
  commit-runs rules r copy held now fits own had kept same =
      let due = (due-now rules r copy held now fits own had kept same).1 in
      let below = due.below_limit in
      ap (is_idle s) own ∙ le-false (step_limit s r.copy) (copy_clock s.runs r.copy) below

  pub committed-ran :
      (rules : Rules W) (r : ReadyTick W) (copy held now : ℕ) → FitsReady rules s r → copy ≡ r.copy
      → held ≡ r.epoch → now ≡ get_or numbers copy 0 → held ≡ now
      → ran s copy ≡ committed_to s r
  committed-ran rules r copy held now fits own had kept same =
      let current : is_current s r ≡ true =
      eq-eqb r.epoch (epoch s r.copy)
      (due-now rules r copy held now fits own had kept same).0 in
      let more = commit-runs rules r copy held now fits own had kept same in
      sym (step_ran s copy more).0 ∙ ap (λ (c : ℕ). next s (Step c)) own
      ∙ sym (ap (λ (b : Bool). cond b (next s (Step r.copy)) s) current)

  -- a draft of these parts fits, once it is run
  pub drafted-is :
      (rules : Rules W) (d : DraftTick W) (copy clock number : ℕ) (world : W)
      (commands : List Command) → copy < length s.runs → is_idle s copy ≡ false
      → d
      ≡ record { copy = copy; epoch = number; clock = clock; world = world; commands = commands }
      → clock ≡ copy_clock s.runs copy → number ≡ get_or numbers copy 0
      → world ≡ world_of rules s.opening (run_of s copy) → commands ≡ due_at s.accepted clock
      → FitsReady rules s (ready_of rules d)
  drafted-is rules d copy clock number world commands there more made at kept of_run due =
      let many = h.epochs.as_many in
      let is = kept ∙ h.epochs.each copy (omega arith) in
      let whole : d ≡ draft_of rules s copy =
      made
      ∙ (λ i. record {
        copy = copy;
        epoch = is i;
        clock = at i;
        world = of_run i;
        commands = (due ∙ ap (due_at s.accepted) at) i;
      }) in
      subst (λ (e : DraftTick W). FitsReady rules s (ready_of rules e)) (sym whole)
      (draft_fits rules s copy there more)

  -- and so does what was put in the place of an answer
  pub put-fits :
      (rules : Rules W) (put : Drafted W) (copy clock number : ℕ) → copy < length s.runs
      → is_idle s copy ≡ false
      → put
      ≡ Draft (record {
        copy = copy;
        epoch = number;
        clock = clock;
        world = world_of rules s.opening (run_of s copy);
        commands = due_at s.accepted clock;
      })
      → clock ≡ copy_clock s.runs copy → number ≡ get_or numbers copy 0
      → IfDraft put (λ d. FitsReady rules s (ready_of rules d))
  put-fits rules put copy clock number there more made at kept =
      let world : W = world_of rules s.opening (run_of s copy) in
      let commands : List Command = due_at s.accepted clock in
      let d : DraftTick W = record {
        copy = copy;
        epoch = number;
        clock = clock;
        world = world;
        commands = commands;
      } in
      subst (λ (x : Drafted W). IfDraft x (λ t. FitsReady rules s (ready_of rules t))) (sym made)
      (drafted-is rules d copy clock number world commands there more refl at kept refl refl)

  pub drained-is : eqb (last_clock s.runs) s.length ≡ is_drained s
  unfolding last_of
  drained-is =
      by-runs s.runs (some-copies h).0 h.consistent.staggered.trailing.chained
      h.consistent.staggered.in_bounds.within_match
    where
      by-runs :
          (runs : List (List Item)) → 0 < length runs → IsChained runs
          → AllByRecursion (λ run. beats run ≤ s.length) runs
          → eqb (last_clock runs) s.length ≡ list_all (λ run. eqb (beats run) s.length) runs
      by-runs [] some chained within = absurd (omega arith)
      by-runs (run ∷ runs) some chained within = drained-last s.length run runs chained within
