-- Where a mirror of the match stands once it is drained.
use Rattle.std.proofs.Common.{◌≡◌, ℕ, true, [], ◌∷◌, length, sym, ap, subst, ◌∙◌, lit<, arith}
use Rattle.game_trait.specs.Game.{Rules}
use Rattle.game_trait.specs.Run.{world_of}
use Rattle.game_trait.specs.Ordered.{ordered, time_ordered}
use Rattle.game_trait.proofs.KeyOrder.{all-weaker}
use Rattle.game_trait.proofs.OrderedParts.{ticks-same}
use Rattle.sync_model.specs.Schedule.{DelaysRise}
use Rattle.sync_model.specs.State.{MirrorState, delays_of, opening_state}
use Rattle.sync_model.specs.Change.{after}
use Rattle.sync_model.specs.Turns.{drain}
use Rattle.sync_model.proofs.Drain.{draining_ends, draining_delivers_nothing, drain-ordered, drain-fixed}
use Rattle.sync_model.proofs.Cases.{after-fixed}
use Rattle.match_maker.proofs.Lists.{length_each}
use Rattle.match_maker.specs.Generator.{command_at}
use Rattle.match_maker.proofs.Sound.{NamesDiffer-made}
use Rattle.soak.specs.Soak.{fed_until, events_until, all_commands, IsSoaked}
use Rattle.soak.proofs.Arriving.{times-fed, NamesDiffer-fed}
use Rattle.soak.proofs.Feeding.{the_delays, IsFed, IsFed-script}
use Rattle.game_trait.proofs.Counts.{times-all}

rising : DelaysRise the_delays
unfolding DelaysRise
rising = ((lit< tt, (lit< tt, (lit< tt, (lit< tt, tt)))), ((lit< tt, (lit< tt, (lit< tt, tt))), ((lit< tt, (lit< tt, tt)), ((lit< tt, tt), (tt, tt)))))

-- each command was accepted
length-fed : (seed mirror : ℕ) → length (fed_until seed mirror 544) ≡ 4096
length-fed seed mirror =
    sym (times-all (fed_until seed mirror 544))
    ∙ (sym (times-fed (λ x. true) seed mirror) ∙ (times-all (all_commands seed) ∙ length_each (command_at seed) 4096))

-- the order in which they came decides nothing
ordered-fed : (seed mirror : ℕ) → ordered (fed_until seed mirror 544) 0 512 ≡ ordered (all_commands seed) 0 512
ordered-fed seed mirror =
    sym (ticks-same (all_commands seed) (fed_until seed mirror 544) 0 512 (NamesDiffer-made seed 4096)
    (NamesDiffer-fed seed mirror 544 (omega arith)) (λ p. times-fed p seed mirror))

-- a mirror that was fed, drained
fed-soaked : {W : Type 0} (rules : Rules W) (opening : W) (seed mirror : ℕ) (s : MirrorState W)
    → s.opening ≡ opening → IsFed s 544 (fed_until seed mirror 544) → IsSoaked rules opening seed (drain s)
fed-soaked rules opening seed mirror s o h =
    let rise : DelaysRise (delays_of s) = subst DelaysRise (sym h.delays) rising in
    let same = draining_delivers_nothing s in
    record {
      opened = (drain-fixed s).opening ∙ o;
      accepted = ap length (same.accepted ∙ h.accepted) ∙ length-fed seed mirror;
      turned = same.turned ∙ h.turned;
      drained = draining_ends s rise h.staggered;
      worlds = all-weaker (λ run. run ≡ ordered s.accepted 0 s.length)
          (λ run. world_of rules opening run ≡ time_ordered rules opening (all_commands seed) 512) (drain s).runs
          (λ run e. ap (world_of rules opening)
          (e ∙ ((λ i. ordered (h.accepted i) 0 (h.ticks i)) ∙ ordered-fed seed mirror)))
          (drain-ordered s rise h.staggered);
    }

pub soaked : {W : Type 0} (rules : Rules W) (opening : W) (seed mirror spare plan_spare : ℕ)
    → IsSoaked rules opening seed (drain (after (opening_state opening 512 (the_delays ∷ []) spare plan_spare) (events_until seed mirror 544)))
soaked rules opening seed mirror spare plan_spare =
    fed-soaked rules opening seed mirror _ (after-fixed (events_until seed mirror 544)
    (opening_state opening 512 (the_delays ∷ []) spare plan_spare)).opening
    (IsFed-script opening seed mirror spare plan_spare)
