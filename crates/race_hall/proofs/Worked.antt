-- A race whose workers did nothing: what the argument asks can be met.
use Rattle.std.proofs.Common.{◌≡◌, ℕ, ◌+◌, ◌≤◌, ◌⊎◌, inl, List, [], ◌∷◌, map, length, refl, ap, sym, arith}
use Rattle.std.specs.List.{AllByRecursion}
use Rattle.game_trait.specs.Count.{times}
use Rattle.game_trait.specs.Run.{same_command}
use Rattle.link_ring.specs.declared.message.Message.{Message}
use Rattle.link_ring.specs.declared.message.Message.TheVariants.{Cmd}
use Rattle.std.proofs.Math.ListN.{length-append}
use Rattle.copy_workers.specs.Messages.{messages, commands_in, last_mark}
use Rattle.copy_workers.specs.Fed.{ArriveInTime}
use Rattle.tss_base.specs.Totals.{total}
use Rattle.race_hall.specs.Race.{Course, Raced, others, race_opening}

none-got : (ks : List ℕ) (P : List Message → Type 0) → P [] → AllByRecursion P (map (λ (k : ℕ). []) ks)
none-got [] P h = tt
none-got (k ∷ ks) P h = (h, none-got ks P h)

none-total : (ks : List ℕ) (f : List Message → ℕ) → f [] ≡ 0 → total f (map (λ (k : ℕ). []) ks) ≡ 0
none-total [] f h = refl
none-total (k ∷ ks) f h = omega (arith, h, none-total ks f h)

pub raced-nothing : {W : Type 0} (c : Course) (opening : W) (spare m : ℕ) → Raced c opening spare m (λ k. 0) (λ k. []) (λ k. []) 0 [] (race_opening c opening spare)
unfolding messages commands_in times Rattle.race_hall.specs.Entries.own Rattle.race_hall.specs.Entries.AreAnswersOf Rattle.sync_model.specs.Change.after Rattle.copy_workers.specs.Messages.mark_after
raced-nothing c opening spare m = record {
  sound = tt;
  state = refl;
  workers = λ i differ. tt;
  fed = record {
    least = omega arith;
    most = omega arith;
    arrive = tt;
    feeding = tt;
    fair = λ orderly few. record {
      in_time = none-got (others c.mirrors m) (ArriveInTime [] c.pace)
          (λ front back x e. absurd (let a = ap (λ (l : List Message). length l) e in
          let b = length-append front (Cmd x ∷ back) in omega arith));
      counts = λ x. sym (omega (arith, none-total (others c.mirrors m) (λ g. times (same_command x) (commands_in g)) refl));
      bounds = none-got (others c.mirrors m) (λ got. (0 ≤ last_mark got + c.pace) ⊎ (last_mark got ≡ c.length)) (inl (omega arith));
    };
  };
  below = λ k h. omega arith;
  links = λ k h differ. refl;
}
