use Rattle.std.proofs.Common.{◌≡◌, ◌<◌, ◌+◌, ◌⊎◌, inl, inr, ℕ, List, [], ◌∷◌, ◌++◌, arith}
use Rattle.std.specs.Prelude.{flat_map}
use Rattle.game_trait.specs.Count.{times}
use Rattle.game_trait.proofs.Counts.{times-append}
use Rattle.copy_workers.specs.Copied.{CopyTurn, RunsOn, asked_of, is_ran, runs_in}
use Rattle.copy_workers.proofs.laws.a_copy_worker_ends_where_it_is_done.Goals as goal

early : (ran length turns budget : ℕ) → (ran ≡ length) ⊎ (turns ≡ budget) → turns < budget → ran < length → ⊥
early ran length turns budget (inl all) few going = omega arith
early ran length turns budget (inr spent) few going = omega arith

late : (c length count : ℕ) (front rest : List CopyTurn) (turn : CopyTurn) → RunsOn c length count (front ++ turn ∷ rest) → count + runs_in (flat_map (asked_of c) front) < length
unfolding RunsOn times
late c length count [] rest turn runs = let below = runs.0 in omega arith
late c length count (t ∷ front) rest turn runs =
    omega (arith, late c length (count + runs_in (asked_of c t)) front rest turn runs.1, times-append (λ p. is_ran p.reply) (asked_of c t) (flat_map (asked_of c) front))

pub returns : goal.returns
returns c = record {
  early = λ job end calls calls_now asked asked_now trail trail_now h few going. early end.ran job.length end.turns job.budget h.ends few going;
  late = λ job end calls calls_now asked asked_now trail trail_now h front rest turn whole. omega (arith, late job.copy job.length 0 front rest turn (rw whole at h.works.going));
  often = λ job end calls calls_now asked asked_now trail trail_now h. h.works.often;
  within = λ job end calls calls_now asked asked_now trail trail_now h. (h.works.count, h.works.within, h.works.marks, h.works.asks, h.works.ran);
  most = λ job end calls calls_now asked asked_now trail trail_now h. h.works.most;
}
