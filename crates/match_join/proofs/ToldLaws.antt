-- What is told of a match of which a mirror is joined: some answer is right, and one alone.
use Rattle.std.proofs.Common.{◌≡◌, ℕ, ◌<◌, Bool, true, false, List, refl, sym, ap, ◌∙◌, arith}
use Rattle.std.specs.Prelude.{nat_eq}
use Rattle.std.specs.Bool.{one_answer}
use Rattle.std.proofs.lemmas.Bool.Decides.{nat_tests}
use Rattle.sync_model.specs.State.{last_clock}
use Rattle.arena_rules.specs.World.{World, opening_world, arena_rules}
use Rattle.arena_rules.specs.Block.{block_of}
use Rattle.match_data.specs.Data.{MatchData, IsMatch}
use Rattle.report_text.specs.Worlds.{Showing}
use Rattle.match_join.specs.declared.answer.JoinAnswer.{JoinAnswer}
use Rattle.match_join.specs.declared.answer.JoinAnswer.TheVariants.{Told, TooLate}
use Rattle.match_join.specs.Join.{mirror_before, mirror_end, joiner_end, mirror_world, joiner_world, join_text, too_late_text, IsTold}
use Rattle.match_join.proofs.Snapshots.{snapshot-stands}
use Rattle.match_join.proofs.SameWorlds.{same_world, worlds}

-- ---- one answer

pub one_told :
    {W : Type 0} (show : Showing W) (opening : W) (m : MatchData) (number k : ℕ) (x y : JoinAnswer) → IsTold show opening m number k x → IsTold show opening m number k y → x ≡ y
one_told show opening m number k (Told a) (Told b) is its =
    let same = one_answer is.same its.same is.decided its.decided in
    ap (λ (t : List ℕ). Told t) (is.lines ∙ ap (λ (s : Bool). join_text show opening m number k s) same ∙ sym its.lines)
one_told show opening m number k (Told a) (TooLate b) is its = absurd (omega (arith, is.left, its.0))
one_told show opening m number k (TooLate a) (Told b) is its = absurd (omega (arith, its.left, is.0))
one_told show opening m number k (TooLate a) (TooLate b) is its = ap (λ (t : List ℕ). TooLate t) (is.1 ∙ sym its.1)

-- ---- some answer

-- a world of the arena is shown by its lines
abbrev shown : MatchData → Showing World
shown m = record { rules = arena_rules; lines = block_of; names = m.names }

pub some_told : (m : MatchData) → IsMatch m → (number k : ℕ) → (x : JoinAnswer) × IsTold (shown m) (opening_world m.layout) m number k x
some_told m sound number k = by (nat_eq clock m.length) refl
  where
    clock : ℕ
    clock = last_clock (mirror_before (opening_world m.layout) m number k).runs

    by : (late : Bool) → nat_eq clock m.length ≡ late → (x : JoinAnswer) × IsTold (shown m) (opening_world m.layout) m number k x
    by true is = (TooLate (too_late_text m.length m.length), (grind (arith, nat_tests), refl))
    by false is =
        let one = mirror_world arena_rules (mirror_end (opening_world m.layout) m number k) in
        let other = joiner_world arena_rules (joiner_end arena_rules (opening_world m.layout) m number k) in
        let same = same_world one other in
        let left : clock < m.length = (let most = (snapshot-stands arena_rules (opening_world m.layout) m number k sound).clock in grind (arith, nat_tests)) in
        (Told (join_text (shown m) (opening_world m.layout) m number k same), record { left = left; same = same; decided = worlds one other; lines = refl })
