-- Each kind of line is exact: what is read by it is written so, and what it writes is read.
use Rattle.std.proofs.Common.{◌≡◌, ℕ, ◌+◌, ◌-◌, ◌*◌, ◌^◌, ◌<◌, ◌≤◌, true, List, [], ◌∷◌, length, refl, arith, lit<, lit≤}
use Rattle.std.specs.Prelude.{codes, decimal, nat_le}
use Rattle.std.specs.List.{list_all}
use Rattle.std.proofs.lemmas.Bool.{leb-true, and_parts}
use Rattle.std.proofs.lemmas.List.{length-map}
use Rattle.game_trait.specs.declared.limits.TheConstants.{LONGEST_MATCH, NARROWEST_GRID, WIDEST_GRID, TALLEST_GRID, MOST_MIRRORS, MOST_COPIES, LONGEST_DELAY}
use Rattle.match_setup.specs.declared.face.Face.{Face}
use Rattle.match_setup.specs.declared.face.Face.TheVariants.{N, E, S, W}
use Rattle.match_setup.specs.declared.pickup.Kind.{Kind}
use Rattle.match_setup.specs.declared.pickup.Kind.TheVariants.{Ammo, Heal, Gold}
use Rattle.command_lines.proofs.CommandLaws.{command_form_exact, last_small}
use Rattle.tss_io.specs.Forms.{is_word, InRange, AreNumbers, number}
use Rattle.tss_io.proofs.FormLaws.{Chosen, ExactField, number_exact, choice_exact, any_word_exact, only_exact, then_exact, made_exact, numbers_exact, numbers_of_exact}
use Rattle.tss_io.proofs.KindLaws.{ExactKind}
use Rattle.match_file.specs.declared.opening.Opening.{Opening}
use Rattle.match_data.specs.Names.{is_letter, is_name_byte, is_name}
use Rattle.match_file.specs.Kinds.{greatest, number_kind, length_kind, grid_kind, mirrors_kind, delays_kind, pace_kind, plan_kind, wall_kind, pickup_kind}
use Rattle.match_file.specs.Kinds.{player_kind, command_kind, tick_kind, turn_kind, arrive_kind, step_kind, world_kind, run_kind, restagger_kind}
use Rattle.match_file.specs.Sections.{PlanFits, WallFits, PickupFits, PlayerFits, OrderFits, MirrorFits, CopyFits, ArriveFits, NextPlanFits}
use Rattle.match_setup.specs.Words.{face_word, kind_word}

-- an opening whose numbers are small enough for its lines
pub record IsSmall (o : Opening) : Type 0 where
  pub ticks : o.length ≤ LONGEST_MATCH
  pub mirrors : o.mirrors ≤ MOST_MIRRORS
  pub copies : length o.delays ≤ MOST_COPIES

-- ---- the opening

pub number_kind_exact : (keyword : List ℕ) (least most digits : ℕ) → is_word keyword ≡ true → length keyword ≤ 20
    → 0 < digits → digits ≤ 10 → most < 10 ^ digits → most < 2 ^ 64
    → ExactKind (number_kind keyword least most) (λ _. InRange least most)
number_kind_exact keyword least most digits word short some few small fits = record {
  keyword = word;
  longest = λ _. 1 + digits;
  form = λ _. only_exact (number_exact least most digits some small fits);
  short = λ _ _ _. omega arith;
}

pub length_exact : ExactKind length_kind (λ _. InRange 1 LONGEST_MATCH)
unfolding is_word
length_exact = number_kind_exact (codes "length") 1 8192 4 refl (lit≤ tt) (lit< tt) (lit≤ tt) (lit< tt) (lit< tt)

pub mirrors_exact : ExactKind mirrors_kind (λ _. InRange 1 MOST_MIRRORS)
unfolding is_word
mirrors_exact = number_kind_exact (codes "mirrors") 1 8 1 refl (lit≤ tt) (lit< tt) (lit≤ tt) (lit< tt) (lit< tt)

pub grid_exact : ExactKind grid_kind (λ _ sides. InRange NARROWEST_GRID WIDEST_GRID sides.0 × InRange 1 TALLEST_GRID sides.1)
unfolding is_word
grid_exact = record {
  keyword = refl;
  longest = λ _. 6;
  form = λ _. then_exact (number_exact 3 64 2 (lit< tt) (lit< tt) (lit< tt)) (only_exact (number_exact 1 64 2 (lit< tt) (lit< tt) (lit< tt)));
  short = λ _ _ _. lit≤ tt;
}

pub delays_exact : ExactKind delays_kind (λ _. AreNumbers 0 LONGEST_DELAY)
unfolding is_word
delays_exact = record {
  keyword = refl;
  longest = λ ns. 11 * length ns;
  form = λ _. numbers_exact 0 1024 (lit< tt);
  short = λ _ ns h. let few = leb-true _ _ h.room in omega (arith, length-map ns decimal);
}

pub pace_exact : (delays : List ℕ) → ExactKind (pace_kind delays) (λ _. InRange 0 LONGEST_DELAY)
unfolding is_word
pace_exact delays = record {
  keyword = refl;
  longest = λ _. 5;
  form = λ _. only_exact (number_exact 0 1024 4 (lit< tt) (lit< tt) (lit< tt));
  short = λ _ _ _. lit≤ tt;
}

-- ---- the body

pub coordinate_exact : ExactField (number 0 greatest) (InRange 0 greatest) (λ _. 10)
coordinate_exact = number_exact 0 greatest 10 (lit< tt) (lit< tt) (lit< tt)

pub plan_exact : (o : Opening) → IsSmall o → ExactKind (plan_kind o) (PlanFits o)
unfolding is_word
plan_exact o small = record {
  keyword = refl;
  longest = λ ns. 11 * length ns;
  form = λ _. numbers_of_exact (length o.delays) 0 1024 (lit< tt);
  short = λ _ ns h. let wide = h.fits.1 in let few = small.copies in omega arith;
}

unfoldable pub wall_exact : (o : Opening) → ExactKind (wall_kind o) WallFits
unfolding is_word
wall_exact o = record {
  keyword = refl;
  longest = λ _. 22;
  form = λ _. made_exact _ _ (λ _. refl) (λ _. refl) (then_exact coordinate_exact (only_exact coordinate_exact));
  short = λ _ _ _. lit≤ tt;
}

pub kinds_told : (k : Kind) → Unit {0} → Chosen kind_word (Ammo ∷ Heal ∷ Gold ∷ []) k
unfolding is_word
kinds_told Ammo h = (refl, refl)
kinds_told Heal h = (refl, refl)
kinds_told Gold h = (refl, refl)

pub kinds_short : (k : Kind) → length (kind_word k) ≤ 4
kinds_short Ammo = lit≤ tt
kinds_short Heal = lit≤ tt
kinds_short Gold = lit≤ tt

unfoldable pub pickup_exact : (o : Opening) → ExactKind (pickup_kind o) PickupFits
unfolding is_word
pickup_exact o = record {
  keyword = refl;
  longest = λ _. 27;
  form = λ _. made_exact _ _ (λ _. refl) (λ _. refl)
      (then_exact coordinate_exact (then_exact coordinate_exact
      (only_exact (choice_exact kind_word (Ammo ∷ Heal ∷ Gold ∷ []) 4 (tt, (tt, (tt, tt))) kinds_told kinds_short))));
  short = λ _ _ _. lit≤ tt;
}

pub faces_told : (f : Face) → Unit {0} → Chosen face_word (N ∷ E ∷ S ∷ W ∷ []) f
unfolding is_word
faces_told N h = (refl, refl)
faces_told E h = (refl, refl)
faces_told S h = (refl, refl)
faces_told W h = (refl, refl)

pub faces_short : (f : Face) → length (face_word f) ≤ 1
faces_short N = lit≤ tt
faces_short E = lit≤ tt
faces_short S = lit≤ tt
faces_short W = lit≤ tt

pub short_name : (name : List ℕ) → is_name name ≡ true → length name ≤ 12
unfolding is_name
short_name [] h = absurd cc
short_name (b ∷ bytes) h = let more : length bytes ≤ 11 = leb-true _ _ (and_parts (nat_le (length bytes) 11) (list_all is_name_byte bytes) (and_parts (is_letter b) _ h).1).0 in omega arith

unfoldable pub player_exact : (o : Opening) → ExactKind (player_kind o) PlayerFits
unfolding is_word
player_exact o = record {
  keyword = refl;
  longest = λ p. 1 + (length p.name + (1 + (10 + (1 + (10 + (1 + 1))))));
  form = λ _. made_exact _ _ (λ _. refl) (λ _. refl)
      (then_exact any_word_exact (then_exact coordinate_exact
      (then_exact coordinate_exact (only_exact (choice_exact face_word (N ∷ E ∷ S ∷ W ∷ []) 1
      (tt, (tt, (tt, (tt, tt)))) faces_told faces_short)))));
  short = λ _ p h. let twelve = short_name p.name h.tests.0 in omega arith;
}

unfoldable pub command_exact : (o : Opening) → IsSmall o → ExactKind (command_kind o) (OrderFits o)
unfolding is_word
command_exact o small = record {
  keyword = refl;
  longest = λ _. 23;
  form = λ _. let ticks = small.ticks in let mirrors = small.mirrors in command_form_exact o.version _ (omega arith) (omega arith) (last_small o.version);
  short = λ _ _ _. lit≤ tt;
}

-- ---- the script

pub mirror_exact : (o : Opening) → IsSmall o → ExactField (number 0 (o.mirrors - 1)) (InRange 0 (o.mirrors - 1)) (λ _. 1)
mirror_exact o small = let few = small.mirrors in number_exact 0 (o.mirrors - 1) 1 (lit< tt) (omega arith) (omega arith)

pub copy_exact : (o : Opening) → IsSmall o → ExactField (number 0 (length o.delays - 1)) (InRange 0 (length o.delays - 1)) (λ _. 1)
copy_exact o small = let few = small.copies in number_exact 0 (length o.delays - 1) 1 (lit< tt) (omega arith) (omega arith)

unfoldable pub tick_exact : (o : Opening) → IsSmall o → ExactKind (tick_kind o) (MirrorFits o)
unfolding is_word
tick_exact o small = record { keyword = refl; longest = λ _. 2; form = λ _. only_exact (mirror_exact o small); short = λ _ _ _. lit≤ tt }

unfoldable pub turn_exact : (o : Opening) → IsSmall o → ExactKind (turn_kind o) (MirrorFits o)
unfolding is_word
turn_exact o small = record { keyword = refl; longest = λ _. 2; form = λ _. only_exact (mirror_exact o small); short = λ _ _ _. lit≤ tt }

unfoldable pub step_exact : (o : Opening) → IsSmall o → ExactKind (step_kind o) (CopyFits o)
unfolding is_word
step_exact o small = record { keyword = refl; longest = λ _. 4; form = λ _. then_exact (mirror_exact o small) (only_exact (copy_exact o small)); short = λ _ _ _. lit≤ tt }

unfoldable pub world_exact : (o : Opening) → IsSmall o → ExactKind (world_kind o) (CopyFits o)
unfolding is_word
world_exact o small = record { keyword = refl; longest = λ _. 4; form = λ _. then_exact (mirror_exact o small) (only_exact (copy_exact o small)); short = λ _ _ _. lit≤ tt }

unfoldable pub run_exact : (o : Opening) → IsSmall o → ExactKind (run_kind o) (CopyFits o)
unfolding is_word
run_exact o small = record { keyword = refl; longest = λ _. 4; form = λ _. then_exact (mirror_exact o small) (only_exact (copy_exact o small)); short = λ _ _ _. lit≤ tt }

unfoldable pub arrive_exact : (o : Opening) → IsSmall o → ExactKind (arrive_kind o) (ArriveFits o)
unfolding is_word
arrive_exact o small = record {
  keyword = refl;
  longest = λ _. 11;
  form = λ _. then_exact (mirror_exact o small) (then_exact (mirror_exact o small) (only_exact (number_exact 0 999999 6 (lit< tt) (lit< tt) (lit< tt))));
  short = λ _ _ _. lit≤ tt;
}

unfoldable pub restagger_exact : (o : Opening) → IsSmall o → ExactKind (restagger_kind o) (NextPlanFits o)
unfolding is_word
restagger_exact o small = record {
  keyword = refl;
  longest = λ _. 4;
  form = λ _. then_exact (mirror_exact o small) (only_exact (number_exact 0 7 1 (lit< tt) (lit< tt) (lit< tt)));
  short = λ _ _ _. lit≤ tt;
}
