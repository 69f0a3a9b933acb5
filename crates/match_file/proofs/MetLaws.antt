-- Where good lines alone lead.
use Rattle.std.proofs.Common.{◌≡◌, ℕ, false, List, [], ◌∷◌, ◌++◌, Result, Ok, refl, subst}
use Rattle.tss_io.specs.declared.cause.Cause.{Cause}
use Rattle.tss_io.specs.Kinds.{is_long}
use Rattle.tss_io.specs.Lines.{Lines}
use Rattle.tss_io.specs.Machines.{Machine}
use Rattle.tss_io.specs.Runs.{Follows, line_step}
use Rattle.tss_io.proofs.FormLaws.{through}
use Rattle.tss_io.proofs.MachineLaws.{line_is_short}
use Rattle.tss_io.proofs.RunLaws.{follows_more}
use Rattle.match_file.specs.Around.{IsMet}

-- no line is none that isn't good
pub met_start : {S : Type 0} (m : Machine S) (start : S) → IsMet m start start
unfolding Follows
met_start m start = ([], refl)

met_more : {S : Type 0} (m : Machine S) (start s t : S) (l : List ℕ) → IsMet m start s → m.is_last s ≡ false → is_long l ≡ false → m.take s l ≡ Ok t → IsMet m start t
unfolding Follows
met_more m start s t l met going short e = (met.0 ++ l ∷ [], follows_more m.take m.is_last start met.0 s (l ∷ []) t met.1 (going, short, t, e, refl))

same_step : {S : Type 0} (x y : S × Lines) → ◌≡◌ {A = Result (S × Lines) Cause} (Ok x) (Ok y) → x ≡ y
same_step x y e = cc

-- one more
pub met_on : {S : Type 0} (m : Machine S) (start s t : S) (lines rest : Lines) → IsMet m start s → m.is_last s ≡ false → line_step m.take s lines ≡ Ok (t, rest) → IsMet m start t
unfolding line_step
met_on {S = S} m start s t lines rest met going e = through _ _ _ e (λ (l : List ℕ × Lines) l_is e. through _ _ _ e (λ u u_is e.
    subst (λ (p : S × Lines). IsMet m start p.0) (same_step (u, l.1) (t, rest) e) (met_more m start s u l.0 met going (line_is_short lines l l_is) u_is)))
