-- The lines up to the pace, both ways.
use Rattle.std.proofs.Common.{◌≡◌, ◌⊎◌, inl, inr, ℕ, ◌+◌, ◌≤◌, false, List, length, Result, Ok, refl, ap, subst, ◌∙◌, arith}
use Rattle.std.specs.Prelude.{bytes_eq, codes}
use Rattle.tss_io.specs.declared.cause.Cause.{Cause}
use Rattle.tss_io.specs.Lines.{Lines, line}
use Rattle.game_trait.specs.declared.limits.TheConstants.{LONGEST_DELAY, MOST_COPIES}
use Rattle.tss_io.specs.Forms.{AreNumbers}
use Rattle.tss_io.specs.Kinds.{Sound, is_long}
use Rattle.tss_io.specs.Runs.{at, ahead}
use Rattle.tss_io.proofs.Results.{then, ok_is}
use Rattle.tss_io.proofs.FormLaws.{through, same_words}
use Rattle.tss_io.proofs.KindLaws.{line_text, line_takes, line_again, once_takes, once_again}
use Rattle.tss_io.proofs.RunLaws.{either, at_takes}
use Rattle.match_file.specs.declared.opening.Opening.{Opening}
use Rattle.match_file.specs.Kinds.{length_kind, grid_kind, mirrors_kind, delays_kind, pace_kind}
use Rattle.match_file.specs.Reading.{head_version, head_at, opening_at}
use Rattle.match_file.specs.Sections.{IsOpening, front_lines}
use Rattle.match_file.specs.Text.{head_line}
use Rattle.match_file.proofs.ExactKinds.{IsSmall, length_exact, grid_exact, mirrors_exact, delays_exact, pace_exact}
use Rattle.std.proofs.lemmas.Bool.{leb-true}
use Rattle.std.proofs.lemmas.List.{length-map}
use Rattle.std.specs.Prelude.{decimal}

same_pair : (x y : ℕ × Lines) → ◌≡◌ {A = Result (ℕ × Lines) Cause} (Ok x) (Ok y) → x ≡ y
same_pair x y e = cc

-- what the first line says
pub version_takes : (l : List ℕ) (version : ℕ) → head_version l ≡ Ok version → (l ≡ head_line version) × ((version ≡ 1) ⊎ (version ≡ 2))
version_takes l version e =
    either (bytes_eq l (codes "tss match 1")) _ _ _
    (λ same e. let v : 1 ≡ version = ok_is 1 version e in rw (← v) (same_words l (codes "tss match 1") same, inl refl))
    (λ _ e. either (bytes_eq l (codes "tss match 2")) _ _ _
    (λ same e. let v : 2 ≡ version = ok_is 2 version e in rw (← v) (same_words l (codes "tss match 2") same, inr refl))
    (λ _ e. absurd cc) e) e

pub version_again : (version : ℕ) → (version ≡ 1) ⊎ (version ≡ 2) → head_version (head_line version) ≡ Ok version
version_again version (inl e) = rw e refl
version_again version (inr e) = rw e refl

head_takes : (lines : Lines) (x : ℕ × Lines) → head_at lines ≡ Ok x → (lines ≡ line (head_line x.0) x.1) × ((x.0 ≡ 1) ⊎ (x.0 ≡ 2))
unfolding head_at
head_takes lines x e = through _ _ _ e (λ l l_is e. through _ _ _ e (λ version version_is e.
    let t = version_takes l.0 version version_is in
    let same : ◌≡◌ {A = ℕ × Lines} (version, l.1) x = same_pair (version, l.1) x e in
    subst (λ (p : ℕ × Lines). (lines ≡ line (head_line p.0) p.1) × ((p.0 ≡ 1) ⊎ (p.0 ≡ 2))) same
    (line_takes lines l l_is ∙ ap (λ (w : List ℕ). line w l.1) t.0, t.1)))

pub head_short : (version : ℕ) → (version ≡ 1) ⊎ (version ≡ 2) → is_long (head_line version) ≡ false
head_short version (inl e) = rw e refl
head_short version (inr e) = rw e refl

head_again : (version : ℕ) (rest : Lines) → (version ≡ 1) ⊎ (version ≡ 2) → head_at (line (head_line version) rest) ≡ Ok (version, rest)
unfolding head_at
head_again version rest which = then _ _ _ _ (line_again (head_line version) rest (head_short version which)) (then _ _ _ _ (version_again version which) refl)

at_again : {S : Type 0} (n : ℕ) (r : Result S Cause) (s : S) → r ≡ Ok s → at n r ≡ Ok s
at_again n r s e = rw e refl

pub opening_takes : (n : ℕ) (lines : Lines) (x : Opening × Lines) → opening_at n lines ≡ Ok x → (lines ≡ ahead (front_lines x.0) x.1) × IsOpening x.0
unfolding opening_at ahead
opening_takes n lines x e =
    through _ _ _ e (λ r0 r0_is e. through _ _ _ e (λ r1 r1_is e. through _ _ _ e (λ r2 r2_is e. through _ _ _ e (λ r3 r3_is e. through _ _ _ e (λ r4 r4_is e. through _ _ _ e (λ r5 r5_is e.
    let t0 = head_takes lines r0 (at_takes n _ r0 r0_is) in
    let t1 = once_takes length_exact tt r0.1 r1 (at_takes (n + 1) _ r1 r1_is) in
    let t2 = once_takes grid_exact tt r1.1 r2 (at_takes (n + 2) _ r2 r2_is) in
    let t3 = once_takes mirrors_exact tt r2.1 r3 (at_takes (n + 3) _ r3 r3_is) in
    let t4 = once_takes delays_exact tt r3.1 r4 (at_takes (n + 4) _ r4 r4_is) in
    let t5 = once_takes (pace_exact r4.0) tt r4.1 r5 (at_takes (n + 5) _ r5 r5_is) in
    let o : Opening = record { version = r0.0; length = r1.0; width = r2.0.0; height = r2.0.1; mirrors = r3.0; delays = r4.0; pace = r5.0 } in
    let same : ◌≡◌ {A = Opening × Lines} (o, r5.1) x = cc in
    let w1 : r0.1 ≡ line (line_text length_kind tt r1.0) r1.1 = rw t1.put t1.whole in
    let w2 : r1.1 ≡ line (line_text grid_kind tt r2.0) r2.1 = rw t2.put t2.whole in
    let w3 : r2.1 ≡ line (line_text mirrors_kind tt r3.0) r3.1 = rw t3.put t3.whole in
    let w4 : r3.1 ≡ line (line_text delays_kind tt r4.0) r4.1 = rw t4.put t4.whole in
    let w5 : r4.1 ≡ line (line_text (pace_kind r4.0) tt r5.0) r5.1 = rw t5.put t5.whole in
    subst (λ (p : Opening × Lines). (lines ≡ ahead (front_lines p.0) p.1) × IsOpening p.0) same (
      t0.0 ∙ rw (w1, w2, w3, w4, w5) refl,
      record {
        version = t0.1;
        length = rw t1.put t1.sound;
        grid = rw t2.put t2.sound;
        mirrors = rw t3.put t3.sound;
        delays = rw t4.put t4.sound;
        pace = rw t5.put t5.sound;
      },
    )))))))

pub opening_again : (n : ℕ) (o : Opening) (rest : Lines) → IsOpening o → opening_at n (ahead (front_lines o) rest) ≡ Ok (o, rest)
unfolding opening_at ahead
opening_again n o rest is =
    then _ _ _ _ (at_again n _ _ (head_again o.version _ is.version))
    (then _ _ _ _ (at_again (n + 1) _ _ (once_again length_exact tt o.length _ is.length))
    (then _ _ _ _ (at_again (n + 2) _ _ (once_again grid_exact tt (o.width, o.height) _ is.grid))
    (then _ _ _ _ (at_again (n + 3) _ _ (once_again mirrors_exact tt o.mirrors _ is.mirrors))
    (then _ _ _ _ (at_again (n + 4) _ _ (once_again delays_exact tt o.delays _ is.delays))
    (then _ _ _ _ (at_again (n + 5) _ _ (once_again (pace_exact o.delays) tt o.pace rest is.pace)) refl)))))

pub few_delays : (delays : List ℕ) → Sound delays_kind (λ _. AreNumbers 0 LONGEST_DELAY) tt delays → length delays ≤ MOST_COPIES
few_delays delays h = let few = leb-true _ _ h.room in omega (arith, length-map delays decimal)

pub opening_small : (o : Opening) → IsOpening o → IsSmall o
opening_small o is = record {
  ticks = is.length.fits.1;
  mirrors = is.mirrors.fits.1;
  copies = few_delays o.delays is.delays;
}
