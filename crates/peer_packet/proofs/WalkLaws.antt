-- Walks over what bytes show.
use Rattle.std.proofs.Common.{◌≡◌, ℕ, zero, suc, ◌+◌, ◌-◌, List, [], ◌∷◌, length, Result, Ok, Err, refl, sym, ap, ◌∙◌, arith}
use Rattle.tss_io.specs.Results.{◌>>=◌}
use Rattle.tss_io.proofs.Results.{bind_ok, then, ok_is}
use Rattle.peer_packet.specs.declared.fault.Fault.{Fault}
use Rattle.peer_packet.specs.declared.part.PartHead.{PartHead}
use Rattle.peer_packet.specs.Packet.{Sent, Part}
use Rattle.peer_packet.specs.Reading.{sent_at, sents_at, head_at, part_at, parts_at, any_part, plain_parts, parts_in, plain_sents, sents_in, AreCommands, behind, in_front, or_none}

-- ---- commands

pub commands_none : (count last : ℕ) (bytes : List ℕ) → count ≡ 0 → sents_in count last bytes ≡ []
unfolding plain_sents sents_at
commands_none zero last bytes none = refl
commands_none (suc k) last bytes none = absurd omega (arith, none)

pub commands_not : (count last : ℕ) (bytes : List ℕ) (f : Fault) → (count ≡ 0 → ⊥) → AreCommands count last bytes → sent_at 255 last bytes ≡ Err f → ⊥
unfolding plain_sents sents_at
commands_not zero last bytes f some are e = some refl
commands_not (suc k) last bytes f some are e =
    let a = bind_ok (sent_at 255 last bytes) (λ c. sents_at 255 k c.0.time c.1 >>= λ more. Ok (c.0 ∷ more.0, more.1)) _ are.1 in
    let both : ◌≡◌ {A = Result (Sent × List ℕ) Fault} (Err f) (Ok a.0) = sym e ∙ a.1 in
    absurd cc

pub commands_on : (count last : ℕ) (bytes : List ℕ) (c : Sent) (after : List ℕ) → (count ≡ 0 → ⊥) → AreCommands count last bytes → sent_at 255 last bytes ≡ Ok (c, after)
    → AreCommands (count - 1) c.time after × (sents_in count last bytes ≡ c ∷ sents_in (count - 1) c.time after)
unfolding plain_sents sents_at
commands_on zero last bytes c after some are e = absurd (some refl)
commands_on (suc k) last bytes c after some are e =
    let one : suc k - 1 ≡ k = omega arith in
    let whole : sents_at 255 (suc k) last bytes ≡ (sents_at 255 k c.time after >>= λ more. Ok (c ∷ more.0, more.1)) = then _ _ _ _ e refl in
    let b = bind_ok (sents_at 255 k c.time after) (λ more. Ok (c ∷ more.0, more.1)) _ (sym whole ∙ are.1) in
    let seen : sents_in k c.time after ≡ b.0.0 = ap in_front b.1 in
    let total : sents_at 255 (suc k) last bytes ≡ Ok (c ∷ b.0.0, b.0.1) = whole ∙ ap (λ (r : Result (List Sent × List ℕ) Fault). r >>= λ more. Ok (c ∷ more.0, more.1)) b.1 in
    let now : sents_in (suc k) last bytes ≡ c ∷ b.0.0 = ap in_front total in
    rw one ((b.0.1, b.1 ∙ ap (λ (x : List Sent). Ok (x, b.0.1)) (sym seen)), now ∙ ap (λ (x : List Sent). c ∷ x) (sym seen))

pub behind_ok : (r : Result (List Sent × List ℕ) Fault) (rest : List ℕ) → behind r ≡ Ok rest → (cs : List Sent) × (r ≡ Ok (cs, rest))
behind_ok (Ok x) rest e = (x.0, ap (λ (y : List ℕ). Ok (x.0, y)) (ok_is x.1 rest e))
behind_ok (Err f) rest e = absurd cc

pub sents_long : (payload count before : ℕ) (bytes : List ℕ) (x : List Sent × List ℕ) → sents_at payload count before bytes ≡ Ok x → length x.0 ≡ count
unfolding sents_at
sents_long payload zero before bytes x e = ap (λ (y : List Sent × List ℕ). length y.0) (sym (ok_is ([], bytes) x e))
sents_long payload (suc count) before bytes x e =
    let a = bind_ok (sent_at payload before bytes) (λ c. sents_at payload count c.0.time c.1 >>= λ more. Ok (c.0 ∷ more.0, more.1)) x e in
    let b = bind_ok (sents_at payload count a.0.0.time a.0.1) (λ more. Ok (a.0.0 ∷ more.0, more.1)) x a.2 in
    ap (λ (y : List Sent × List ℕ). length y.0) (sym (ok_is (a.0.0 ∷ b.0.0, b.0.1) x b.2)) ∙ ap suc (sents_long payload count a.0.0.time a.0.1 b.0 b.1)

pub commands_long : (count last : ℕ) (bytes : List ℕ) → AreCommands count last bytes → length (sents_in count last bytes) ≡ count
unfolding plain_sents
commands_long count last bytes are = sents_long 255 count last bytes _ are.1

-- ---- parts

pub part_headless : (bytes : List ℕ) (f : Fault) → head_at bytes ≡ Err f → part_at (any_part 0) 255 bytes ≡ Err f
unfolding part_at
part_headless bytes f e = rw e refl

-- what a part's view owes: that its commands stand there, and that it is the part
pub part_shown : (bytes commands rest : List ℕ) (h : PartHead) → head_at bytes ≡ Ok (h, commands) → behind (sents_at 255 h.count h.before commands) ≡ Ok rest
    → AreCommands h.count h.before commands × (part_at (any_part 0) 255 bytes ≡ Ok (record { origin = h.origin; first = h.first; before = h.before; commands = sents_in h.count h.before commands }, rest))
unfolding plain_sents part_at
part_shown bytes commands rest h head e =
    let b = behind_ok (sents_at 255 h.count h.before commands) rest e in
    let seen : sents_in h.count h.before commands ≡ b.0 = ap in_front b.1 in
    let whole : part_at (any_part 0) 255 bytes ≡ Ok (record { origin = h.origin; first = h.first; before = h.before; commands = b.0 }, rest) = then _ _ _ _ head (then _ _ _ _ b.1 refl) in (
      (rest, b.1 ∙ ap (λ (x : List Sent). Ok (x, rest)) (sym seen)),
      whole ∙ ap (λ (cs : List Sent). Ok (record { origin = h.origin; first = h.first; before = h.before; commands = cs }, rest)) (sym seen),
    )

pub behind_err : (r : Result (List Sent × List ℕ) Fault) (f : Fault) → behind r ≡ Err f → r ≡ Err f
behind_err (Ok x) f e = absurd cc
behind_err (Err g) f e = cc

pub part_cut : (bytes commands : List ℕ) (h : PartHead) (f : Fault) → head_at bytes ≡ Ok (h, commands) → behind (sents_at 255 h.count h.before commands) ≡ Err f
    → part_at (any_part 0) 255 bytes ≡ Err f
unfolding part_at
part_cut bytes commands h f head e = then _ _ _ _ head (rw (behind_err _ f e) refl)

plain_more : (least other most : ℕ) (bytes : List ℕ) (ps : List Part) → parts_at any_part 255 least most bytes ≡ Ok ps → parts_at any_part 255 other (suc most) bytes ≡ Ok ps
unfolding parts_at
plain_more least other zero [] ps e = e
plain_more least other zero (b ∷ bytes) ps e = absurd cc
plain_more least other (suc most) [] ps e = e
plain_more least other (suc most) (b ∷ bytes) ps e =
    let a = bind_ok (part_at (any_part least) 255 (b ∷ bytes)) (λ part. parts_at any_part 255 (part.0.origin + 1) most part.1 >>= λ more. Ok (part.0 ∷ more)) ps e in
    let c = bind_ok (parts_at any_part 255 (a.0.0.origin + 1) most a.0.1) (λ more. Ok (a.0.0 ∷ more)) ps a.2 in
    then _ _ _ _ a.1 (then _ _ _ _ (plain_more (a.0.0.origin + 1) (a.0.0.origin + 1) most a.0.1 c.0 c.1) c.2)

pub parts_none : (bytes : List ℕ) → length bytes ≡ 0 → parts_in bytes ≡ []
unfolding plain_parts parts_at
parts_none [] none = refl
parts_none (b ∷ bytes) none = absurd omega (arith, none)

pub parts_not : (bytes : List ℕ) (f : Fault) → (length bytes ≡ 0 → ⊥) → plain_parts bytes ≡ Ok (parts_in bytes) → part_at (any_part 0) 255 bytes ≡ Err f → ⊥
unfolding plain_parts parts_at
parts_not [] f some are e = some refl
parts_not (b ∷ bytes) f some are e =
    let a = bind_ok (part_at (any_part 0) 255 (b ∷ bytes)) (λ part. parts_at any_part 255 (part.0.origin + 1) 255 part.1 >>= λ more. Ok (part.0 ∷ more)) _ are in
    let both : ◌≡◌ {A = Result (Part × List ℕ) Fault} (Err f) (Ok a.0) = sym e ∙ a.1 in
    absurd cc

pub parts_next : (bytes : List ℕ) (p : Part) (after : List ℕ) → (length bytes ≡ 0 → ⊥) → plain_parts bytes ≡ Ok (parts_in bytes) → part_at (any_part 0) 255 bytes ≡ Ok (p, after)
    → (plain_parts after ≡ Ok (parts_in after)) × (parts_in bytes ≡ p ∷ parts_in after)
unfolding plain_parts parts_at
parts_next [] p after some are e = absurd (some refl)
parts_next (b ∷ bytes) p after some are e =
    let whole : plain_parts (b ∷ bytes) ≡ (parts_at any_part 255 (p.origin + 1) 255 after >>= λ more. Ok (p ∷ more)) = then _ _ _ _ e refl in
    let c = bind_ok (parts_at any_part 255 (p.origin + 1) 255 after) (λ more. Ok (p ∷ more)) _ (sym whole ∙ are) in
    let later : plain_parts after ≡ Ok c.0 = plain_more (p.origin + 1) 0 255 after c.0 c.1 in
    let seen : parts_in after ≡ c.0 = ap or_none later in
    let total : plain_parts (b ∷ bytes) ≡ Ok (p ∷ c.0) = whole ∙ ap (λ (r : Result (List Part) Fault). r >>= λ more. Ok (p ∷ more)) c.1 in
    let now : parts_in (b ∷ bytes) ≡ p ∷ c.0 = ap or_none total in
    (later ∙ ap (λ (x : List Part). Ok x) (sym seen), now ∙ ap (λ (x : List Part). p ∷ x) (sym seen))
