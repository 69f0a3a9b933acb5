-- Numbers that are renewed one after the other.
use Rattle.std.proofs.Common.{◌≡◌, ◌∙◌, ap, sym, subst, ℕ, ◌+◌, ◌<◌, Bool, false, cond, ◌&&◌, ltb}
use Rattle.std.proofs.Common.{List, length, get_or, arith}
use Rattle.game_trait.specs.declared.event.Event.{Event}
use Rattle.sync_model.specs.State.{MirrorState}
use Rattle.sync_model.specs.Change.{next}
use Rattle.sync_model.specs.History.{IsReached}
use Rattle.sync_model.specs.Drafts.{renews, epoch}
use Rattle.sync_model.proofs.Cases.{next-fixed}
use Rattle.sync_model.proofs.Epochs.{epoch_counts}
use Rattle.mirror_core.specs.Epochs.{AreRenewed, AreEpochs}

-- the marked ones among the first n are renewed
pub record AreRenewedUpTo (n : ℕ) (marks : ℕ → Bool) (old now : List ℕ) : Type 0 where
  pub as_many : length now ≡ length old
  pub each :
      (c : ℕ) → c < length old → get_or now c 0 ≡ get_or old c 0 + cond (ltb c n && marks c) 1 0

-- the numbers of the copies that an event renews, renewed, are the epochs after it
pub epochs-next :
    {W : Type 0} (s : MirrorState W) (e : Event) (marks : ℕ → Bool) (old new : List ℕ)
    → AreEpochs s old → IsReached s
    → ((c : ℕ) → renews s c e ≡ marks c) → AreRenewed marks old new → AreEpochs (next s e) new
epochs-next s e marks old new h here told renewed =
    let many = renewed.as_many in
    let were = h.as_many in
    let copies = (next-fixed s e).copies in
    record {
      as_many = omega arith;
      each = λ c there.
          let within : c < length old = omega arith in
          renewed.each c within
          ∙ ap (λ (n : ℕ). n + cond (marks c) 1 0) (h.each c within)
          ∙ ap (λ (b : Bool). epoch s c + cond b 1 0) (sym (told c))
          ∙ sym (epoch_counts s c e here);
    }

-- where it renews none, they stay
pub epochs-stay :
    {W : Type 0} (s : MirrorState W) (e : Event) (numbers : List ℕ) → AreEpochs s numbers
    → IsReached s
    → ((c : ℕ) → renews s c e ≡ false) → AreEpochs (next s e) numbers
epochs-stay s e numbers h here told =
    let were = h.as_many in
    let copies = (next-fixed s e).copies in
    record {
      as_many = omega arith;
      each = λ c there. (let count = epoch_counts s c e here in
          let still : epoch (next s e) c ≡ epoch s c + 0 = rw (told c) at count in
          let is = h.each c there in omega arith);
    }

-- a number in the marks that is another's name
pub renewed-as :
    (marks : ℕ → ℕ → Bool) (old new : List ℕ) (n m : ℕ) → n ≡ m
    → AreRenewed (λ c. marks c n) old new → AreRenewed (λ c. marks c m) old new
renewed-as marks old new n m same h = subst (λ (k : ℕ). AreRenewed (λ c. marks c k) old new) same h
