-- What was put of a line that says what failed.
use Rattle.std.proofs.Common.{◌≡◌, ℕ, ◌<◌, List, Option, Some, length, take, sym, ap, subst}
use Rattle.std.specs.Prelude.{option_map}
use Rattle.tss_io.specs.Streams.{Rose, Gains}
use Rattle.tss_words.specs.Ending.{Taken, IsSaid, front, Says}

-- a front of the line, by another name of its bytes
pub said-front :
    (text line : List ℕ) (old new : Taken) → text ≡ line
    → (n : ℕ) × (n < length text) × Gains old.bytes (take n text) new.bytes → Rose old.faults new.faults → IsSaid line old new
said-front text line old new same broken rose = subst (λ (l : List ℕ). IsSaid l old new) same (front broken.0 broken.1 rose broken.2)

-- a line was said, where there is one
pub says-line :
    {T K : Type 0} (shown : K → Taken) (bytes : T → List ℕ) (said : Option T) (line : T) (old new : K)
    → said ≡ Some line → IsSaid (bytes line) (shown old) (shown new) → Says shown (option_map bytes said) old new
says-line {T} shown bytes said line old new is h =
    subst (λ (o : Option (List ℕ)). Says shown o old new) (sym (ap (λ (o : Option T). option_map bytes o) is)) h
