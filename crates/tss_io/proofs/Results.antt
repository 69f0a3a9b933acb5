-- Laws of reading step by step.
use Rattle.std.proofs.Common.{◌≡◌, Bool, true, false, cond, Result, Ok, Err, refl}
use Rattle.tss_io.specs.Results.{◌>>=◌}

-- the first step gave something, and the next read on from it
pub bind_ok : {A B E : Type 0} (r : Result A E) (f : A → Result B E) (y : B) → (r >>= f) ≡ Ok y → (x : A) × (r ≡ Ok x) × (f x ≡ Ok y)
bind_ok (Ok x) f y e = (x, refl, e)
bind_ok (Err d) f y e = absurd cc

-- after a step that gave x, the reading is what follows from x
pub then : {A B E : Type 0} (r : Result A E) (x : A) (f : A → Result B E) (z : Result B E) → r ≡ Ok x → f x ≡ z → (r >>= f) ≡ z
then r x f z first rest = rw first rest

-- a test for a fault that didn't find it
pub guard_ok : {A E : Type 0} (b : Bool) (d : E) (x y : A) → cond b (Err d) (Ok x) ≡ Ok y → (b ≡ false) × (x ≡ y)
guard_ok true d x y e = absurd cc
guard_ok false d x y e = (refl, cc)

-- a test for what must hold that found it
pub unless_ok : {A E : Type 0} (b : Bool) (d : E) (x y : A) → cond b (Ok x) (Err d) ≡ Ok y → (b ≡ true) × (x ≡ y)
unless_ok true d x y e = (refl, cc)
unless_ok false d x y e = absurd cc

-- the same with more steps behind the test
pub guard_then : {A E : Type 0} (b : Bool) (d : E) (r : Result A E) (y : A) → cond b (Err d) r ≡ Ok y → (b ≡ false) × (r ≡ Ok y)
guard_then true d r y e = absurd cc
guard_then false d r y e = (refl, e)

pub unless_then : {A E : Type 0} (b : Bool) (d : E) (r : Result A E) (y : A) → cond b r (Err d) ≡ Ok y → (b ≡ true) × (r ≡ Ok y)
unless_then true d r y e = (refl, e)
unless_then false d r y e = absurd cc

abbrev done : {A E : Type 0} → A → Result A E
done x = Ok x

-- two readings that gave something gave the same, if they are equal
pub ok_is : {A E : Type 0} (x y : A) → done {E = E} x ≡ done {E = E} y → x ≡ y
ok_is x y e = cc
