use Rattle.std.proofs.Common.{◌≡◌, ◌<◌, ◌≤◌, ◌⊎◌, inl, inr, ℕ, List, length, take, Some, None, refl, sym, ◌∙◌, arith}
use Rattle.std.specs.Prelude.{slice_get, get_or}
use Rattle.std.proofs.lemmas.Option.{slice_get_cases}
use Rattle.game_trait.specs.declared.command.Item.{Item}
use Rattle.divergence_check.specs.Divergence.{DiffersFirstAt}
use Rattle.divergence_check.proofs.laws.items_differ_where_another_is_due.Goals as goal

place : (items due : List Item) (n : ℕ) → n < length due → (slice_get items n ≡ slice_get due n → ⊥)
    → ((x : Item) × (n < length due) × (slice_get due n ≡ Some x) × (get_or due n x ≡ x)) ⊎
    ((length due ≤ n) × (slice_get due n ≡ None))
    → (item : Item) × (slice_get due n ≡ Some item) × (slice_get items n ≡ Some item → ⊥)
place items due n few other (inl at) = (at.0, at.2, λ e. other (e ∙ sym at.2))
place items due n few other (inr past) = absurd (let long = past.0 in omega arith)

there : (items due : List Item) (n : ℕ) → DiffersFirstAt items due n → (take n items ≡ take n due) × ((item : Item) × (slice_get due n ≡ Some item) × (slice_get items n ≡ Some item → ⊥))
there items due n h = (h.same, place items due n h.some_due h.other (slice_get_cases due n).1)

pub returns : goal.returns
returns c = record {
  there = there;
  same = λ items n h. h.other refl;
  lacking = record { same = refl; some_due = omega arith; other = λ e. absurd cc };
  behind = λ h. absurd (let few = h.some_due in omega arith);
}
