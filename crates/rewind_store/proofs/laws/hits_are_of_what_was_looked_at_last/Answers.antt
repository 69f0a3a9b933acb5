use Rattle.std.proofs.Common.{◌≡◌, ℕ, ◌==◌, true, [], ◌∷◌, refl, arith}
use Rattle.std.proofs.lemmas.Bool.Decides.{nat_tests}
use Rattle.rewind_store.specs.Cached.{without, put_in_front, after_look}
use Rattle.rewind_store.specs.Rewound.{hits_of}
use Rattle.rewind_store.proofs.Looks.{hits-more}
use Rattle.rewind_store.proofs.laws.hits_are_of_what_was_looked_at_last.Goals as goal

again : (room t : ℕ) → hits_of room [] (t ∷ t ∷ []) ≡ 1
unfolding hits_of after_look put_in_front without
again room t = let same : (t == t) ≡ true = grind (arith, nat_tests) in rw same refl

pub returns : goal.returns
unfolding hits_of after_look put_in_front without
returns c = record { more = hits-more; none = λ room. refl; first = λ room t. refl; again = again; room_for_one = refl; room_for_two = refl; room_for_three = refl }
