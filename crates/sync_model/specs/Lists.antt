-- The last element of a list, and lists of lists.
use Rattle.std.specs.Prelude.{◌++◌, List, [], ◌∷◌}

-- the last element, or the given one where there is none
unfoldable pub last_of : {X : Type 0} → X → List X → X
last_of x [] = x
last_of x (y ∷ ys) = last_of y ys

-- lists, one after another
unfoldable pub joined : {X : Type 0} → List (List X) → List X
joined [] = []
joined (xs ∷ more) = xs ++ joined more
