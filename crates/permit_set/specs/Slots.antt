-- Two places for at most two items.
use Rattle.std.specs.Prelude.{List, [], ◌∷◌, Option, Some, None}

-- the first items, those there are, and then nothing
abbrev pub two_slots : {A : Type 0} → List A → List (Option A)
two_slots [] = None ∷ None ∷ []
two_slots (x ∷ []) = Some x ∷ None ∷ []
two_slots (x ∷ y ∷ ys) = Some x ∷ Some y ∷ []
