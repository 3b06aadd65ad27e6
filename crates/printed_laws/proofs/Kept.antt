-- An optimised list has lines of the list alone, and no more of them, and isn't empty where the list isn't.
use Rattle.std.proofs.Common.{◌≡◌, ◌≢◌, ◌≤◌, ℕ, inl, inr, Bool, true, false, cond, List, [], ◌∷◌, length, arith}
use Rattle.std.specs.Prelude.{not, filter}
use Rattle.policy_model.specs.Filters.{Line, line_covers}
use Rattle.policy_model.specs.Optimised.{is_repeated, without_covered, without_repeated, optimised_lines}
use Rattle.policy_model.proofs.AllWalks.{IsIn}
use Rattle.policy_laws.proofs.Members.{from_filter}
use Rattle.printed_laws.proofs.Lines.{not_none}

-- ---- its lines

from_uncovered : (lines : List Line) (l : Line) → IsIn l (without_covered lines) → IsIn l lines
from_uncovered [] l h = h
from_uncovered (x ∷ xs) l (inl e) = inl e
from_uncovered (x ∷ xs) l (inr h) = inr (from_uncovered xs l (from_filter (λ m. not (line_covers x m)) l (without_covered xs) h).0)

either_way : {A : Type 0} (b : Bool) (x l : A) (xs : List A) → IsIn l (cond b xs (x ∷ xs)) → IsIn l (x ∷ xs)
either_way true x l xs h = inr h
either_way false x l xs h = h

from_unrepeated : (lines : List Line) (l : Line) → IsIn l (without_repeated lines) → IsIn l lines
from_unrepeated [] l h = h
from_unrepeated (x ∷ xs) l h = on (from_unrepeated xs l) (either_way (is_repeated x (without_repeated xs)) x l (without_repeated xs) h)
  where
    on : (IsIn l (without_repeated xs) → IsIn l xs) → IsIn l (x ∷ without_repeated xs) → IsIn l (x ∷ xs)
    on more (inl e) = inl e
    on more (inr g) = inr (more g)

pub from_optimised : (lines : List Line) (l : Line) → IsIn l (optimised_lines lines) → IsIn l lines
from_optimised lines l h = from_uncovered lines l (from_unrepeated (without_covered lines) l h)

-- ---- how many

pub few_kept : {A : Type 0} (test : A → Bool) (xs : List A) → length (filter test xs) ≤ length xs
few_kept test [] = omega arith
few_kept test (x ∷ xs) = go (test x) (few_kept test xs)
  where
    go : (b : Bool) → length (filter test xs) ≤ length xs → length (cond b (x ∷ filter test xs) (filter test xs)) ≤ length (x ∷ xs)
    go true h = omega (arith, h)
    go false h = omega (arith, h)

few_uncovered : (lines : List Line) → length (without_covered lines) ≤ length lines
few_uncovered [] = omega arith
few_uncovered (x ∷ xs) = let h = few_uncovered xs in let k = few_kept (λ m. not (line_covers x m)) (without_covered xs) in omega (arith, h, k)

few_unrepeated : (lines : List Line) → length (without_repeated lines) ≤ length lines
few_unrepeated [] = omega arith
few_unrepeated (x ∷ xs) = go (is_repeated x (without_repeated xs)) (few_unrepeated xs)
  where
    go : (b : Bool) → length (without_repeated xs) ≤ length xs → length (cond b (without_repeated xs) (x ∷ without_repeated xs)) ≤ length (x ∷ xs)
    go true h = omega (arith, h)
    go false h = omega (arith, h)

pub few_optimised : (lines : List Line) → length (optimised_lines lines) ≤ length lines
few_optimised lines = let a = few_uncovered lines in let b = few_unrepeated (without_covered lines) in omega (arith, a, b)

-- ---- some

some_unrepeated : (x : Line) (xs : List Line) → without_repeated (x ∷ xs) ≢ []
some_unrepeated x [] = not_none x []
some_unrepeated x (y ∷ ys) = go (is_repeated x (without_repeated (y ∷ ys))) (some_unrepeated y ys)
  where
    go : (b : Bool) → without_repeated (y ∷ ys) ≢ [] → cond b (without_repeated (y ∷ ys)) (x ∷ without_repeated (y ∷ ys)) ≢ []
    go true some = some
    go false some = not_none x (without_repeated (y ∷ ys))

pub some_optimised : (lines : List Line) → lines ≢ [] → optimised_lines lines ≢ []
some_optimised [] some = some
some_optimised (x ∷ xs) some = some_unrepeated x (filter (λ m. not (line_covers x m)) (without_covered xs))
