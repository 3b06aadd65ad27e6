-- There are no more groups than ends of lines.
use Rattle.std.proofs.Common.{◌≡◌, ◌≤◌, ◌+◌, ◌*◌, ℕ, Bool, true, false, cond, List, [], ◌∷◌, ◌++◌, length, map, refl, arith}
use Rattle.std.specs.Prelude.{not, filter, flat_map, sum, sum_by}
use Rattle.std.proofs.lemmas.Bool.{false≢true}
use Rattle.std.proofs.lemmas.List.{length-append}
use Rattle.std.proofs.lemmas.List.Sums.{sum_by-cons}
use Rattle.spoc_base.specs.Address.{Cidr}
use Rattle.policy_model.specs.Lists.{once_each}
use Rattle.policy_model.specs.Filters.{Line}
use Rattle.acl_print.specs.Groups.{same_prefixes, is_several, ends_of, groups_of}
use Rattle.printed_laws.proofs.Kept.{few_kept}

few_once : {A : Type 0} (same : A → A → Bool) (xs : List A) → length (once_each same xs) ≤ length xs
few_once same [] = omega arith
few_once same (x ∷ xs) = let a = few_kept (λ y. not (same x y)) (once_each same xs) in let b = few_once same xs in omega (arith, a, b)

ends_count : (lines : List Line) → length (flat_map ends_of lines) ≡ 2 * length lines
ends_count [] = omega arith
ends_count (l ∷ lines) = let h = ends_count lines in omega (arith, h)

all_ends : (lists : List (List Line)) → length (flat_map (λ lines. flat_map ends_of lines) lists) ≡ 2 * sum_by length lists
all_ends [] = omega arith
all_ends (lines ∷ lists) =
    let a = length-append (flat_map ends_of lines) (flat_map (λ lines. flat_map ends_of lines) lists) in
    let b = ends_count lines in
    let c = all_ends lists in
    let d = sum_by-cons length lines lists in
    omega (arith, a, b, c, d)

pub group_count : (lists : List (List Line)) → length (groups_of lists) ≤ 2 * sum_by length lists
group_count lists =
    let ends = flat_map (λ lines. flat_map ends_of lines) lists in
    let a = few_once same_prefixes (filter is_several ends) in
    let b = few_kept is_several ends in
    let c = all_ends lists in
    omega (arith, a, b, c)

-- ---- the lines of some lists and of more of them

pub sum_of_some : (f g : ℕ → ℕ) (test other : ℕ → Bool) (xs : List ℕ) → ((x : ℕ) → f x ≤ g x) → ((x : ℕ) → test x ≡ true → other x ≡ true) →
    sum_by f (filter test xs) ≤ sum (map g (filter other xs))
sum_of_some f g test other [] less more = omega arith
sum_of_some f g test other (x ∷ xs) less more = go (test x) (other x) (sum_of_some f g test other xs less more) (more x)
  where
    rest : List ℕ
    rest = filter test xs

    others : List ℕ
    others = filter other xs

    go : (a b : Bool) → sum_by f rest ≤ sum (map g others) → (a ≡ true → b ≡ true) → sum_by f (cond a (x ∷ rest) rest) ≤ sum (map g (cond b (x ∷ others) others))
    go false false h m = h
    go false true h m = let c = sum_by-cons (λ y. y) (g x) (map g others) in omega (arith, h, c)
    go true true h m =
        let c = sum_by-cons (λ y. y) (g x) (map g others) in
        let d = sum_by-cons f x rest in
        let e = less x in
        omega (arith, h, c, d, e)
    go true false h m = absurd (false≢true (m refl))

pub sum_mapped : {A B : Type 0} (f : B → ℕ) (g : A → B) (xs : List A) → sum_by f (map g xs) ≡ sum_by (λ x. f (g x)) xs
sum_mapped f g [] = refl
sum_mapped f g (x ∷ xs) = let a = sum_by-cons f (g x) (map g xs) in let b = sum_by-cons (λ y. f (g y)) x xs in let h = sum_mapped f g xs in omega (arith, a, b, h)
