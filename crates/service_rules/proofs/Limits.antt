-- How many permits and denials there are, and what is left of the permits.
use Rattle.std.proofs.Common.{◌≡◌, ◌∙◌, ℕ, suc, ◌<◌, ◌≤◌, Bool, true, false, List, [], ◌∷◌, ◌++◌, map, flat_map, length, take, refl, sym, ap, arith, ⊎_elim}
use Rattle.std.specs.Prelude.{nat_lt, max, min, ◌==◌}
use Rattle.std.proofs.Math.Nat.{le-max_left, le-max_right, max-le}
use Rattle.std.proofs.lemmas.Bool.{cases_lt, eqb-true, ltb-true, lt-ltb, ltb_from_iff, false≢true}
use Rattle.std.proofs.lemmas.List.{length-take, length-map, take_all}
use Rattle.policy_model.specs.FirstFault.{most_items}
use Rattle.policy_model.specs.Zones.{Site}
use Rattle.policy_model.specs.Permits.{Permit, listed_permits, listed_denials, pieces_left_by, permits_of, permit_count}

-- ---- what is left

singly : {A : Type 0} (xs : List A) → flat_map (λ x. x ∷ []) xs ≡ xs
singly [] = refl
singly {A} (x ∷ xs) = ap (λ (l : List A). x ∷ l) (singly xs)

-- where nothing is denied, the listed permits are all
pub none_denied : (s : Site) (areas : List (List ℕ)) → listed_denials s areas ≡ [] → permits_of s areas ≡ listed_permits s areas
none_denied s areas e = ap (λ (l : List Permit). flat_map (λ (q : Permit). pieces_left_by l (q ∷ [])) (listed_permits s areas)) e ∙ singly (listed_permits s areas)

pub none_there : {A : Type 0} (items : List A) (seen : A → Permit) (len : ℕ) → length items ≡ len → (len == 0) ≡ true → (all : List Permit) → map seen items ≡ all → all ≡ []
none_there [] seen len e h all is = sym is
none_there (x ∷ xs) seen len e h all is = let z = eqb-true len 0 h in absurd (omega (arith, e, z))

pub all_taken : (s : Site) (areas : List (List ℕ)) (found : List Permit) → listed_denials s areas ≡ [] → length (listed_permits s areas) ≤ most_items → found ≡ listed_permits s areas →
    found ≡ take (suc most_items) (permits_of s areas)
all_taken s areas found none few is =
    is ∙ (sym (take_all (suc most_items) (listed_permits s areas) (omega (arith, few))) ∙ ap (take (suc most_items)) (sym (none_denied s areas none)))

pub some_taken : (s : Site) (areas : List (List ℕ)) (denials permits found : List Permit) (most : ℕ) → most ≡ suc most_items → denials ≡ listed_denials s areas → permits ≡ listed_permits s areas →
    found ≡ take most (flat_map (λ q. pieces_left_by denials (q ∷ [])) permits) → found ≡ take (suc most_items) (permits_of s areas)
some_taken s areas denials permits found most m e f is =
    is ∙ (ap (λ (n : ℕ). take n (flat_map (λ (q : Permit). pieces_left_by denials (q ∷ [])) permits)) m
    ∙ (ap (λ (l : List Permit). take (suc most_items) (flat_map (λ (q : Permit). pieces_left_by l (q ∷ [])) permits)) e
    ∙ ap (λ (l : List Permit). take (suc most_items) (flat_map (λ (q : Permit). pieces_left_by (listed_denials s areas) (q ∷ [])) l)) f))

-- ---- counts

-- a count that stops at the greatest number tells whether there are too many
pub counted_many : (n most count limit : ℕ) → count ≡ min n most → limit < most → nat_lt limit count ≡ nat_lt limit n
counted_many n most count limit e h =
    ltb_from_iff (λ t. let m = ltb-true limit count t in omega (arith, e, m), λ m. lt-ltb limit count (omega (arith, e, h, m)))

not_many : (limit n : ℕ) → nat_lt limit n ≡ false → n ≤ limit
not_many limit n h = ⊎_elim (λ m. absurd (false≢true (sym h ∙ lt-ltb limit n m))) (λ m. m) (cases_lt limit n)

pub permits_listed : (s : Site) (areas : List (List ℕ)) (many : Bool) → many ≡ nat_lt most_items (length (listed_permits s areas)) → many ≡ true → most_items < permit_count s areas
permits_listed s areas many e h =
    let over = ltb-true most_items (length (listed_permits s areas)) (sym e ∙ h) in
    let less = le-max_left (length (listed_permits s areas)) (max (length (listed_denials s areas)) (length (permits_of s areas))) in
    omega (arith, over, less)

pub denials_listed : (s : Site) (areas : List (List ℕ)) (many : Bool) → many ≡ nat_lt most_items (length (listed_denials s areas)) → many ≡ true → most_items < permit_count s areas
denials_listed s areas many e h =
    let over = ltb-true most_items (length (listed_denials s areas)) (sym e ∙ h) in
    let inner = le-max_left (length (listed_denials s areas)) (length (permits_of s areas)) in
    let less = le-max_right (length (listed_permits s areas)) (max (length (listed_denials s areas)) (length (permits_of s areas))) in
    omega (arith, over, inner, less)

-- as many are made as may be and one more
pub permits_made : {A : Type 0} (made : List A) (seen : A → Permit) (s : Site) (areas : List (List ℕ)) → map seen made ≡ take (suc most_items) (permits_of s areas) → most_items < length made →
    most_items < permit_count s areas
permits_made made seen s areas e h =
    let a = sym (length-map made seen) ∙ (ap length e ∙ length-take (suc most_items) (permits_of s areas)) in
    let inner = le-max_right (length (listed_denials s areas)) (length (permits_of s areas)) in
    let less = le-max_right (length (listed_permits s areas)) (max (length (listed_denials s areas)) (length (permits_of s areas))) in
    omega (arith, a, h, inner, less)

few_made : (xs ys : List Permit) (most : ℕ) → xs ≡ take (suc most) ys → length xs ≤ most → length ys ≤ most
few_made xs ys most e h =
    let a = ap length e ∙ length-take (suc most) ys in
    omega (arith, a, h)

-- all are made
pub whole : {A : Type 0} (made : List A) (seen : A → Permit) (s : Site) (areas : List (List ℕ)) → map seen made ≡ take (suc most_items) (permits_of s areas) → length made ≤ most_items →
    map seen made ≡ permits_of s areas
whole made seen s areas e h =
    let a = length-map made seen in
    let few = few_made (map seen made) (permits_of s areas) most_items e (omega (arith, a, h)) in
    e ∙ take_all (suc most_items) (permits_of s areas) (omega (arith, few))

pub within_limits : {A : Type 0} (made : List A) (seen : A → Permit) (s : Site) (areas : List (List ℕ)) (permits denials : Bool) → permits ≡ nat_lt most_items (length (listed_permits s areas)) →
    permits ≡ false → denials ≡ nat_lt most_items (length (listed_denials s areas)) → denials ≡ false → map seen made ≡ take (suc most_items) (permits_of s areas) → length made ≤ most_items →
    permit_count s areas ≤ most_items
within_limits made seen s areas permits denials e f g h i few =
    max-le (not_many most_items (length (listed_permits s areas)) (sym e ∙ f))
    (max-le (not_many most_items (length (listed_denials s areas)) (sym g ∙ h))
    (let a = length-map made seen in few_made (map seen made) (permits_of s areas) most_items i (omega (arith, a, few))))
