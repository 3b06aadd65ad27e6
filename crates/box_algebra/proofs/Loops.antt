-- A loop over numbers that puts what each gives behind the others.
use Rattle.std.proofs.Common.{◌≡◌, ℕ, zero, suc, ◌+◌, ◌-◌, ◌≤◌, List, [], ◌∷◌, ◌++◌, append_assoc, append-nil, refl, sym, ap, ◌∙◌, arith}
use Rattle.std.specs.Prelude.{flat_map}
use Rattle.std.specs.List.{range_with_len}
use Rattle.std.proofs.lemmas.List.Concat.{flat_map-append}
use Rattle.spoc_base.specs.Pieces.{all_bytes, all_protocols}

range_more : (a n : ℕ) → range_with_len a (suc n) ≡ range_with_len a n ++ (a + n) ∷ []
range_more a zero = let e : a ≡ a + 0 = omega arith in ap (λ k. k ∷ []) e
range_more a (suc n) = let e : (a + 1) + n ≡ a + suc n = omega arith in ap (λ xs. a ∷ xs) (range_more (a + 1) n ∙ ap (λ k. range_with_len (a + 1) n ++ k ∷ []) e)

range_up_to : (a n : ℕ) → a ≤ n → range_with_len a (n + 1 - a) ≡ range_with_len a (n - a) ++ n ∷ []
range_up_to a n le =
    let e : n + 1 - a ≡ suc (n - a) = omega arith in
    let f : a + (n - a) ≡ n = omega arith in
    ap (range_with_len a) e ∙ (range_more a (n - a) ∙ ap (λ k. range_with_len a (n - a) ++ k ∷ []) f)

-- what the numbers from a up to n give
pub so_far : {B : Type 0} → (ℕ → List B) → ℕ → ℕ → List B
so_far f a n = flat_map f (range_with_len a (n - a))

pub nothing_yet : {B : Type 0} (f : ℕ → List B) (a : ℕ) (base : List B) → base ≡ base ++ so_far f a a
unfolding so_far
nothing_yet f a base = let e : a - a ≡ 0 = omega arith in sym (ap (λ k. base ++ flat_map f (range_with_len a k)) e ∙ append-nil base)

pub one_more : {B : Type 0} (f : ℕ → List B) (a n : ℕ) (base old new : List B) → a ≤ n → old ≡ base ++ so_far f a n → new ≡ old ++ f n → new ≡ base ++ so_far f a (n + 1)
unfolding so_far
one_more f a n base old new le e g =
    g ∙ (ap (λ xs. xs ++ f n) e ∙ (append_assoc base (flat_map f (range_with_len a (n - a))) (f n)
    ∙ ap (λ xs. base ++ xs) (ap (λ xs. flat_map f (range_with_len a (n - a)) ++ xs) (sym (append-nil (f n)))
    ∙ (sym (flat_map-append f (range_with_len a (n - a)) (n ∷ [])) ∙ ap (flat_map f) (sym (range_up_to a n le))))))

pub all_bytes_done : {B : Type 0} (f : ℕ → List B) → so_far f 0 256 ≡ flat_map f all_bytes
unfolding so_far all_bytes
all_bytes_done f = refl

pub all_protocols_done : {B : Type 0} (f : ℕ → List B) → so_far f 1 256 ≡ flat_map f all_protocols
unfolding so_far all_protocols
all_protocols_done f = refl

pub all_bytes_given : {B : Type 0} (f : ℕ → List B) (n : ℕ) (base new : List B) → 256 ≤ n → n ≤ 256 → new ≡ base ++ so_far f 0 n → new ≡ base ++ flat_map f all_bytes
all_bytes_given f n base new low high e = let g : n ≡ 256 = omega arith in e ∙ ap (λ xs. base ++ xs) (ap (so_far f 0) g ∙ all_bytes_done f)

pub all_protocols_given : {B : Type 0} (f : ℕ → List B) (n : ℕ) (base new : List B) → 256 ≤ n → n ≤ 256 → new ≡ base ++ so_far f 1 n → new ≡ base ++ flat_map f all_protocols
all_protocols_given f n base new low high e = let g : n ≡ 256 = omega arith in e ∙ ap (λ xs. base ++ xs) (ap (so_far f 1) g ∙ all_protocols_done f)
