-- A pair is put once into a row, and the rows are those of the pairs on path.
use Rattle.std.proofs.Common.{◌≡◌, ℕ, ◌+◌, ◌-◌, ◌<◌, Bool, true, false, cond, ◌||◌, List, [], ◌∷◌, ◌++◌, length, take, set, refl, sym, ap, ◌∙◌, ⊎_elim, arith, slice_index, slice_index_or, get_or}
use Rattle.std.specs.Prelude.{◌==◌}
use Rattle.std.proofs.lemmas.Bool.{eq-eqb, ne_eqb, cases_eq}
use Rattle.std.proofs.lemmas.List.{append-nil, get_or-set_same, get_or-set_other, length-append, get_or_at}
use Rattle.std.proofs.lemmas.List.Folds.{list_any_more}
use Rattle.std.proofs.lemmas.Option.{slice_get-get_or}
use Rattle.policy_model.specs.Places.{is_number}
use Rattle.zone_graph.specs.declared.marks.Crossing.{Crossing}
use Rattle.rule_distribute.specs.Paths.{ends_in, with_last, enters, with_entered, AreLow}

-- ---- the last one

is_there : (xs : List ℕ) (w : ℕ) → ends_in (xs ++ w ∷ []) w ≡ true
is_there xs w =
    let n = length-append xs (w ∷ []) in
    let below : length (xs ++ w ∷ []) - 1 < length (xs ++ w ∷ []) = omega (arith, n) in
    let at : length (xs ++ w ∷ []) - 1 ≡ length xs = omega (arith, n) in
    ap (λ o. is_number o w) (slice_get-get_or (xs ++ w ∷ []) (length (xs ++ w ∷ []) - 1) 0 below)
    ∙ eq-eqb _ w (ap (λ k. slice_index (xs ++ w ∷ []) k) at ∙ get_or_at xs w [] 0 (length xs) refl)

isnt_there : (xs : List ℕ) (w : ℕ) → ((k : ℕ) → k < length xs → slice_index xs k < w) → ends_in xs w ≡ false
isnt_there [] w low = refl
isnt_there (x ∷ xs) w low =
    let below : length (x ∷ xs) - 1 < length (x ∷ xs) = omega arith in
    let lt = low (length (x ∷ xs) - 1) below in
    ap (λ o. is_number o w) (slice_get-get_or (x ∷ xs) (length (x ∷ xs) - 1) 0 below) ∙ ne_eqb _ w (λ e. let z : ⊥ = omega (arith, lt, e) in z)

-- one crossing more at its own interface
here : (row : List ℕ) (w : ℕ) (b : Bool) → ((k : ℕ) → k < length row → slice_index row k < w) → with_last (row ++ cond b (w ∷ []) []) w ≡ row ++ w ∷ []
here row w true low = ap (λ b. cond b (row ++ w ∷ []) ((row ++ w ∷ []) ++ w ∷ [])) (is_there row w)
here row w false low =
    ap (λ xs. with_last xs w) (append-nil row) ∙ ap (λ b. cond b row (row ++ w ∷ [])) (isnt_there row w low)

or_true : (b : Bool) → (b || true) ≡ true
or_true true = refl
or_true false = refl

or_false : (b : Bool) → (b || false) ≡ b
or_false true = refl
or_false false = refl

pub one_more : (cs : List Crossing) (n w : ℕ) (c : Crossing) (old rows new : List (List ℕ)) → n < length cs → c ≡ get_or cs n c → c.enter.0 < length rows → AreLow old w → length rows ≡ length old →
    new ≡ set rows c.enter.0 (with_last (slice_index_or rows c.enter.0 []) w) →
    ((i : ℕ) → i < length old → slice_index_or rows i [] ≡ with_entered (take n cs) w i (slice_index_or old i [])) → (i : ℕ) → i < length old → slice_index_or new i [] ≡ with_entered (take (n + 1) cs) w i (slice_index_or old i [])
one_more cs n w c old rows new below is there low each made so_far i h =
    let e = c.enter.0 in
    let more : enters (take (n + 1) cs) i ≡ (enters (take n cs) i || (e == i)) = list_any_more (λ (d : Crossing). d.enter.0 == i) cs n c below ∙ ap (λ (d : Crossing). enters (take n cs) i || (d.enter.0 == i)) (sym is) in
    let row = slice_index_or old i [] in
    ap (λ r. slice_index_or r i []) made
    ∙ ⊎_elim
    (λ (same : i ≡ e).
    ap (λ k. slice_index_or (set rows e (with_last (slice_index_or rows e []) w)) k []) same
    ∙ (get_or-set_same rows e (with_last (slice_index_or rows e []) w) [] there
    ∙ (ap (λ k. with_last (slice_index_or rows k []) w) (sym same)
    ∙ (ap (λ xs. with_last xs w) (so_far i h)
    ∙ (here row w (enters (take n cs) i) (low.low i)
    ∙ sym (ap (λ b. row ++ cond b (w ∷ []) []) (more ∙ (ap (λ b. enters (take n cs) i || b) (eq-eqb e i (sym same)) ∙ or_true (enters (take n cs) i)))))))))
    (λ ne.
    get_or-set_other rows e i (with_last (slice_index_or rows e []) w) [] ne
    ∙ (so_far i h ∙ sym (ap (λ b. row ++ cond b (w ∷ []) []) (more ∙ (ap (λ b. enters (take n cs) i || b) (ne_eqb e i (λ q. ne (sym q))) ∙ or_false (enters (take n cs) i))))))
    (cases_eq i e)
