-- Hops that are put in one list after the other.
use Rattle.std.proofs.Common.{◌≡◌, ℕ, ◌+◌, ◌<◌, List, [], ◌∷◌, ◌++◌, length, map, take, get_or, Some, refl, sym, ap, ◌∙◌}
use Rattle.std.specs.Prelude.{flat_map}
use Rattle.std.proofs.lemmas.List.{append_assoc, take_more, map-append, append-nil}
use Rattle.std.specs.declared.cmp.Ordering.{Ordering}
use Rattle.std.specs.BTreeSet.{insert_key}
use Rattle.spoc_base.specs.declared.ids.IfId.{IfId}
use Rattle.policy_model.specs.Routes.{NextHop, hops_through}
use Rattle.static_routes.specs.Chains.{numbers_of}
use Rattle.static_routes.specs.Found.{FoundHop, found_of, found_order, with_keys, with_found}

pub with_more : {K : Type 0} (order : K → K → Ordering) (keys es fs : List K) → with_keys order keys (es ++ fs) ≡ with_keys order (with_keys order keys es) fs
with_more order keys [] fs = refl
with_more order keys (e ∷ es) fs = with_more order (insert_key order keys e) es fs

flat_last : {A K : Type 0} (f : A → List K) (xs : List A) (x : A) → flat_map f (xs ++ x ∷ []) ≡ flat_map f xs ++ f x
flat_last f [] x = append-nil (f x)
flat_last {A} {K} f (y ∷ ys) x = ap (λ (l : List K). f y ++ l) (flat_last f ys x) ∙ sym (append_assoc (f y) (flat_map f ys) (f x))

-- those of one thing more
pub with_next : {A B K : Type 0} (order : K → K → Ordering) (f : B → List K) (g : A → B) (xs : List A) (k : ℕ) (d : A) (old keys new : List K) → k < length xs →
    keys ≡ with_keys order old (flat_map f (map g (take k xs))) → new ≡ with_keys order keys (f (g (get_or xs k d))) → new ≡ with_keys order old (flat_map f (map g (take (k + 1) xs)))
with_next {A} {B} {K} order f g xs k d old keys new h e made =
    let last = ap (map g) (take_more xs k d h) ∙ map-append g (take k xs) (get_or xs k d ∷ []) in
    made ∙ (ap (λ (l : List K). with_keys order l (f (g (get_or xs k d)))) e
    ∙ (sym (with_more order old (flat_map f (map g (take k xs))) (f (g (get_or xs k d))))
    ∙ ap (with_keys order old) (sym (ap (flat_map f) last ∙ flat_last f (map g (take k xs)) (g (get_or xs k d))))))

-- one next interface more
pub with_through : (r v out : ℕ) (nexts : List IfId) (k : ℕ) (d : IfId) (old keys new : List FoundHop) → k < length nexts →
    keys ≡ with_found old (map (found_of r v) (hops_through out (numbers_of (take k nexts)))) → new ≡ insert_key found_order keys ((r, v), (out, Some (get_or nexts k d).0)) →
    new ≡ with_found old (map (found_of r v) (hops_through out (numbers_of (take (k + 1) nexts))))
with_through r v out nexts k d old keys new h e made =
    let all = λ (l : List IfId). map (found_of r v) (hops_through out (numbers_of l)) in
    let x = get_or nexts k d in
    let hop = λ (n : ℕ). let y : NextHop = record { out = out; next = Some n } in y in
    let last : all (take (k + 1) nexts) ≡ all (take k nexts) ++ ((r, v), (out, Some x.0)) ∷ [] =
    ap all (take_more nexts k d h)
    ∙ (ap (λ (l : List ℕ). map (found_of r v) (hops_through out l)) (map-append (λ (i : IfId). i.0) (take k nexts) (x ∷ []))
    ∙ (ap (λ (l : List NextHop). map (found_of r v) l) (map-append hop (numbers_of (take k nexts)) (x.0 ∷ []))
    ∙ map-append (found_of r v) (hops_through out (numbers_of (take k nexts))) (hop x.0 ∷ []))) in
    made ∙ (ap (λ (l : List FoundHop). insert_key found_order l ((r, v), (out, Some x.0))) e
    ∙ (sym (with_more found_order old (all (take k nexts)) (((r, v), (out, Some x.0)) ∷ [])) ∙ ap (with_found old) (sym last)))

-- those of two lists
pub with_both : {K : Type 0} (order : K → K → Ordering) (old mid new es fs : List K) → mid ≡ with_keys order old es → new ≡ with_keys order mid fs → new ≡ with_keys order old (es ++ fs)
with_both {K} order old mid new es fs e f = f ∙ (ap (λ (l : List K). with_keys order l fs) e ∙ sym (with_more order old es fs))

-- those of one thing more, as it is
pub with_item : {A K : Type 0} (order : K → K → Ordering) (f : A → List K) (xs : List A) (k : ℕ) (d : A) (old keys new : List K) → k < length xs →
    keys ≡ with_keys order old (flat_map f (take k xs)) → new ≡ with_keys order keys (f (get_or xs k d)) → new ≡ with_keys order old (flat_map f (take (k + 1) xs))
with_item {A} {K} order f xs k d old keys new h e made =
    made ∙ (ap (λ (l : List K). with_keys order l (f (get_or xs k d))) e
    ∙ (sym (with_more order old (flat_map f (take k xs)) (f (get_or xs k d)))
    ∙ ap (with_keys order old) (sym (ap (flat_map f) (take_more xs k d h) ∙ flat_last f (take k xs) (get_or xs k d)))))
