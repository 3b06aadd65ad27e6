-- Sets of objects that grow one by one are the sets of the definitions.
use Rattle.std.proofs.Common.{◌≡◌, Bool, true, false, cond, not, ◌&&◌, ◌||◌, List, [], ◌∷◌, ◌++◌, refl, sym, ap, subst, ◌∙◌, append_assoc, append-nil}
use Rattle.std.specs.Prelude.{filter}
use Rattle.std.specs.List.{list_all}
use Rattle.std.proofs.lemmas.Bool.{eq-eqb, eqb-true, false≢true, or_left, or_right, and_parts, and_from}
use Rattle.std.proofs.lemmas.List.Folds.{list_any-append}
use Rattle.policy_model.specs.Objects.{Object, NetObject, HostObject, IfaceObject, same_object, has_object, object_set}
use Rattle.group_expand.specs.Sets.{with_object, with_objects}

-- ---- when objects are the same

pub same_true : (x y : Object) → same_object x y ≡ true → x ≡ y
same_true (NetObject n) (NetObject m) h = ap NetObject (eqb-true n m h)
same_true (NetObject n) (HostObject m) h = absurd (false≢true h)
same_true (NetObject n) (IfaceObject m) h = absurd (false≢true h)
same_true (HostObject n) (NetObject m) h = absurd (false≢true h)
same_true (HostObject n) (HostObject m) h = ap HostObject (eqb-true n m h)
same_true (HostObject n) (IfaceObject m) h = absurd (false≢true h)
same_true (IfaceObject n) (NetObject m) h = absurd (false≢true h)
same_true (IfaceObject n) (HostObject m) h = absurd (false≢true h)
same_true (IfaceObject n) (IfaceObject m) h = ap IfaceObject (eqb-true n m h)

pub same_refl : (x : Object) → same_object x x ≡ true
same_refl (NetObject n) = eq-eqb n n refl
same_refl (HostObject n) = eq-eqb n n refl
same_refl (IfaceObject n) = eq-eqb n n refl

pub same_bool : (a b : Bool) → (a ≡ true → b ≡ true) → (b ≡ true → a ≡ true) → a ≡ b
same_bool true b f g = sym (f refl)
same_bool false true f g = g refl
same_bool false false f g = refl

pub same_sym : (x y : Object) → same_object x y ≡ same_object y x
same_sym x y =
    same_bool (same_object x y) (same_object y x) (λ h. subst (λ (z : Object). same_object z x ≡ true) (same_true x y h) (same_refl x))
    (λ h. subst (λ (z : Object). same_object z y ≡ true) (same_true y x h) (same_refl y))

-- ---- filters

module _ (p q r : Object → Bool) (is : (x : Object) → (q x && p x) ≡ r x) where
  one_kept : (a : Bool) (x : Object) (ys zs : List Object) → filter p ys ≡ zs → (a && p x) ≡ r x → filter p (cond a (x ∷ ys) ys) ≡ cond (r x) (x ∷ zs) zs
  one_kept true x ys zs e h = ap (λ (b : Bool). cond b (x ∷ filter p ys) (filter p ys)) h ∙ ap (λ (l : List Object). cond (r x) (x ∷ l) l) e
  one_kept false x ys zs e h = e ∙ ap (λ (b : Bool). cond b (x ∷ zs) zs) h

  pub filter_twice : (xs : List Object) → filter p (filter q xs) ≡ filter r xs
  filter_twice [] = refl
  filter_twice (x ∷ xs) = one_kept (q x) x (filter q xs) (filter r xs) (filter_twice xs) (is x)

filter_all : (p : Object → Bool) → ((x : Object) → p x ≡ true) → (xs : List Object) → filter p xs ≡ xs
filter_all p is [] = refl
filter_all p is (x ∷ xs) = ap (λ (b : Bool). cond b (x ∷ filter p xs) (filter p xs)) (is x) ∙ ap (λ (l : List Object). x ∷ l) (filter_all p is xs)

and_swap : (a b : Bool) → (a && b) ≡ (b && a)
and_swap true true = refl
and_swap true false = refl
and_swap false true = refl
and_swap false false = refl

filters_swap : (p q : Object → Bool) (xs : List Object) → filter p (filter q xs) ≡ filter q (filter p xs)
filters_swap p q xs = filter_twice p q (λ x. q x && p x) (λ x. refl) xs ∙ sym (filter_twice q p (λ x. q x && p x) (λ x. and_swap (p x) (q x)) xs)

-- ---- all others

abbrev pub others : Object → Object → Bool
others x y = not (same_object x y)

-- what one object fails, none that is the same passes
and_others : (p : Object → Bool) (x : Object) → p x ≡ false → (y : Object) → (others x y && p y) ≡ p y
and_others p x fails y = by (same_object x y) refl
  where
    by : (b : Bool) → same_object x y ≡ b → (others x y && p y) ≡ p y
    by true e = ap (λ (b : Bool). not b && p y) e ∙ (sym fails ∙ ap p (same_true x y e))
    by false e = ap (λ (b : Bool). not b && p y) e

drops_others : (p : Object → Bool) (x : Object) → p x ≡ false → (ys : List Object) → filter p (filter (others x) ys) ≡ filter p ys
drops_others p x fails ys = filter_twice p (others x) p (and_others p x fails) ys

-- ---- sets

set_of_filtered : (p : Object → Bool) (xs : List Object) → object_set (filter p xs) ≡ filter p (object_set xs)
set_of_filtered p [] = refl
set_of_filtered p (y ∷ ys) = by (set_of_filtered p ys) (p y) refl
  where
    by : object_set (filter p ys) ≡ filter p (object_set ys) → (b : Bool) → p y ≡ b → object_set (filter p (y ∷ ys)) ≡ filter p (object_set (y ∷ ys))
    by rest true e =
        ap (λ (b : Bool). object_set (cond b (y ∷ filter p ys) (filter p ys))) e
        ∙ (ap (λ (l : List Object). y ∷ filter (others y) l) rest
        ∙ (ap (λ (l : List Object). y ∷ l) (filters_swap (others y) p (object_set ys))
        ∙ sym (ap (λ (b : Bool). cond b (y ∷ filter p (filter (others y) (object_set ys))) (filter p (filter (others y) (object_set ys)))) e)))
    by rest false e =
        ap (λ (b : Bool). object_set (cond b (y ∷ filter p ys) (filter p ys))) e
        ∙ (rest ∙ (sym (drops_others p y e (object_set ys))
        ∙ sym (ap (λ (b : Bool). cond b (y ∷ filter p (filter (others y) (object_set ys))) (filter p (filter (others y) (object_set ys)))) e)))

pub set_of_set : (xs : List Object) → object_set (object_set xs) ≡ object_set xs
set_of_set [] = refl
set_of_set (x ∷ xs) =
    ap (λ (l : List Object). x ∷ filter (others x) l) (set_of_filtered (others x) (object_set xs) ∙ ap (filter (others x)) (set_of_set xs))
    ∙ ap (λ (l : List Object). x ∷ l) (filter_twice (others x) (others x) (others x) (λ y. twice (others x y)) (object_set xs))
  where
    twice : (b : Bool) → (b && b) ≡ b
    twice true = refl
    twice false = refl

-- ---- sets that grow

-- what is not in the set
abbrev pub missing : List Object → Object → Bool
missing acc y = not (has_object acc y)

missing_more : (acc : List Object) (x y : Object) → (others x y && missing acc y) ≡ missing (acc ++ x ∷ []) y
missing_more acc x y = ap (λ (b : Bool). not b && missing acc y) (same_sym x y) ∙ (by (same_object y x) (has_object acc y) ∙ sym (ap not (list_any-append (same_object y) acc (x ∷ []))))
  where
    by : (a b : Bool) → (not a && not b) ≡ not (b || (a || false))
    by true true = refl
    by true false = refl
    by false true = refl
    by false false = refl

-- a set with more objects: those that it lacks, each once
pub grown : (acc xs : List Object) → with_objects acc xs ≡ acc ++ filter (missing acc) (object_set xs)
grown acc [] = sym (append-nil acc)
grown acc (x ∷ xs) = by (grown acc xs) (grown (acc ++ x ∷ []) xs) (has_object acc x) refl
  where
    by : with_objects acc xs ≡ acc ++ filter (missing acc) (object_set xs) →
        with_objects (acc ++ x ∷ []) xs ≡ (acc ++ x ∷ []) ++ filter (missing (acc ++ x ∷ [])) (object_set xs) → (b : Bool) → has_object acc x ≡ b → with_objects acc (x ∷ xs) ≡ acc ++ filter (missing acc) (object_set (x ∷ xs))
    by f g true e =
        ap (λ (b : Bool). with_objects (cond b acc (acc ++ x ∷ [])) xs) e
        ∙ (f
        ∙ ap (λ (l : List Object). acc ++ l) (sym (drops_others (missing acc) x (ap not e) (object_set xs))
        ∙ sym (ap (λ (b : Bool). cond (not b) (x ∷ filter (missing acc) (filter (others x) (object_set xs))) (filter (missing acc) (filter (others x) (object_set xs)))) e)))
    by f g false e =
        ap (λ (b : Bool). with_objects (cond b acc (acc ++ x ∷ [])) xs) e
        ∙ (g
        ∙ (append_assoc acc (x ∷ []) (filter (missing (acc ++ x ∷ [])) (object_set xs))
        ∙ ap (λ (l : List Object). acc ++ l)
        (ap (λ (l : List Object). x ∷ l) (sym (filter_twice (missing acc) (others x) (missing (acc ++ x ∷ [])) (missing_more acc x) (object_set xs)))
        ∙ sym (ap (λ (b : Bool). cond (not b) (x ∷ filter (missing acc) (filter (others x) (object_set xs))) (filter (missing acc) (filter (others x) (object_set xs)))) e))))

pub grown_by_set : (acc xs : List Object) → with_objects acc (object_set xs) ≡ with_objects acc xs
grown_by_set acc xs = grown acc (object_set xs) ∙ (ap (λ (l : List Object). acc ++ filter (missing acc) l) (set_of_set xs) ∙ sym (grown acc xs))

pub gathered : (xs : List Object) → with_objects [] xs ≡ object_set xs
gathered xs = grown [] xs ∙ filter_all (missing []) (λ y. refl) (object_set xs)

pub grown_by_both : (acc xs ys : List Object) → with_objects acc (xs ++ ys) ≡ with_objects (with_objects acc xs) ys
grown_by_both acc [] ys = refl
grown_by_both acc (x ∷ xs) ys = grown_by_both (with_object acc x) xs ys

-- ---- what a set has already

still_has : (acc : List Object) (x o : Object) → has_object acc o ≡ true → has_object (with_object acc x) o ≡ true
still_has acc x o h = by (has_object acc x) refl
  where
    by : (b : Bool) → has_object acc x ≡ b → has_object (with_object acc x) o ≡ true
    by true e = ap (λ (b : Bool). has_object (cond b acc (acc ++ x ∷ [])) o) e ∙ h
    by false e =
        ap (λ (b : Bool). has_object (cond b acc (acc ++ x ∷ [])) o) e
        ∙ (list_any-append (same_object o) acc (x ∷ []) ∙ or_left (has_object acc o) (same_object o x || false) h)

pub keeps_object : (acc xs : List Object) (o : Object) → has_object acc o ≡ true → has_object (with_objects acc xs) o ≡ true
keeps_object acc [] o h = h
keeps_object acc (x ∷ xs) o h = keeps_object (with_object acc x) xs o (still_has acc x o h)

now_has : (acc : List Object) (x : Object) → has_object (with_object acc x) x ≡ true
now_has acc x = by (has_object acc x) refl
  where
    by : (b : Bool) → has_object acc x ≡ b → has_object (with_object acc x) x ≡ true
    by true e = ap (λ (b : Bool). has_object (cond b acc (acc ++ x ∷ [])) x) e ∙ e
    by false e =
        ap (λ (b : Bool). has_object (cond b acc (acc ++ x ∷ [])) x) e
        ∙ (list_any-append (same_object x) acc (x ∷ []) ∙ or_right (has_object acc x) (same_object x x || false) (or_left (same_object x x) false (same_refl x)))

pub has_added : (acc xs : List Object) → list_all (has_object (with_objects acc xs)) xs ≡ true
has_added acc [] = refl
has_added acc (x ∷ xs) =
    and_from (has_object (with_objects (with_object acc x) xs) x) (list_all (has_object (with_objects (with_object acc x) xs)) xs)
    (keeps_object (with_object acc x) xs x (now_has acc x)) (has_added (with_object acc x) xs)

pub keeps_all : (acc ys xs : List Object) → list_all (has_object acc) xs ≡ true → list_all (has_object (with_objects acc ys)) xs ≡ true
keeps_all acc ys [] h = refl
keeps_all acc ys (x ∷ xs) h =
    let a = and_parts (has_object acc x) (list_all (has_object acc) xs) h in
    and_from (has_object (with_objects acc ys) x) (list_all (has_object (with_objects acc ys)) xs) (keeps_object acc ys x a.0) (keeps_all acc ys xs a.1)

pub adds_nothing : (acc xs : List Object) → list_all (has_object acc) xs ≡ true → with_objects acc xs ≡ acc
adds_nothing acc [] h = refl
adds_nothing acc (x ∷ xs) h =
    let a = and_parts (has_object acc x) (list_all (has_object acc) xs) h in
    ap (λ (b : Bool). with_objects (cond b acc (acc ++ x ∷ [])) xs) a.0 ∙ adds_nothing acc xs a.1
