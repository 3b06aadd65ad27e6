-- The translation that counts for a network.
use Rattle.std.proofs.Common.{◌≡◌, ℕ, ◌+◌, ◌<◌, Bool, true, false, cond, List, [], ◌∷◌, length, drop, map, sym, ap, subst, ◌∙◌, get_or}
use Rattle.std.specs.Prelude.{Option, Some, None, option_map, find, IsTrue}
use Rattle.std.specs.List.{list_all}
use Rattle.std.proofs.lemmas.Bool.{and_parts}
use Rattle.std.proofs.lemmas.List.{at_drop_more}
use Rattle.spoc_base.specs.Address.{Cidr}
use Rattle.policy_model.specs.Lists.{has}
use Rattle.policy_model.specs.Policy.{Policy, net_of}
use Rattle.topology.specs.Sound.{keeps_length}

some_is : {A : Type 0} (x y : A) → ◌≡◌ {A = Option A} (Some x) (Some y) → x ≡ y
some_is x y e = cc

-- what is kept of each item is kept of the one that is found
pub find_keeps : (keep : Option Cidr → Bool) (test : ℕ × Option Cidr → Bool) (xs : List (ℕ × Option Cidr)) → list_all (λ nat. keep nat.1) xs ≡ true → (v : Option Cidr) → option_map (λ nat. nat.1) (find test xs) ≡ Some v → keep v ≡ true
find_keeps keep test [] all v e = absurd (none_some v e)
  where
    none_some : (v : Option Cidr) → ◌≡◌ {A = Option (Option Cidr)} None (Some v) → ⊥
    none_some v e = cc
find_keeps keep test (x ∷ xs) all v e =
    let w = and_parts (keep x.1) (list_all (λ nat. keep nat.1) xs) all in
    by_test (test x) (find test xs) w.0 (λ h. find_keeps keep test xs w.1 v h) e
  where
    by_test : (b : Bool) (rest : Option (ℕ × Option Cidr)) → keep x.1 ≡ true → (option_map (λ nat. nat.1) rest ≡ Some v → keep v ≡ true) → option_map (λ nat. nat.1) (cond b (Some x) rest) ≡ Some v → keep v ≡ true
    by_test true rest k later h = ap keep (sym (some_is x.1 v h)) ∙ k
    by_test false rest k later h = later h

-- one item on, where it isn't found
pub find_on : {A B : Type 0} (test : B → Bool) (f : A → B) (xs : List A) (i : ℕ) (x : A) → i < length xs → x ≡ get_or xs i x → test (f x) ≡ false → find test (map f (drop i xs)) ≡ find test (map f (drop (i + 1) xs))
find_on test f xs i x below is out =
    at_drop_more (λ ys. find test (map f ys)) xs i x below ∙ (ap (λ y. cond (test (f y)) (Some (f y)) (find test (map f (drop (i + 1) xs)))) (sym is) ∙ ap (λ b. cond b (Some (f x)) (find test (map f (drop (i + 1) xs)))) out)

pub find_here : {A B : Type 0} (test : B → Bool) (f : A → B) (xs : List A) (i : ℕ) (x : A) → i < length xs → x ≡ get_or xs i x → test (f x) ≡ true → find test (map f (drop i xs)) ≡ Some (f x)
find_here test f xs i x below is found =
    at_drop_more (λ ys. find test (map f ys)) xs i x below ∙ (ap (λ y. cond (test (f y)) (Some (f y)) (find test (map f (drop (i + 1) xs)))) (sym is) ∙ ap (λ b. cond b (Some (f x)) (find test (map f (drop (i + 1) xs)))) found)

-- a translation has the length of the own prefix, unless it hides
pub kept_length : (p : Policy) (n : ℕ) (tags : List ℕ) (o : Option Cidr) → IsTrue (list_all (λ nat. keeps_length (net_of p n).own nat.1) (net_of p n).nats) → (nats : List (ℕ × Option Cidr)) → (net_of p n).nats ≡ nats →
    ◌≡◌ {A = Option (Option Cidr)} (Some o) (option_map (λ nat. nat.1) (find (λ nat. has tags nat.0) nats)) → IsTrue (keeps_length (net_of p n).own o)
kept_length p n tags o all nats e found =
    find_keeps (keeps_length (net_of p n).own) (λ nat. has tags nat.0) nats (subst (λ ns. list_all (λ nat. keeps_length (net_of p n).own nat.1) ns ≡ true) e all) o (sym found)
