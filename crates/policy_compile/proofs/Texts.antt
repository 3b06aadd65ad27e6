-- Counts, and texts put one behind the other.
use Rattle.std.proofs.Common.{◌≡◌, ℕ, suc, Bool, true, false, cond, List, [], ◌∷◌, ◌++◌, length, map, refl, ap, ◌∙◌}
use Rattle.std.specs.Prelude.{codes, filter}
use Rattle.policy_outcome.specs.Outcome.{Counts, summary_text, count_line}

pub length-filter_map : {A B : Type 0} (f : A → B) (p : B → Bool) (xs : List A) → length (filter p (map f xs)) ≡ length (filter (λ x. p (f x)) xs)
length-filter_map f p [] = refl
length-filter_map {A} {B} f p (x ∷ xs) = by (p (f x)) (length-filter_map f p xs)
  where
    by : (b : Bool) → length (filter p (map f xs)) ≡ length (filter (λ y. p (f y)) xs) →
        length (cond b (f x ∷ filter p (map f xs)) (filter p (map f xs))) ≡ length (cond b (x ∷ filter (λ y. p (f y)) xs) (filter (λ y. p (f y)) xs))
    by true ih = ap suc ih
    by false ih = ih

pub summary_is_put : (c : Counts) (o0 o1 o2 o3 o4 o5 o6 o7 : List ℕ) → o0 ≡ [] →
    o1 ≡ o0 ++ count_line (codes "networks ") c.networks → o2 ≡ o1 ++ count_line (codes "zones ") c.zones → o3 ≡ o2 ++ count_line (codes "routers ") c.routers → o4 ≡ o3 ++ count_line (codes "permits ") c.permits →
    o5 ≡ o4 ++ count_line (codes "local ") c.local → o6 ≡ o5 ++ count_line (codes "lines ") c.lines → o7 ≡ o6 ++ count_line (codes "routes ") c.routes → o7 ≡ summary_text c
unfolding summary_text
summary_is_put c o0 o1 o2 o3 o4 o5 o6 o7 e0 e1 e2 e3 e4 e5 e6 e7 =
    e7 ∙ ap (λ l. l ++ count_line (codes "routes ") c.routes) (e6 ∙ ap (λ l. l ++ count_line (codes "lines ") c.lines) (e5 ∙ ap (λ l. l ++ count_line (codes "local ") c.local)
    (e4 ∙ ap (λ l. l ++ count_line (codes "permits ") c.permits) (e3 ∙ ap (λ l. l ++ count_line (codes "routers ") c.routers) (e2 ∙ ap (λ l. l ++ count_line (codes "zones ") c.zones) (e1 ∙ ap (λ l. l ++ count_line (codes "networks ") c.networks) e0))))))

counts : ℕ → ℕ → ℕ → ℕ → ℕ → ℕ → Counts
counts n z r p l k = record { networks = n; zones = z; routers = r; permits = p; local = l; lines = k; routes = 0 }

pub same_counts : (n n' z z' r r' p p' l l' k k' : ℕ) → n ≡ n' → z ≡ z' → r ≡ r' → p ≡ p' → l ≡ l' → k ≡ k' →
    ◌≡◌ {A = Counts} (record { networks = n; zones = z; routers = r; permits = p; local = l; lines = k; routes = 0 }) (record { networks = n'; zones = z'; routers = r'; permits = p'; local = l'; lines = k'; routes = 0 })
unfolding counts
same_counts n n' z z' r r' p p' l l' k k' a b c d e f =
    ap (λ m. counts m z r p l k) a ∙ ap (λ m. counts n' m r p l k) b ∙ ap (λ m. counts n' z' m p l k) c ∙ ap (λ m. counts n' z' r' m l k) d ∙ ap (λ m. counts n' z' r' p' m k) e
    ∙ ap (λ m. counts n' z' r' p' l' m) f
