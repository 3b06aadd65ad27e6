-- Ends and permits that are gathered in loops.
use Rattle.std.proofs.Common.{◌≡◌, ◌∙◌, ℕ, ◌+◌, ◌<◌, ◌≤◌, length, drop, slice_index_or, Bool, true, false, cond, List, [], ◌∷◌, ◌++◌, map, flat_map, refl, sym, ap, append_assoc, append-nil}
use Rattle.std.specs.Prelude.{filter}
use Rattle.policy_model.specs.Policy.{Policy}
use Rattle.policy_model.specs.Zones.{Site, zone_of, nets_in}
use Rattle.policy_model.specs.Objects.{Object, NetObject}
use Rattle.service_rules.proofs.Rules.{left_at, nothing_left}
use Rattle.policy_model.specs.Permits.{End, net_end, ends_of}
use Rattle.service_rules.specs.Ends.{is_nested}
use Rattle.permit_set.specs.declared.permit.End as code
use Rattle.permit_set.specs.Shown.{end_of}
use Rattle.std.proofs.lemmas.List.{map-append}

-- the other networks of some that lie inside the prefix of a network
abbrev pub nested_ends : Policy → ℕ → List ℕ → List End
nested_ends p n ms = map (net_end p) (filter (is_nested p n) ms)

-- one more
pub nested_more : (p : Policy) (n m : ℕ) (ms : List ℕ) (old new : List End) → new ≡ cond (is_nested p n m) (old ++ net_end p m ∷ []) old → new ++ nested_ends p n ms ≡ old ++ nested_ends p n (m ∷ ms)
nested_more p n m ms old new e = ap (λ (l : List End). l ++ nested_ends p n ms) e ∙ by (is_nested p n m)
  where
    by : (b : Bool) → cond b (old ++ net_end p m ∷ []) old ++ nested_ends p n ms ≡ old ++ map (net_end p) (cond b (m ∷ filter (is_nested p n) ms) (filter (is_nested p n) ms))
    by true = append_assoc old (net_end p m ∷ []) (nested_ends p n ms)
    by false = refl

-- a network, with the others to come
pub net_first : (s : Site) (n : ℕ) (old new : List End) (row : List ℕ) → new ≡ old ++ net_end s.policy n ∷ [] → row ≡ nets_in s (zone_of s n) →
    new ++ nested_ends s.policy n row ≡ old ++ ends_of s (NetObject n)
net_first s n old new row e f =
    ap (λ (l : List End). l ++ nested_ends s.policy n row) e ∙ (append_assoc old (net_end s.policy n ∷ []) (nested_ends s.policy n row)
    ∙ ap (λ (l : List ℕ). old ++ net_end s.policy n ∷ nested_ends s.policy n l) f)

-- what one item gives, behind what there was
pub flat_more : {A B : Type 0} (f : A → List B) (x : A) (xs : List A) (old new : List B) → new ≡ old ++ f x → new ++ flat_map f xs ≡ old ++ flat_map f (x ∷ xs)
flat_more f x xs old new e = ap (λ l. l ++ flat_map f xs) e ∙ append_assoc old (f x) (flat_map f xs)

pub ends_pushed : (old new : List code.End) (x : code.End) (e : End) → new ≡ old ++ x ∷ [] → end_of x ≡ e → map end_of new ≡ map end_of old ++ e ∷ []
ends_pushed old new x e made is = ap (map end_of) made ∙ (map-append end_of old (x ∷ []) ∙ ap (λ (y : End). map end_of old ++ y ∷ []) is)

-- one object's ends behind those that there were
pub object_more : {A : Type 0} (seen : A → Object) (s : Site) (xs : List A) (k : ℕ) (d : A) (old new all : List End) → k < length xs → new ≡ old ++ ends_of s (seen (slice_index_or xs k d)) →
    old ++ flat_map (ends_of s) (map seen (drop k xs)) ≡ all → new ++ flat_map (ends_of s) (map seen (drop (k + 1) xs)) ≡ all
object_more {A} seen s xs k d old new all h e so_far =
    flat_more (ends_of s) (seen (slice_index_or xs k d)) (map seen (drop (k + 1) xs)) old new e
    ∙ (ap (λ (l : List A). old ++ flat_map (ends_of s) (map seen l)) (sym (left_at xs k d h)) ∙ so_far)

pub objects_end : {A : Type 0} (seen : A → Object) (s : Site) (xs : List A) (k : ℕ) (found all : List End) → length xs ≤ k → found ++ flat_map (ends_of s) (map seen (drop k xs)) ≡ all → found ≡ all
objects_end {A} seen s xs k found all h so_far =
    sym (ap (λ (l : List A). found ++ flat_map (ends_of s) (map seen l)) (nothing_left xs k h) ∙ append-nil found) ∙ so_far

-- one network of a row more
pub nested_on : {T : Type 0} (number : T → ℕ) (p : Policy) (n : ℕ) (row : List T) (k : ℕ) (d : T) (old new all : List End) → k < length row →
    new ≡ cond (is_nested p n (number (slice_index_or row k d))) (old ++ net_end p (number (slice_index_or row k d)) ∷ []) old → old ++ nested_ends p n (map number (drop k row)) ≡ all →
    new ++ nested_ends p n (map number (drop (k + 1) row)) ≡ all
nested_on {T} number p n row k d old new all h e so_far =
    nested_more p n (number (slice_index_or row k d)) (map number (drop (k + 1) row)) old new e
    ∙ (ap (λ (l : List T). old ++ nested_ends p n (map number l)) (sym (left_at row k d h)) ∙ so_far)

pub nested_end : {T : Type 0} (number : T → ℕ) (p : Policy) (n : ℕ) (row : List T) (k : ℕ) (found all : List End) → length row ≤ k → found ++ nested_ends p n (map number (drop k row)) ≡ all → found ≡ all
nested_end {T} number p n row k found all h so_far =
    sym (ap (λ (l : List T). found ++ nested_ends p n (map number l)) (nothing_left row k h) ∙ append-nil found) ∙ so_far
