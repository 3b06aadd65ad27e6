-- The lists of the interfaces, one after another.
use Rattle.std.proofs.Common.{◌≡◌, ℕ, suc, ◌+◌, ◌-◌, ◌<◌, ◌≤◌, Bool, true, false, cond, List, [], ◌∷◌, ◌++◌, length, map, filter, drop, refl, sym, ap, ◌∙◌, ⊎_elim, append_assoc, arith}
use Rattle.std.specs.Prelude.{slice_index_or}
use Rattle.std.specs.List.{range_with_len}
use Rattle.std.proofs.Math.ListN.{drop_of_length-le}
use Rattle.std.proofs.lemmas.Bool.{cases_lt}
use Rattle.std.proofs.lemmas.List.{map_push, drop_more}
use Rattle.policy_model.specs.Policy.{Policy, router_at, is_managed}
use Rattle.policy_model.specs.Zones.{Site}
use Rattle.policy_model.specs.Tags.{Views}
use Rattle.policy_model.specs.Permits.{Permit}
use Rattle.policy_model.specs.Filters.{Line}
use Rattle.policy_model.specs.Blocks.{Block, placement, list_at}
use Rattle.policy_model.specs.Headline.{Meaning, permits_in}
use Rattle.permit_set.specs.declared.block.Placement.{Placement}
use Rattle.dev_config.specs.declared.setup.List.{List as CodeList}
use Rattle.dev_config.specs.Seen.{lines_of}
use Rattle.rule_distribute.specs.Distributed.{placed_seen}
use Rattle.acl_build.specs.Seen.{placement_seen}
use Rattle.policy_outcome.specs.Outcome.{list_for, lists_for}
use Rattle.policy_lists.specs.Coming.{ifaces_from, placed_in, ArePlacedFrom}

-- ---- the interfaces to come

pub next_iface : (p : Policy) (i : ℕ) → i < length p.ifaces → ifaces_from p i ≡ i ∷ ifaces_from p (i + 1)
next_iface p i below = let e : length p.ifaces - i ≡ suc (length p.ifaces - (i + 1)) = omega (arith, below) in ap (range_with_len i) e

pub no_iface_left : (p : Policy) (i : ℕ) → length p.ifaces ≤ i → ifaces_from p i ≡ []
no_iface_left p i past = let e : length p.ifaces - i ≡ 0 = omega (arith, past) in ap (range_with_len i) e

pub all_from_start : (p : Policy) → ifaces_from p 0 ≡ range_with_len 0 (length p.ifaces)
all_from_start p = let e : length p.ifaces - 0 ≡ length p.ifaces = omega arith in ap (range_with_len 0) e

-- ---- placements

module _ (m : Meaning) where
  abbrev is_listed : ℕ → Bool
  is_listed k = is_managed m.site.policy (router_at m.site.policy k)

  abbrev placed_for : List ℕ → List (ℕ × List Block)
  placed_for ks = map (placed_in m) (filter is_listed ks)

  at_start : (places : List Placement) → map placed_seen places ≡ placed_for (range_with_len 0 (length m.site.policy.ifaces)) → ArePlacedFrom m 0 places
  at_start places e = e ∙ sym (ap placed_for (all_from_start m.site.policy))

  step : (i : ℕ) (rest : List ℕ) (b : Bool) → is_listed i ≡ b → placed_for (i ∷ rest) ≡ cond b (placed_in m i ∷ placed_for rest) (placed_for rest)
  step i rest true h = ap (λ b. map (placed_in m) (cond b (i ∷ filter is_listed rest) (filter is_listed rest))) h
  step i rest false h = ap (λ b. map (placed_in m) (cond b (i ∷ filter is_listed rest) (filter is_listed rest))) h

  -- an interface of a router that isn't managed takes no placement
  pub passed_over : (i : ℕ) (places : List Placement) → i < length m.site.policy.ifaces → is_listed i ≡ false → ArePlacedFrom m i places → ArePlacedFrom m (i + 1) places
  passed_over i places below bare placed = placed ∙ (ap placed_for (next_iface m.site.policy i below) ∙ step i (ifaces_from m.site.policy (i + 1)) false bare)

  -- another one takes the next
  comes_next : (i : ℕ) (places : List Placement) → i < length m.site.policy.ifaces → is_listed i ≡ true → ArePlacedFrom m i places →
      map placed_seen places ≡ placed_in m i ∷ placed_for (ifaces_from m.site.policy (i + 1))
  comes_next i places below listed placed = placed ∙ (ap placed_for (next_iface m.site.policy i below) ∙ step i (ifaces_from m.site.policy (i + 1)) true listed)

  pub one_is_left : (i next : ℕ) (places : List Placement) → i < length m.site.policy.ifaces → is_listed i ≡ true → ArePlacedFrom m i (drop next places) → next < length places
  one_is_left i next places below listed placed =
      ⊎_elim (λ (here : next < length places). here)
      (λ (past : length places ≤ next).
      let e = sym (ap (map placed_seen) (drop_of_length-le places past)) ∙ comes_next i (drop next places) below listed placed in absurd (none_is e)) (cases_lt next (length places))
    where
      none_is : {A : Type 0} {x : A} {xs : List A} → ◌≡◌ {A = List A} [] (x ∷ xs) → ⊥
      none_is e = cc

  pub record IsTaken (i next : ℕ) (places : List Placement) (place : Placement) : Type 0 where
    pub is : placed_seen place ≡ placed_in m i
    pub rest : ArePlacedFrom m (i + 1) (drop (next + 1) places)

  pub taken : (i next : ℕ) (places : List Placement) (place : Placement) → i < length m.site.policy.ifaces → is_listed i ≡ true → ArePlacedFrom m i (drop next places) →
      place ≡ slice_index_or places next place → IsTaken i next places place
  taken i next places place below listed placed at =
      let there = one_is_left i next places below listed placed in
      let e : placed_seen place ∷ map placed_seen (drop (next + 1) places) ≡ placed_in m i ∷ placed_for (ifaces_from m.site.policy (i + 1)) =
      ap (λ x. placed_seen x ∷ map placed_seen (drop (next + 1) places)) at ∙ (sym (ap (map placed_seen) (drop_more places next place there)) ∙ comes_next i (drop next places) below listed placed) in
      record { is = cc; rest = cc }

  -- ---- lists

  pub list_is_for : (i : ℕ) (lines : List Line) → is_listed i ≡ true → lines ≡ list_at m.site m.views (permits_in m) i → lines ≡ list_for m i
  list_is_for i lines listed e = e ∙ sym (ap (λ b. cond b (list_at m.site m.views (permits_in m) i) []) listed)

  pub none_is_for : (i : ℕ) → is_listed i ≡ false → [] ≡ list_for m i
  none_is_for i bare = sym (ap (λ b. cond b (list_at m.site m.views (permits_in m) i) []) bare)

  pub record AreListed (i : ℕ) (lists : List CodeList) : Type 0 where
    pub to_come : map lines_of lists ++ map (list_for m) (ifaces_from m.site.policy i) ≡ lists_for m

  pub one_more_listed : (i : ℕ) (lists new : List CodeList) (list : CodeList) → i < length m.site.policy.ifaces → new ≡ lists ++ list ∷ [] → lines_of list ≡ list_for m i →
      AreListed i lists → AreListed (i + 1) new
  one_more_listed i lists new list below grown is so_far =
      let rest = map (list_for m) (ifaces_from m.site.policy (i + 1)) in
      record {
        to_come =
            ap (λ (xs : List CodeList). map lines_of xs ++ rest) grown
            ∙ (ap (λ (xs : List (List Line)). xs ++ rest) (map_push lines_of lists list)
            ∙ (append_assoc (map lines_of lists) (lines_of list ∷ []) rest
            ∙ (ap (λ (ls : List Line). map lines_of lists ++ ls ∷ rest) is
            ∙ (sym (ap (λ (ks : List ℕ). map lines_of lists ++ map (list_for m) ks) (next_iface m.site.policy i below)) ∙ so_far.to_come))));
      }

  pub all_listed : (i : ℕ) (lists : List CodeList) → length m.site.policy.ifaces ≤ i → AreListed i lists → map lines_of lists ≡ lists_for m
  all_listed i lists past so_far =
      sym (append_nil (map lines_of lists)) ∙ (sym (ap (λ (ks : List ℕ). map lines_of lists ++ map (list_for m) ks) (no_iface_left m.site.policy i past)) ∙ so_far.to_come)
    where
      append_nil : {A : Type 0} (xs : List A) → xs ++ [] ≡ xs
      append_nil [] = refl
      append_nil (x ∷ xs) = ap (λ ys. x ∷ ys) (append_nil xs)

-- ---- what is found along the way is the meaning's

module _ (m : Meaning) (s : Site) (v : Views) (permits : List Permit) (site : s ≡ m.site) (views : v ≡ m.views) (expanded : permits ≡ permits_in m) where
  same_at : {A : Type 0} (f : Site → Views → List Permit → ℕ → A) (i j : ℕ) → j ≡ i → f s v permits j ≡ f m.site m.views (permits_in m) i
  same_at f i j e = ap (λ t. f t v permits j) site ∙ (ap (λ w. f m.site w permits j) views ∙ (ap (λ qs. f m.site m.views qs j) expanded ∙ ap (λ k. f m.site m.views (permits_in m) k) e))

  pub its_number : (place : Placement) (i : ℕ) → placed_seen place ≡ placed_in m i → place.iface.0 ≡ i
  its_number place i e = ap (λ (w : ℕ × List Block). w.0) e

  pub its_blocks : (place : Placement) (i : ℕ) → placed_seen place ≡ placed_in m i → placement_seen place ≡ placement s v permits place.iface.0
  its_blocks place i e = ap (λ (w : ℕ × List Block). w.1) e ∙ sym (same_at placement i place.iface.0 (its_number place i e))

  pub its_list : (place : Placement) (i : ℕ) → placed_seen place ≡ placed_in m i → list_at s v permits place.iface.0 ≡ list_at m.site m.views (permits_in m) i
  its_list place i e = same_at list_at i place.iface.0 (its_number place i e)

  pub placed_from_start : (places : List Placement) → map placed_seen places ≡ map (λ i. (i, placement s v permits i)) (filter (λ i. is_managed s.policy (router_at s.policy i)) (range_with_len 0 (length s.policy.ifaces))) →
      ArePlacedFrom m 0 places
  placed_from_start places e =
      let same : map (λ i. (i, placement s v permits i)) (filter (λ i. is_managed s.policy (router_at s.policy i)) (range_with_len 0 (length s.policy.ifaces)))
      ≡ placed_for m (range_with_len 0 (length m.site.policy.ifaces)) =
      ap (λ (t : Site). map (λ i. (i, placement t v permits i)) (filter (λ i. is_managed t.policy (router_at t.policy i)) (range_with_len 0 (length t.policy.ifaces)))) site
      ∙ (ap (λ (w : Views). map (λ i. (i, placement m.site w permits i)) (filter (is_listed m) (range_with_len 0 (length m.site.policy.ifaces)))) views
      ∙ ap (λ (qs : List Permit). map (λ i. (i, placement m.site m.views qs i)) (filter (is_listed m) (range_with_len 0 (length m.site.policy.ifaces)))) expanded) in
      at_start m places (e ∙ same)
