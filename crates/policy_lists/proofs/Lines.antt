-- What is left of the limit of lines, interface by interface.
use Rattle.std.proofs.Common.{◌≡◌, ℕ, ◌+◌, ◌<◌, ◌≤◌, Bool, true, false, cond, List, [], ◌∷◌, length, map, refl, sym, ap, subst, ◌∙◌, arith}
use Rattle.std.specs.Prelude.{filter, sum}
use Rattle.std.proofs.lemmas.List.Sums.{sum-map, sum_by-cons}
use Rattle.spoc_base.specs.declared.fault.Refusal.{Refusal}
use Rattle.spoc_base.specs.declared.fault.Refusal.TheVariants as refusal
use Rattle.policy_model.specs.FirstFault.{most_items}
use Rattle.policy_model.specs.Headline.{Meaning, permits_in}
use Rattle.policy_model.specs.Blocks.{list_at}
use Rattle.policy_model.specs.Policy.{router_at, is_managed}
use Rattle.acl_build.specs.Limit.{RefusesLines}
use Rattle.policy_outcome.specs.Outcome.{list_for}
use Rattle.policy_lists.specs.Coming.{ifaces_from}
use Rattle.policy_lists.specs.Walking.{line_total}
use Rattle.policy_lists.proofs.Interfaces.{next_iface, no_iface_left, all_from_start}

module _ (m : Meaning) where
  abbrev is_listed : ℕ → Bool
  is_listed k = is_managed m.site.policy (router_at m.site.policy k)

  abbrev count_at : ℕ → ℕ
  count_at k = length (list_at m.site m.views (permits_in m) k)

  -- how many lines the lists of some interfaces have
  abbrev count_of : List ℕ → ℕ
  count_of ks = sum (map count_at (filter is_listed ks))

  one_list : (k : ℕ) (rest : List ℕ) → count_of (k ∷ rest) ≡ length (list_for m k) + count_of rest
  one_list k rest = go (is_listed k) refl
    where
      more : (ks : List ℕ) → sum (map count_at (k ∷ ks)) ≡ count_at k + sum (map count_at ks)
      more ks = sum-map count_at (k ∷ ks) ∙ (sum_by-cons count_at k ks ∙ ap (λ n. count_at k + n) (sym (sum-map count_at ks)))

      none : (n : ℕ) → 0 + n ≡ n
      none n = omega arith

      go : (b : Bool) → is_listed k ≡ b → count_of (k ∷ rest) ≡ length (list_for m k) + count_of rest
      go true e =
          ap (λ c. sum (map count_at (cond c (k ∷ filter is_listed rest) (filter is_listed rest)))) e
          ∙ (more (filter is_listed rest) ∙ sym (ap (λ c. length (cond c (list_at m.site m.views (permits_in m) k) []) + count_of rest) e))
      go false e =
          ap (λ c. sum (map count_at (cond c (k ∷ filter is_listed rest) (filter is_listed rest)))) e
          ∙ sym (ap (λ c. length (cond c (list_at m.site m.views (permits_in m) k) []) + count_of rest) e ∙ none (count_of rest))

  -- What is left, with the lines of all lists that are made, is the limit.
  pub record IsLeft (i left : ℕ) : Type 0 where
    pub spent : ℕ
    pub used : left + spent ≡ most_items
    pub all : spent + count_of (ifaces_from m.site.policy i) ≡ line_total m

  pub left_at_start : IsLeft 0 most_items
  left_at_start = record { spent = 0; used = omega arith; all = let e = ap count_of (all_from_start m.site.policy) in omega (arith, e) }

  pub left_after : (i left new : ℕ) → i < length m.site.policy.ifaces → new + length (list_for m i) ≡ left → IsLeft i left → IsLeft (i + 1) new
  left_after i left new below taken so_far =
      let used = so_far.used in
      let all = so_far.all in
      let next = ap count_of (next_iface m.site.policy i below) ∙ one_list i (ifaces_from m.site.policy (i + 1)) in
      record { spent = so_far.spent + length (list_for m i); used = omega (arith, used, taken); all = omega (arith, all, next) }

  pub left_over : (i left : ℕ) → i < length m.site.policy.ifaces → IsLeft i left → left < length (list_for m i) → most_items < line_total m
  left_over i left below so_far many =
      let used = so_far.used in
      let all = so_far.all in
      let next = ap count_of (next_iface m.site.policy i below) ∙ one_list i (ifaces_from m.site.policy (i + 1)) in
      omega (arith, used, all, next, many)

  pub left_enough : (i left : ℕ) → IsLeft i left → length m.site.policy.ifaces ≤ i → line_total m ≤ most_items
  left_enough i left so_far past =
      let used = so_far.used in
      let all = so_far.all in
      let none = ap count_of (no_iface_left m.site.policy i past) in
      omega (arith, used, all, none)

  pub refused_at : (i left : ℕ) (r : Refusal) → i < length m.site.policy.ifaces → IsLeft i left → RefusesLines left (length (list_for m i)) r → RefusesLines most_items (line_total m) r
  refused_at i left (refusal.Policy f) below so_far h = (h.0, left_over i left below so_far h.1)
  refused_at i left refusal.Memory below so_far h = tt
