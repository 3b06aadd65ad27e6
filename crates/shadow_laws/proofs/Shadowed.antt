-- The test of a shadowed address decides what policy_model says of it.
use Rattle.std.proofs.Common.{◌≡◌, ℕ, zero, suc, ◌+◌, ◌-◌, ◌<◌, ◌≤◌, inl, inr, Bool, true, false, not, List, length, Option, Some, None, refl, ap, ◌∙◌, ⊎_elim, arith}
use Rattle.std.specs.Prelude.{◌==◌, nat_le, option_map, option_and_then, is_some}
use Rattle.std.specs.Option.{option_map_or}
use Rattle.std.specs.List.{list_any, range_with_len}
use Rattle.std.proofs.lemmas.Bool.{and_parts, and_from, eqb-true, eq-eqb, ne_eqb, leb-true, le-leb, not-true, not_from_false, both_ways, false≢true, cases_eq}
use Rattle.spoc_base.specs.Address.{Interval, within}
use Rattle.policy_model.specs.Policy.{Policy, host_of, net_at}
use Rattle.policy_model.specs.Places.{translated_address, is_number, place}
use Rattle.policy_model.specs.Permits.{one_address}
use Rattle.policy_model.specs.Faults.{IsShadowed}
use Rattle.policy_model.specs.FirstFault.{HasFault, IsIfaceShadowed, ViewPlace, view_at, is_there, address_at}
use Rattle.policy_model.specs.Headline.{Meaning}
use Rattle.policy_model.proofs.AllWalks.{IsIn}
use Rattle.list_laws.proofs.Members.{some_in, some_of}
use Rattle.policy_laws.proofs.Placed.{from_numbers, placed_at}
use Rattle.shadow_laws.specs.Shadows.{addresses_in, lies_at, is_shadowed, Holder, OfHost, OfIface, is_holder_shadowed, shadow_of}

-- ---- words

is_the_number : (o : Option ℕ) (m : ℕ) → is_number o m ≡ true → o ≡ Some m
is_the_number None m h = absurd (false≢true h)
is_the_number (Some k) m h = ap Some (eqb-true k m h)

number_is : (o : Option ℕ) (m : ℕ) → o ≡ Some m → is_number o m ≡ true
number_is o m e = ap (λ (x : Option ℕ). is_number x m) e ∙ eq-eqb m m refl

in_range : (a n k : ℕ) → a ≤ k → k < a + n → IsIn k (range_with_len a n)
in_range a zero k low high = absurd (omega arith)
in_range a (suc n) k low high = ⊎_elim (λ e. inl e) (λ ne. inr (in_range (a + 1) n k (omega arith) (omega arith))) (cases_eq k a)

in_addresses : (r : Interval) (a : ℕ) → within r a ≡ true → IsIn a (addresses_in r)
in_addresses r a h =
    let w = and_parts (nat_le r.first a) (nat_le a r.last) h in
    let low = leb-true r.first a w.0 in
    let high = leb-true a r.last w.1 in
    in_range r.first (suc r.last - r.first) a low (omega (arith, low, high))

from_addresses : (r : Interval) (a : ℕ) → IsIn a (addresses_in r) → within r a ≡ true
from_addresses r a i =
    let w = from_numbers r.first (suc r.last - r.first) a i in
    let low = w.0 in
    let high = w.1 in
    and_from (nat_le r.first a) (nat_le a r.last) (le-leb r.first a low) (le-leb a r.last (omega (arith, low, high)))

-- ---- a range of addresses

module _ (p : Policy) (view : List ℕ) where
  pub to_shadowed : (n : ℕ) (range : Interval) (m : ℕ) → is_shadowed p view n range m ≡ true → IsShadowed p view n range m
  to_shadowed n range m h =
      let a = and_parts (not (m == n)) (list_any (lies_at p view n m) (addresses_in range)) h in
      let w = some_in (lies_at p view n m) (addresses_in range) a.1 in
      record {
        address = w.0;
        inside = from_addresses range w.0 w.1;
        placed = is_the_number (option_and_then (place p view) (translated_address p view n w.0)) m w.2;
        elsewhere = λ e. both_ways (m == n) (not-true (m == n) a.0) (eq-eqb m n e);
      }

  pub from_shadowed : (n : ℕ) (range : Interval) (m : ℕ) → IsShadowed p view n range m → is_shadowed p view n range m ≡ true
  from_shadowed n range m s =
      and_from (not (m == n)) (list_any (lies_at p view n m) (addresses_in range)) (not_from_false (m == n) (ne_eqb m n s.elsewhere))
      (some_of (lies_at p view n m) s.address (addresses_in range) (in_addresses range s.address s.inside)
      (number_is (option_and_then (place p view) (translated_address p view n s.address)) m s.placed))

  -- The other network is there.
  placed_below : (o : Option ℕ) (m : ℕ) → option_and_then (place p view) o ≡ Some m → m < length p.nets
  placed_below None m e = absurd (false≢true (ap is_some e))
  placed_below (Some a) m e = (placed_at p view a m e).below

  shadow_below : (n : ℕ) (range : Interval) (m : ℕ) → IsShadowed p view n range m → m < length p.nets
  shadow_below n range m s = placed_below (translated_address p view n s.address) m s.placed

  -- ---- a host or an interface

  abbrev pub IsHolderShadowed : Holder → ℕ → Type 0
  IsHolderShadowed (OfHost h) m = IsShadowed p view (host_of p h).net (host_of p h).range m
  IsHolderShadowed (OfIface i shared) m = IsIfaceShadowed p view i shared m

  abbrev by_address : ℕ → ℕ → Option ℕ → Bool
  by_address i m o = option_map_or (λ range. is_shadowed p view (net_at p i) range m) (option_map one_address o) false

  some_address : (i m : ℕ) (o : Option ℕ) → by_address i m o ≡ true → (a : ℕ) × (o ≡ Some a) × (is_shadowed p view (net_at p i) (one_address a) m ≡ true)
  some_address i m None h = absurd (false≢true h)
  some_address i m (Some a) h = (a, refl, h)

  pub to_holder : (holder : Holder) (m : ℕ) → is_holder_shadowed p view holder m ≡ true → IsHolderShadowed holder m
  to_holder (OfHost h) m t = to_shadowed (host_of p h).net (host_of p h).range m t
  to_holder (OfIface i shared) m t =
      let w = some_address i m (address_at p i shared) t in
      record { address = w.0; its = w.1; shadowed = to_shadowed (net_at p i) (one_address w.0) m w.2 }

  pub from_holder : (holder : Holder) (m : ℕ) → IsHolderShadowed holder m → is_holder_shadowed p view holder m ≡ true
  from_holder (OfHost h) m s = from_shadowed (host_of p h).net (host_of p h).range m s
  from_holder (OfIface i shared) m s = ap (by_address i m) s.its ∙ from_shadowed (net_at p i) (one_address s.address) m s.shadowed

  pub holder_below : (holder : Holder) (m : ℕ) → IsHolderShadowed holder m → m < length p.nets
  holder_below (OfHost h) m s = shadow_below (host_of p h).net (host_of p h).range m s
  holder_below (OfIface i shared) m s = shadow_below (net_at p i) (one_address s.address) m s.shadowed

-- ---- as a fault

abbrev pub IsHolderThere : Policy → Holder → Type 0
IsHolderThere p (OfHost h) = h < length p.hosts
IsHolderThere p (OfIface i shared) = i < length p.ifaces

-- what the fault says
abbrev pub Says : Meaning → ViewPlace → Holder → ℕ → Type 0
Says m at holder n = IsHolderThere m.site.policy holder × (is_there m.site at ≡ true) × IsHolderShadowed m.site.policy (view_at m.views at) holder n

pub has_shadow : (m : Meaning) (at : ViewPlace) (holder : Holder) (n : ℕ) → Says m at holder n → HasFault m (shadow_of holder n at)
has_shadow m at (OfHost h) n s = s
has_shadow m at (OfIface i shared) n s = s

pub shadow_says : (m : Meaning) (at : ViewPlace) (holder : Holder) (n : ℕ) → HasFault m (shadow_of holder n at) → Says m at holder n
shadow_says m at (OfHost h) n f = f
shadow_says m at (OfIface i shared) n f = f
