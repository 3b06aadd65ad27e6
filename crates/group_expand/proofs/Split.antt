-- The first area that is split, and how it is told.
use Rattle.std.proofs.Common.{◌≡◌, ℕ, ◌+◌, ◌<◌, Bool, true, false, not, ◌&&◌, ◌||◌, List, [], ◌∷◌, ◌++◌, length, refl, sym, ap, subst, ◌∙◌, ⊎_elim, arith, slice_index_or}
use Rattle.std.specs.Prelude.{◌==◌, nat_lt, IsTrue}
use Rattle.std.proofs.lemmas.Bool.{cases_Bool, cases_eq, false≢true, ltb-true, eqb-true, or_cases, and_parts}
use Rattle.std.proofs.lemmas.List.{get_or_append_left, length-append, map-append}
use Rattle.std.proofs.Math.Seq.{get_or-append_seam}
use Rattle.spoc_base.specs.declared.place.Source.{Source}
use Rattle.spoc_base.specs.declared.place.Kind.{Kind}
use Rattle.spoc_base.specs.declared.place.Named.{Named}
use Rattle.spoc_base.specs.declared.fault.Fault.{Fault}
use Rattle.policy_model.specs.Lists.{has}
use Rattle.policy_model.specs.Policy.{Policy, area_of, router_of, net_of, router_at, net_at}
use Rattle.policy_model.specs.Zones.{Site, zone_at}
use Rattle.policy_model.specs.Objects.{AreAreas, area_zones}
use Rattle.policy_model.specs.Headline.{Meaning, permits_in}
use Rattle.policy_model.specs.FirstFault.{FaultCase, AreaSplit, NatConflict, NatTwice, NatInside, LimitViews, SamePrefix, HostShadowed, IfaceShadowed, ManagedEnd, LimitPermits, NoPath, HiddenEnd, LimitLines, LimitRoutes, NoHopAddress, AmbiguousHop, HasFault, is_lower, order_of}
use Rattle.topology.specs.First.{IsWithin, TellsFirst}
use Rattle.topology.specs.Told.{IsTold, IsNameOf}
use Rattle.topology.specs.Texts.{IsCalled, IsIfaceCalled, name_at}
use Rattle.group_expand.specs.Areas.{IsAreaRow, IsFirst, is_cut_off, AreFirstRows, AreWhole}
use Rattle.group_expand.proofs.SetLaws.{same_bool}
use Rattle.std.specs.Prelude.{Vec}
use Rattle.spoc_base.specs.declared.ids.IfId.{IfId}
use Rattle.spoc_base.specs.declared.ids.ZoneId.{ZoneId}
use Rattle.spoc_base.specs.declared.fault.Refusal.{Refusal}
use Rattle.spoc_base.specs.declared.fault.Refusal.TheVariants as refusal
use Rattle.topology.specs.First.{IsRefusalOf}
use Rattle.group_expand.specs.Areas.{FailsArea}
use Rattle.group_expand.specs.Seen.{rows_of, numbers_of}
use Rattle.group_expand.specs.declared.area.AreaFail.{AreaFail}
use Rattle.group_expand.specs.declared.area.AreaFail.TheVariants as fail

-- ---- rows

same_row : (s : Site) (k : ℕ) (row other : List ℕ) → IsAreaRow s k row → IsAreaRow s k other → (z : ℕ) → has row z ≡ has other z
same_row s k row other a b z = same_bool (has row z) (has other z) (λ h. (b.zones z).1 ((a.zones z).0 h)) (λ h. (a.zones z).1 ((b.zones z).0 h))

row_in : (s : Site) (areas : List (List ℕ)) → AreAreas s areas → (k : ℕ) → k < length s.policy.areas → IsAreaRow s k (area_zones areas k)
row_in s areas are k h = let there : k < length areas = omega (arith, are.each, h) in record { ascending = are.ascending k there; zones = λ z. are.zones k z there }

pub all_rows : (s : Site) (rows : List (List ℕ)) (count : ℕ) → count ≡ length s.policy.areas → AreFirstRows s rows count → AreAreas s rows
all_rows s rows count e first =
    record {
      each = first.each ∙ e;
      ascending = λ k h. (first.its k (omega (arith, h, first.each))).ascending;
      zones = λ k z h. (first.its k (omega (arith, h, first.each))).zones z;
    }

pub all_whole : (s : Site) (rows : List (List ℕ)) (count : ℕ) → count ≡ length s.policy.areas → AreFirstRows s rows count → AreWhole s rows
all_whole s rows count e first k i h = first.whole k i (omega (arith, h, e))

pub no_rows : (s : Site) → AreFirstRows s [] 0
no_rows s = record { each = refl; its = λ k h. absurd (omega (arith, h)); whole = λ k i h. absurd (omega (arith, h)) }

pub row_more : (s : Site) (rows new : List (List ℕ)) (row : List ℕ) (k : ℕ) → new ≡ rows ++ row ∷ [] → IsAreaRow s k row → ((i : ℕ) → is_cut_off s k row i ≡ false) →
    AreFirstRows s rows k → AreFirstRows s new (k + 1)
row_more s rows new row k e is whole old =
    subst (λ (r : List (List ℕ)). AreFirstRows s r (k + 1)) (sym e)
    (record {
      each = length-append rows (row ∷ []) ∙ ap (λ (n : ℕ). n + 1) old.each;
      its = λ j h. ⊎_elim (λ same. subst (λ (r : List ℕ). IsAreaRow s j r) (sym (at_end j same)) (subst (λ (x : ℕ). IsAreaRow s x row) (sym same) is))
          (λ other. let below : j < k = omega (arith, h, other) in subst (λ (r : List ℕ). IsAreaRow s j r) (sym (at_front j below)) (old.its j below)) (cases_eq j k);
      whole = λ j i h. ⊎_elim (λ same. ap (λ (r : List ℕ). is_cut_off s j r i) (at_end j same) ∙ subst (λ (x : ℕ). is_cut_off s x row i ≡ false) (sym same) (whole i))
          (λ other. let below : j < k = omega (arith, h, other) in ap (λ (r : List ℕ). is_cut_off s j r i) (at_front j below) ∙ old.whole j i below) (cases_eq j k);
    })
  where
    at_end : (j : ℕ) → j ≡ k → slice_index_or (rows ++ row ∷ []) j [] ≡ row
    at_end j same = ap (λ (x : ℕ). slice_index_or (rows ++ row ∷ []) x []) (same ∙ sym old.each) ∙ get_or-append_seam rows row [] []

    at_front : (j : ℕ) → j < k → slice_index_or (rows ++ row ∷ []) j [] ≡ slice_index_or rows j []
    at_front j below = get_or_append_left rows (row ∷ []) [] j (omega (arith, below, old.each))

-- ---- the fault

-- an area is split at a border, and the rows of the areas before it are known
pub record IsSplitAt (sources : List Source) (s : Site) (k i : ℕ) (fault : Fault) : Type 0 where
  pub rows : List (List ℕ)
  pub before : AreFirstRows s rows k
  pub there : k < length s.policy.areas
  pub fails : (row : List ℕ) → IsAreaRow s k row → IsFirst (is_cut_off s k row) i
  pub told : IsTold sources s (AreaSplit k i) fault

not_before : (k i l j : ℕ) → (k < l → ⊥) → (k ≡ l → i < j → ⊥) → (nat_lt k l || ((k == l) && (nat_lt i j || ((i == j) && false)))) ≡ false
not_before k i l j f g =
    ⊎_elim (λ t. absurd (⊎_elim (λ a. f (ltb-true k l a)) (λ b. let p = and_parts (k == l) (nat_lt i j || ((i == j) && false)) b in
    ⊎_elim (λ c. g (eqb-true k l p.0) (ltb-true i j c)) (λ d. false≢true (sym (never (i == j)) ∙ d)) (or_cases (nat_lt i j) ((i == j) && false) p.1))
    (or_cases (nat_lt k l) ((k == l) && (nat_lt i j || ((i == j) && false))) t)))
    (λ h. h) (cases_Bool (nat_lt k l || ((k == l) && (nat_lt i j || ((i == j) && false)))))
  where
    never : (b : Bool) → (b && false) ≡ false
    never true = refl
    never false = refl

module _ (sources : List Source) (m : Meaning) (k i : ℕ) (fault : Fault) (at : IsSplitAt sources m.site k i fault) (are : AreAreas m.site m.areas) where
  its : (l : ℕ) → l < length m.site.policy.areas → IsAreaRow m.site l (area_zones m.areas l)
  its l h = row_in m.site m.areas are l h

  earlier : (l j : ℕ) → l < k → is_cut_off m.site l (area_zones m.areas l) j ≡ true → ⊥
  earlier l j h t =
      let there : l < length m.site.policy.areas = omega (arith, h, at.there) in
      let same = same_row m.site l (slice_index_or at.rows l []) (area_zones m.areas l) (at.before.its l h) (its l there) (zone_at m.site j) in
      false≢true (sym (at.before.whole l j h) ∙ (ap (λ (b : Bool). has (area_of m.site.policy l).borders j && not b) same ∙ t))

  lower : (l j : ℕ) → l ≡ k → j < i → is_cut_off m.site l (area_zones m.areas l) j ≡ true → ⊥
  lower l j e h t =
      false≢true (sym ((at.fails (area_zones m.areas k) (its k at.there)).first j h) ∙ subst (λ (x : ℕ). is_cut_off m.site x (area_zones m.areas x) j ≡ true) e t)

  pub first_split : (g : FaultCase) → IsWithin 0 0 g → HasFault m g → IsTrue (not (is_lower (order_of (permits_in m) g) (order_of (permits_in m) (AreaSplit k i))))
  first_split (AreaSplit l j) w h = ap not (not_before l j k i (λ low. earlier l j low h.1) (λ same low. lower l j same low h.1))
  first_split (NatConflict tag zone) w h = absurd (omega (arith, w.upper))
  first_split (NatTwice net zone tag other) w h = absurd (omega (arith, w.upper))
  first_split (NatInside net tag) w h = absurd (omega (arith, w.upper))
  first_split LimitViews w h = absurd (omega (arith, w.upper))
  first_split (SamePrefix net other at) w h = absurd (omega (arith, w.upper))
  first_split (HostShadowed host net at) w h = absurd (omega (arith, w.upper))
  first_split (IfaceShadowed iface shared net at) w h = absurd (omega (arith, w.upper))
  first_split (ManagedEnd service iface) w h = absurd (omega (arith, w.upper))
  first_split LimitPermits w h = absurd (omega (arith, w.upper))
  first_split (NoPath src dst) w h = absurd (omega (arith, w.upper))
  first_split (HiddenEnd permit src dst net zone) w h = absurd (omega (arith, w.upper))
  first_split LimitLines w h = absurd (omega (arith, w.upper))
  first_split LimitRoutes w h = absurd (omega (arith, w.upper))
  first_split (NoHopAddress router net iface) w h = absurd (omega (arith, w.upper))
  first_split (AmbiguousHop router net one two) w h = absurd (omega (arith, w.upper))

  pub tells : TellsFirst sources m 0 0 fault
  tells =
      record {
        case = AreaSplit k i;
        first = record {
          within = record { lower = omega arith; upper = omega arith };
          there = (at.there, (at.fails (area_zones m.areas k) (its k at.there)).passes);
          first = first_split;
        };
        tells = at.told;
      }

pub tells_split : (sources : List Source) (s : Site) (k i : ℕ) (fault : Fault) → IsSplitAt sources s k i fault → (m : Meaning) → m.site ≡ s → AreAreas m.site m.areas →
    TellsFirst sources m 0 0 fault
tells_split sources s k i fault at m e are = tells sources m k i fault (subst (λ (t : Site). IsSplitAt sources t k i fault) (sym e) at) are

-- ---- names

pub is_name : (k : Kind) (sources : List Source) (name : List ℕ) (named : Named) → IsCalled k sources named → name ≡ name_at sources named → IsNameOf k sources name named
is_name k sources name named called e = record { is = called.is; lies = called.lies; text = sym (e ∙ ap (name_at sources) called.is) }

pub is_iface_name : (sources : List Source) (p : Policy) (i r n : ℕ) (named : Named) → router_at p i ≡ r → net_at p i ≡ n →
    IsIfaceCalled sources (router_of p r).name (net_of p n).name named → IsIfaceCalled sources (router_of p (router_at p i)).name (net_of p (net_at p i)).name named
is_iface_name sources p i r n named e f called =
    subst (λ (x : ℕ). IsIfaceCalled sources (router_of p x).name (net_of p (net_at p i)).name named) (sym e)
    (subst (λ (x : ℕ). IsIfaceCalled sources (router_of p r).name (net_of p x).name named) (sym f) called)

pub fails_at : (s : Site) (k : ℕ) (f : AreaFail) (i : IfId) → f ≡ fail.Split i → FailsArea s k f → (row : List ℕ) → IsAreaRow s k row → IsFirst (is_cut_off s k row) i.0
fails_at s k f i e h = subst (λ (x : AreaFail). FailsArea s k x) e h

pub told_at : (P Q : Fault → Type 0) → ((f : Fault) → P f → Q f) → (r : Refusal) → IsRefusalOf P r → IsRefusalOf Q r
told_at P Q all (refusal.Policy f) h = all f h
told_at P Q all refusal.Memory h = tt

pub rows_pushed : {A : Type 0} (rows new : List (Vec ZoneId A)) (row : Vec ZoneId A) → new ≡ rows ++ row ∷ [] → rows_of new ≡ rows_of rows ++ numbers_of row.items ∷ []
rows_pushed {A} rows new row e = ap rows_of e ∙ map-append (λ (r : Vec ZoneId A). numbers_of r.items) rows (row ∷ [])
