-- The row of shadowed addresses: what may be one, as it is listed, and the test.
use Rattle.std.proofs.Common.{◌≡◌, ℕ, ◌<◌, inl, inr, Bool, true, false, cond, List, [], ◌∷◌, ◌++◌, length, map, refl, sym, ap, subst, ◌∙◌, ⊎_elim, arith}
use Rattle.std.specs.Prelude.{◌==◌}
use Rattle.std.specs.Option.{option_or}
use Rattle.std.proofs.lemmas.Bool.{ltb-true, lt-ltb}
use Rattle.policy_model.specs.Lists.{pairs_of}
use Rattle.policy_model.specs.Policy.{Policy, all_nets, all_hosts, all_ifaces}
use Rattle.policy_model.specs.Zones.{zone_count}
use Rattle.policy_model.specs.Permits.{Permit}
use Rattle.policy_model.specs.FirstFault.{FaultCase, AreaSplit, NatConflict, NatTwice, NatInside, LimitViews, SamePrefix, HostShadowed, IfaceShadowed, ManagedEnd, LimitPermits, NoPath, HiddenEnd, LimitLines, LimitRoutes, NoHopAddress, AmbiguousHop, ViewPlace, AtZone, AtRouter, view_at, is_there, is_lower, place_order, order_of}
use Rattle.policy_model.specs.Headline.{Meaning, permits_in}
use Rattle.policy_model.proofs.AllWalks.{IsIn, in_front, in_back, in_map, from_map, in_pairs, in_numbers}
use Rattle.list_laws.proofs.Members.{in_either}
use Rattle.topology.specs.First.{row_of}
use Rattle.fault_laws.specs.Cases.{IsFirstCase, all_places, views_case, same_case}
use Rattle.fault_laws.proofs.Orders.{InOrder, PairBefore, from_pairs, from_numbers, order_numbers, order_append, order_map, order_pairs}
use Rattle.fault_laws.proofs.Shapes.{lower_here, lower_later}
use Rattle.fault_laws.proofs.Joins.{joined}
use Rattle.fault_laws.proofs.Finding.{AreListed, listed_first}
use Rattle.fault_laws.proofs.EachRow.{views_first, same_first}
use Rattle.shadow_laws.specs.Shadows.{Holder, OfHost, OfIface, all_holders, is_holder_shadowed, shadow_of, shadow_case}
use Rattle.shadow_laws.proofs.TwoKinds.{ComesBefore, lower_same, low_in, high_in, each_kind, kinds_in_order}
use Rattle.shadow_laws.proofs.Shadowed.{IsHolderThere, to_holder, from_holder, holder_below, has_shadow, shadow_says}

-- where, whose, and the other network
abbrev Item : Type 0
Item = ViewPlace × (Holder × ℕ)

abbrev item_fault : Item → FaultCase
item_fault e = shadow_of e.1.0 e.1.1 e.0

-- ---- the fault by its values

-- as far as it is of this row
abbrev item_of : FaultCase → Item
item_of (HostShadowed h n at) = (at, (OfHost h, n))
item_of (IfaceShadowed i shared n at) = (at, (OfIface i shared, n))
item_of _ = (AtZone 0, (OfHost 0, 0))

its_item : (f : FaultCase) → f ≡ cond (row_of f == 6) (item_fault (item_of f)) f
its_item (AreaSplit area border) = refl
its_item (NatConflict tag zone) = refl
its_item (NatTwice net zone tag other) = refl
its_item (NatInside net tag) = refl
its_item LimitViews = refl
its_item (SamePrefix net other at) = refl
its_item (HostShadowed host net at) = refl
its_item (IfaceShadowed iface shared net at) = refl
its_item (ManagedEnd service iface) = refl
its_item LimitPermits = refl
its_item (NoPath src dst) = refl
its_item (HiddenEnd permit src dst net zone) = refl
its_item LimitLines = refl
its_item LimitRoutes = refl
its_item (NoHopAddress router net iface) = refl
its_item (AmbiguousHop router net first second) = refl

at_shadow : (f : FaultCase) → row_of f ≡ 6 → f ≡ item_fault (item_of f)
at_shadow f e = its_item f ∙ ap (λ (r : ℕ). cond (r == 6) (item_fault (item_of f)) f) e

row_of_shadow : (holder : Holder) (n : ℕ) (at : ViewPlace) → row_of (shadow_of holder n at) ≡ 6
row_of_shadow (OfHost h) n at = refl
row_of_shadow (OfIface i shared) n at = refl

-- ---- the order of the faults

abbrev holder_order : Holder → List ℕ
holder_order (OfHost h) = 0 ∷ h ∷ []
holder_order (OfIface i shared) = 1 ∷ i ∷ cond shared 1 0 ∷ []

-- what is compared, behind the row
abbrev words : Item → List ℕ
words e = place_order e.0 ++ (holder_order e.1.0 ++ e.1.1 ∷ [])

order_of_shadow : (permits : List Permit) (holder : Holder) (n : ℕ) (at : ViewPlace) → order_of permits (shadow_of holder n at) ≡ 6 ∷ words (at, (holder, n))
order_of_shadow permits (OfHost h) n at = refl
order_of_shadow permits (OfIface i shared) n at = refl

abbrev EndBefore : Holder × ℕ → Holder × ℕ → Type 0
EndBefore = PairBefore (ComesBefore holder_order) (λ (a b : ℕ). a < b)

abbrev ItemBefore : Item → Item → Type 0
ItemBefore = PairBefore (ComesBefore place_order) EndBefore

lower_ends : (x y : Holder × ℕ) → EndBefore x y → is_lower (holder_order x.0 ++ x.1 ∷ []) (holder_order y.0 ++ y.1 ∷ []) ≡ true
lower_ends x y (inl h) = h (x.1 ∷ []) (y.1 ∷ [])
lower_ends x y (inr h) = lower_same holder_order x.0 y.0 (x.1 ∷ []) (y.1 ∷ []) h.0 (lower_here x.1 y.1 [] [] h.1)

lower_words : (x y : Item) → ItemBefore x y → is_lower (words x) (words y) ≡ true
lower_words x y (inl h) = h (holder_order x.1.0 ++ x.1.1 ∷ []) (holder_order y.1.0 ++ y.1.1 ∷ [])
lower_words x y (inr h) = lower_same place_order x.0 y.0 (holder_order x.1.0 ++ x.1.1 ∷ []) (holder_order y.1.0 ++ y.1.1 ∷ []) h.0 (lower_ends x.1 y.1 h.1)

lower_items : (permits : List Permit) (x y : Item) → ItemBefore x y → is_lower (order_of permits (item_fault x)) (order_of permits (item_fault y)) ≡ true
lower_items permits x y b =
    subst (λ (o : List ℕ). is_lower o (order_of permits (item_fault y)) ≡ true) (sym (order_of_shadow permits x.1.0 x.1.1 x.0))
    (subst (λ (o : List ℕ). is_lower (6 ∷ words x) o ≡ true) (sym (order_of_shadow permits y.1.0 y.1.1 y.0)) (lower_later 6 6 (words x) (words y) refl (lower_words x y b)))

-- ---- own addresses before shared ones

abbrev sides : List Bool
sides = false ∷ true ∷ []

abbrev SideBefore : Bool → Bool → Type 0
SideBefore a b = (a ≡ false) × (b ≡ true)

sides_in_order : InOrder SideBefore sides
sides_in_order = (λ b i. ⊎_elim (λ e. (refl, e)) (λ g. absurd g) i, (λ b i. absurd i, tt))

in_sides : (b : Bool) → IsIn b sides
in_sides false = inl refl
in_sides true = inr (inl refl)

abbrev iface_holder : ℕ × Bool → Holder
iface_holder e = OfIface e.0 e.1

host_host : (a b : ℕ) → a < b → ComesBefore holder_order (OfHost a) (OfHost b)
host_host a b h xs ys = lower_later 0 0 (a ∷ xs) (b ∷ ys) refl (lower_here a b xs ys h)

host_iface : (a : ℕ) (e : ℕ × Bool) → ComesBefore holder_order (OfHost a) (iface_holder e)
host_iface a e xs ys = lower_here 0 1 (a ∷ xs) (e.0 ∷ cond e.1 1 0 ∷ ys) (omega arith)

iface_iface : (x y : ℕ × Bool) → PairBefore (λ (a b : ℕ). a < b) SideBefore x y → ComesBefore holder_order (iface_holder x) (iface_holder y)
iface_iface x y (inl h) xs ys = lower_later 1 1 (x.0 ∷ cond x.1 1 0 ∷ xs) (y.0 ∷ cond y.1 1 0 ∷ ys) refl (lower_here x.0 y.0 (cond x.1 1 0 ∷ xs) (cond y.1 1 0 ∷ ys) h)
iface_iface x y (inr h) xs ys =
    let mark : Bool → ℕ = λ b. cond b 1 0 in
    let a : ◌≡◌ {A = ℕ} (mark x.1) 0 = ap mark h.1.0 in
    let b : ◌≡◌ {A = ℕ} (mark y.1) 1 = ap mark h.1.1 in
    lower_later 1 1 (x.0 ∷ cond x.1 1 0 ∷ xs) (y.0 ∷ cond y.1 1 0 ∷ ys) refl
    (lower_later x.0 y.0 (cond x.1 1 0 ∷ xs) (cond y.1 1 0 ∷ ys) h.0 (lower_here (cond x.1 1 0) (cond y.1 1 0) xs ys (omega (arith, a, b))))

-- ---- what is listed

module _ (m : Meaning) where
  abbrev p : Policy
  p = m.site.policy

  in_places : (at : ViewPlace) → is_there m.site at ≡ true → IsIn at (all_places m.site)
  in_places (AtZone z) h = low_in ViewPlace AtZone AtRouter (zone_count m.site) (length p.routers) z (ltb-true z (zone_count m.site) h)
  in_places (AtRouter r) h = high_in ViewPlace AtZone AtRouter (zone_count m.site) (length p.routers) r (ltb-true r (length p.routers) h)

  from_places : (at : ViewPlace) → IsIn at (all_places m.site) → is_there m.site at ≡ true
  from_places =
      each_kind ViewPlace AtZone AtRouter (zone_count m.site) (length p.routers) (λ (at : ViewPlace). is_there m.site at ≡ true)
      (λ z h. lt-ltb z (zone_count m.site) h) (λ r h. lt-ltb r (length p.routers) h)

  abbrev iface_items : List (ℕ × Bool)
  iface_items = pairs_of (all_ifaces p) sides

  abbrev hosts : List Holder
  hosts = map OfHost (all_hosts p)

  abbrev ifaces : List Holder
  ifaces = map iface_holder iface_items

  in_holders : (holder : Holder) → IsHolderThere p holder → IsIn holder (all_holders p)
  in_holders (OfHost k) h = in_front (OfHost k) hosts ifaces (in_map OfHost k (all_hosts p) (in_numbers (length p.hosts) k h))
  in_holders (OfIface i shared) h =
      in_back (OfIface i shared) hosts ifaces
      (in_map iface_holder (i, shared) iface_items (in_pairs i shared (all_ifaces p) sides (in_numbers (length p.ifaces) i h) (in_sides shared)))

  from_holders : (holder : Holder) → IsIn holder (all_holders p) → IsHolderThere p holder
  from_holders holder h =
      ⊎_elim (λ i. let w = from_map OfHost holder (all_hosts p) i in subst (IsHolderThere p) (sym w.2) (from_numbers (length p.hosts) w.0 w.1))
      (λ i. let w = from_map iface_holder holder iface_items i in
      let v = from_pairs (all_ifaces p) sides w.0 w.1 in
      subst (IsHolderThere p) (sym w.2) (from_numbers (length p.ifaces) w.0.0 v.0))
      (in_either holder hosts ifaces h)

  holders_in_order : InOrder (ComesBefore holder_order) (all_holders p)
  holders_in_order =
      order_append (ComesBefore holder_order) hosts ifaces
      (order_map (λ (a b : ℕ). a < b) (ComesBefore holder_order) OfHost host_host (all_hosts p) (order_numbers (length p.hosts)))
      (order_map (PairBefore (λ (a b : ℕ). a < b) SideBefore) (ComesBefore holder_order) iface_holder iface_iface iface_items
      (order_pairs (λ (a b : ℕ). a < b) SideBefore (all_ifaces p) sides (order_numbers (length p.ifaces)) sides_in_order))
      (λ x y i j.
      let v = from_map OfHost x (all_hosts p) i in
      let w = from_map iface_holder y iface_items j in
      subst (λ (z : Holder). ComesBefore holder_order z y) (sym v.2) (subst (λ (z : Holder). ComesBefore holder_order (OfHost v.0) z) (sym w.2) (host_iface v.0 w.0)))

  abbrev ends : List (Holder × ℕ)
  ends = pairs_of (all_holders p) (all_nets p)

  abbrev items : List Item
  items = pairs_of (all_places m.site) ends

  in_order : InOrder ItemBefore items
  in_order =
      order_pairs (ComesBefore place_order) EndBefore (all_places m.site) ends
      (kinds_in_order ViewPlace AtZone AtRouter (zone_count m.site) (length p.routers) place_order (λ z. refl) (λ r. refl))
      (order_pairs (ComesBefore holder_order) (λ (a b : ℕ). a < b) (all_holders p) (all_nets p)
      holders_in_order (order_numbers (length p.nets)))

  abbrev IsTaken : Item → Bool
  IsTaken e = is_holder_shadowed p (view_at m.views e.0) e.1.0 e.1.1

  shadows_listed : AreListed m 6 Item item_fault IsTaken items ItemBefore
  shadows_listed = record {
    row = λ e. row_of_shadow e.1.0 e.1.1 e.0;
    each = λ f r h. (item_of f, at_shadow f r);
    sound = λ e i t.
        let w = from_pairs (all_places m.site) ends e i in
        let v = from_pairs (all_holders p) (all_nets p) e.1 w.1 in
        has_shadow m e.0 e.1.0 e.1.1 (from_holders e.1.0 v.0, from_places e.0 w.0, to_holder p (view_at m.views e.0) e.1.0 e.1.1 t);
    listed = λ e h.
        let w = shadow_says m e.0 e.1.0 e.1.1 h in
        let below = holder_below p (view_at m.views e.0) e.1.0 e.1.1 w.2 in (
          in_pairs e.0 e.1 (all_places m.site) ends (in_places e.0 w.1) (in_pairs e.1.0 e.1.1 (all_holders p) (all_nets p) (in_holders e.1.0 w.0) (in_numbers (length p.nets) e.1.1 below)),
          from_holder p (view_at m.views e.0) e.1.0 e.1.1 w.2,
        );
    order = in_order;
    lower = λ x y t u b. lower_items (permits_in m) x y b;
  }

  pub shadow_first : IsFirstCase m 6 6 (shadow_case m)
  shadow_first = listed_first m 6 Item item_fault IsTaken items ItemBefore shadows_listed

  pub view_faults_first : IsFirstCase m 4 6 (option_or (option_or (views_case m) (same_case m)) (shadow_case m))
  view_faults_first =
      joined m 4 5 6 (omega arith) (omega arith) (option_or (views_case m) (same_case m)) (shadow_case m)
      (joined m 4 4 5 (omega arith) (omega arith) (views_case m) (same_case m) (views_first m) (same_first m)) shadow_first
