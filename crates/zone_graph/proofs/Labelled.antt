-- One label more, and what all labels show.
use Rattle.std.proofs.Common.{◌≡◌, ◌≢◌, ℕ, ◌+◌, ◌<◌, ◌≤◌, Bool, true, false, not, ◌&&◌, List, [], ◌∷◌, ◌++◌, length, refl, sym, subst, ap, ◌∙◌, ⊎_elim, arith, slice_index}
use Rattle.std.proofs.lemmas.List.{get_or_push, get_or_append_left, length-append}
use Rattle.std.specs.Prelude.{◌==◌, nat_lt}
use Rattle.std.proofs.lemmas.Bool.{cases_eq, and_parts, eqb-true, ltb-true}
use Rattle.policy_model.specs.Policy.{Policy, net_at, router_at, is_managed}
use Rattle.policy_model.specs.Paths.{is_through_router, crosses_unmanaged}
use Rattle.policy_model.specs.Zones.{AreJoined, AreZones}
use Rattle.zone_graph.specs.Forest.{IsForest, TiesBelow}
use Rattle.zone_graph.specs.Labels.{AreLabels}
use Rattle.zone_graph.proofs.Joining.{joined_itself, joined_on, joined_back, labels_alike}
use Rattle.zone_graph.proofs.Routers.{all_alike}

-- the new list is the old one with a label more
pub record IsLonger (zones new : List ℕ) (zone : ℕ) : Type 0 where
  pub count : length new ≡ length zones + 1
  pub same : (k : ℕ) → k < length zones → slice_index new k ≡ slice_index zones k
  pub last : slice_index new (length zones) ≡ zone

module _ (p : Policy) (parents zones new : List ℕ) (count zone : ℕ) (labels : AreLabels p parents zones count) (longer : IsLonger zones new zone)
    (down : (k : ℕ) → k < length zones → slice_index parents k ≤ k) where
  n : ℕ
  n = length zones

  -- a number below the new length is the last one, or below the old length
  abbrev by_place : {C : ℕ → Type 0} → C (length zones) → ((k : ℕ) → k < length zones → C k) → (k : ℕ) → k < length new → C k
  by_place {C} last lower k h = ⊎_elim (λ e. subst C (sym e) last) (λ ne. lower k (omega (arith, h, ne, longer.count))) (cases_eq k (length zones))

  old_follows : (k : ℕ) → k < length zones → slice_index new (slice_index parents k) ≡ slice_index new k
  old_follows k h = longer.same (slice_index parents k) (omega (arith, down k h, h)) ∙ (labels.follows k h ∙ sym (longer.same k h))

  old_alike : (k m : ℕ) → k < length zones → m < length zones → slice_index new k ≡ slice_index new m → AreJoined p k m
  old_alike k m hk hm e = labels.alike k m hk hm (sym (longer.same k hk) ∙ (e ∙ longer.same m hm))

  old_numbered : (k z : ℕ) → k < length zones → z < slice_index new k → (m : ℕ) × (m < k) × (slice_index new m ≡ z)
  old_numbered k z h hz =
      let w = labels.numbered k z h (subst (λ (x : ℕ). z < x) (longer.same k h) hz) in
      (w.0, w.1, longer.same w.0 (omega (arith, w.1, h)) ∙ w.2)

  old_used : (z : ℕ) → z < count → (m : ℕ) × (m < length new) × (slice_index new m ≡ z)
  old_used z h = let w = labels.used z h in (w.0, omega (arith, w.1, longer.count), longer.same w.0 w.1 ∙ w.2)

  -- a network that points to itself begins a zone
  pub root_labelled : slice_index parents (length zones) ≡ length zones → zone ≡ count → AreLabels p parents new (count + 1)
  root_labelled root is =
      let last = longer.last ∙ is in
      record {
        below = by_place {C = λ k. slice_index new k < count + 1} (subst (λ (x : ℕ). x < count + 1) (sym last) (omega arith))
            (λ k h. subst (λ (x : ℕ). x < count + 1) (sym (longer.same k h)) (omega (arith, labels.below k h)));
        follows = by_place {C = λ k. slice_index new (slice_index parents k) ≡ slice_index new k} (ap (slice_index new) root) old_follows;
        alike = λ k m hk hm. by_place {C = λ x. slice_index new x ≡ slice_index new m → AreJoined p x m}
            (by_place {C = λ y. slice_index new (length zones) ≡ slice_index new y → AreJoined p (length zones) y} (λ e. joined_itself p (length zones))
            (λ y hy e. absurd (omega (arith, labels.below y hy, sym (longer.same y hy) ∙ (sym e ∙ last)))) m hm)
            (λ x hx. by_place {C = λ y. slice_index new x ≡ slice_index new y → AreJoined p x y} (λ e. absurd (omega (arith, labels.below x hx, sym (longer.same x hx) ∙ (e ∙ last))))
            (λ y hy e. old_alike x y hx hy e) m hm)
            k hk;
        used = λ z h. ⊎_elim (λ e. (length zones, omega (arith, longer.count), last ∙ sym e)) (λ ne. old_used z (omega (arith, h, ne))) (cases_eq z count);
        numbered = λ k z h. by_place {C = λ x. z < slice_index new x → (m : ℕ) × (m < x) × (slice_index new m ≡ z)}
            (λ hz. let w = labels.used z (subst (λ (x : ℕ). z < x) last hz) in (w.0, w.1, longer.same w.0 w.1 ∙ w.2)) (λ x hx hz. old_numbered x z hx hz) k h;
      }

  -- one that points to a lower one is of its zone
  pub next_labelled : (low : slice_index parents (length zones) < length zones) → AreJoined p (length zones) (slice_index parents (length zones)) →
      zone ≡ slice_index zones (slice_index parents (length zones)) → AreLabels p parents new count
  next_labelled low joined is =
      let parent = slice_index parents (length zones) in
      let last = longer.last ∙ is in
      record {
        below = by_place {C = λ k. slice_index new k < count} (subst (λ (x : ℕ). x < count) (sym last) (labels.below parent low))
            (λ k h. subst (λ (x : ℕ). x < count) (sym (longer.same k h)) (labels.below k h));
        follows = by_place {C = λ k. slice_index new (slice_index parents k) ≡ slice_index new k} (longer.same parent low ∙ sym last) old_follows;
        alike = λ k m hk hm. by_place {C = λ x. slice_index new x ≡ slice_index new m → AreJoined p x m}
            (by_place {C = λ y. slice_index new (length zones) ≡ slice_index new y → AreJoined p (length zones) y} (λ e. joined_itself p (length zones))
            (λ y hy e. joined_on p (length zones) parent y joined (labels.alike parent y low hy (sym last ∙ (e ∙ longer.same y hy)))) m hm)
            (λ x hx. by_place {C = λ y. slice_index new x ≡ slice_index new y → AreJoined p x y}
            (λ e. joined_back p (length zones) x (joined_on p (length zones) parent x joined (labels.alike parent x low hx (sym last ∙ (sym e ∙ longer.same x hx)))))
            (λ y hy e. old_alike x y hx hy e) m hm)
            k hk;
        used = old_used;
        numbered = λ k z h. by_place {C = λ x. z < slice_index new x → (m : ℕ) × (m < x) × (slice_index new m ≡ z)}
            (λ hz. let w = labels.numbered parent z low (subst (λ (x : ℕ). z < x) last hz) in
            (w.0, omega (arith, w.1, low), longer.same w.0 (omega (arith, w.1, low)) ∙ w.2))
            (λ x hx hz. old_numbered x z hx hz) k h;
      }

free_router : (b : Bool) → not b ≡ true → b ≡ false
free_router false e = refl
free_router true e = sym e

-- labels of all networks of a forest in which unmanaged routers tie are the zones
pub labels_are_zones : (p : Policy) (parents zones : List ℕ) (count : ℕ) → IsForest p parents → TiesBelow p parents (length p.routers) →
    ((i : ℕ) → i < length p.ifaces → (net_at p i < length p.nets) × (router_at p i < length p.routers)) →
    length zones ≡ length p.nets → AreLabels p parents zones count → AreZones p zones
labels_are_zones p parents zones count forest ties placed each labels =
    let follows : (k : ℕ) → k < length parents → slice_index zones (slice_index parents k) ≡ slice_index zones k =
    λ k h. labels.follows k (omega (arith, h, forest.each, each)) in
    record {
      each = each;
      joined = λ n m hn hm. (
        λ e. labels.alike n m (omega (arith, hn, each)) (omega (arith, hm, each)) e,
        λ r. labels_alike (crosses_unmanaged p) (net_at p) (slice_index zones) (λ c h.
            let a = and_parts (is_through_router p c) (not (is_managed p (router_at p c.enter))) h in
            let b = and_parts (nat_lt c.enter (length p.ifaces) && nat_lt c.leave (length p.ifaces)) (router_at p c.enter == router_at p c.leave) a.0 in
            let d = and_parts (nat_lt c.enter (length p.ifaces)) (nat_lt c.leave (length p.ifaces)) b.0 in
            let here = ltb-true c.enter (length p.ifaces) d.0 in
            let there = ltb-true c.leave (length p.ifaces) d.1 in
            all_alike p parents (router_at p c.enter) c.enter c.leave (ties (router_at p c.enter) (placed c.enter here).1 (free_router (is_managed p (router_at p c.enter)) a.1))
            here there refl (sym (eqb-true (router_at p c.enter) (router_at p c.leave) b.1)) (slice_index zones) follows)
            r.path n m r.crossings r.ends,
      );
      numbered = λ n z hn hz. labels.numbered n z (omega (arith, hn, each)) hz;
    }

longer_by : (zones new : List ℕ) (zone : ℕ) → new ≡ zones ++ zone ∷ [] → IsLonger zones new zone
longer_by zones new zone e =
    record {
      count = ap length e ∙ length-append zones (zone ∷ []);
      same = λ k h. ap (λ (xs : List ℕ). slice_index xs k) e ∙ get_or_append_left zones (zone ∷ []) 0 k h;
      last = ap (λ (xs : List ℕ). slice_index xs (length zones)) e ∙ get_or_push zones zone 0 (length zones) refl;
    }

pub root_next : (p : Policy) (parents zones : List ℕ) (count : ℕ) → IsForest p parents → AreLabels p parents zones count → length zones < length parents →
    slice_index parents (length zones) ≡ length zones → (new : List ℕ) → new ≡ zones ++ count ∷ [] → AreLabels p parents new (count + 1)
root_next p parents zones count forest labels left root new e =
    root_labelled p parents zones new count count labels (longer_by zones new count e) (λ k h. forest.down k (omega (arith, h, left))) root refl

pub other_next : (p : Policy) (parents zones : List ℕ) (count : ℕ) → IsForest p parents → AreLabels p parents zones count → length zones < length parents →
    slice_index parents (length zones) ≢ length zones → (new : List ℕ) → new ≡ zones ++ slice_index zones (slice_index parents (length zones)) ∷ [] → AreLabels p parents new count
other_next p parents zones count forest labels left other new e =
    let low = forest.down (length zones) left in
    next_labelled p parents zones new count (slice_index zones (slice_index parents (length zones))) labels (longer_by zones new _ e) (λ k h. forest.down k (omega (arith, h, left)))
    (omega (arith, low, other)) (forest.joined (length zones) left) refl

pub no_labels : (p : Policy) (parents : List ℕ) → AreLabels p parents [] 0
no_labels p parents =
    record {
      below = λ k h. absurd (omega (arith, h));
      follows = λ k h. absurd (omega (arith, h));
      alike = λ k m h. absurd (omega (arith, h));
      used = λ z h. absurd (omega (arith, h));
      numbered = λ k z h. absurd (omega (arith, h));
    }
