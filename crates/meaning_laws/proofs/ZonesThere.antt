-- The table of zones: the classes of networks that chains of unmanaged routers join.
use Rattle.std.proofs.Common.{◌≡◌, ℕ, ◌+◌, ◌<◌, Bool, true, not, ◌&&◌, List, [], ◌∷◌, ◌++◌, length, refl, sym, ap, subst, ◌∙◌, arith}
use Rattle.std.specs.Prelude.{◌==◌, nat_lt, slice_index}
use Rattle.std.specs.List.{list_all}
use Rattle.std.proofs.lemmas.Bool.{and_parts, and_from, eqb-true, eq-eqb}
use Rattle.policy_model.specs.Policy.{Policy, net_at, router_at, is_managed}
use Rattle.policy_model.specs.Paths.{Crossing, leads, is_through_router, crosses_unmanaged}
use Rattle.policy_model.specs.Zones.{AreZones, AreJoined}
use Rattle.meaning_laws.specs.Tables.{are_joined, zone_number, zones_of}
use Rattle.meaning_laws.proofs.Reached.{reached, leads_there}
use Rattle.meaning_laws.proofs.Numbered.{IsEquivalence, alike, lower, mapped, mapped_long}

-- ---- paths of unmanaged routers, joined and turned

all_joined : (t : Crossing → Bool) (xs ys : List Crossing) → list_all t xs ≡ true → list_all t ys ≡ true → list_all t (xs ++ ys) ≡ true
all_joined t [] ys h g = g
all_joined t (x ∷ xs) ys h g = let a = and_parts (t x) (list_all t xs) h in and_from (t x) (list_all t (xs ++ ys)) a.0 (all_joined t xs ys a.1 g)

leads_joined : (at : ℕ → ℕ) (a b e : ℕ) (xs ys : List Crossing) → leads at a xs b ≡ true → leads at b ys e ≡ true → leads at a (xs ++ ys) e ≡ true
leads_joined at a b e [] ys h g = subst (λ (n : ℕ). leads at n ys e ≡ true) (sym (eqb-true a b h)) g
leads_joined at a b e (c ∷ xs) ys h g =
    let w = and_parts (at c.enter == a) (leads at (at c.leave) xs b) h in
    and_from (at c.enter == a) (leads at (at c.leave) (xs ++ ys) e) w.0 (leads_joined at (at c.leave) b e xs ys w.1 g)

abbrev flipped : Crossing → Crossing
flipped c = record { enter = c.leave; leave = c.enter }

turned : List Crossing → List Crossing
turned [] = []
turned (c ∷ path) = turned path ++ flipped c ∷ []

flip_unmanaged : (p : Policy) (c : Crossing) → crosses_unmanaged p c ≡ true → crosses_unmanaged p (flipped c) ≡ true
flip_unmanaged p c h =
    let n = length p.ifaces in
    let a = and_parts (is_through_router p c) (not (is_managed p (router_at p c.enter))) h in
    let b = and_parts (nat_lt c.enter n && nat_lt c.leave n) (router_at p c.enter == router_at p c.leave) a.0 in
    let d = and_parts (nat_lt c.enter n) (nat_lt c.leave n) b.0 in
    let same = eqb-true (router_at p c.enter) (router_at p c.leave) b.1 in
    and_from (is_through_router p (flipped c)) (not (is_managed p (router_at p c.leave)))
    (and_from (nat_lt c.leave n && nat_lt c.enter n) (router_at p c.leave == router_at p c.enter) (and_from (nat_lt c.leave n) (nat_lt c.enter n) d.1 d.0) (eq-eqb (router_at p c.leave) (router_at p c.enter) (sym same)))
    (subst (λ (r : ℕ). not (is_managed p r) ≡ true) same a.1)

turned_all : (p : Policy) (path : List Crossing) → list_all (crosses_unmanaged p) path ≡ true → list_all (crosses_unmanaged p) (turned path) ≡ true
unfolding turned
turned_all p [] h = refl
turned_all p (c ∷ path) h =
    let a = and_parts (crosses_unmanaged p c) (list_all (crosses_unmanaged p) path) h in
    all_joined (crosses_unmanaged p) (turned path) (flipped c ∷ []) (turned_all p path a.1) (and_from (crosses_unmanaged p (flipped c)) true (flip_unmanaged p c a.0) refl)

turned_leads : (at : ℕ → ℕ) (from to : ℕ) (path : List Crossing) → leads at from path to ≡ true → leads at to (turned path) from ≡ true
unfolding turned
turned_leads at from to [] h = eq-eqb to from (sym (eqb-true from to h))
turned_leads at from to (c ∷ path) h =
    let w = and_parts (at c.enter == from) (leads at (at c.leave) path to) h in
    leads_joined at to (at c.leave) from (turned path) (flipped c ∷ []) (turned_leads at (at c.leave) to path w.1)
    (and_from (at c.leave == at c.leave) (at c.enter == from) (eq-eqb (at c.leave) (at c.leave) refl) w.0)

module _ (p : Policy) where
  through : (c : Crossing) → crosses_unmanaged p c ≡ true → is_through_router p c ≡ true
  through c h = (and_parts (is_through_router p c) (not (is_managed p (router_at p c.enter))) h).0

  joined_if : (n m : ℕ) → AreJoined p n m → are_joined p n m ≡ true
  joined_if n m r = reached p (crosses_unmanaged p) through (net_at p) n m r

  if_joined : (n m : ℕ) → are_joined p n m ≡ true → AreJoined p n m
  if_joined n m h = leads_there p (crosses_unmanaged p) through (net_at p) n m h

  laws : IsEquivalence (are_joined p)
  laws = record {
    itself = λ n. joined_if n n (record { path = []; crossings = refl; ends = eq-eqb n n refl });
    back = λ n m h. let r = if_joined n m h in
        joined_if m n (record { path = turned r.path; crossings = turned_all p r.path r.crossings; ends = turned_leads (net_at p) n m r.path r.ends });
    onward = λ n m k h g. let r = if_joined n m h in let q = if_joined m k g in
        joined_if n k (record { path = r.path ++ q.path; crossings = all_joined (crosses_unmanaged p) r.path q.path r.crossings q.crossings; ends = leads_joined (net_at p) n m k r.path q.path r.ends q.ends });
  }

  its_zone : (n : ℕ) → n < length p.nets → slice_index (zones_of p) n ≡ zone_number p n
  its_zone n h = mapped (zone_number p) 0 (length p.nets) n 0 h ∙ (let e : 0 + n ≡ n = omega arith in ap (zone_number p) e)

  pub zones_found : AreZones p (zones_of p)
  zones_found = record {
    each = mapped_long (zone_number p) 0 (length p.nets);
    joined = λ n m hn hm. (
      λ e. if_joined n m ((alike (are_joined p) laws n m).0 (sym (its_zone n hn) ∙ (e ∙ its_zone m hm))),
      λ r. its_zone n hn ∙ ((alike (are_joined p) laws n m).1 (joined_if n m r) ∙ sym (its_zone m hm)),
    );
    numbered = λ n z hn hz.
        let w = lower (are_joined p) laws n z (subst (λ (x : ℕ). z < x) (its_zone n hn) hz) in
        let lw : w.0 < length p.nets = omega (arith, w.1) in (w.0, w.1, its_zone w.0 lw ∙ w.2);
  }
