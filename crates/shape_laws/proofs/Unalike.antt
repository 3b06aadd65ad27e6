-- Networks that are apart have distinct prefixes in each view, where none is translated or no tag is bound.
use Rattle.std.proofs.Common.{◌≡◌, ℕ, ◌+◌, ◌-◌, ◌<◌, ◌≤◌, Bool, true, false, cond, ◌&&◌, List, [], ◌∷◌, length, refl, sym, ap, subst, ◌∙◌, ⊎_elim, nat_lt, arith}
use Rattle.std.specs.Prelude.{◌==◌, Option, Some, find, option_map, unwrap_or, nat_le}
use Rattle.std.specs.List.{list_any}
use Rattle.std.proofs.lemmas.Bool.{false≢true, and_parts, and_from, false_from_ne_true, ltb-true, leb-true, lt-ltb, eq-eqb, or_left, cases_lt}
use Rattle.std.proofs.lemmas.List.{get_or_past}
use Rattle.std.proofs.lemmas.Nat.{pow_pos}
use Rattle.spoc_base.specs.Address.{Cidr, size_of, prefix_holds, is_inside, same_prefix}
use Rattle.policy_model.specs.Lists.{has}
use Rattle.policy_model.specs.Policy.{Policy, net_of}
use Rattle.policy_model.specs.Zones.{Site, zone_of, zone_at, zone_count}
use Rattle.policy_model.specs.Tags.{Views, AreViews, IsActive, zone_view}
use Rattle.policy_model.specs.Places.{prefix_in}
use Rattle.policy_model.specs.Faults.{has_tag, is_same_prefix, are_one_prefix}
use Rattle.policy_model.specs.Headline.{Meaning, IsMeaning}
use Rattle.policy_laws.specs.Shaped.{HasDistinctPrefixes}
use Rattle.shape_laws.specs.Unlike.{IsUntranslated, IsUnbound, IsApart}

same_inside : (p q : Cidr) → same_prefix p q ≡ true → is_inside p q ≡ true
same_inside p q h =
    let a = and_parts (nat_le p.net q.net && nat_le q.net p.net && nat_le p.len q.len) (nat_le q.len p.len) h in
    let b = and_parts (nat_le p.net q.net && nat_le q.net p.net) (nat_le p.len q.len) a.0 in
    let c = and_parts (nat_le p.net q.net) (nat_le q.net p.net) b.0 in
    let low = leb-true p.net q.net c.0 in
    let room = pow_pos (32 - q.len) in
    let high : p.net < q.net + size_of q = omega (arith, low, room) in
    and_from (nat_le q.len p.len) (prefix_holds q p.net) a.1 (and_from (nat_le q.net p.net) (nat_lt p.net (q.net + size_of q)) c.1 (lt-ltb p.net (q.net + size_of q) high))

-- each network is seen by its own prefix
abbrev IsSeenAsOwn : Policy → List ℕ → Type 0
IsSeenAsOwn p view = (n : ℕ) → n < length p.nets → prefix_in p view n ≡ Some (net_of p n).own

not_same : (p : Policy) → IsApart p → (view : List ℕ) → IsSeenAsOwn p view → (n k : ℕ) → k < length p.nets → is_same_prefix p view n k ≡ false
not_same p apart view own n k there = false_from_ne_true (is_same_prefix p view n k) meet
  where
    meet : is_same_prefix p view n k ≡ true → ⊥
    meet h =
        let w = and_parts (nat_lt n k) (are_one_prefix (prefix_in p view n) (prefix_in p view k)) h in
        let less : n < k = ltb-true n k w.0 in
        let known : n < length p.nets = omega (arith, less, there) in
        let seen : are_one_prefix (prefix_in p view n) (prefix_in p view k) ≡ same_prefix (net_of p n).own (net_of p k).own =
        ap (λ o. are_one_prefix o (prefix_in p view k)) (own n known) ∙ ap (λ o. are_one_prefix (Some (net_of p n).own) o) (own k there) in
        let inside = same_inside (net_of p n).own (net_of p k).own (sym seen ∙ w.1) in
        false≢true (sym (apart n k known there (λ e. omega (arith, less, e))) ∙ inside)

-- ---- no network is translated

seen_untranslated : (p : Policy) → IsUntranslated p → (view : List ℕ) → IsSeenAsOwn p view
seen_untranslated p plain view n below =
    ap (λ (nats : List (ℕ × Option Cidr)). unwrap_or (option_map (λ nat. nat.1) (find (λ nat. has view nat.0) nats)) (Some (net_of p n).own)) (plain n below)

pub distinct : (m : Meaning) → IsUntranslated m.site.policy → IsApart m.site.policy → HasDistinctPrefixes m.site m.views
distinct m plain apart = record {
  apart = λ i n k below there. let view = zone_view m.views (zone_at m.site i) in not_same m.site.policy apart view (seen_untranslated m.site.policy plain view) n k there;
  inside = λ n tag there. ap (λ (nats : List (ℕ × Option Cidr)). list_any (λ nat. nat.0 == tag) nats && has (zone_view m.views (zone_of m.site n)) tag) (plain n there);
}

-- ---- no tag is bound

pub none_has : (xs : List ℕ) → ((x : ℕ) → has xs x ≡ true → ⊥) → xs ≡ []
none_has [] h = refl
none_has (x ∷ xs) h = absurd (h x (or_left (x == x) (has xs x) (eq-eqb x x refl)))

module _ (s : Site) (v : Views) (views : AreViews s v) (unbound : IsUnbound s.policy) where
  none_active : (tag z : ℕ) → IsActive s tag z → ⊥
  none_active tag z w = false≢true (sym (ap (λ (tags : List ℕ). has tags tag) (unbound w.iface w.there)) ∙ w.bound)

  pub view_empty : (z : ℕ) → zone_view v z ≡ []
  view_empty z =
      ⊎_elim (λ (below : z < zone_count s). none_has (zone_view v z) (λ tag h. none_active tag z ((views.active z tag below).0 h)))
      (λ (past : zone_count s ≤ z). get_or_past v.zones z [] (omega (arith, past, views.each))) (cases_lt z (zone_count s))

  none_found : (view : List ℕ) (own : Option Cidr) (nats : List (ℕ × Option Cidr)) → view ≡ [] → unwrap_or (option_map (λ nat. nat.1) (find (λ nat. has view nat.0) nats)) own ≡ own
  none_found view own [] e = refl
  none_found view own (nat ∷ nats) e =
      ap (λ b. unwrap_or (option_map (λ nat. nat.1) (cond b (Some nat) (find (λ nat. has view nat.0) nats))) own) (ap (λ tags. has tags nat.0) e) ∙ none_found view own nats e

  seen_unbound : (z : ℕ) → IsSeenAsOwn s.policy (zone_view v z)
  seen_unbound z n below = none_found (zone_view v z) (Some (net_of s.policy n).own) (net_of s.policy n).nats (view_empty z)

  neither : (a b : Bool) → b ≡ false → (a && b) ≡ false
  neither false b e = refl
  neither true b e = e

  distinct_unbound : IsApart s.policy → HasDistinctPrefixes s v
  distinct_unbound apart = record {
    apart = λ i n k below there. not_same s.policy apart (zone_view v (zone_at s i)) (seen_unbound (zone_at s i)) n k there;
    inside = λ n tag there. neither (has_tag s.policy n tag) (has (zone_view v (zone_of s n)) tag) (ap (λ (tags : List ℕ). has tags tag) (view_empty (zone_of s n)));
  }

pub distinct_where_unbound : (p : Policy) (m : Meaning) → IsMeaning p m → IsUnbound p → IsApart p → HasDistinctPrefixes m.site m.views
distinct_where_unbound p m its unbound apart =
    subst (λ (q : Policy). IsUnbound q → IsApart q → HasDistinctPrefixes m.site m.views) its.policy (distinct_unbound m.site m.views its.views) unbound apart
