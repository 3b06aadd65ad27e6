-- The pairs of networks that permits join.
use Rattle.std.proofs.Common.{◌≡◌, ℕ, ◌<◌, ◌⊎◌, inl, inr, Bool, true, false, cond, not, ◌&&◌, ◌||◌, List, [], ◌∷◌, length, flat_map, refl, sym, ap, subst, ◌∙◌, ⊎_elim, arith}
use Rattle.std.specs.Prelude.{◌==◌, filter}
use Rattle.std.proofs.lemmas.Bool.{both_ways as both_truths, and_parts, and_from, or_cases, or_left, or_right, eqb-true, eq-eqb, not-true, not_from_false, false_from_ne_true}
use Rattle.std.proofs.lemmas.List.{get_or_default}
use Rattle.policy_model.specs.Lists.{pairs_of}
use Rattle.policy_model.specs.Policy.{all_nets}
use Rattle.policy_model.specs.Zones.{Site, zone_of}
use Rattle.policy_model.specs.Permits.{Permit}
use Rattle.policy_model.specs.Blocks.{NetPair, permit_at, no_permit, is_joined, is_joined_pair}
use Rattle.policy_model.proofs.AllWalks.{IsIn, in_flat_map, in_filter, in_numbers, in_pairs}
use Rattle.list_laws.proofs.Members.{from_filter, some_in, some_of}
use Rattle.list_laws.proofs.Tables.{from_flat_map}
use Rattle.permit_lines.specs.Given.{AreKnown}
use Rattle.rule_distribute.specs.Pairs.{IsBefore, AreOnce}
use Rattle.rule_distribute.specs.Rows.{net_arcs, ends_of, HasAll}
use Rattle.rule_distribute.proofs.Rising.{rising_same, rises_by_places, contains_in, in_contains}
use Rattle.rule_distribute.proofs.Tuples.{before_apart, some_rise}

abbrev matches : NetPair → Permit → Bool
matches e q = ((q.src.net == e.src) && (q.dst.net == e.dst)) || ((q.src.net == e.dst) && (q.dst.net == e.src))

abbrev named : ℕ × ℕ → NetPair
named e = record { src = e.0; dst = e.1 }

tuple_same : (a b c d : ℕ) → a ≡ c → b ≡ d → ◌≡◌ {A = ℕ × ℕ} (a, b) (c, d)
tuple_same a b c d e f = ap (λ (x : ℕ). let r : ℕ × ℕ = (x, b) in r) e ∙ ap (λ (x : ℕ). let r : ℕ × ℕ = (c, x) in r) f

turned : (x y : ℕ) → (x == y) ≡ false → (y == x) ≡ false
turned x y f = false_from_ne_true (y == x) (λ u. both_truths (x == y) f (eq-eqb x y (sym (eqb-true y x u))))

module _ (s : Site) (permits : List Permit) (given : AreKnown s.policy permits) where
  abbrev wanted : ℕ × ℕ → Bool
  wanted e = is_joined_pair s permits (record { src = e.0; dst = e.1 })

  abbrev all : List (ℕ × ℕ)
  all = pairs_of (all_nets s.policy) (all_nets s.policy)

  abbrev arcs : Permit → List (ℕ × ℕ)
  arcs q = net_arcs s.zones q

  pub record AreThere (q : Permit) : Type 0 where
    pub src : q.src.net < length s.policy.nets
    pub dst : q.dst.net < length s.policy.nets

  pub ends_there : (q : Permit) → IsIn q permits → AreThere q
  ends_there q i =
      let c = in_contains permits q i in
      let same : permit_at permits c.0 ≡ q = get_or_default permits c.0 no_permit q c.1 ∙ c.2 in
      let a = ap (λ (x : Permit). x.src.net) same in
      let b = ap (λ (x : Permit). x.dst.net) same in
      let u = (given.each c.0 c.1).src_end.there in
      let w = (given.each c.0 c.1).dst_end.there in
      record { src = omega (arith, a, u); dst = omega (arith, b, w) }

  pub listed : (e : ℕ × ℕ) → e.0 < length s.policy.nets → e.1 < length s.policy.nets → is_joined permits (named e) ≡ true → (zone_of s e.0 == zone_of s e.1) ≡ false → IsIn e (filter wanted all)
  listed e a b joined differ =
      in_filter wanted e all (in_pairs e.0 e.1 (all_nets s.policy) (all_nets s.policy) (in_numbers (length s.policy.nets) e.0 a) (in_numbers (length s.policy.nets) e.1 b)) (and_from _ _ joined (not_from_false (zone_of s e.0 == zone_of s e.1) differ))

  pub by : (q : Permit) (e : NetPair) → IsIn q permits → matches e q ≡ true → is_joined permits e ≡ true
  by q e i h = some_of (matches e) q permits i h

  arc_listed : (q : Permit) (e : ℕ × ℕ) → IsIn q permits → IsIn e (arcs q) → IsIn e (filter wanted all)
  arc_listed q e i h = go (zone_of s q.src.net == zone_of s q.dst.net) refl h
    where
      go : (b : Bool) → (zone_of s q.src.net == zone_of s q.dst.net) ≡ b → IsIn e (cond b [] ((q.src.net, q.dst.net) ∷ (q.dst.net, q.src.net) ∷ [])) → IsIn e (filter wanted all)
      go true t h = absurd h
      go false t (inr (inr none)) = absurd none
      go false t (inl same) =
          let there = ends_there q i in
          subst (λ (x : ℕ × ℕ). IsIn x (filter wanted all)) (sym same)
          (listed (q.src.net, q.dst.net) there.src there.dst (by q (record { src = q.src.net; dst = q.dst.net }) i (or_left _ _ (and_from _ _ (eq-eqb q.src.net q.src.net refl) (eq-eqb q.dst.net q.dst.net refl)))) t)
      go false t (inr (inl same)) =
          let there = ends_there q i in
          subst (λ (x : ℕ × ℕ). IsIn x (filter wanted all)) (sym same)
          (listed (q.dst.net, q.src.net) there.dst there.src
          (by q (record { src = q.dst.net; dst = q.src.net }) i (or_right _ _ (and_from _ _ (eq-eqb q.src.net q.src.net refl) (eq-eqb q.dst.net q.dst.net refl)))) (turned _ _ t))

  in_arcs : (q : Permit) (e : ℕ × ℕ) → (zone_of s q.src.net == zone_of s q.dst.net) ≡ false → (◌≡◌ {A = ℕ × ℕ} e (q.src.net, q.dst.net)) ⊎ (◌≡◌ {A = ℕ × ℕ} e (q.dst.net, q.src.net)) → IsIn e (arcs q)
  in_arcs q e differ h =
      subst (λ (c : Bool). IsIn e (cond c [] ((q.src.net, q.dst.net) ∷ (q.dst.net, q.src.net) ∷ []))) (sym differ) (⊎_elim (λ a. inl a) (λ b. inr (inl b)) h)

  arc_of : (q : Permit) (e : ℕ × ℕ) → (zone_of s e.0 == zone_of s e.1) ≡ false → matches (named e) q ≡ true → IsIn e (arcs q)
  arc_of q e differ h = ⊎_elim straight back (or_cases ((q.src.net == e.0) && (q.dst.net == e.1)) ((q.src.net == e.1) && (q.dst.net == e.0)) h)
    where
      straight : ((q.src.net == e.0) && (q.dst.net == e.1)) ≡ true → IsIn e (arcs q)
      straight t =
          let w = and_parts (q.src.net == e.0) (q.dst.net == e.1) t in
          let a = eqb-true q.src.net e.0 w.0 in
          let b = eqb-true q.dst.net e.1 w.1 in
          in_arcs q e (ap (λ n. zone_of s n == zone_of s q.dst.net) a ∙ (ap (λ n. zone_of s e.0 == zone_of s n) b ∙ differ)) (inl (tuple_same e.0 e.1 q.src.net q.dst.net (sym a) (sym b)))

      back : ((q.src.net == e.1) && (q.dst.net == e.0)) ≡ true → IsIn e (arcs q)
      back t =
          let w = and_parts (q.src.net == e.1) (q.dst.net == e.0) t in
          let a = eqb-true q.src.net e.1 w.0 in
          let b = eqb-true q.dst.net e.0 w.1 in
          in_arcs q e (ap (λ n. zone_of s n == zone_of s q.dst.net) a ∙ (ap (λ n. zone_of s e.1 == zone_of s n) b ∙ turned (zone_of s e.0) (zone_of s e.1) differ)) (inr (tuple_same e.0 e.1 q.dst.net q.src.net (sym b) (sym a)))

  listed_arc : (e : ℕ × ℕ) → IsIn e (filter wanted all) → IsIn e (flat_map arcs permits)
  listed_arc e h =
      let w = from_filter wanted e all h in
      let j = and_parts (is_joined permits (named e)) (not (zone_of s e.0 == zone_of s e.1)) w.1 in
      let q = some_in (matches (named e)) permits j.0 in
      in_flat_map arcs q.0 e permits q.1 (arc_of q.0 e (not-true (zone_of s e.0 == zone_of s e.1) j.1) q.2)

  pub net_pairs_are : (found : List (ℕ × ℕ)) → AreOnce (flat_map arcs permits) found → found ≡ filter wanted all
  net_pairs_are found once =
      rising_same IsBefore before_apart found (filter wanted all) (rises_by_places IsBefore found once.order) (some_rise wanted (length s.policy.nets) (length s.policy.nets))
      (λ e i.
      let c = in_contains found e i in
      let f = from_flat_map arcs e permits (contains_in (flat_map arcs permits) e (once.added e c)) in
      arc_listed f.0 e f.1 f.2)
      (λ e i. contains_in found e (once.kept e (in_contains (flat_map arcs permits) e (listed_arc e i))))

  ends_listed : (back : Bool) (q : Permit) → (zone_of s q.src.net == zone_of s q.dst.net) ≡ false → IsIn (ends_of back q) (arcs q)
  ends_listed false q differ = in_arcs q (q.src.net, q.dst.net) differ (inl refl)
  ends_listed true q differ = in_arcs q (q.dst.net, q.src.net) differ (inr refl)

  pub has_all : (found : List (ℕ × ℕ)) → AreOnce (flat_map arcs permits) found → HasAll s.zones found permits
  has_all found once = λ k back below differ.
      let q = permit_at permits k in
      let here : IsIn q permits = contains_in permits q (k, below, get_or_default permits k q no_permit below) in
      once.kept (ends_of back q) (in_contains (flat_map arcs permits) (ends_of back q) (in_flat_map arcs q (ends_of back q) permits here (ends_listed back q differ)))
