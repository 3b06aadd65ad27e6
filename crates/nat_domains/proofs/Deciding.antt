-- The fault that is told is the first of all that tags can have.
use Rattle.std.proofs.Common.{◌≡◌, ℕ, ◌<◌, ◌≤◌, Bool, true, false, not, ◌&&◌, ◌||◌, List, [], ◌∷◌, length, refl, sym, subst, ⊎_elim, arith}
use Rattle.std.specs.Prelude.{◌==◌, nat_lt, IsTrue}
use Rattle.std.proofs.lemmas.Bool.{and_parts, and_from, eqb-true, ltb-true, cases_lt, cases_Bool, false≢true}
use Rattle.spoc_base.specs.declared.place.Source.{Source}
use Rattle.spoc_base.specs.declared.fault.Fault.{Fault}
use Rattle.policy_model.specs.Lists.{has}
use Rattle.policy_model.specs.Zones.{Site, zone_of, zone_count}
use Rattle.policy_model.specs.Tags.{Views, AreViews, zone_view}
use Rattle.policy_model.specs.Faults.{IsConflicting, has_tag, is_translated_inside}
use Rattle.policy_model.specs.FirstFault.{FaultCase, AreaSplit, NatConflict, NatTwice, NatInside, LimitViews, SamePrefix, HostShadowed, IfaceShadowed, ManagedEnd, LimitPermits, NoPath, HiddenEnd, LimitLines, LimitRoutes, NoHopAddress, AmbiguousHop, HasFault, is_lower, order_of}
use Rattle.policy_model.specs.Headline.{Meaning, permits_in}
use Rattle.spoc_base.specs.declared.fault.Refusal.{Refusal}
use Rattle.spoc_base.specs.declared.fault.Refusal.TheVariants as refusal
use Rattle.topology.specs.Sound.{IsNumbered}
use Rattle.topology.specs.First.{IsWithin, TellsFirst, HasNone, IsRefusalOf}
use Rattle.nat_domains.specs.Conflicts.{HasNoConflict}
use Rattle.nat_domains.specs.Translated.{is_pair, HasNoTwice, HasNoInside}
use Rattle.nat_domains.specs.Told.{TellsConflict, TellsTwice, TellsInside}
use Rattle.nat_domains.proofs.Pairs.{parts_of, pair_of}
use Rattle.nat_domains.proofs.Viewed.{tag_below}

-- ---- the order of words

not_or : (a b c : Bool) → a ≡ false → (b ≡ true → not c ≡ true) → not (a || (b && c)) ≡ true
not_or true b c e f = absurd (false≢true (sym e))
not_or false true c e f = f refl
not_or false false c e f = refl

not_less : (x y : ℕ) → y ≤ x → nat_lt x y ≡ false
not_less x y h = ⊎_elim (λ t. let less = ltb-true x y t in absurd (omega (arith, less, h))) (λ f. f) (cases_Bool (nat_lt x y))

not_before : (x y : ℕ) (xs ys : List ℕ) → y ≤ x → (x ≡ y → not (is_lower xs ys) ≡ true) → not (is_lower (x ∷ xs) (y ∷ ys)) ≡ true
not_before x y xs ys low same = not_or (nat_lt x y) (x == y) (is_lower xs ys) (not_less x y low) (λ e. same (eqb-true x y e))

-- ---- the three rows

by_row : (C : FaultCase → Type 0) → ((tag zone : ℕ) → C (NatConflict tag zone)) → ((net zone tag other : ℕ) → C (NatTwice net zone tag other)) → ((net tag : ℕ) → C (NatInside net tag)) →
    (f : FaultCase) → IsWithin 1 3 f → C f
by_row C one two three (AreaSplit a b) w = absurd (omega (arith, w.lower))
by_row C one two three (NatConflict t z) w = one t z
by_row C one two three (NatTwice n z t o) w = two n z t o
by_row C one two three (NatInside n t) w = three n t
by_row C one two three LimitViews w = absurd (omega (arith, w.upper))
by_row C one two three (SamePrefix n o a) w = absurd (omega (arith, w.upper))
by_row C one two three (HostShadowed h n a) w = absurd (omega (arith, w.upper))
by_row C one two three (IfaceShadowed i s n a) w = absurd (omega (arith, w.upper))
by_row C one two three (ManagedEnd s i) w = absurd (omega (arith, w.upper))
by_row C one two three LimitPermits w = absurd (omega (arith, w.upper))
by_row C one two three (NoPath a b) w = absurd (omega (arith, w.upper))
by_row C one two three (HiddenEnd p u v n z) w = absurd (omega (arith, w.upper))
by_row C one two three LimitLines w = absurd (omega (arith, w.upper))
by_row C one two three LimitRoutes w = absurd (omega (arith, w.upper))
by_row C one two three (NoHopAddress r n i) w = absurd (omega (arith, w.upper))
by_row C one two three (AmbiguousHop r n a b) w = absurd (omega (arith, w.upper))

pub refusal_weaker : (P Q : Fault → Type 0) → ((f : Fault) → P f → Q f) → (r : Refusal) → IsRefusalOf P r → IsRefusalOf Q r
refusal_weaker P Q so (refusal.Policy f) h = so f h
refusal_weaker P Q so refusal.Memory h = tt

-- a meaning at the same zones
pub at_site : (Q : Meaning → Type 0) (s : Site) → ((w : Views) (areas : List (List ℕ)) → AreViews s w → Q (record { site = s; views = w; areas = areas })) →
    (m : Meaning) → m.site ≡ s → AreViews m.site m.views → Q m
at_site Q s f m e views = subst (λ (x : Site). AreViews x m.views → Q (record { site = x; views = m.views; areas = m.areas })) (sym e) (f m.views m.areas) views

module _ (sources : List Source) (s : Site) (numbered : IsNumbered s.policy) where
  no_conflict : HasNoConflict s (length s.policy.tags) → (tag zone : ℕ) → IsConflicting s tag zone → ⊥
  no_conflict none tag zone w = none zone tag (tag_below s numbered w.0.iface tag w.0.there w.0.bound) w

  pub first_conflict : (told : Fault) → TellsConflict sources s told → (w : Views) (areas : List (List ℕ)) → AreViews s w →
      TellsFirst sources (record { site = s; views = w; areas = areas }) 1 3 told
  first_conflict told tells w areas views =
      let m : Meaning = record { site = s; views = w; areas = areas } in
      record {
        case = NatConflict tells.tag tells.zone;
        first = record {
          within = record { lower = omega arith; upper = omega arith };
          there = (tells.first.there, tells.first.here);
          first = by_row (λ g. HasFault m g → IsTrue (not (is_lower (order_of (permits_in m) g) (order_of (permits_in m) (NatConflict tells.tag tells.zone)))))
              (λ tag zone h. let l = tells.first.least zone tag (tag_below s numbered h.1.0.iface tag h.1.0.there h.1.0.bound) h.1 in
              not_before zone tells.zone (tag ∷ []) (tells.tag ∷ []) l.0 (λ e. not_before tag tells.tag [] [] (l.1 e) (λ _. refl)))
              (λ n z t o h. refl) (λ n t h. refl);
        };
        tells = tells.tells;
      }

  module _ (v w : Views) (areas : List (List ℕ)) (ours : AreViews s v) (views : AreViews s w) (zoned : (n : ℕ) → n < length s.policy.nets → zone_of s n < zone_count s)
      (clean : HasNoConflict s (length s.policy.tags)) where
    abbrev m : Meaning
    m = record { site = s; views = w; areas = areas }

    to_theirs : (z tag : ℕ) → z < zone_count s → has (zone_view v z) tag ≡ true → has (zone_view w z) tag ≡ true
    to_theirs z tag h a = (views.active z tag h).1 ((ours.active z tag h).0 a)

    to_ours : (z tag : ℕ) → z < zone_count s → has (zone_view w z) tag ≡ true → has (zone_view v z) tag ≡ true
    to_ours z tag h a = (ours.active z tag h).1 ((views.active z tag h).0 a)

    moved : (row new : List ℕ) → ((tag : ℕ) → has row tag ≡ true → has new tag ≡ true) → (n tag other : ℕ) → is_pair s.policy row n tag other ≡ true → is_pair s.policy new n tag other ≡ true
    moved row new same n tag other h =
        let a = parts_of s.policy row n tag other h in
        pair_of s.policy new n tag other (record { less = a.less; first = a.first; second = a.second; seen = same tag a.seen; seen_too = same other a.seen_too })

    inside_theirs : (n tag : ℕ) → n < length s.policy.nets → is_translated_inside s v n tag ≡ true → is_translated_inside s w n tag ≡ true
    inside_theirs n tag h i =
        let a = and_parts (has_tag s.policy n tag) (has (zone_view v (zone_of s n)) tag) i in
        and_from (has_tag s.policy n tag) (has (zone_view w (zone_of s n)) tag) a.0 (to_theirs (zone_of s n) tag (zoned n h) a.1)

    inside_ours : (n tag : ℕ) → n < length s.policy.nets → is_translated_inside s w n tag ≡ true → is_translated_inside s v n tag ≡ true
    inside_ours n tag h i =
        let a = and_parts (has_tag s.policy n tag) (has (zone_view w (zone_of s n)) tag) i in
        and_from (has_tag s.policy n tag) (has (zone_view v (zone_of s n)) tag) a.0 (to_ours (zone_of s n) tag (zoned n h) a.1)

    pub first_twice : (told : Fault) → TellsTwice sources s v told → TellsFirst sources m 1 3 told
    first_twice told tells =
        record {
          case = NatTwice tells.net tells.zone tells.tag tells.other;
          first = record {
            within = record { lower = omega arith; upper = omega arith };
            there = (tells.there, moved (zone_view v tells.zone) (zone_view w tells.zone) (λ tag a. to_theirs tells.zone tag tells.there a) tells.net tells.tag tells.other tells.first.pair.here);
            first = by_row (λ g. HasFault m g → IsTrue (not (is_lower (order_of (permits_in m) g) (order_of (permits_in m) (NatTwice tells.net tells.zone tells.tag tells.other)))))
                (λ tag zone h. absurd (no_conflict clean tag zone h.1))
                (λ n z t o h. later n z t o (moved (zone_view w z) (zone_view v z) (λ tag a. to_ours z tag h.0 a) n t o h.1))
                (λ n t h. refl);
          };
          tells = tells.tells;
        }
      where
        later : (n z t o : ℕ) → is_pair s.policy (zone_view v z) n t o ≡ true → not (is_lower (2 ∷ z ∷ n ∷ t ∷ o ∷ []) (2 ∷ tells.zone ∷ tells.net ∷ tells.tag ∷ tells.other ∷ [])) ≡ true
        later n z t o pair =
            not_before z tells.zone (n ∷ t ∷ o ∷ []) (tells.net ∷ tells.tag ∷ tells.other ∷ []) (⊎_elim (λ less. absurd (tells.before z less n t o pair)) (λ high. high) (cases_lt z tells.zone))
            (λ e. let here = subst (λ (x : ℕ). is_pair s.policy (zone_view v x) n t o ≡ true) e pair in
            not_before n tells.net (t ∷ o ∷ []) (tells.tag ∷ tells.other ∷ []) (⊎_elim (λ less. absurd (tells.first.before n t o less here)) (λ high. high) (cases_lt n tells.net))
            (λ g. let l = tells.first.pair.least t o (subst (λ (x : ℕ). is_pair s.policy (zone_view v tells.zone) x t o ≡ true) g here) in
            not_before t tells.tag (o ∷ []) (tells.other ∷ []) l.0 (λ k. not_before o tells.other [] [] (l.1 k) (λ _. refl))))

    module _ (single : HasNoTwice s v) where
      no_twice : (n z t o : ℕ) → z < zone_count s → is_pair s.policy (zone_view w z) n t o ≡ true → ⊥
      no_twice n z t o h pair = single z h n t o (moved (zone_view w z) (zone_view v z) (λ tag a. to_ours z tag h a) n t o pair)

      pub first_inside : (told : Fault) → TellsInside sources s v told → TellsFirst sources m 1 3 told
      first_inside told tells =
          record {
            case = NatInside tells.net tells.tag;
            first = record {
              within = record { lower = omega arith; upper = omega arith };
              there = (tells.there, inside_theirs tells.net tells.tag tells.there tells.first.here);
              first = by_row (λ g. HasFault m g → IsTrue (not (is_lower (order_of (permits_in m) g) (order_of (permits_in m) (NatInside tells.net tells.tag)))))
                  (λ tag zone h. absurd (no_conflict clean tag zone h.1))
                  (λ n z t o h. absurd (no_twice n z t o h.0 h.1))
                  (λ n t h. later n t (inside_ours n t h.0 h.1));
            };
            tells = tells.tells;
          }
        where
          later : (n t : ℕ) → is_translated_inside s v n t ≡ true → not (is_lower (3 ∷ n ∷ t ∷ []) (3 ∷ tells.net ∷ tells.tag ∷ [])) ≡ true
          later n t inside =
              not_before n tells.net (t ∷ []) (tells.tag ∷ []) (⊎_elim (λ less. absurd (tells.before n t less inside)) (λ high. high) (cases_lt n tells.net))
              (λ e. let low = tells.first.least t (subst (λ (x : ℕ). is_translated_inside s v x t ≡ true) e inside) in not_before t tells.tag [] [] low (λ _. refl))

      pub none_first : HasNoInside s v (length s.policy.nets) → HasNone m 1 3
      none_first outside f within =
          by_row (λ g. HasFault m g → ⊥) (λ tag zone h. no_conflict clean tag zone h.1) (λ n z t o h. no_twice n z t o h.0 h.1)
          (λ n t h. outside n t h.0 (inside_ours n t h.0 h.1)) f within
