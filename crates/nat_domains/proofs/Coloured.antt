-- Zones and routers that are marked for a tag.
use Rattle.std.proofs.Common.{◌≡◌, ℕ, ◌+◌, ◌<◌, Bool, true, false, not, ◌&&◌, List, length, set, refl, sym, ap, subst, ◌∙◌, ⊎_elim, arith}
use Rattle.std.specs.Prelude.{◌↔◌}
use Rattle.std.proofs.lemmas.Bool.{and_parts, and_from, cases_eq, cases_Bool, false≢true}
use Rattle.policy_model.specs.Policy.{router_at}
use Rattle.policy_model.specs.Paths.{Reaches}
use Rattle.policy_model.specs.Zones.{Site, zone_at}
use Rattle.policy_model.specs.Tags.{binds, keeps_tag, IsActive, IsBarred}
use Rattle.nat_domains.specs.Marks.{is_marked, with_mark, AreMarkedBy, StandsAt}
use Rattle.nat_domains.specs.Spreading.{IsSpread}
use Rattle.nat_domains.specs.Inner.{IsInnerTag}
use Rattle.nat_domains.proofs.Members.{marked_here, marks_grow, marks_come}

pub none_marked : (test : ℕ → Bool) (place : ℕ → ℕ) (marks : List Bool) → ((k : ℕ) → is_marked marks k ≡ false) → AreMarkedBy test place 0 marks
none_marked test place marks none = record { marked = λ at. (λ h. absurd (false≢true (sym (none at) ∙ h)), λ w. absurd (omega (arith, w.there))) }

module _ (test : ℕ → Bool) (place : ℕ → ℕ) (n : ℕ) where
  longer : (at : ℕ) → StandsAt test place n at → StandsAt test place (n + 1) at
  longer at w = record { number = w.number; there = omega (arith, w.there); passes = w.passes; is = w.is }

  -- one number more
  pub one_marked : (marks new : List Bool) (at : ℕ) (yes : Bool) → test n ≡ yes → place n ≡ at → at < length marks → new ≡ with_mark marks at yes → AreMarkedBy test place n marks →
      AreMarkedBy test place (n + 1) new
  one_marked marks new at true is stands there made old =
      record {
        marked = λ k. (
          λ h. ⊎_elim (λ g. longer k ((old.marked k).0 g)) (λ e. record { number = n; there = omega arith; passes = is; is = stands ∙ sym e })
              (marks_come marks at k (subst (λ (m : List Bool). is_marked m k ≡ true) made h)),
          λ w. subst (λ (m : List Bool). is_marked m k ≡ true) (sym made)
              (⊎_elim (λ e. subst (λ (x : ℕ). is_marked (set marks at true) x ≡ true) (sym stands ∙ (ap place (sym e) ∙ w.is)) (marked_here marks at there))
              (λ ne. marks_grow marks at k there ((old.marked k).1 (record { number = w.number; there = omega (arith, w.there, ne); passes = w.passes; is = w.is })))
              (cases_eq w.number n)),
        );
      }
  one_marked marks new at false is stands there made old =
      record {
        marked = λ k. (
          λ h. longer k ((old.marked k).0 (subst (λ (m : List Bool). is_marked m k ≡ true) made h)),
          λ w. subst (λ (m : List Bool). is_marked m k ≡ true) (sym made)
              ((old.marked k).1
              (record {
                number = w.number;
                there = ⊎_elim (λ e. absurd (false≢true (sym is ∙ (ap test (sym e) ∙ w.passes)))) (λ ne. omega (arith, w.there, ne)) (cases_eq w.number n);
                passes = w.passes;
                is = w.is;
              })),
        );
      }

so_not : (b : Bool) → not b ≡ true → b ≡ false
so_not false e = refl
so_not true e = sym e

not_so : (b : Bool) → b ≡ false → not b ≡ true
not_so false e = refl
not_so true e = sym e

module _ (s : Site) (tag : ℕ) where
  abbrev bound : ℕ → Bool
  bound i = binds s.policy i tag

  abbrev count : ℕ
  count = length s.policy.ifaces

  abbrev chains : ℕ → ℕ → Type 0
  chains = Reaches (keeps_tag s.policy tag) (zone_at s)

  pub active_by : (start marks : List Bool) → AreMarkedBy bound (zone_at s) count start → IsSpread s tag start marks → (z : ℕ) → (is_marked marks z ≡ true) ↔ IsActive s tag z
  active_by start marks by spread z = (
    λ h. let to = (spread.marked z).0 h in
        let w = (by.marked to.from).0 to.starts in
        record { iface = w.number; there = w.there; bound = w.passes; chain = subst (λ (x : ℕ). chains x z) (sym w.is) to.chain },
    λ a. (spread.marked z).1
        (record { from = zone_at s a.iface; starts = (by.marked (zone_at s a.iface)).1 (record { number = a.iface; there = a.there; passes = a.bound; is = refl }); chain = a.chain }),
  )

  pub barred_by : (binders start marks : List Bool) → AreMarkedBy bound (router_at s.policy) count binders →
      AreMarkedBy (λ i. not (bound i) && is_marked binders (router_at s.policy i)) (zone_at s) count start → IsSpread s tag start marks →
      (z : ℕ) → (is_marked marks z ≡ true) ↔ IsBarred s tag z
  barred_by binders start marks known by spread z = (
    λ h. let to = (spread.marked z).0 h in
        let w = (by.marked to.from).0 to.starts in
        let a = and_parts (not (bound w.number)) (is_marked binders (router_at s.policy w.number)) w.passes in
        let b = (known.marked (router_at s.policy w.number)).0 a.1 in
        record {
          iface = w.number;
          binder = b.number;
          there = (w.there, b.there);
          one_router = sym b.is;
          unbound = a.0;
          bound = b.passes;
          chain = subst (λ (x : ℕ). chains x z) (sym w.is) to.chain;
        },
    λ a. (spread.marked z).1
        (record {
          from = zone_at s a.iface;
          starts = (by.marked (zone_at s a.iface)).1
              (record {
                number = a.iface;
                there = a.there.0;
                passes = and_from (not (bound a.iface)) (is_marked binders (router_at s.policy a.iface)) a.unbound
                    ((known.marked (router_at s.policy a.iface)).1 (record { number = a.binder; there = a.there.1; passes = a.bound; is = sym a.one_router }));
                is = refl;
              });
          chain = a.chain;
        }),
  )

  pub inner_by : (binders active marks : List Bool) → AreMarkedBy bound (router_at s.policy) count binders → ((z : ℕ) → (is_marked active z ≡ true) ↔ IsActive s tag z) →
      AreMarkedBy (λ i. not (is_marked binders (router_at s.policy i)) && is_marked active (zone_at s i)) (router_at s.policy) count marks →
      (r : ℕ) → (is_marked marks r ≡ true) ↔ IsInnerTag s r tag
  inner_by binders active marks known force by r = (
    λ h. let w = (by.marked r).0 h in
        let a = and_parts (not (is_marked binders (router_at s.policy w.number))) (is_marked active (zone_at s w.number)) w.passes in
        let bare = so_not (is_marked binders (router_at s.policy w.number)) a.0 in
        record {
          iface = w.number;
          there = w.there;
          its = w.is;
          active = (force (zone_at s w.number)).0 a.1;
          unbound = λ j hj e. free j hj (ap (is_marked binders) (e ∙ sym w.is) ∙ bare);
        },
    λ w. (by.marked r).1
        (record {
          number = w.iface;
          there = w.there;
          passes = and_from (not (is_marked binders (router_at s.policy w.iface))) (is_marked active (zone_at s w.iface))
              (not_so (is_marked binders (router_at s.policy w.iface)) (none_binds w.iface w.its w.unbound)) ((force (zone_at s w.iface)).1 w.active);
          is = w.its;
        }),
  )
    where
      free : (j : ℕ) → j < count → is_marked binders (router_at s.policy j) ≡ false → bound j ≡ false
      free j hj bare =
          ⊎_elim (λ t. absurd (false≢true (sym bare ∙ (known.marked (router_at s.policy j)).1 (record { number = j; there = hj; passes = t; is = refl })))) (λ f. f) (cases_Bool (bound j))

      none_binds : (i : ℕ) → router_at s.policy i ≡ r → ((j : ℕ) → j < count → router_at s.policy j ≡ r → bound j ≡ false) → is_marked binders (router_at s.policy i) ≡ false
      none_binds i its unbound =
          ⊎_elim (λ t. let b = (known.marked (router_at s.policy i)).0 t in absurd (false≢true (sym (unbound b.number b.there (b.is ∙ its)) ∙ b.passes))) (λ f. f)
          (cases_Bool (is_marked binders (router_at s.policy i)))
