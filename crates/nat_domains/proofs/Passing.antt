-- What marks keep while they spread from zone to zone.
use Rattle.std.proofs.Common.{◌≡◌, ℕ, ◌<◌, Bool, true, false, not, ◌&&◌, List, [], ◌∷◌, ◌++◌, length, set, refl, sym, subst, ◌∙◌, ⊎_elim, arith}
use Rattle.std.specs.Prelude.{◌==◌, ◌↔◌, nat_lt}
use Rattle.std.proofs.lemmas.Bool.{and_parts, or_cases, or_left, or_right, eqb-true, eq-eqb, lt-ltb, ltb-true, false≢true}
use Rattle.policy_model.specs.Lists.{has}
use Rattle.policy_model.specs.Policy.{router_at, is_managed}
use Rattle.policy_model.specs.Paths.{Crossing, Reaches, is_through_router, crosses_managed}
use Rattle.policy_model.specs.Zones.{Site, zone_at}
use Rattle.policy_model.specs.Tags.{binds, keeps_tag, ifaces_of}
use Rattle.policy_model.proofs.Tested.{Reaches-stays}
use Rattle.nat_domains.specs.Marks.{is_marked}
use Rattle.nat_domains.specs.Spreading.{MarksZonesOf, IsSpreading, IsSpread, StaysSpreading}
use Rattle.nat_domains.proofs.Chains.{both, reaches_itself, reaches_on, one_step}
use Rattle.nat_domains.proofs.Members.{has_left, has_right, has_either, has_one, one_has, has_kept, kept_has, marks_grow, marks_come}

not_so : (b : Bool) → b ≡ false → not b ≡ true
not_so false e = refl
not_so true e = sym e

so_not : (b : Bool) → not b ≡ true → b ≡ false
so_not false e = refl
so_not true e = sym e

has_first : (z : ℕ) (xs : List ℕ) → has (z ∷ xs) z ≡ true
has_first z xs = or_left (z == z) (has xs z) (eq-eqb z z refl)

has_later : (z x : ℕ) (xs : List ℕ) → has xs x ≡ true → has (z ∷ xs) x ≡ true
has_later z x xs h = or_right (z == x) (has xs x) h

module _ (s : Site) (tag : ℕ) where
  -- two interfaces of a managed router, neither of which binds the tag
  step_keeps : (i j : ℕ) → i < length s.policy.ifaces → j < length s.policy.ifaces → is_managed s.policy (router_at s.policy i) ≡ true → router_at s.policy j ≡ router_at s.policy i →
      binds s.policy i tag ≡ false → binds s.policy j tag ≡ false → keeps_tag s.policy tag (record { enter = i; leave = j }) ≡ true
  step_keeps i j hi hj managed one free other =
      let p = s.policy in
      let c : Crossing = record { enter = i; leave = j } in
      both (crosses_managed p c && not (binds p i tag)) (not (binds p j tag))
      (both (crosses_managed p c) (not (binds p i tag))
      (both (is_through_router p c) (is_managed p (router_at p i))
      (both (nat_lt i (length p.ifaces) && nat_lt j (length p.ifaces)) (router_at p i == router_at p j)
      (both (nat_lt i (length p.ifaces)) (nat_lt j (length p.ifaces)) (lt-ltb i (length p.ifaces) hi) (lt-ltb j (length p.ifaces) hj))
      (eq-eqb (router_at p i) (router_at p j) (sym one))) managed) (not_so (binds p i tag) free)) (not_so (binds p j tag) other)

  in_router : (r i : ℕ) → has (ifaces_of s.policy r) i ≡ true → (i < length s.policy.ifaces) × (router_at s.policy i ≡ r)
  in_router r i h =
      let w = has_kept (λ j. router_at s.policy j == r) 0 (length s.policy.ifaces) i h in (omega (arith, w.1), eqb-true (router_at s.policy i) r w.2)

  router_has : (r i : ℕ) → i < length s.policy.ifaces → router_at s.policy i ≡ r → has (ifaces_of s.policy r) i ≡ true
  router_has r i h e = kept_has (λ j. router_at s.policy j == r) 0 (length s.policy.ifaces) i (omega arith) (omega (arith, h)) (eq-eqb (router_at s.policy i) r e)

  -- a router is passed
  pub router_passed : (i : ℕ) (marks new : List Bool) (waiting left : List ℕ) (passed : List Bool) → i < length s.policy.ifaces →
      is_managed s.policy (router_at s.policy i) ≡ true → binds s.policy i tag ≡ false → router_at s.policy i < length passed →
      MarksZonesOf s tag (ifaces_of s.policy (router_at s.policy i)) marks new waiting left →
      StaysSpreading s tag marks (zone_at s i ∷ waiting) passed new (zone_at s i ∷ left) (set passed (router_at s.policy i) true)
  router_passed i marks new waiting left passed there managed free room m start old =
      let p = s.policy in
      let z = zone_at s i in
      let r = router_at p i in
      record {
        each = m.each ∙ old.each;
        started = λ x h. m.grown x (old.started x h);
        reached = λ x h. ⊎_elim (λ g. old.reached x g)
            (λ w. let from = old.reached z (old.waits z (has_first z waiting)) in
            let j = in_router r w.1.iface w.1.listed in
            record {
              from = from.from;
              starts = from.starts;
              chain = reaches_on (keeps_tag p tag) (zone_at s) from.from z x from.chain
                  (subst (λ (k : ℕ). Reaches (keeps_tag p tag) (zone_at s) z k) w.1.at
                  (one_step (keeps_tag p tag) (zone_at s) (record { enter = i; leave = w.1.iface }) (step_keeps i w.1.iface there j.0 managed j.1 free w.1.free)));
            })
            (m.fresh x h);
        waits = λ x h. ⊎_elim (λ e. subst (λ (k : ℕ). is_marked new k ≡ true) (eqb-true z x e) (m.grown z (old.waits z (has_first z waiting))))
            (λ g. ⊎_elim (λ a. m.grown x (old.waits x (has_later z x waiting a))) (λ b. b) (m.waits x g)) (or_cases (z == x) (has left x) h);
        through = λ j hj hp hb. ⊎_elim (λ g. m.grown (zone_at s j) (old.through j hj g hb)) (λ e. m.done j (router_has r j hj e) hb) (marks_come passed r (router_at p j) hp);
        left = λ j hj hm hb hz. let x = zone_at s j in
            let new_passed = set passed r true in
            ⊎_elim
            (λ g. ⊎_elim
            (λ a. or_left (has (z ∷ left) x) (is_marked new_passed (router_at p j))
            (⊎_elim (λ e. or_left (z == x) (has left x) e) (λ b. has_later z x left (m.kept x b)) (or_cases (z == x) (has waiting x) a)))
            (λ b. or_right (has (z ∷ left) x) (is_marked new_passed (router_at p j)) (marks_grow passed r (router_at p j) room b))
            (or_cases (has (z ∷ waiting) x) (is_marked passed (router_at p j)) (old.left j hj hm hb g)))
            (λ w. or_left (has (z ∷ left) x) (is_marked new_passed (router_at p j)) (has_later z x left w.0)) (m.fresh x hz);
      }

  -- a zone is left when all routers of its interfaces are passed
  pub zone_left : (z : ℕ) (start marks : List Bool) (waiting : List ℕ) (passed : List Bool) →
      ((i : ℕ) → i < length s.policy.ifaces → is_managed s.policy (router_at s.policy i) ≡ true → zone_at s i ≡ z → binds s.policy i tag ≡ false → is_marked passed (router_at s.policy i) ≡ true) →
      IsSpreading s tag start marks (z ∷ waiting) passed → IsSpreading s tag start marks waiting passed
  zone_left z start marks waiting passed doors old =
      record {
        each = old.each;
        started = old.started;
        reached = old.reached;
        waits = λ x h. old.waits x (has_later z x waiting h);
        through = old.through;
        left = λ j hj hm hb hz. let x = zone_at s j in
            let gone = is_marked passed (router_at s.policy j) in
            ⊎_elim (λ a. ⊎_elim (λ e. or_right (has waiting x) gone (doors j hj hm (sym (eqb-true z x e)) hb)) (λ b. or_left (has waiting x) gone b) (or_cases (z == x) (has waiting x) a))
            (λ b. or_right (has waiting x) gone b) (or_cases (has (z ∷ waiting) x) gone (old.left j hj hm hb hz));
      }

  -- the order of those that wait doesn't count
  pub taken_first : (z : ℕ) (start marks : List Bool) (waiting all : List ℕ) (passed : List Bool) → all ≡ waiting ++ z ∷ [] → IsSpreading s tag start marks all passed →
      IsSpreading s tag start marks (z ∷ waiting) passed
  taken_first z start marks waiting all passed e old =
      record {
        each = old.each;
        started = old.started;
        reached = old.reached;
        waits = λ x h. old.waits x (subst (λ (xs : List ℕ). has xs x ≡ true) (sym e)
            (⊎_elim (λ a. has_right waiting (z ∷ []) x (one_has z x (eqb-true z x a))) (λ b. has_left waiting (z ∷ []) x b) (or_cases (z == x) (has waiting x) h)));
        through = old.through;
        left = λ j hj hm hb hz. let x = zone_at s j in
            let gone = is_marked passed (router_at s.policy j) in
            ⊎_elim
            (λ a. or_left (has (z ∷ waiting) x) gone
            (⊎_elim (λ f. has_later z x waiting f) (λ g. or_left (z == x) (has waiting x) (eq-eqb z x (has_one z x g)))
            (has_either waiting (z ∷ []) x (subst (λ (xs : List ℕ). has xs x ≡ true) e a))))
            (λ b. or_right (has (z ∷ waiting) x) gone b) (or_cases (has all x) gone (old.left j hj hm hb hz));
      }

  -- at the start all marked zones wait, and no router is passed
  pub nothing_passed : (start : List Bool) (waiting : List ℕ) (passed : List Bool) → ((k : ℕ) → (has waiting k ≡ true) ↔ (is_marked start k ≡ true)) →
      ((k : ℕ) → is_marked passed k ≡ false) → IsSpreading s tag start start waiting passed
  nothing_passed start waiting passed wait none =
      record {
        each = refl;
        started = λ x h. h;
        reached = λ x h. record { from = x; starts = h; chain = reaches_itself (keeps_tag s.policy tag) (zone_at s) x };
        waits = λ x h. (wait x).0 h;
        through = λ j hj hp hb. absurd (false≢true (sym (none (router_at s.policy j)) ∙ hp));
        left = λ j hj hm hb hz. or_left (has waiting (zone_at s j)) (is_marked passed (router_at s.policy j)) ((wait (zone_at s j)).1 hz);
      }

  -- when none waits, the marks are spread
  pub all_spread : (start marks : List Bool) (passed : List Bool) → IsSpreading s tag start marks [] passed → IsSpread s tag start marks
  all_spread start marks passed old =
      record {
        each = old.each;
        marked = λ z. (old.reached z, λ to. Reaches-stays (keeps_tag s.policy tag) (zone_at s) (is_marked marks) steps to.from z to.chain (old.started to.from to.starts));
      }
    where
      steps : (c : Crossing) → keeps_tag s.policy tag c ≡ true → is_marked marks (zone_at s c.enter) ≡ true → is_marked marks (zone_at s c.leave) ≡ true
      steps c keeps here =
          let p = s.policy in
          let a = and_parts (crosses_managed p c && not (binds p c.enter tag)) (not (binds p c.leave tag)) keeps in
          let b = and_parts (crosses_managed p c) (not (binds p c.enter tag)) a.0 in
          let d = and_parts (is_through_router p c) (is_managed p (router_at p c.enter)) b.0 in
          let e = and_parts (nat_lt c.enter (length p.ifaces) && nat_lt c.leave (length p.ifaces)) (router_at p c.enter == router_at p c.leave) d.0 in
          let f = and_parts (nat_lt c.enter (length p.ifaces)) (nat_lt c.leave (length p.ifaces)) e.0 in
          let gone : is_marked passed (router_at p c.enter) ≡ true =
          old.left c.enter (ltb-true c.enter (length p.ifaces) f.0) d.1 (so_not (binds p c.enter tag) b.1) here in
          old.through c.leave (ltb-true c.leave (length p.ifaces) f.1) (subst (λ (r : ℕ). is_marked passed r ≡ true) (eqb-true (router_at p c.enter) (router_at p c.leave) e.1) gone)
          (so_not (binds p c.leave tag) a.1)
