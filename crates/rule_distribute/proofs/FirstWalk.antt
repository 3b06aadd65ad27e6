-- Which fault comes first of permits without a path and of hidden ends.
use Rattle.std.proofs.Common.{◌≡◌, ℕ, ◌<◌, ◌≤◌, Bool, true, false, cond, not, ◌&&◌, ◌||◌, List, length, refl, sym, ap, subst, ◌∙◌, ⊎_elim, arith}
use Rattle.std.specs.Prelude.{◌==◌, nat_lt, IsTrue}
use Rattle.std.specs.List.{list_any}
use Rattle.std.proofs.lemmas.Bool.{false≢true, false_from_ne_true, ltb-true, eqb-true, eq-eqb, or_cases, and_parts, cases_lt}
use Rattle.spoc_base.specs.declared.place.Source.{Source}
use Rattle.spoc_base.specs.declared.fault.Fault.{Fault}
use Rattle.policy_model.specs.Zones.{Site, zone_count}
use Rattle.policy_model.specs.Tags.{Views}
use Rattle.policy_model.specs.Permits.{Permit}
use Rattle.policy_model.specs.Blocks.{permit_at}
use Rattle.policy_model.specs.Faults.{has_no_path, is_hidden_end}
use Rattle.policy_model.specs.FirstFault.{FaultCase, NoPath, HiddenEnd, is_lower, order_of}
use Rattle.policy_model.proofs.AllWalks.{IsIn}
use Rattle.list_laws.proofs.Members.{some_in}
use Rattle.topology.specs.Told.{IsTold}
use Rattle.rule_distribute.specs.Distributed.{HasWalkFault, IsClear, TellsWalk}
use Rattle.rule_distribute.specs.Hidden.{end_net, IsFirstHidden, AreSeenThroughout}
use Rattle.rule_distribute.proofs.Walkless.{is_at, IsFirstWithout}

-- each permit has a path, if it needs one
abbrev pub NoneWithout : Site → List Permit → Type 0
NoneWithout s permits = (q : Permit) → IsIn q permits → has_no_path s q ≡ false

no_such : (s : Site) (permits : List Permit) (u w : ℕ) → NoneWithout s permits → list_any (is_at s u w) permits ≡ true → ⊥
no_such s permits u w none h =
    let q = some_in (is_at s u w) permits h in
    let a = and_parts ((q.0.src.net == u) && (q.0.dst.net == w)) (has_no_path s q.0) q.2 in
    false≢true (sym (none q.0 q.1) ∙ a.1)

-- ---- none

pub clear : (s : Site) (v : Views) (permits : List Permit) → NoneWithout s permits → AreSeenThroughout s v permits → IsClear s v permits
clear s v permits paths seen (NoPath u w) h = no_such s permits u w paths h
clear s v permits paths seen (HiddenEnd k u w n z) h = false≢true (sym (seen k h.0 z h.1 n) ∙ h.2)
clear s v permits paths seen f h = absurd h

-- ---- orders of values

-- The first list doesn't come before the second where its head is no less, and where the heads are one its tail doesn't.
not_before : (a b : ℕ) (rest : Bool) → (a < b → ⊥) → (a ≡ b → rest ≡ true → ⊥) → (nat_lt a b || ((a == b) && rest)) ≡ false
not_before a b rest f g =
    false_from_ne_true (nat_lt a b || ((a == b) && rest))
    (λ t. ⊎_elim (λ lt. f (ltb-true a b lt)) (λ e. let p = and_parts (a == b) rest e in g (eqb-true a b p.0) p.1) (or_cases (nat_lt a b) ((a == b) && rest) t))

before : (a b : ℕ) (rest : Bool) → (nat_lt a b || ((a == b) && rest)) ≡ true → (a < b → ⊥) → (a ≡ b) × (rest ≡ true)
before a b rest t f =
    ⊎_elim (λ lt. absurd (f (ltb-true a b lt))) (λ e. let p = and_parts (a == b) rest e in (eqb-true a b p.0, p.1)) (or_cases (nat_lt a b) ((a == b) && rest) t)

-- ---- a permit without a path

module _ (s : Site) (v : Views) (permits : List Permit) (u w : ℕ) (is : IsFirstWithout s permits u w) where
  first_path : (g : FaultCase) → HasWalkFault s v permits g → IsTrue (not (is_lower (order_of permits g) (order_of permits (NoPath u w))))
  first_path (NoPath x y) h = ap not (not_before x u (nat_lt y w || ((y == w) && false)) (is.least x y h) (λ e t. false≢true (before y w false t (is.next x y h e)).1))
  first_path (HiddenEnd k x y n z) h = refl
  first_path f h = absurd h

  pub tells_path : (sources : List Source) (told : Fault) → IsTold sources s (NoPath u w) told → TellsWalk sources s v permits told
  tells_path sources told tells = record { case = NoPath u w; there = is.there; first = first_path; tells = tells }

-- ---- a hidden end

module _ (s : Site) (v : Views) (permits : List Permit) (k z : ℕ) (is_dst : Bool) (is : IsFirstHidden s v permits k z is_dst) (paths : NoneWithout s permits) where
  abbrev its_permit : Permit
  its_permit = permit_at permits k

  abbrev its_case : FaultCase
  its_case = HiddenEnd k its_permit.src.net its_permit.dst.net (end_net its_permit is_dst) z

  abbrev side : ℕ → ℕ → ℕ
  side j n = cond ((permit_at permits j).src.net == n) 0 1

  abbrev side_rest : ℕ → ℕ → Bool
  side_rest j n = nat_lt (side j n) (side k (end_net its_permit is_dst)) || ((side j n == side k (end_net its_permit is_dst)) && false)

  abbrev zone_rest : ℕ → Bool → Bool
  zone_rest y rest = nat_lt y z || ((y == z) && rest)

  -- the end itself is no later one of its zone
  first_side : (n : ℕ) → is_hidden_end s v its_permit n z ≡ true → (cond (its_permit.src.net == n) 0 1 < cond (its_permit.src.net == end_net its_permit is_dst) 0 1) → ⊥
  first_side n h lt = go is_dst refl
    where
      src_mark : ◌≡◌ {A = ℕ} (cond (its_permit.src.net == its_permit.src.net) 0 1) 0
      src_mark = ap (λ b. let n : ℕ = cond b 0 1 in n) (eq-eqb its_permit.src.net its_permit.src.net refl)

      top : (b : Bool) → cond b 0 1 ≤ 1
      top true = omega arith
      top false = omega arith

      src_is : (b : Bool) → (its_permit.src.net == n) ≡ b → cond b 0 1 < 1 → its_permit.src.net ≡ n
      src_is true e lt = eqb-true its_permit.src.net n e
      src_is false e lt = absurd (let z : ⊥ = omega (arith, lt) in z)

      go : (b : Bool) → is_dst ≡ b → ⊥
      go false e =
          let mark : ◌≡◌ {A = ℕ} (cond (its_permit.src.net == end_net its_permit is_dst) 0 1) 0 = ap (λ b. let n : ℕ = cond (its_permit.src.net == end_net its_permit b) 0 1 in n) e ∙ src_mark in
          omega (arith, lt, mark)
      go true e =
          let high = top (its_permit.src.net == end_net its_permit is_dst) in
          let same = src_is (its_permit.src.net == n) refl (omega (arith, lt, high)) in
          false≢true (sym (is.here.here.source e) ∙ (ap (λ m. is_hidden_end s v its_permit m z) same ∙ h))

  first_end : (g : FaultCase) → HasWalkFault s v permits g → IsTrue (not (is_lower (order_of permits g) (order_of permits its_case)))
  first_end (NoPath x y) h = absurd (no_such s permits x y paths h)
  first_end (HiddenEnd j x w n y) h =
      ap not
      (not_before j k (zone_rest y (side_rest j n))
      (λ lt. false≢true (sym (is.before j lt y h.1 n) ∙ h.2))
      (λ e t.
      let here : is_hidden_end s v its_permit n y ≡ true = ap (λ (i : ℕ). is_hidden_end s v (permit_at permits i) n y) (sym e) ∙ h.2 in
      let zone = before y z (side_rest j n) t (λ lt. false≢true (sym (is.here.before y lt n) ∙ here)) in
      let at_zone : is_hidden_end s v its_permit n z ≡ true = ap (λ (x : ℕ). is_hidden_end s v its_permit n x) (sym zone.0) ∙ here in
      let last = before (side j n) (side k (end_net its_permit is_dst)) false zone.1 (λ lt. first_side n at_zone (subst (λ (i : ℕ). side i n < side k (end_net its_permit is_dst)) e lt)) in
      false≢true last.1))
  first_end f h = absurd h

  pub tells_hidden : (sources : List Source) (told : Fault) → IsTold sources s its_case told → TellsWalk sources s v permits told
  tells_hidden sources told tells = record { case = its_case; there = (is.below, is.here.there, is.here.here.hidden, refl, refl); first = first_end; tells = tells }
