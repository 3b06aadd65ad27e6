-- No limit is passed.
use Rattle.std.proofs.Common.{◌≡◌, refl, sym, ap, subst, ◌∙◌, ℕ, suc, ◌+◌, ◌<◌, ◌≤◌, ◌^◌, Bool, true, false, not, ◌||◌, cond, List, [], ◌∷◌, length, map, get_or, Option, Some, None, is_some, nat_lt, arith, length-append}
use Rattle.std.specs.Prelude.{IsTrue, flat_map, filter, slice_get}
use Rattle.std.specs.List.{list_any, list_all, range_with_len}
use Rattle.std.proofs.lemmas.Bool.{or_parts, ltb-false, le-leb}
use Rattle.std.proofs.lemmas.Option.{none-some}
use Rattle.std.proofs.lemmas.List.Filters.{length-filter_both}
use Rattle.spoc_base.specs.declared.fault.LimitWord.{LimitWord}
use Rattle.spoc_base.specs.declared.fault.LimitWord.TheVariants.{Networks, Routers, Interfaces, Hosts, Services, Names, Nesting}
use Rattle.topology.specs.Sound.{IsLimited, is_short, HasImplied}
use Rattle.policy_model.specs.Lists.{once_each}
use Rattle.policy_model.specs.Policy.{Router, Iface, no_router, is_managed, managed_routers}
use Rattle.spoc_ast.specs.Written.{Lexeme, DeclText, RouterDecl}
use Rattle.policy_decls.specs.Names.{NameKind, NetworkName, HostName, TagName, RouterName, IfaceName, GroupName, AreaName, AggregateName, RestrictionName, ServiceName, Mention, declared_names}
use Rattle.policy_decls.specs.Lookup.{declared_ifaces, iface_hardware, is_managed_router}
use Rattle.policy_decls.specs.Nesting.{nesting_names, nests}
use Rattle.policy_decls.specs.Limits.{count_of, declares_managed, managed_count, has_long_name, nest_too_deep, first_word, limit_passed}
use Rattle.policy_decls.specs.Said.{same_text, names_of, tag_names, device_in, adds_of, text_or_none, iface_said, restrictions_declared, policy_said}
use Rattle.policy_decls.specs.Faults.{fault_of}
use Rattle.policy_decls.specs.Formed.{are_formed}
use Rattle.policy_model.proofs.AllWalks.{IsIn, in_map, in_flat_map, from_map}
use Rattle.list_laws.proofs.Members.{from_filter}
use Rattle.decl_laws.proofs.Rows.{no_rows}
use Rattle.decl_laws.proofs.Places.{all_from, get_in, none_passes, filter_flat_map}
use Rattle.decl_laws.proofs.Taken.{IsFaultless, each_faultless}
use Rattle.decl_laws.proofs.NamesByKind.{is_of, texts, as_many, net_names, host_names, router_names, restriction_names, group_names, area_names, aggregate_names, service_names, tag_texts}
use Rattle.decl_laws.proofs.NameNumbers.{tag_kind, iface_count}
use Rattle.decl_laws.proofs.Implied.{has_implied, few_restrictions}
use Rattle.decl_laws.proofs.Stands.{device_there}
use Rattle.decl_laws.proofs.Chains.{no_long_chain}

limit_row : (word : LimitWord) (b : Bool) (rows : List (LimitWord × Bool)) → first_word ((word, b) ∷ rows) ≡ None → (b ≡ false) × (first_word rows ≡ None)
limit_row word true rows e = absurd (none-some word (sym e))
limit_row word false rows e = (refl, e)

-- each limit, as it is tested
pub record IsWithin (decls : List DeclText) : Type 0 where
  pub nets : nat_lt 65535 (count_of decls NetworkName) ≡ false
  pub routers : nat_lt 65535 (count_of decls RouterName) ≡ false
  pub managed : nat_lt 4095 (managed_count decls) ≡ false
  pub ifaces : nat_lt 65535 (count_of decls IfaceName) ≡ false
  pub hosts : nat_lt 1000000 (count_of decls HostName) ≡ false
  pub services : nat_lt 65535 (count_of decls ServiceName) ≡ false
  pub names : list_any (λ name. nat_lt 100 (length name.text)) (declared_names decls) ≡ false
  pub hardware : list_any (λ w. nat_lt 100 (length w.text)) (flat_map iface_hardware (declared_ifaces decls)) ≡ false
  pub nesting : list_any (nests decls 65) (nesting_names decls) ≡ false

pub within : (decls : List DeclText) → limit_passed decls ≡ None → IsWithin decls
within decls e =
    let nets = nat_lt 65535 (count_of decls NetworkName) in
    let routers = nat_lt 65535 (count_of decls RouterName) in
    let managed = nat_lt 4095 (managed_count decls) in
    let ifaces = nat_lt 65535 (count_of decls IfaceName) in
    let hosts = nat_lt 1000000 (count_of decls HostName) in
    let services = nat_lt 65535 (count_of decls ServiceName) in
    let row7 : List (LimitWord × Bool) = (Nesting, nest_too_deep decls) ∷ [] in
    let row6 : List (LimitWord × Bool) = (Names, has_long_name decls) ∷ row7 in
    let row5 : List (LimitWord × Bool) = (Services, services) ∷ row6 in
    let row4 : List (LimitWord × Bool) = (Hosts, hosts) ∷ row5 in
    let row3 : List (LimitWord × Bool) = (Interfaces, ifaces) ∷ row4 in
    let row2 : List (LimitWord × Bool) = (Routers, routers || managed) ∷ row3 in
    let a = limit_row Networks nets row2 e in
    let b = limit_row Routers (routers || managed) row3 a.1 in
    let c = limit_row Interfaces ifaces row4 b.1 in
    let d = limit_row Hosts hosts row5 c.1 in
    let f = limit_row Services services row6 d.1 in
    let g = limit_row Names (has_long_name decls) row7 f.1 in
    let h = limit_row Nesting (nest_too_deep decls) [] g.1 in
    let both = or_parts routers managed b.0 in
    let long = or_parts (list_any (λ name. nat_lt 100 (length name.text)) (declared_names decls)) (list_any (λ w. nat_lt 100 (length w.text)) (flat_map iface_hardware (declared_ifaces decls))) g.0 in
    record { nets = a.0; routers = both.0; managed = both.1; ifaces = c.0; hosts = d.0; services = f.0; names = long.0; hardware = long.1; nesting = h.0 }

-- ---- how long lists are

fewer : {A : Type 0} (test : A → Bool) (xs : List A) → length (filter test xs) ≤ length xs
fewer test xs = let e = length-filter_both test (λ x. not (test x)) (λ x. refl) xs in omega (arith, e)

once_fewer : {A : Type 0} (same : A → A → Bool) (xs : List A) → length (once_each same xs) ≤ length xs
once_fewer same [] = omega arith
once_fewer same (x ∷ xs) =
    let f = fewer (λ y. not (same x y)) (once_each same xs) in
    let h = once_fewer same xs in omega (arith, f, h)

counted : {A B : Type 0} (f : A → List B) (test : A → Bool) → ((x : A) → length (f x) ≡ cond (test x) 1 0) → (xs : List A) → length (flat_map f xs) ≡ length (filter test xs)
counted f test each [] = refl
counted f test each (x ∷ xs) = length-append (f x) (flat_map f xs) ∙ ap (λ n. n + length (flat_map f xs)) (each x) ∙ ap (λ n. cond (test x) 1 0 + n) (counted f test each xs) ∙ one_more (test x)
  where
    one_more : (b : Bool) → cond b 1 0 + length (filter test xs) ≡ length (cond b (x ∷ filter test xs) (filter test xs))
    one_more true = omega arith
    one_more false = omega arith

-- numbers whose items pass are as many as these
filter_places : {A : Type 0} (test : A → Bool) (f : ℕ → Bool) (a : ℕ) (xs : List A) (z : A) → ((k : ℕ) → k < length xs → f (a + k) ≡ test (get_or xs k z)) → length (filter f (range_with_len a (length xs))) ≡ length (filter test xs)
filter_places test f a [] z each = refl
filter_places test f a (x ∷ xs) z each =
    let start : a ≡ a + 0 = omega arith in
    let here : f a ≡ test x = ap f start ∙ each 0 (omega arith) in
    let later : (k : ℕ) → k < length xs → f ((a + 1) + k) ≡ test (get_or xs k z) = λ k below. let e : (a + 1) + k ≡ a + suc k = omega arith in ap f e ∙ each (suc k) (omega arith) in
    ap (λ b. length (cond b (a ∷ filter f (range_with_len (a + 1) (length xs))) (filter f (range_with_len (a + 1) (length xs))))) here ∙ by (test x) (filter_places test f (a + 1) xs z later)
  where
    by : (b : Bool) → length (filter f (range_with_len (a + 1) (length xs))) ≡ length (filter test xs) →
        length (cond b (a ∷ filter f (range_with_len (a + 1) (length xs))) (filter f (range_with_len (a + 1) (length xs)))) ≡ length (cond b (x ∷ filter test xs) (filter test xs))
    by true e = ap suc e
    by false e = e

module _ (decls : List DeclText) where
  one_managed : (d : DeclText) → length (filter (λ (r : Router). is_some r.device) (adds_of decls d).routers) ≡ cond (declares_managed d) 1 0
  one_managed (RouterDecl name desc parts) = ap (λ b. length (cond b (own ∷ []) [])) (device_there parts) ∙ by (is_managed_router parts)
    where
      own : Router
      own = record { name = name.text; device = device_in parts }

      by : (b : Bool) → length (cond b (own ∷ []) []) ≡ cond b 1 0
      by true = refl
      by false = refl
  one_managed _ = refl

  managed_many : length (managed_routers (policy_said decls)) ≡ managed_count decls
  managed_many =
      let p = policy_said decls in
      let test = λ (r : Router). is_some r.device in
      filter_places test (is_managed p) 0 p.routers no_router (λ k below. let e : 0 + k ≡ k = omega arith in ap (is_managed p) e)
      ∙ ap length (filter_flat_map test (λ d. (adds_of decls d).routers) decls)
      ∙ counted (λ d. filter test (adds_of decls d).routers) declares_managed one_managed decls

  few_of : {X : Type 0} (xs : List X) (name_of : X → List ℕ) (k : NameKind) → map name_of xs ≡ texts (names_of decls k) → (most : ℕ) → length (declared_names decls) < most → length xs < most
  few_of xs name_of k e most h =
      let n = as_many name_of (λ m. m.text) xs (names_of decls k) e in
      let f = fewer (is_of k) (declared_names decls) in
      omega (arith, n, f, h)

  few_tags : (most : ℕ) → length (declared_names decls) < most → length (policy_said decls).tags < most
  few_tags most h =
      let n = as_many (λ x. x.name) (λ m. m.text) (policy_said decls).tags (tag_names decls) (tag_texts decls) in
      let o = once_fewer same_text (names_of decls TagName) in
      let f = fewer (is_of TagName) (declared_names decls) in
      omega (arith, n, o, f, h)

  count_within : {X : Type 0} (xs : List X) (name_of : X → List ℕ) (k : NameKind) → map name_of xs ≡ texts (names_of decls k) → (most : ℕ) → nat_lt most (count_of decls k) ≡ false → length xs ≤ most
  count_within xs name_of k e most h = subst (λ n. n ≤ most) (sym (as_many name_of (λ m. m.text) xs (names_of decls k) e)) (ltb-false most (count_of decls k) h)

  module _ (w : IsWithin decls) where
    short : (m : Mention) → IsIn m (declared_names decls) → is_short m.text ≡ true
    short m h = le-leb (length m.text) 100 (ltb-false 100 (length m.text) (none_passes (λ name. nat_lt 100 (length name.text)) (declared_names decls) w.names m h))

    short_names : {X : Type 0} (xs : List X) (name_of : X → List ℕ) (names : List Mention) → map name_of xs ≡ texts names → ((m : Mention) → IsIn m names → IsIn m (declared_names decls)) → list_all (λ x. is_short (name_of x)) xs ≡ true
    short_names xs name_of names e own =
        all_from (λ x. is_short (name_of x)) xs (λ x h.
        let m = from_map (λ (m : Mention). m.text) (name_of x) names (subst (IsIn (name_of x)) e (in_map name_of x xs h)) in
        ap is_short m.2 ∙ short m.0 (own m.0 m.1))

    of_kind : (k : NameKind) (m : Mention) → IsIn m (names_of decls k) → IsIn m (declared_names decls)
    of_kind k m h = (from_filter (is_of k) m (declared_names decls) h).0

    short_hardware : (x : Iface) → IsIn x (policy_said decls).ifaces → is_short x.hardware ≡ true
    short_hardware x h =
        let i = from_map (iface_said decls) x (declared_ifaces decls) h in
        ap (λ y. is_short y.hardware) i.2 ∙ by (slice_get (iface_hardware i.0) 0) (λ v e. in_flat_map iface_hardware i.0 v (declared_ifaces decls) i.1 (get_in v (iface_hardware i.0) 0 e))
      where
        by : (o : Option Lexeme) → ((v : Lexeme) → o ≡ Some v → IsIn v (flat_map iface_hardware (declared_ifaces decls))) → is_short (text_or_none o) ≡ true
        by None each = refl
        by (Some v) each =
            le-leb (length v.text) 100 (ltb-false 100 (length v.text) (none_passes (λ u. nat_lt 100 (length u.text)) (flat_map iface_hardware (declared_ifaces decls)) w.hardware v (each v refl)))

    pub short_restrictions : list_all (λ x. is_short x.name) (restrictions_declared decls) ≡ true
    short_restrictions = short_names (restrictions_declared decls) (λ x. x.name) (names_of decls RestrictionName) (restriction_names decls) (of_kind RestrictionName)

    pub all_limited : ((d : DeclText) → IsIn d decls → IsFaultless decls d) → length (declared_names decls) < 2 ^ 32 → IsLimited (policy_said decls)
    all_limited faultless few =
        let p = policy_said decls in
        record {
          nets = count_within p.nets (λ x. x.name) NetworkName (net_names decls) 65535 w.nets;
          hosts = count_within p.hosts (λ x. x.name) HostName (host_names decls) 1000000 w.hosts;
          routers = count_within p.routers (λ x. x.name) RouterName (router_names decls) 65535 w.routers;
          managed = subst (λ n. n ≤ 4095) (sym managed_many) (ltb-false 4095 (managed_count decls) w.managed);
          ifaces = subst (λ n. n ≤ 65535) (sym (iface_count decls)) (ltb-false 65535 (count_of decls IfaceName) w.ifaces);
          services = count_within p.services (λ x. x.name) ServiceName (service_names decls) 65535 w.services;
          tags = few_tags (2 ^ 32) few;
          restrictions = few_restrictions decls (2 ^ 32) few;
          groups = few_of p.groups (λ x. x.name) GroupName (group_names decls) (2 ^ 32) few;
          areas = few_of p.areas (λ x. x.name) AreaName (area_names decls) (2 ^ 32) few;
          aggregates = few_of p.aggregates (λ x. x.name) AggregateName (aggregate_names decls) (2 ^ 32) few;
          net_names = short_names p.nets (λ x. x.name) (names_of decls NetworkName) (net_names decls) (of_kind NetworkName);
          host_names = short_names p.hosts (λ x. x.name) (names_of decls HostName) (host_names decls) (of_kind HostName);
          router_names = short_names p.routers (λ x. x.name) (names_of decls RouterName) (router_names decls) (of_kind RouterName);
          hardware_names = all_from (λ x. is_short x.hardware) p.ifaces short_hardware;
          tag_names = short_names p.tags (λ x. x.name) (tag_names decls) (tag_texts decls) (λ m h. of_kind TagName m (tag_kind decls m h));
          group_names = short_names p.groups (λ x. x.name) (names_of decls GroupName) (group_names decls) (of_kind GroupName);
          area_names = short_names p.areas (λ x. x.name) (names_of decls AreaName) (area_names decls) (of_kind AreaName);
          aggregate_names = short_names p.aggregates (λ x. x.name) (names_of decls AggregateName) (aggregate_names decls) (of_kind AggregateName);
          service_names = short_names p.services (λ x. x.name) (names_of decls ServiceName) (service_names decls) (of_kind ServiceName);
          nesting = λ groups chain. let h = no_long_chain decls faultless 65 (omega arith) w.nesting groups chain in omega (arith, h);
        }

pub limits_kept : (decls : List DeclText) → IsTrue (are_formed decls) → fault_of decls ≡ None → length (declared_names decls) < 2 ^ 32 → IsLimited (policy_said decls)
limits_kept decls formed none few = let h = no_rows decls none in all_limited decls (within decls h.limit) (each_faultless decls formed h) few

pub implied_kept : (decls : List DeclText) → fault_of decls ≡ None → HasImplied (policy_said decls)
implied_kept decls none = has_implied decls (short_restrictions decls (within decls (no_rows decls none).limit))
