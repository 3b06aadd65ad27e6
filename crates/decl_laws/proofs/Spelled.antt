-- Names and hardware are words.
use Rattle.std.proofs.Common.{◌≡◌, ℕ, zero, suc, inl, inr, true, ◌&&◌, List, [], ◌∷◌, ◌++◌, map, get_or, refl, sym, ap, subst, ◌∙◌, ⊎_elim}
use Rattle.std.specs.Prelude.{IsTrue, Option, Some, None, flat_map, slice_get, slice_index_or, codes}
use Rattle.std.specs.List.{list_all}
use Rattle.std.proofs.lemmas.Bool.{and_parts, and_from}
use Rattle.std.proofs.lemmas.List.Folds.{list_all-append}
use Rattle.spoc_base.specs.Spelling.{is_spelled}
use Rattle.topology.specs.Sound.{IsSpelled}
use Rattle.policy_model.specs.Policy.{Policy, Net, Router, Iface, Restriction, no_net, no_router, net_of, router_of, net_at, router_at}
use Rattle.policy_model.specs.Walks.{shared_sets}
use Rattle.policy_model.proofs.AllWalks.{IsIn, in_map, in_flat_map, from_map}
use Rattle.list_laws.proofs.Members.{each_in, from_filter, in_either}
use Rattle.list_laws.proofs.Tables.{from_flat_map}
use Rattle.spoc_ast.specs.Written.{Lexeme, DeclText}
use Rattle.policy_decls.specs.Names.{NameKind, NetworkName, HostName, TagName, RouterName, GroupName, AreaName, AggregateName, RestrictionName, ServiceName, Mention, names_in, declared_names}
use Rattle.policy_decls.specs.Lookup.{IfaceText, ifaces_in, declared_ifaces, iface_hardware}
use Rattle.policy_decls.specs.Said.{names_of, tag_names, text_or_none, iface_said, restrictions_declared, policy_declared, iface_name, implied_by, restrictions_implied, policy_said}
use Rattle.policy_decls.specs.Spelled.{is_spelled_decl, are_spelled}
use Rattle.decl_laws.proofs.Places.{all_from, get_in}
use Rattle.decl_laws.proofs.NamesByKind.{is_of, texts, net_names, host_names, router_names, restriction_names, group_names, area_names, aggregate_names, service_names, tag_texts}
use Rattle.decl_laws.proofs.NameNumbers.{tag_kind}

-- what stands at a number is spelled, where all are and the empty one is
spelled_at : {X : Type 0} (name_of : X → List ℕ) (xs : List X) (k : ℕ) (d : X) → list_all (λ x. is_spelled (name_of x)) xs ≡ true → is_spelled (name_of d) ≡ true → is_spelled (name_of (get_or xs k d)) ≡ true
spelled_at name_of [] k d all none = none
spelled_at name_of (x ∷ xs) zero d all none = (and_parts (is_spelled (name_of x)) _ all).0
spelled_at name_of (x ∷ xs) (suc k) d all none = spelled_at name_of xs k d (and_parts (is_spelled (name_of x)) _ all).1 none

module _ (decls : List DeclText) (spelled : are_spelled decls ≡ true) where
  spelled_name : (m : Mention) → IsIn m (declared_names decls) → is_spelled m.text ≡ true
  spelled_name m h =
      let w = from_flat_map names_in m decls h in
      each_in (λ (m : Mention). is_spelled m.text) (names_in w.0)
      (and_parts (list_all (λ (m : Mention). is_spelled m.text) (names_in w.0)) (list_all (λ (u : Lexeme). is_spelled u.text) (flat_map iface_hardware (ifaces_in w.0))) (each_in is_spelled_decl decls spelled w.0 w.1)).0
      m w.2

  spelled_word : (x : IfaceText) → IsIn x (declared_ifaces decls) → (v : Lexeme) → IsIn v (iface_hardware x) → is_spelled v.text ≡ true
  spelled_word x h v g =
      let w = from_flat_map ifaces_in x decls h in
      each_in (λ (u : Lexeme). is_spelled u.text) (flat_map iface_hardware (ifaces_in w.0))
      (and_parts (list_all (λ (m : Mention). is_spelled m.text) (names_in w.0)) (list_all (λ (u : Lexeme). is_spelled u.text) (flat_map iface_hardware (ifaces_in w.0))) (each_in is_spelled_decl decls spelled w.0 w.1)).1
      v (in_flat_map iface_hardware x v (ifaces_in w.0) w.2 g)

  spelled_names : {X : Type 0} (xs : List X) (name_of : X → List ℕ) (names : List Mention) → map name_of xs ≡ texts names → ((m : Mention) → IsIn m names → IsIn m (declared_names decls)) → list_all (λ x. is_spelled (name_of x)) xs ≡ true
  spelled_names xs name_of names e own =
      all_from (λ x. is_spelled (name_of x)) xs (λ x h.
      let m = from_map (λ (m : Mention). m.text) (name_of x) names (subst (IsIn (name_of x)) e (in_map name_of x xs h)) in
      ap is_spelled m.2 ∙ spelled_name m.0 (own m.0 m.1))

  of_kind : (k : NameKind) (m : Mention) → IsIn m (names_of decls k) → IsIn m (declared_names decls)
  of_kind k m h = (from_filter (is_of k) m (declared_names decls) h).0

  spelled_hardware : (x : Iface) → IsIn x (policy_said decls).ifaces → is_spelled x.hardware ≡ true
  spelled_hardware x h =
      let i = from_map (iface_said decls) x (declared_ifaces decls) h in
      ap (λ y. is_spelled y.hardware) i.2 ∙ by (slice_get (iface_hardware i.0) 0) (λ v e. spelled_word i.0 i.1 v (get_in v (iface_hardware i.0) 0 e))
    where
      by : (o : Option Lexeme) → ((v : Lexeme) → o ≡ Some v → is_spelled v.text ≡ true) → is_spelled (text_or_none o) ≡ true
      by None each = refl
      by (Some v) each = each v refl

  nets_spelled : list_all (λ (x : Net). is_spelled x.name) (policy_said decls).nets ≡ true
  nets_spelled = spelled_names (policy_said decls).nets (λ x. x.name) (names_of decls NetworkName) (net_names decls) (of_kind NetworkName)

  routers_spelled : list_all (λ (x : Router). is_spelled x.name) (policy_said decls).routers ≡ true
  routers_spelled = spelled_names (policy_said decls).routers (λ x. x.name) (names_of decls RouterName) (router_names decls) (of_kind RouterName)

  -- the name of an interface
  spelled_iface : (i : ℕ) → is_spelled (iface_name (policy_said decls) i) ≡ true
  spelled_iface i =
      let p = policy_said decls in
      let router : List ℕ = (router_of p (router_at p i)).name in
      let net : List ℕ = (net_of p (net_at p i)).name in
      let r : is_spelled router ≡ true = spelled_at (λ (x : Router). x.name) p.routers (router_at p i) no_router routers_spelled refl in
      let n : is_spelled net ≡ true = spelled_at (λ (x : Net). x.name) p.nets (net_at p i) no_net nets_spelled refl in
      list_all-append _ router (codes "." ++ net) ∙ and_from (is_spelled router) (is_spelled (codes "." ++ net)) r n

  restriction_spelled : (x : Restriction) → IsIn x (policy_said decls).restrictions → is_spelled x.name ≡ true
  restriction_spelled x h =
      ⊎_elim
      (λ g. each_in (λ (r : Restriction). is_spelled r.name) (restrictions_declared decls)
      (spelled_names (restrictions_declared decls) (λ r. r.name) (names_of decls RestrictionName) (restriction_names decls) (of_kind RestrictionName)) x g)
      (λ g. let v = from_map (implied_by (policy_declared decls)) x (shared_sets (policy_said decls)) g in
      ap (λ (r : Restriction). is_spelled r.name) v.2 ∙ spelled_iface (slice_index_or v.0 0 0))
      (in_either x (restrictions_declared decls) (restrictions_implied (policy_declared decls)) h)

  pub all_spelled : IsSpelled (policy_said decls)
  all_spelled =
      let p = policy_said decls in
      record {
        nets = nets_spelled;
        hosts = spelled_names p.hosts (λ x. x.name) (names_of decls HostName) (host_names decls) (of_kind HostName);
        routers = routers_spelled;
        hardware = all_from (λ x. is_spelled x.hardware) p.ifaces spelled_hardware;
        tags = spelled_names p.tags (λ x. x.name) (tag_names decls) (tag_texts decls) (λ m h. of_kind TagName m (tag_kind decls m h));
        restrictions = all_from (λ x. is_spelled x.name) p.restrictions restriction_spelled;
        groups = spelled_names p.groups (λ x. x.name) (names_of decls GroupName) (group_names decls) (of_kind GroupName);
        areas = spelled_names p.areas (λ x. x.name) (names_of decls AreaName) (area_names decls) (of_kind AreaName);
        aggregates = spelled_names p.aggregates (λ x. x.name) (names_of decls AggregateName) (aggregate_names decls) (of_kind AggregateName);
        services = spelled_names p.services (λ x. x.name) (names_of decls ServiceName) (service_names decls) (of_kind ServiceName);
      }
