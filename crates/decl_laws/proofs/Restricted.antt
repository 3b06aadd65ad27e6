-- The members of restrictions, and the anchors and borders of areas.
use Rattle.std.proofs.Common.{◌≡◌, ℕ, inl, inr, true, false, not, ◌||◌, ◌&&◌, List, [], ◌∷◌, map, refl, sym, ap, subst, ◌∙◌, ⊎_elim, eqb}
use Rattle.std.specs.Prelude.{is_some, flat_map, option_map}
use Rattle.std.specs.List.{list_any, list_all, slice_get}
use Rattle.std.proofs.lemmas.Bool.{false≢true, or_parts, or_left, or_right, and_from, and_cases, not-true, not-false, not_from_false, ne_eqb}
use Rattle.policy_model.specs.Lists.{is_nothing}
use Rattle.policy_model.specs.Policy.{Area, Restriction, iface_of, router_at, is_managed}
use Rattle.policy_model.specs.Walks.{sharing_ifaces, shared_sets}
use Rattle.policy_model.proofs.AllWalks.{IsIn, in_flat_map, in_map, from_map}
use Rattle.list_laws.proofs.Members.{in_either, each_in, some_in, some_of}
use Rattle.list_laws.proofs.Tables.{from_flat_map}
use Rattle.topology.specs.Sound as sound
use Rattle.spoc_ast.specs.Written.{Lexeme, PortText, AreaPartText, AreaAnchor, AreaBorder, AreaIdle, DeclText, NetworkDecl, RouterDecl, GroupDecl, AreaDecl, AggregateDecl, ProtocolDecl, ProtocolGroupDecl, RestrictionDecl, ServiceDecl}
use Rattle.policy_decls.specs.Names.{NetworkName, mention_port}
use Rattle.policy_decls.specs.Uses.{used_names, uses_in, uses_in_area_part}
use Rattle.policy_decls.specs.Lookup.{is_managed_router, router_parts}
use Rattle.policy_decls.specs.Shapes.{has_two, same_texts, same_port, differ, is_unmanaged_port, anchors_in, borders_in}
use Rattle.policy_decls.specs.Said.{number_of_name, number_of_port, adds_of, restrictions_declared, policy_declared, implied_by, restrictions_implied, policy_said}
use Rattle.policy_decls.specs.Formed.{is_formed_area, are_formed}
use Rattle.decl_laws.proofs.Rows.{HasNoFault}
use Rattle.decl_laws.proofs.Found.{same_to}
use Rattle.decl_laws.proofs.Owners.{known_number, port_managed, one_port}
use Rattle.decl_laws.proofs.Sharing.{is_sharing, set_shared}
use Rattle.decl_laws.proofs.Equipped.{shares_hold}
use Rattle.decl_laws.proofs.Shaped.{none_in, some_value, all_from, formed_in, shape_of, restriction_shape, area_shape}

module _ (decls : List DeclText) (formed : are_formed decls ≡ true) (no_fault : HasNoFault decls) where
  -- a port of a managed router has the number of an interface of a managed router
  of_managed : (q : PortText) → IsIn (mention_port q) (used_names decls) → is_unmanaged_port decls q ≡ false → is_managed (policy_said decls) (router_at (policy_said decls) (number_of_port decls q)) ≡ true
  of_managed q h e = port_managed decls q (known_number decls no_fault.unknown (mention_port q) h) ∙ not-false (is_managed_router (router_parts decls q.router.text)) e

  -- ---- restrictions

  ports_differ : (ports : List PortText) → ((q : PortText) → IsIn q ports → IsIn (mention_port q) (used_names decls)) → differ ports ≡ true → sound.has_two (map (number_of_port decls) ports) ≡ true
  ports_differ [] used h = absurd (false≢true h)
  ports_differ (p ∷ ports) used h =
      let num = number_of_port decls in
      let w = some_in (λ q. not (same_port p q)) ports h in
      let q : PortText = w.0 in
      let known = λ (r : PortText) (i : IsIn r (p ∷ ports)). known_number decls no_fault.unknown (mention_port r) (used r i) in
      let other : num p ≡ num q → ⊥ =
      λ e. let same = one_port decls p q (known p (inl refl)) (known q (inr w.1)) e in
      false≢true (sym (not-true (same_port p q) w.2)
      ∙ and_from (same_texts p.router q.router) (same_texts p.net q.net) (same_to p.router.text q.router.text same.0) (same_to p.net.text q.net.text same.1)) in
      some_of (λ m. not (eqb (num p) m)) (num q) (map num ports) (in_map num q ports w.1) (not_from_false (eqb (num p) (num q)) (ne_eqb (num p) (num q) other))

  restriction_of_decl : (r : Restriction) (d : DeclText) → IsIn d decls → IsIn r (adds_of decls d).restrictions →
      (sound.has_two r.members && list_all (λ i. is_managed (policy_said decls) (router_at (policy_said decls) i)) r.members) ≡ true
  restriction_of_decl r (NetworkDecl name desc parts) h g = absurd g
  restriction_of_decl r (RouterDecl name desc parts) h g = absurd g
  restriction_of_decl r (GroupDecl name desc objects) h g = absurd g
  restriction_of_decl r (AreaDecl name desc parts) h g = absurd g
  restriction_of_decl r (AggregateDecl name desc parts) h g = absurd g
  restriction_of_decl r (ProtocolDecl name protocol notes) h g = absurd g
  restriction_of_decl r (ProtocolGroupDecl name prts) h g = absurd g
  restriction_of_decl r (RestrictionDecl name desc ports) h (inl e) =
      let p = policy_said decls in
      let d = RestrictionDecl name desc ports in
      let s = shape_of decls no_fault.shape d h in
      let bad = or_parts (list_any (is_unmanaged_port decls) ports) (not (differ ports)) (restriction_shape decls s.0 name desc ports s.1) in
      let used : (q : PortText) → IsIn q ports → IsIn (mention_port q) (used_names decls) = λ q i. in_flat_map uses_in d (mention_port q) decls h (in_map mention_port q ports i) in
      let managed : (i : ℕ) → IsIn i (map (number_of_port decls) ports) → is_managed p (router_at p i) ≡ true =
      λ i k. let w = from_map (number_of_port decls) i ports k in
      ap (λ n. is_managed p (router_at p n)) w.2 ∙ of_managed w.0 (used w.0 w.1) (none_in (is_unmanaged_port decls) ports bad.0 w.0 w.1) in
      ap (λ (x : Restriction). sound.has_two x.members && list_all (λ i. is_managed p (router_at p i)) x.members) e
      ∙ and_from (sound.has_two (map (number_of_port decls) ports)) _ (ports_differ ports used (not-false (differ ports) bad.1)) (all_from (λ i. is_managed p (router_at p i)) (map (number_of_port decls) ports) managed)
  restriction_of_decl r (RestrictionDecl name desc ports) h (inr g) = absurd g
  restriction_of_decl r (ServiceDecl name desc idle user rules) h g = absurd g

  -- interfaces that share an address are of managed routers
  sharing_managed : (i : ℕ) → IsIn i (sharing_ifaces (policy_said decls)) → is_managed (policy_said decls) (router_at (policy_said decls) i) ≡ true
  sharing_managed i h =
      let w = is_sharing (policy_said decls) i h in
      let a = some_value (iface_of (policy_said decls) i).shared w.1 in
      (shares_hold decls formed no_fault i a.0 w.0 a.1).0

  implied_holds : (r : Restriction) → IsIn r (restrictions_implied (policy_declared decls)) →
      (sound.has_two r.members && list_all (λ i. is_managed (policy_said decls) (router_at (policy_said decls) i)) r.members) ≡ true
  implied_holds r h =
      let p = policy_said decls in
      let v = from_map (implied_by (policy_declared decls)) r (shared_sets p) h in
      let members : List ℕ = v.0 in
      let s = set_shared p members v.1 in
      ap (λ (x : Restriction). sound.has_two x.members && list_all (λ i. is_managed p (router_at p i)) x.members) v.2
      ∙ and_from (sound.has_two members) (list_all (λ i. is_managed p (router_at p i)) members) s.two (all_from (λ i. is_managed p (router_at p i)) members (λ i g. sharing_managed i (s.each i g)))

  pub restrictions_hold : list_all (λ r. sound.has_two r.members && list_all (λ i. is_managed (policy_said decls) (router_at (policy_said decls) i)) r.members) (policy_said decls).restrictions ≡ true
  restrictions_hold =
      all_from _ (policy_said decls).restrictions (λ r h. ⊎_elim
      (λ g. let w = from_flat_map (λ d. (adds_of decls d).restrictions) r decls g in restriction_of_decl r w.0 w.1 w.2) (implied_holds r)
      (in_either r (restrictions_declared decls) (restrictions_implied (policy_declared decls)) h))

  -- ---- areas

  border_part : (part : AreaPartText) (ports : List PortText) → IsIn ports (borders_in part) → is_formed_area part ≡ true → is_nothing ports ≡ false
  border_part (AreaAnchor name) ports h f = absurd h
  border_part (AreaBorder its_ports) ports (inl e) f = ap is_nothing e ∙ not-true (is_nothing its_ports) f
  border_part (AreaBorder its_ports) ports (inr h) f = absurd h
  border_part (AreaIdle idle) ports h f = absurd h

  border_used : (part : AreaPartText) (ports : List PortText) → IsIn ports (borders_in part) → (q : PortText) → IsIn q ports → IsIn (mention_port q) (uses_in_area_part part)
  border_used (AreaAnchor name) ports h q g = absurd h
  border_used (AreaBorder its_ports) ports (inl e) q g = in_map mention_port q its_ports (subst (λ l. IsIn q l) e g)
  border_used (AreaBorder its_ports) ports (inr h) q g = absurd h
  border_used (AreaIdle idle) ports h q g = absurd h

  has_anchor : (anchors : List Lexeme) → is_nothing anchors ≡ false → is_some (option_map (number_of_name decls NetworkName) (slice_get anchors 0)) ≡ true
  has_anchor [] h = absurd (false≢true (sym h))
  has_anchor (w ∷ words) h = refl

  has_border : (borders : List (List PortText)) → ((ports : List PortText) → IsIn ports borders → is_nothing ports ≡ false) → is_nothing borders ≡ false →
      is_nothing (flat_map (map (number_of_port decls)) borders) ≡ false
  has_border [] some h = absurd (false≢true (sym h))
  has_border ([] ∷ borders) some h = absurd (false≢true (sym (some [] (inl refl))))
  has_border ((q ∷ ports) ∷ borders) some h = refl

  area_of_decl : (a : Area) (d : DeclText) → IsIn d decls → IsIn a (adds_of decls d).areas →
      ((is_some a.anchor || not (is_nothing a.borders)) && list_all (λ i. is_managed (policy_said decls) (router_at (policy_said decls) i)) a.borders) ≡ true
  area_of_decl a (NetworkDecl name desc parts) h g = absurd g
  area_of_decl a (RouterDecl name desc parts) h g = absurd g
  area_of_decl a (GroupDecl name desc objects) h g = absurd g
  area_of_decl a (AreaDecl name desc parts) h (inl e) =
      let p = policy_said decls in
      let d = AreaDecl name desc parts in
      let s = shape_of decls no_fault.shape d h in
      let f = formed_in decls formed d h in
      let anchors = flat_map anchors_in parts in
      let borders = flat_map borders_in parts in
      let bad = or_parts (is_nothing anchors && is_nothing borders) _ (area_shape decls s.0 name desc parts s.1) in
      let two = or_parts (has_two anchors) _ bad.1 in
      let out = (or_parts (has_two borders) _ two.1).1 in
      let full : (ports : List PortText) → IsIn ports borders → is_nothing ports ≡ false =
      λ ports i. let w = from_flat_map borders_in ports parts i in border_part w.0 ports w.2 (each_in is_formed_area parts f w.0 w.1) in
      let bordered : (is_some (option_map (number_of_name decls NetworkName) (slice_get anchors 0)) || not (is_nothing (flat_map (map (number_of_port decls)) borders))) ≡ true =
      ⊎_elim (λ k. or_left _ _ (has_anchor anchors k)) (λ k. or_right _ _ (not_from_false _ (has_border borders full k))) (and_cases (is_nothing anchors) (is_nothing borders) bad.0) in
      let managed : (i : ℕ) → IsIn i (flat_map (map (number_of_port decls)) borders) → is_managed p (router_at p i) ≡ true =
      λ i k. let v = from_flat_map (map (number_of_port decls)) i borders k in
      let w = from_map (number_of_port decls) i v.0 v.2 in
      let u = from_flat_map borders_in v.0 parts v.1 in
      let used = in_flat_map uses_in d (mention_port w.0) decls h (in_flat_map uses_in_area_part u.0 (mention_port w.0) parts u.1 (border_used u.0 v.0 u.2 w.0 w.1)) in
      ap (λ n. is_managed p (router_at p n)) w.2 ∙ of_managed w.0 used (none_in (is_unmanaged_port decls) v.0 (none_in (list_any (is_unmanaged_port decls)) borders out v.0 v.1) w.0 w.1) in
      ap (λ (x : Area). (is_some x.anchor || not (is_nothing x.borders)) && list_all (λ i. is_managed p (router_at p i)) x.borders) e
      ∙ and_from (is_some (option_map (number_of_name decls NetworkName) (slice_get anchors 0)) || not (is_nothing (flat_map (map (number_of_port decls)) borders))) _ bordered
      (all_from (λ i. is_managed p (router_at p i)) (flat_map (map (number_of_port decls)) borders) managed)
  area_of_decl a (AreaDecl name desc parts) h (inr g) = absurd g
  area_of_decl a (AggregateDecl name desc parts) h g = absurd g
  area_of_decl a (ProtocolDecl name protocol notes) h g = absurd g
  area_of_decl a (ProtocolGroupDecl name prts) h g = absurd g
  area_of_decl a (RestrictionDecl name desc ports) h g = absurd g
  area_of_decl a (ServiceDecl name desc idle user rules) h g = absurd g

  pub areas_hold : list_all (λ a. (is_some a.anchor || not (is_nothing a.borders)) && list_all (λ i. is_managed (policy_said decls) (router_at (policy_said decls) i)) a.borders) (policy_said decls).areas ≡ true
  areas_hold = all_from _ (policy_said decls).areas (λ a h. let w = from_flat_map (λ d. (adds_of decls d).areas) a decls h in area_of_decl a w.0 w.1 w.2)
