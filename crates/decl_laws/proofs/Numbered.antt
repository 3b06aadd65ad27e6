-- Each number in the policy is that of a thing that is declared.
use Rattle.std.proofs.Common.{◌≡◌, inl, inr, refl, sym, ap, subst, ⊎_elim, ℕ, ◌<◌, true, List, [], ◌∷◌, length, map, Option, Some, None, nat_lt, IfSome, not, arith}
use Rattle.std.specs.Prelude.{IsTrue, flat_map, slice_get, option_map}
use Rattle.std.proofs.lemmas.Bool.{lt-ltb, or_parts, not-false, eqb-true}
use Rattle.topology.specs.Sound.{IsNumbered, are_below}
use Rattle.policy_model.specs.Walks.{shared_sets}
use Rattle.policy_model.specs.Policy.{Net, Host, Iface, Restriction, Area, Aggregate, no_net, no_host, no_iface, no_area, no_aggregate}
use Rattle.spoc_ast.specs.Written.{Lexeme, NetPartText, NetIp, NetHost, NetNat, NetIdle, AnyPartText, DeclText, NetworkDecl, AreaDecl, AggregateDecl, RestrictionDecl}
use Rattle.policy_decls.specs.Names.{NetworkName, mention}
use Rattle.policy_decls.specs.Lookup.{declared_ifaces, iface_binds}
use Rattle.policy_decls.specs.Shapes.{anchors_in, borders_in, links_in, ips_in_any_part, has_one, has_two, is_bad_aggregate}
use Rattle.policy_decls.specs.Said.{number_of_name, number_of_tag, number_of_port, nats_said, hosts_said, adds_of, iface_said, or_zero, restrictions_declared, policy_declared, implied_by, restrictions_implied, policy_said}
use Rattle.policy_decls.specs.Faults.{fault_of}
use Rattle.policy_decls.specs.Formed.{are_formed}
use Rattle.policy_model.proofs.AllWalks.{IsIn, from_map}
use Rattle.list_laws.proofs.Members.{in_either}
use Rattle.list_laws.proofs.Tables.{from_flat_map}
use Rattle.decl_laws.proofs.Rows.{no_rows}
use Rattle.decl_laws.proofs.Sharing.{is_sharing, set_shared}
use Rattle.decl_laws.proofs.Places.{at_each, all_from, get_in}
use Rattle.decl_laws.proofs.Taken.{IsFaultless, each_faultless, row_clear}
use Rattle.decl_laws.proofs.NameNumbers.{net_below, router_below, port_below, tag_below}
use Rattle.decl_laws.proofs.Declared.{own_name, own_tag, iface_of_decl, iface_router, iface_net, iface_tag, anchor_known, border_known, link_known, member_known}

-- what a list of one has
pub one_there : {A : Type 0} (xs : List A) → has_one xs ≡ true → (x : A) × (slice_get xs 0 ≡ Some x)
one_there [] e = absurd (omega (arith, eqb-true 0 1 e))
one_there (x ∷ xs) e = (x, refl)

module _ (decls : List DeclText) (faultless : (d : DeclText) → IsIn d decls → IsFaultless decls d) where
  abbrev net_count : ℕ
  net_count = length (policy_said decls).nets

  below_all : (count : ℕ) (numbers : List ℕ) → ((n : ℕ) → IsIn n numbers → n < count) → are_below count numbers ≡ true
  below_all count numbers each = all_from (λ n. nat_lt n count) numbers (λ n h. lt-ltb n count (each n h))

  -- ---- networks and hosts

  nat_below : (name : Lexeme) (desc : _) (parts : List NetPartText) → IsIn (NetworkDecl name desc parts) decls → (e : _) (part : NetPartText) → IsIn part parts → IsIn e (nats_said decls part) →
      e.0 < length (policy_said decls).tags
  nat_below name desc parts g e (NetNat tag own) h (inl same) = subst (λ n. n < length (policy_said decls).tags) (sym (ap (λ x. x.0) same)) (tag_below decls tag (own_tag decls name desc parts tag own g h))
  nat_below name desc parts g e (NetNat tag own) h (inr k) = absurd k
  nat_below name desc parts g e (NetIp prefix) h k = absurd k
  nat_below name desc parts g e (NetHost host own) h k = absurd k
  nat_below name desc parts g e (NetIdle idle) h k = absurd k

  nats_below : (d : DeclText) → IsIn d decls → (x : Net) → IsIn x (adds_of decls d).nets → are_below (length (policy_said decls).tags) (map (λ nat. nat.0) x.nats) ≡ true
  nats_below (NetworkDecl name desc parts) g x (inl e) =
      subst (λ y. are_below (length (policy_said decls).tags) (map (λ nat. nat.0) y.nats) ≡ true) (sym e)
      (below_all (length (policy_said decls).tags) (map (λ nat. nat.0) (flat_map (nats_said decls) parts)) (λ n h.
      let a = from_map (λ (nat : ℕ × Option _). nat.0) n (flat_map (nats_said decls) parts) h in
      let b = from_flat_map (nats_said decls) a.0 parts a.1 in
      subst (λ m. m < length (policy_said decls).tags) (sym a.2) (nat_below name desc parts g a.0 b.0 b.1 b.2)))
  nats_below (NetworkDecl name desc parts) g x (inr h) = absurd h
  nats_below _ g x h = absurd h

  host_net : (n : ℕ) (x : Host) (part : NetPartText) → IsIn x (hosts_said n part) → x.net ≡ n
  host_net n x (NetHost name own) (inl e) = ap (λ y. y.net) e
  host_net n x (NetHost name own) (inr h) = absurd h
  host_net n x (NetIp prefix) h = absurd h
  host_net n x (NetNat tag own) h = absurd h
  host_net n x (NetIdle idle) h = absurd h

  hosts_below : (d : DeclText) → IsIn d decls → (x : Host) → IsIn x (adds_of decls d).hosts → x.net < net_count
  hosts_below (NetworkDecl name desc parts) g x h =
      let n = number_of_name decls NetworkName name in
      let w = from_flat_map (hosts_said n) x parts h in
      subst (λ m. m < net_count) (sym (host_net n x w.0 w.2)) (net_below decls name (own_name decls (NetworkDecl name desc parts) (mention NetworkName name) g (inl refl)))
  hosts_below _ g x h = absurd h

  -- ---- interfaces

  placed_iface : (x : Iface) → IsIn x (policy_said decls).ifaces → (x.net < net_count) × (x.router < length (policy_said decls).routers)
  placed_iface x h =
      let w = from_map (iface_said decls) x (declared_ifaces decls) h in
      let i = iface_of_decl decls w.0 w.1 in
      subst (λ y. (y.net < net_count) × (y.router < length (policy_said decls).routers)) (sym w.2) (net_below decls w.0.net (iface_net decls faultless w.0 i), router_below decls w.0.router (iface_router decls w.0 i))

  binds_below : (x : Iface) → IsIn x (policy_said decls).ifaces → are_below (length (policy_said decls).tags) x.binds ≡ true
  binds_below x h =
      let w = from_map (iface_said decls) x (declared_ifaces decls) h in
      let i = iface_of_decl decls w.0 w.1 in
      subst (λ y. are_below (length (policy_said decls).tags) y.binds ≡ true) (sym w.2)
      (below_all (length (policy_said decls).tags) (flat_map (map (number_of_tag decls)) (iface_binds w.0)) (λ n k.
      let a = from_flat_map (map (number_of_tag decls)) n (iface_binds w.0) k in
      let b = from_map (number_of_tag decls) n a.0 a.2 in
      subst (λ m. m < length (policy_said decls).tags) (sym b.2) (tag_below decls b.0 (iface_tag decls faultless w.0 i a.0 b.0 a.1 b.1))))

  -- ---- restrictions, areas, aggregates

  members_below : (d : DeclText) → IsIn d decls → (x : Restriction) → IsIn x (adds_of decls d).restrictions → are_below (length (policy_said decls).ifaces) x.members ≡ true
  members_below (RestrictionDecl name desc ports) g x (inl e) =
      subst (λ y. are_below (length (policy_said decls).ifaces) y.members ≡ true) (sym e)
      (below_all (length (policy_said decls).ifaces) (map (number_of_port decls) ports) (λ n h.
      let a = from_map (number_of_port decls) n ports h in
      subst (λ m. m < length (policy_said decls).ifaces) (sym a.2) (port_below decls a.0 (member_known decls faultless name desc ports a.0 g a.1))))
  members_below (RestrictionDecl name desc ports) g x (inr h) = absurd h
  members_below _ g x h = absurd h

  implied_below : (x : Restriction) → IsIn x (restrictions_implied (policy_declared decls)) → are_below (length (policy_said decls).ifaces) x.members ≡ true
  implied_below x h =
      let p = policy_said decls in
      let v = from_map (implied_by (policy_declared decls)) x (shared_sets p) h in
      let s = set_shared p v.0 v.1 in
      subst (λ y. are_below (length p.ifaces) y.members ≡ true) (sym v.2) (below_all (length p.ifaces) v.0 (λ n g. (is_sharing p n (s.each n g)).0))

  if_mapped : {A B : Type 0} (P : B → Type 0) (f : A → B) (o : Option A) → ((x : A) → o ≡ Some x → P (f x)) → IfSome (option_map f o) P
  if_mapped P f None h = tt
  if_mapped P f (Some x) h = h x refl

  anchor_below : (d : DeclText) → IsIn d decls → (x : Area) → IsIn x (adds_of decls d).areas → IfSome x.anchor (λ n. n < net_count)
  anchor_below (AreaDecl name desc parts) g x (inl e) =
      subst (λ y. IfSome y.anchor (λ n. n < net_count)) (sym e)
      (if_mapped (λ n. n < net_count) (number_of_name decls NetworkName) (slice_get (flat_map anchors_in parts) 0) (λ anchor h.
      net_below decls anchor (anchor_known decls faultless name desc parts anchor g (get_in anchor (flat_map anchors_in parts) 0 h))))
  anchor_below (AreaDecl name desc parts) g x (inr h) = absurd h
  anchor_below _ g x h = absurd h

  borders_below : (d : DeclText) → IsIn d decls → (x : Area) → IsIn x (adds_of decls d).areas → are_below (length (policy_said decls).ifaces) x.borders ≡ true
  borders_below (AreaDecl name desc parts) g x (inl e) =
      subst (λ y. are_below (length (policy_said decls).ifaces) y.borders ≡ true) (sym e)
      (below_all (length (policy_said decls).ifaces) (flat_map (map (number_of_port decls)) (flat_map borders_in parts)) (λ n h.
      let a = from_flat_map (map (number_of_port decls)) n (flat_map borders_in parts) h in
      let b = from_map (number_of_port decls) n a.0 a.2 in
      subst (λ m. m < length (policy_said decls).ifaces) (sym b.2) (port_below decls b.0 (border_known decls faultless name desc parts a.0 b.0 g a.1 b.1))))
  borders_below (AreaDecl name desc parts) g x (inr h) = absurd h
  borders_below _ g x h = absurd h

  one_link : (name : Lexeme) (desc : _) (parts : List AnyPartText) → IsIn (AggregateDecl name desc parts) decls → has_one (flat_map links_in parts) ≡ true
  one_link name desc parts g =
      let clear = row_clear 14 (is_bad_aggregate parts) [] (row_clear 4 _ ((14, is_bad_aggregate parts) ∷ []) (faultless (AggregateDecl name desc parts) g).shape).1 in
      not-false (has_one (flat_map links_in parts)) (or_parts (not (has_one (flat_map links_in parts))) (has_two (flat_map ips_in_any_part parts)) clear.0).0

  link_below : (d : DeclText) → IsIn d decls → (x : Aggregate) → IsIn x (adds_of decls d).aggregates → x.link < net_count
  link_below (AggregateDecl name desc parts) g x (inl e) =
      let w = one_there (flat_map links_in parts) (one_link name desc parts g) in
      subst (λ y. y.link < net_count) (sym e)
      (subst (λ o. or_zero (option_map (number_of_name decls NetworkName) o) < net_count) (sym w.1) (net_below decls w.0 (link_known decls faultless name desc parts w.0 g (get_in w.0 (flat_map links_in parts) 0 w.1))))
  link_below (AggregateDecl name desc parts) g x (inr h) = absurd h
  link_below _ g x h = absurd h

  pub all_numbered : IsNumbered (policy_said decls)
  all_numbered =
      let p = policy_said decls in
      record {
        nats = at_each (λ x. are_below (length p.tags) (map (λ nat. nat.0) x.nats) ≡ true) p.nets no_net (λ x h. let w = from_flat_map (λ d. (adds_of decls d).nets) x decls h in nats_below w.0 w.1 x w.2);
        hosts = at_each (λ x. x.net < net_count) p.hosts no_host (λ x h. let w = from_flat_map (λ d. (adds_of decls d).hosts) x decls h in hosts_below w.0 w.1 x w.2);
        placed = at_each (λ x. (x.net < net_count) × (x.router < length p.routers)) p.ifaces no_iface placed_iface;
        binds = at_each (λ x. are_below (length p.tags) x.binds ≡ true) p.ifaces no_iface binds_below;
        restrictions = all_from (λ r. are_below (length p.ifaces) r.members) p.restrictions (λ x h. ⊎_elim
            (λ g. let w = from_flat_map (λ d. (adds_of decls d).restrictions) x decls g in members_below w.0 w.1 x w.2) (implied_below x)
            (in_either x (restrictions_declared decls) (restrictions_implied (policy_declared decls)) h));
        anchors = at_each (λ x. IfSome x.anchor (λ n. n < net_count)) p.areas no_area (λ x h. let w = from_flat_map (λ d. (adds_of decls d).areas) x decls h in anchor_below w.0 w.1 x w.2);
        borders = at_each (λ x. are_below (length p.ifaces) x.borders ≡ true) p.areas no_area (λ x h. let w = from_flat_map (λ d. (adds_of decls d).areas) x decls h in borders_below w.0 w.1 x w.2);
        links = at_each (λ x. x.link < net_count) p.aggregates no_aggregate (λ x h. let w = from_flat_map (λ d. (adds_of decls d).aggregates) x decls h in link_below w.0 w.1 x w.2);
      }

pub numbered : (decls : List DeclText) → IsTrue (are_formed decls) → fault_of decls ≡ None → IsNumbered (policy_said decls)
numbered decls formed none = all_numbered decls (each_faultless decls formed (no_rows decls none))
