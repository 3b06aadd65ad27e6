-- The prefixes of networks and of their translations, and the ranges of hosts, where declarations have no fault.
use Rattle.std.proofs.Common.{◌≡◌, ℕ, ◌≤◌, inl, inr, Bool, true, false, not, ◌||◌, List, [], ◌∷◌, ◌++◌, refl, sym, ap, subst, ◌∙◌, nat_lt, arith}
use Rattle.std.specs.Prelude.{Option, Some, flat_map, slice_get}
use Rattle.std.specs.List.{list_any}
use Rattle.std.proofs.lemmas.Bool.{or_parts, ltb-false}
use Rattle.spoc_base.specs.Address.{Cidr}
use Rattle.policy_model.specs.Policy.{Net, Host}
use Rattle.policy_model.proofs.AllWalks.{IsIn, in_front, in_back, in_flat_map}
use Rattle.list_laws.proofs.Tables.{from_flat_map}
use Rattle.policy_laws.specs.Secured.{IsPrefix}
use Rattle.spoc_ast.specs.Written.{Lexeme, NatPartText, NetPartText, NetIp, NetHost, NetNat, NetIdle, DeclText, NetworkDecl, RouterDecl, GroupDecl, AreaDecl, AggregateDecl, ProtocolDecl, ProtocolGroupDecl, RestrictionDecl, ServiceDecl}
use Rattle.policy_decls.specs.Names.{NetworkName}
use Rattle.policy_decls.specs.Lookup.{ips_in_net_part, ips_in_nat_part, ips_in_nats}
use Rattle.policy_decls.specs.Shapes.{has_one, hosts_in, spans_in, is_bad_host, is_unaligned}
use Rattle.policy_decls.specs.Said.{number_of_name, nats_said, hosts_said, range_or_none, cidr_or_any, adds_of}
use Rattle.policy_decls.specs.Formed.{are_formed}
use Rattle.decl_laws.proofs.Rows.{HasNoFault}
use Rattle.decl_laws.proofs.Shaped.{none_in, NetShape}
use Rattle.decl_laws.proofs.Addressed.{net_there}
use Rattle.shape_laws.proofs.Prefixes.{only_prefix, leading_prefix}

none_any : {A : Type 0} (test : A → Bool) (xs : List A) → ((x : A) → IsIn x xs → test x ≡ false) → list_any test xs ≡ false
none_any test [] h = refl
none_any test (x ∷ xs) h = ap (λ b. b || list_any test xs) (h x (inl refl)) ∙ none_any test xs (λ y g. h y (inr g))

first_ordered : (spans : List (ℕ × ℕ)) → list_any (λ r. nat_lt r.1 r.0) spans ≡ false → (range_or_none (slice_get spans 0)).first ≤ (range_or_none (slice_get spans 0)).last
first_ordered [] h = omega arith
first_ordered (r ∷ rs) h = let f = ltb-false r.1 r.0 (or_parts (nat_lt r.1 r.0) (list_any (λ s. nat_lt s.1 s.0) rs) h).0 in omega (arith, f)

-- the network's own prefix and those of its translations have no host bit
abbrev pub ArePrefixes : Net → Type 0
ArePrefixes x = IsPrefix x.own × ((nat : ℕ × Option Cidr) → IsIn nat x.nats → (q : Cidr) → nat.1 ≡ Some q → IsPrefix q)

module _ (decls : List DeclText) (parts : List NetPartText) (shape : NetShape parts) where
  abbrev own_ips : List Lexeme
  own_ips = flat_map ips_in_net_part parts

  abbrev nat_ips : List Lexeme
  nat_ips = flat_map ips_in_nats parts

  own_aligned : list_any is_unaligned own_ips ≡ false
  own_aligned = none_any is_unaligned own_ips (λ w g. none_in is_unaligned (own_ips ++ nat_ips) shape.aligned w (in_front w own_ips nat_ips g))

  nats_aligned : (name : Lexeme) (nat : List NatPartText) → IsIn (NetNat name nat) parts → list_any is_unaligned (flat_map ips_in_nat_part nat) ≡ false
  nats_aligned name nat g =
      none_any is_unaligned (flat_map ips_in_nat_part nat)
      (λ w i. none_in is_unaligned (own_ips ++ nat_ips) shape.aligned w (in_back w own_ips nat_ips (in_flat_map ips_in_nats (NetNat name nat) w parts g i)))

  nat_prefix : (part : NetPartText) → IsIn part parts → (nat : ℕ × Option Cidr) → IsIn nat (nats_said decls part) → (q : Cidr) → nat.1 ≡ Some q → IsPrefix q
  nat_prefix (NetIp prefix) g nat h q e = absurd h
  nat_prefix (NetHost name hosts) g nat h q e = absurd h
  nat_prefix (NetNat name nats) g nat (inl same) q e =
      leading_prefix (flat_map ips_in_nat_part nats) (nats_aligned name nats g) q (sym (ap (λ (n : ℕ × Option Cidr). n.1) same) ∙ e)
  nat_prefix (NetNat name nats) g nat (inr h) q e = absurd h
  nat_prefix (NetIdle idle) g nat h q e = absurd h

  nat_prefixes : (nat : ℕ × Option Cidr) → IsIn nat (flat_map (nats_said decls) parts) → (q : Cidr) → nat.1 ≡ Some q → IsPrefix q
  nat_prefixes nat h q e = let w = from_flat_map (nats_said decls) nat parts h in nat_prefix w.0 w.1 nat w.2 q e

  host_ordered : (n : ℕ) (x : Host) (part : NetPartText) → IsIn part parts → IsIn x (hosts_said n part) → x.range.first ≤ x.range.last
  host_ordered n x (NetIp prefix) g h = absurd h
  host_ordered n x (NetHost name host) g (inl e) =
      let spans = flat_map spans_in host in
      let good = none_in is_bad_host (flat_map hosts_in parts) shape.hosts host (in_flat_map hosts_in (NetHost name host) host parts g (inl refl)) in
      let ordered = first_ordered spans (or_parts (not (has_one spans)) (list_any (λ r. nat_lt r.1 r.0) spans) good).1 in
      subst (λ (y : Host). y.range.first ≤ y.range.last) (sym e) ordered
  host_ordered n x (NetHost name host) g (inr h) = absurd h
  host_ordered n x (NetNat name nat) g h = absurd h
  host_ordered n x (NetIdle idle) g h = absurd h

  hosts_ordered : (n : ℕ) (x : Host) → IsIn x (flat_map (hosts_said n) parts) → x.range.first ≤ x.range.last
  hosts_ordered n x h = let w = from_flat_map (hosts_said n) x parts h in host_ordered n x w.0 w.1 w.2

module _ (decls : List DeclText) (formed : are_formed decls ≡ true) (no_fault : HasNoFault decls) where
  pub nets_of_decl : (x : Net) (d : DeclText) → IsIn d decls → IsIn x (adds_of decls d).nets → ArePrefixes x
  nets_of_decl x (NetworkDecl name desc parts) h (inl e) =
      let net = net_there decls formed no_fault name desc parts h in
      let own = only_prefix (flat_map ips_in_net_part parts) (own_aligned decls parts net.shape) net.own.prefix net.own.is in
      subst ArePrefixes (sym e) (subst (λ o. IsPrefix (cidr_or_any o)) (sym net.own.is) own, nat_prefixes decls parts net.shape)
  nets_of_decl x (NetworkDecl name desc parts) h (inr g) = absurd g
  nets_of_decl x (RouterDecl name desc parts) h g = absurd g
  nets_of_decl x (GroupDecl name desc objects) h g = absurd g
  nets_of_decl x (AreaDecl name desc parts) h g = absurd g
  nets_of_decl x (AggregateDecl name desc parts) h g = absurd g
  nets_of_decl x (ProtocolDecl name protocol notes) h g = absurd g
  nets_of_decl x (ProtocolGroupDecl name prts) h g = absurd g
  nets_of_decl x (RestrictionDecl name desc ports) h g = absurd g
  nets_of_decl x (ServiceDecl name desc idle user rules) h g = absurd g

  pub hosts_of_decl : (x : Host) (d : DeclText) → IsIn d decls → IsIn x (adds_of decls d).hosts → x.range.first ≤ x.range.last
  hosts_of_decl x (NetworkDecl name desc parts) h g =
      let net = net_there decls formed no_fault name desc parts h in
      hosts_ordered decls parts net.shape (number_of_name decls NetworkName name) x g
  hosts_of_decl x (RouterDecl name desc parts) h g = absurd g
  hosts_of_decl x (GroupDecl name desc objects) h g = absurd g
  hosts_of_decl x (AreaDecl name desc parts) h g = absurd g
  hosts_of_decl x (AggregateDecl name desc parts) h g = absurd g
  hosts_of_decl x (ProtocolDecl name protocol notes) h g = absurd g
  hosts_of_decl x (ProtocolGroupDecl name prts) h g = absurd g
  hosts_of_decl x (RestrictionDecl name desc ports) h g = absurd g
  hosts_of_decl x (ServiceDecl name desc idle user rules) h g = absurd g
