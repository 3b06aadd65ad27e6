-- Hosts, translations and interfaces keep to their networks.
use Rattle.std.proofs.Common.{◌≡◌, ℕ, ◌<◌, inl, inr, Bool, true, false, not, List, [], ◌∷◌, length, refl, sym, ap, subst, ◌∙◌}
use Rattle.std.specs.Prelude.{Option, Some, None, flat_map, ◌==◌}
use Rattle.std.specs.List.{list_all, slice_get}
use Rattle.std.proofs.lemmas.List.Folds.{list_all-append}
use Rattle.std.proofs.lemmas.Option.{same_Some}
use Rattle.std.proofs.lemmas.Bool.{or_parts, and_from, not-false}
use Rattle.spoc_base.specs.Address.{Cidr, addresses, interval_covers}
use Rattle.policy_model.specs.Policy.{Net, Host, no_net, no_host, net_of, host_of}
use Rattle.policy_model.proofs.AllWalks.{IsIn, in_flat_map}
use Rattle.list_laws.proofs.Tables.{from_flat_map}
use Rattle.topology.specs.Sound.{keeps_length}
use Rattle.spoc_ast.specs.Written.{Lexeme, HostPartText, NetPartText, NetIp, NetHost, NetNat, NetIdle, DeclText, NetworkDecl, RouterDecl, GroupDecl, AreaDecl, AggregateDecl, ProtocolDecl, ProtocolGroupDecl, RestrictionDecl, ServiceDecl}
use Rattle.policy_decls.specs.Numbers.{prefix_of, holds_of}
use Rattle.policy_decls.specs.Names.{NetworkName, mention, names_in}
use Rattle.policy_decls.specs.Lookup.{ips_in_nat_part, ips_in_nats, own_prefix, aligned}
use Rattle.policy_decls.specs.Shapes.{has_one, hosts_in, spans_in, is_bad_host, interval_in, leaves, has_other_length}
use Rattle.policy_decls.specs.Said.{number_of_name, nats_said, hosts_said, range_or_none, first_prefix, cidr_or_any, adds_of, policy_said}
use Rattle.policy_decls.specs.Formed.{is_formed_net, are_formed}
use Rattle.decl_laws.proofs.Rows.{HasNoFault}
use Rattle.decl_laws.proofs.Cuts.{in_get}
use Rattle.decl_laws.proofs.Found.{net_found}
use Rattle.decl_laws.proofs.Owners.{network_once, own_number}
use Rattle.decl_laws.proofs.Shaped.{none_in, its_only, holds_at, formed_in, shape_of, NetShape, net_shape, OwnPrefix, own_of}

module _ (decls : List DeclText) (formed : are_formed decls ≡ true) (no_fault : HasNoFault decls) where
  -- ---- networks

  -- a declared network has a prefix without a host bit, and its shape
  pub record NetThere (parts : List NetPartText) : Type 0 where
    pub shape : NetShape parts
    pub own : OwnPrefix parts

  pub net_there : (name : Lexeme) (desc : Option Lexeme) (parts : List NetPartText) → IsIn (NetworkDecl name desc parts) decls → NetThere parts
  net_there name desc parts h =
      let s = shape_of decls no_fault.shape (NetworkDecl name desc parts) h in
      let shape = net_shape decls s.0 name desc parts s.1 in
      let f : list_all is_formed_net parts ≡ true = formed_in decls formed (NetworkDecl name desc parts) h in
      record { shape = shape; own = own_of parts f shape }

  -- the network of the policy at a declared network's number has its prefix
  pub own_at_name : (name : Lexeme) (desc : Option Lexeme) (parts : List NetPartText) (h : IsIn (NetworkDecl name desc parts) decls) →
      (net_of (policy_said decls) (number_of_name decls NetworkName name)).own ≡ cidr_or_any (own_prefix parts)
  own_at_name name desc parts h =
      let d = NetworkDecl name desc parts in
      let w = net_found decls name (own_number decls NetworkName name (in_flat_map names_in d (mention NetworkName name) decls h (inl refl))) in
      w.same ∙ ap (λ l. cidr_or_any (own_prefix l)) (same_Some w.thing parts (sym w.given ∙ network_once decls no_fault.twice name desc parts h))

  -- ---- hosts

  record HostThere (x : Host) : Type 0 where
    name : Lexeme
    desc : Option Lexeme
    parts : List NetPartText
    decl : IsIn (NetworkDecl name desc parts) decls
    host_parts : List HostPartText
    part : IsIn host_parts (flat_map hosts_in parts)
    net : x.net ≡ number_of_name decls NetworkName name
    range : x.range ≡ range_or_none (slice_get (flat_map spans_in host_parts) 0)

  host_in_part : (x : Host) (name : Lexeme) (desc : Option Lexeme) (parts : List NetPartText) → IsIn (NetworkDecl name desc parts) decls → (part : NetPartText) → IsIn part parts →
      IsIn x (hosts_said (number_of_name decls NetworkName name) part) → HostThere x
  host_in_part x name desc parts h (NetIp prefix) g i = absurd i
  host_in_part x name desc parts h (NetHost host host_parts) g (inl e) = record {
    name = name;
    desc = desc;
    parts = parts;
    decl = h;
    host_parts = host_parts;
    part = in_flat_map hosts_in (NetHost host host_parts) host_parts parts g (inl refl);
    net = ap (λ (y : Host). y.net) e;
    range = ap (λ (y : Host). y.range) e;
  }
  host_in_part x name desc parts h (NetHost host host_parts) g (inr i) = absurd i
  host_in_part x name desc parts h (NetNat tag nat_parts) g i = absurd i
  host_in_part x name desc parts h (NetIdle idle) g i = absurd i

  host_in_decl : (x : Host) (d : DeclText) → IsIn d decls → IsIn x (adds_of decls d).hosts → HostThere x
  host_in_decl x (NetworkDecl name desc parts) h g =
      let w = from_flat_map (hosts_said (number_of_name decls NetworkName name)) x parts g in
      host_in_part x name desc parts h w.0 w.1 w.2
  host_in_decl x (RouterDecl name desc parts) h g = absurd g
  host_in_decl x (GroupDecl name desc objects) h g = absurd g
  host_in_decl x (AreaDecl name desc parts) h g = absurd g
  host_in_decl x (AggregateDecl name desc parts) h g = absurd g
  host_in_decl x (ProtocolDecl name protocol notes) h g = absurd g
  host_in_decl x (ProtocolGroupDecl name prts) h g = absurd g
  host_in_decl x (RestrictionDecl name desc ports) h g = absurd g
  host_in_decl x (ServiceDecl name desc idle user rules) h g = absurd g

  pub hosts_stay : (h : ℕ) → h < length (policy_said decls).hosts →
      interval_covers (addresses (net_of (policy_said decls) (host_of (policy_said decls) h).net).own) (host_of (policy_said decls) h).range ≡ true
  hosts_stay h below =
      let p = policy_said decls in
      let x : Host = host_of p h in
      let d = from_flat_map (λ e. (adds_of decls e).hosts) x decls (in_get p.hosts h no_host below) in
      let w = host_in_decl x d.0 d.1 d.2 in
      let net = net_there w.name w.desc w.parts w.decl in
      let spans = flat_map spans_in w.host_parts in
      let good = none_in is_bad_host (flat_map hosts_in w.parts) net.shape.hosts w.host_parts w.part in
      let one = its_only spans (not-false (has_one spans) (or_parts (not (has_one spans)) _ good).0) in
      let stay = none_in (leaves net.own.prefix) (flat_map hosts_in w.parts) (holds_at _ (own_prefix w.parts) net.own.prefix net.own.is net.shape.stay) w.host_parts w.part in
      let r = one.0 in
      let covered = not-false _ (none_in (λ s. not (interval_covers (addresses (aligned net.own.prefix)) (interval_in s))) spans stay r (subst (λ l. IsIn r l) (sym one.1) (inl refl))) in
      let own : (net_of p x.net).own ≡ aligned net.own.prefix =
      ap (λ n. (net_of p n).own) w.net ∙ own_at_name w.name w.desc w.parts w.decl ∙ ap cidr_or_any net.own.is ∙ sym net.own.whole in
      let range : x.range ≡ interval_in r = w.range ∙ ap (λ l. range_or_none (slice_get l 0)) one.1 in
      ap (λ c. interval_covers (addresses c) x.range) own ∙ ap (interval_covers (addresses (aligned net.own.prefix))) range ∙ covered

  -- ---- translations

  all_flat : {X Y : Type 0} (test : Y → Bool) (f : X → List Y) (xs : List X) → ((x : X) → IsIn x xs → list_all test (f x) ≡ true) → list_all test (flat_map f xs) ≡ true
  all_flat test f [] h = refl
  all_flat test f (x ∷ xs) h = list_all-append test (f x) (flat_map f xs) ∙ and_from _ _ (h x (inl refl)) (all_flat test f xs (λ y g. h y (inr g)))

  kept_length : (own : Cidr) (o : Option Cidr) → holds_of (λ q. not (q.len == own.len)) o ≡ false → keeps_length own o ≡ true
  kept_length own None h = refl
  kept_length own (Some q) h = not-false (q.len == own.len) h

  first_kept : (own : Cidr) (words : List Lexeme) → ((w : Lexeme) → IsIn w words → holds_of (λ q. not (q.len == own.len)) (prefix_of w.text) ≡ false) → keeps_length own (first_prefix words) ≡ true
  first_kept own [] h = refl
  first_kept own (w ∷ words) h = kept_length own (prefix_of w.text) (h w (inl refl))

  nats_of_part : (own : Cidr) (parts : List NetPartText) → has_other_length own parts ≡ false → (part : NetPartText) → IsIn part parts →
      list_all (λ nat. keeps_length own nat.1) (nats_said decls part) ≡ true
  nats_of_part own parts h (NetIp prefix) g = refl
  nats_of_part own parts h (NetHost name host_parts) g = refl
  nats_of_part own parts h (NetNat name nat_parts) g =
      and_from (keeps_length own (first_prefix (flat_map ips_in_nat_part nat_parts))) true
      (first_kept own (flat_map ips_in_nat_part nat_parts)
      (λ w i. none_in _ (flat_map ips_in_nats parts) h w (in_flat_map ips_in_nats (NetNat name nat_parts) w parts g i))) refl
  nats_of_part own parts h (NetIdle idle) g = refl

  nets_of_decl : (x : Net) (d : DeclText) → IsIn d decls → IsIn x (adds_of decls d).nets → list_all (λ nat. keeps_length x.own nat.1) x.nats ≡ true
  nets_of_decl x (NetworkDecl name desc parts) h (inl e) =
      let net = net_there name desc parts h in
      let all = all_flat (λ nat. keeps_length net.own.prefix nat.1) (nats_said decls) parts
      (nats_of_part net.own.prefix parts (holds_at _ (own_prefix parts) net.own.prefix net.own.is net.shape.lengths)) in
      subst (λ (y : Net). list_all (λ nat. keeps_length y.own nat.1) y.nats ≡ true) (sym e)
      (ap (λ o. list_all (λ nat. keeps_length (cidr_or_any o) nat.1) (flat_map (nats_said decls) parts)) net.own.is ∙ all)
  nets_of_decl x (NetworkDecl name desc parts) h (inr g) = absurd g
  nets_of_decl x (RouterDecl name desc parts) h g = absurd g
  nets_of_decl x (GroupDecl name desc objects) h g = absurd g
  nets_of_decl x (AreaDecl name desc parts) h g = absurd g
  nets_of_decl x (AggregateDecl name desc parts) h g = absurd g
  nets_of_decl x (ProtocolDecl name protocol notes) h g = absurd g
  nets_of_decl x (ProtocolGroupDecl name prts) h g = absurd g
  nets_of_decl x (RestrictionDecl name desc ports) h g = absurd g
  nets_of_decl x (ServiceDecl name desc idle user rules) h g = absurd g

  pub nats_keep : (n : ℕ) → n < length (policy_said decls).nets →
      list_all (λ nat. keeps_length (net_of (policy_said decls) n).own nat.1) (net_of (policy_said decls) n).nats ≡ true
  nats_keep n below =
      let p = policy_said decls in
      let d = from_flat_map (λ e. (adds_of decls e).nets) (net_of p n) decls (in_get p.nets n no_net below) in
      nets_of_decl (net_of p n) d.0 d.1 d.2
