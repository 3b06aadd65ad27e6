-- The policy that declarations without a fault say is shaped and wired.
use Rattle.std.proofs.Common.{◌≡◌, ℕ, zero, suc, ◌<◌, ◌≤◌, Bool, true, false, ◌&&◌, List, [], ◌∷◌, length, refl, sym, ap, ◌∙◌, ⊎_elim, arith}
use Rattle.std.specs.Prelude.{Option, Some, None, IfSome, ◌+◌, ◌-◌, nat_le, slice_index_or}
use Rattle.std.specs.Option.{option_or}
use Rattle.std.specs.List.{list_all}
use Rattle.std.proofs.lemmas.List.{get_or_past}
use Rattle.std.proofs.lemmas.Option.{none-some}
use Rattle.std.proofs.lemmas.Bool.{and_parts, and_from, leb-true, eqb-true, false≢true, cases_lt}
use Rattle.spoc_base.specs.Address.{Cidr, size_of, prefix_holds}
use Rattle.policy_model.specs.Policy.{Policy, ObjectExpr, NoObjects, OneNet, OneHost, OneIface, OfGroup, OfAggregate, OfArea, OfUser, NetsOf, HostsOf, ZonesOf, Joined, Common, Without, Group, Rule, Service, Iface, no_net, no_host, no_iface, no_group, net_of, host_of, iface_of, gateway_at, net_at, router_at, is_managed}
use Rattle.list_laws.proofs.Members.{each_in}
use Rattle.list_laws.proofs.Tables.{from_flat_map}
use Rattle.policy_laws.specs.Secured.{IsPrefix, IsNet, IsEnd, no_nat}
use Rattle.policy_laws.specs.Routed.{IsWired}
use Rattle.policy_laws.specs.Shaped.{names_hosts, IsShaped}
use Rattle.topology.specs.Sound.{IsSound, is_sound_expr, is_sound_rule, is_sound_service, keeps_length}
use Rattle.spoc_ast.specs.Written.{DeclText}
use Rattle.policy_decls.specs.Said.{adds_of, policy_said}
use Rattle.policy_decls.specs.Faults.{fault_of}
use Rattle.policy_decls.specs.Formed.{are_formed}
use Rattle.decl_laws.proofs.Rows.{no_rows}
use Rattle.decl_laws.proofs.Cuts.{in_get}
use Rattle.shape_laws.proofs.Networks.{nets_of_decl, hosts_of_decl}

-- ---- what sets name

module _ (p : Policy) where
  expr_names : (user bracket : Bool) (e : ObjectExpr) → is_sound_expr p user bracket e ≡ true → names_hosts p e ≡ true
  expr_names user bracket NoObjects h = refl
  expr_names user bracket (OneNet n) h = refl
  expr_names user bracket (OneHost k) h = h
  expr_names user bracket (OneIface i) h = refl
  expr_names user bracket (OfGroup g) h = refl
  expr_names user bracket (OfAggregate k) h = refl
  expr_names user bracket (OfArea k) h = refl
  expr_names user bracket OfUser h = refl
  expr_names user bracket (NetsOf e) h = expr_names user true e h
  expr_names user bracket (HostsOf e) h = expr_names user true e h
  expr_names user bracket (ZonesOf only e) h = expr_names user true e h
  expr_names user bracket (Joined e f) h =
      let w = and_parts (is_sound_expr p user bracket e) (is_sound_expr p user bracket f) h in
      and_from (names_hosts p e) (names_hosts p f) (expr_names user bracket e w.0) (expr_names user bracket f w.1)
  expr_names user bracket (Common e f) h =
      let w = and_parts (is_sound_expr p user bracket e) (is_sound_expr p user bracket f) h in
      and_from (names_hosts p e) (names_hosts p f) (expr_names user bracket e w.0) (expr_names user bracket f w.1)
  expr_names user bracket (Without e f) h =
      let w = and_parts (is_sound_expr p user bracket e) (is_sound_expr p user bracket f) h in
      and_from (names_hosts p e) (names_hosts p f) (expr_names user bracket e w.0) (expr_names user bracket f w.1)

  abbrev rule_names : Rule → Bool
  rule_names rule = names_hosts p rule.src && names_hosts p rule.dst

  abbrev service_names : Service → Bool
  service_names service = names_hosts p service.user && list_all rule_names service.rules

  sound_rule_names : (rule : Rule) → is_sound_rule p rule ≡ true → rule_names rule ≡ true
  sound_rule_names rule h =
      let both = and_parts (is_sound_expr p true false rule.src && is_sound_expr p true false rule.dst) _ h in
      let w = and_parts (is_sound_expr p true false rule.src) (is_sound_expr p true false rule.dst) both.0 in
      and_from (names_hosts p rule.src) (names_hosts p rule.dst) (expr_names true false rule.src w.0) (expr_names true false rule.dst w.1)

  all_more : {A : Type 0} (test other : A → Bool) (xs : List A) → ((x : A) → test x ≡ true → other x ≡ true) → list_all test xs ≡ true → list_all other xs ≡ true
  all_more test other [] more h = refl
  all_more test other (x ∷ xs) more h =
      let w = and_parts (test x) (list_all test xs) h in
      and_from (other x) (list_all other xs) (more x w.0) (all_more test other xs more w.1)

  all_at : {A : Type 0} (test : A → Bool) (xs : List A) (d : A) → ((k : ℕ) → k < length xs → test (slice_index_or xs k d) ≡ true) → list_all test xs ≡ true
  all_at test [] d h = refl
  all_at test (x ∷ xs) d h = and_from (test x) (list_all test xs) (h zero (omega arith)) (all_at test xs d (λ k below. h (suc k) (omega (arith, below))))

  sound_service_names : (service : Service) → is_sound_service p service ≡ true → service_names service ≡ true
  sound_service_names service h =
      let w = and_parts (is_sound_expr p false false service.user) (list_all (is_sound_rule p) service.rules) h in
      and_from (names_hosts p service.user) (list_all rule_names service.rules) (expr_names false false service.user w.0)
      (all_more (is_sound_rule p) rule_names service.rules sound_rule_names w.1)

  groups_name : IsSound p → list_all (λ (g : Group). names_hosts p g.objects) p.groups ≡ true
  groups_name sound = all_at (λ (g : Group). names_hosts p g.objects) p.groups no_group (λ g below. expr_names false false (slice_index_or p.groups g no_group).objects (sound.sets.groups g below))

  services_name : IsSound p → list_all service_names p.services ≡ true
  services_name sound = all_more (is_sound_service p) service_names p.services sound_service_names sound.sets.services

  -- ---- interfaces

  none_past : (i a : ℕ) → length p.ifaces ≤ i → (iface_of p i).addr ≡ Some a → ⊥
  none_past i a past e = none-some a (sym (ap (λ (x : Iface). x.addr) (get_or_past p.ifaces i no_iface past)) ∙ e)

  ifaces_inside : IsSound p → (i a : ℕ) → (iface_of p i).addr ≡ Some a → prefix_holds (net_of p (net_at p i)).own a ≡ true
  ifaces_inside sound i a e =
      ⊎_elim (λ (below : i < length p.ifaces). sound.well_formed.addresses i a below e) (λ (past : length p.ifaces ≤ i). absurd (none_past i a past e)) (cases_lt i (length p.ifaces))

  -- an interface of an unmanaged router shares no address, so that packets are sent to its own
  own_address : IsSound p → (i a : ℕ) → i < length p.ifaces → is_managed p (router_at p i) ≡ false → gateway_at p i ≡ Some a → (iface_of p i).addr ≡ Some a
  own_address sound i a below unmanaged at = go (iface_of p i).shared refl
    where
      go : (o : Option ℕ) → (iface_of p i).shared ≡ o → (iface_of p i).addr ≡ Some a
      go None is = sym (ap (λ (o : Option ℕ). option_or o (iface_of p i).addr) is) ∙ at
      go (Some b) is = absurd (false≢true (sym unmanaged ∙ (sound.well_formed.shared i b below is).0))

  wired : IsSound p → IsWired p
  wired sound = record {
    placed = sound.numbered.placed;
    once = sound.named.ifaces;
    own = λ i j a hi hj mi mj at gi gj. sound.well_formed.apart i j a hi hj at (own_address sound i a hi mi gi) (own_address sound j a hj mj gj);
  }

-- ---- networks and hosts

kept : (own : Cidr) (o : Option Cidr) → ((q : Cidr) → o ≡ Some q → IsPrefix q) → keeps_length own o ≡ true → IfSome o (λ q. IsPrefix q × (q.len ≡ own.len))
kept own None h keeps = tt
kept own (Some q) h keeps = (h q refl, eqb-true q.len own.len keeps)

module _ (decls : List DeclText) (formed : are_formed decls ≡ true) (none : fault_of decls ≡ None) (sound : IsSound (policy_said decls)) where
  abbrev said : Policy
  said = policy_said decls

  nets_are : (n : ℕ) → n < length said.nets → IsNet (net_of said n)
  nets_are n below =
      let x = net_of said n in
      let d = from_flat_map (λ e. (adds_of decls e).nets) x decls (in_get said.nets n no_net below) in
      let w = nets_of_decl decls formed (no_rows decls none) x d.0 d.1 d.2 in
      record {
        own = w.0;
        nats = λ k there.
            let nat = slice_index_or x.nats k no_nat in
            let among = in_get x.nats k no_nat there in
            kept x.own nat.1 (w.1 nat among) (each_in (λ (t : ℕ × Option Cidr). keeps_length x.own t.1) x.nats (sound.well_formed.nats n below) nat among);
      }

  hosts_are : (h : ℕ) → h < length said.hosts → IsEnd said (record { net = (host_of said h).net; range = (host_of said h).range })
  hosts_are h below =
      let x = host_of said h in
      let own = (net_of said x.net).own in
      let d = from_flat_map (λ e. (adds_of decls e).hosts) x decls (in_get said.hosts h no_host below) in
      let w = and_parts (nat_le own.net x.range.first) (nat_le x.range.last (own.net + (size_of own - 1))) (sound.well_formed.hosts h below) in
      record {
        ordered = hosts_of_decl decls formed (no_rows decls none) x d.0 d.1 d.2;
        first = leb-true own.net x.range.first w.0;
        last = leb-true x.range.last (own.net + (size_of own - 1)) w.1;
      }

  pub shaped_and_wired : IsShaped said × IsWired said
  shaped_and_wired = (
    record { nets = nets_are; hosts = hosts_are; ifaces = ifaces_inside said sound; groups = groups_name said sound; services = services_name said sound },
    wired said sound,
  )
