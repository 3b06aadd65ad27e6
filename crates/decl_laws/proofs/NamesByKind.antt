-- The things of each kind stand in the policy in the order of their names.
use Rattle.std.proofs.Common.{◌≡◌, refl, sym, ap, ◌∙◌, ℕ, Bool, false, cond, List, [], ◌∷◌, length, map}
use Rattle.std.specs.Prelude.{filter, flat_map}
use Rattle.std.proofs.Math.ListN.{length-map}
use Rattle.spoc_ast.specs.Written.{Lexeme, NetPartText, NetIp, NetHost, NetNat, NetIdle, RoutPartText, RoutManaged, RoutModel, RoutRouting, RoutIface, RoutIdle, DeclText, NetworkDecl, RouterDecl}
use Rattle.policy_decls.specs.Names.{NameKind, NetworkName, HostName, TagName, RouterName, IfaceName, GroupName, AreaName, AggregateName, RestrictionName, ServiceName, same_kind, Mention, mention, mention_in, mention_port, names_in_net_part, names_in_rout_part, names_in}
use Rattle.policy_decls.specs.Lookup.{IfaceText, ifaces_in_part, ifaces_in, declared_ifaces, is_managed_router}
use Rattle.policy_decls.specs.Said.{names_of, tag_names, hosts_said, adds_of, number_of_name, restrictions_declared, policy_said}
use Rattle.decl_laws.proofs.Places.{filter_flat_map, map_flat_map, flat_map_same}

abbrev pub is_of : NameKind → Mention → Bool
is_of k name = same_kind name.kind k

-- ---- the parts of networks and routers name hosts, tags and interfaces alone

left_out : {A : Type 0} (b : Bool) (x : A) (xs : List A) → b ≡ false → xs ≡ [] → cond b (x ∷ xs) xs ≡ []
left_out b x xs e h = ap (λ c. cond c (x ∷ xs) xs) e ∙ h

pub no_names_in_net : (k : NameKind) → same_kind HostName k ≡ false → same_kind TagName k ≡ false → (name : Lexeme) (parts : List NetPartText) → filter (is_of k) (flat_map (names_in_net_part name) parts) ≡ []
no_names_in_net k hosts tags name [] = refl
no_names_in_net k hosts tags name (NetIp prefix ∷ parts) = no_names_in_net k hosts tags name parts
no_names_in_net k hosts tags name (NetHost host own ∷ parts) =
    left_out (same_kind HostName k) (mention HostName host) (filter (is_of k) (flat_map (names_in_net_part name) parts)) hosts (no_names_in_net k hosts tags name parts)
no_names_in_net k hosts tags name (NetNat tag own ∷ parts) =
    left_out (same_kind TagName k) (mention_in TagName name tag) (filter (is_of k) (flat_map (names_in_net_part name) parts)) tags (no_names_in_net k hosts tags name parts)
no_names_in_net k hosts tags name (NetIdle idle ∷ parts) = no_names_in_net k hosts tags name parts

pub no_names_in_router : (k : NameKind) → same_kind IfaceName k ≡ false → (router : Lexeme) (parts : List RoutPartText) → filter (is_of k) (flat_map (names_in_rout_part router) parts) ≡ []
no_names_in_router k ifaces router [] = refl
no_names_in_router k ifaces router (RoutManaged by ∷ parts) = no_names_in_router k ifaces router parts
no_names_in_router k ifaces router (RoutModel model ∷ parts) = no_names_in_router k ifaces router parts
no_names_in_router k ifaces router (RoutRouting routing ∷ parts) = no_names_in_router k ifaces router parts
no_names_in_router k ifaces router (RoutIface name own ∷ parts) =
    left_out (same_kind IfaceName k) (mention_port (record { router = router; net = name })) (filter (is_of k) (flat_map (names_in_rout_part router) parts)) ifaces (no_names_in_router k ifaces router parts)
no_names_in_router k ifaces router (RoutIdle idle ∷ parts) = no_names_in_router k ifaces router parts

abbrev pub texts : List Mention → List (List ℕ)
texts names = map (λ m. m.text) names

module _ {X : Type 0} (pick : DeclText → List X) (name : X → List ℕ) (k : NameKind) where
  along : ((d : DeclText) → map name (pick d) ≡ texts (filter (is_of k) (names_in d))) → (decls : List DeclText) → map name (flat_map pick decls) ≡ texts (names_of decls k)
  along each decls =
      map_flat_map name pick decls ∙ flat_map_same (λ d. map name (pick d)) (λ d. texts (filter (is_of k) (names_in d))) each decls
      ∙ sym (map_flat_map (λ m. m.text) (λ d. filter (is_of k) (names_in d)) decls) ∙ ap texts (sym (filter_flat_map (is_of k) names_in decls))

module _ (decls : List DeclText) where
  net_texts : (d : DeclText) → map (λ x. x.name) (adds_of decls d).nets ≡ texts (filter (is_of NetworkName) (names_in d))
  net_texts (NetworkDecl name desc parts) = ap (λ l. name.text ∷ texts l) (sym (no_names_in_net NetworkName refl refl name parts))
  net_texts (RouterDecl name desc parts) = ap texts (sym (no_names_in_router NetworkName refl name parts))
  net_texts _ = refl

  pub net_names : map (λ x. x.name) (policy_said decls).nets ≡ texts (names_of decls NetworkName)
  net_names = along (λ d. (adds_of decls d).nets) (λ x. x.name) NetworkName net_texts decls

  router_texts : (d : DeclText) → map (λ x. x.name) (adds_of decls d).routers ≡ texts (filter (is_of RouterName) (names_in d))
  router_texts (NetworkDecl name desc parts) = ap texts (sym (no_names_in_net RouterName refl refl name parts))
  router_texts (RouterDecl name desc parts) = ap (λ l. name.text ∷ texts l) (sym (no_names_in_router RouterName refl name parts))
  router_texts _ = refl

  pub router_names : map (λ x. x.name) (policy_said decls).routers ≡ texts (names_of decls RouterName)
  router_names = along (λ d. (adds_of decls d).routers) (λ x. x.name) RouterName router_texts decls

  restriction_texts : (d : DeclText) → map (λ x. x.name) (adds_of decls d).restrictions ≡ texts (filter (is_of RestrictionName) (names_in d))
  restriction_texts (NetworkDecl name desc parts) = ap texts (sym (no_names_in_net RestrictionName refl refl name parts))
  restriction_texts (RouterDecl name desc parts) = ap texts (sym (no_names_in_router RestrictionName refl name parts))
  restriction_texts _ = refl

  pub restriction_names : map (λ x. x.name) (restrictions_declared decls) ≡ texts (names_of decls RestrictionName)
  restriction_names = along (λ d. (adds_of decls d).restrictions) (λ x. x.name) RestrictionName restriction_texts decls

  group_texts : (d : DeclText) → map (λ x. x.name) (adds_of decls d).groups ≡ texts (filter (is_of GroupName) (names_in d))
  group_texts (NetworkDecl name desc parts) = ap texts (sym (no_names_in_net GroupName refl refl name parts))
  group_texts (RouterDecl name desc parts) = ap texts (sym (no_names_in_router GroupName refl name parts))
  group_texts _ = refl

  pub group_names : map (λ x. x.name) (policy_said decls).groups ≡ texts (names_of decls GroupName)
  group_names = along (λ d. (adds_of decls d).groups) (λ x. x.name) GroupName group_texts decls

  area_texts : (d : DeclText) → map (λ x. x.name) (adds_of decls d).areas ≡ texts (filter (is_of AreaName) (names_in d))
  area_texts (NetworkDecl name desc parts) = ap texts (sym (no_names_in_net AreaName refl refl name parts))
  area_texts (RouterDecl name desc parts) = ap texts (sym (no_names_in_router AreaName refl name parts))
  area_texts _ = refl

  pub area_names : map (λ x. x.name) (policy_said decls).areas ≡ texts (names_of decls AreaName)
  area_names = along (λ d. (adds_of decls d).areas) (λ x. x.name) AreaName area_texts decls

  aggregate_texts : (d : DeclText) → map (λ x. x.name) (adds_of decls d).aggregates ≡ texts (filter (is_of AggregateName) (names_in d))
  aggregate_texts (NetworkDecl name desc parts) = ap texts (sym (no_names_in_net AggregateName refl refl name parts))
  aggregate_texts (RouterDecl name desc parts) = ap texts (sym (no_names_in_router AggregateName refl name parts))
  aggregate_texts _ = refl

  pub aggregate_names : map (λ x. x.name) (policy_said decls).aggregates ≡ texts (names_of decls AggregateName)
  aggregate_names = along (λ d. (adds_of decls d).aggregates) (λ x. x.name) AggregateName aggregate_texts decls

  service_texts : (d : DeclText) → map (λ x. x.name) (adds_of decls d).services ≡ texts (filter (is_of ServiceName) (names_in d))
  service_texts (NetworkDecl name desc parts) = ap texts (sym (no_names_in_net ServiceName refl refl name parts))
  service_texts (RouterDecl name desc parts) = ap texts (sym (no_names_in_router ServiceName refl name parts))
  service_texts _ = refl

  pub service_names : map (λ x. x.name) (policy_said decls).services ≡ texts (names_of decls ServiceName)
  service_names = along (λ d. (adds_of decls d).services) (λ x. x.name) ServiceName service_texts decls

  hosts_in_parts : (n : ℕ) (name : Lexeme) (parts : List NetPartText) → map (λ x. x.name) (flat_map (hosts_said n) parts) ≡ texts (filter (is_of HostName) (flat_map (names_in_net_part name) parts))
  hosts_in_parts n name [] = refl
  hosts_in_parts n name (NetIp prefix ∷ parts) = hosts_in_parts n name parts
  hosts_in_parts n name (NetHost host own ∷ parts) = ap (λ l. host.text ∷ l) (hosts_in_parts n name parts)
  hosts_in_parts n name (NetNat tag own ∷ parts) = hosts_in_parts n name parts
  hosts_in_parts n name (NetIdle idle ∷ parts) = hosts_in_parts n name parts

  host_texts : (d : DeclText) → map (λ x. x.name) (adds_of decls d).hosts ≡ texts (filter (is_of HostName) (names_in d))
  host_texts (NetworkDecl name desc parts) = hosts_in_parts (number_of_name decls NetworkName name) name parts
  host_texts (RouterDecl name desc parts) = ap texts (sym (no_names_in_router HostName refl name parts))
  host_texts _ = refl

  pub host_names : map (λ x. x.name) (policy_said decls).hosts ≡ texts (names_of decls HostName)
  host_names = along (λ d. (adds_of decls d).hosts) (λ x. x.name) HostName host_texts decls

  pub tag_texts : map (λ x. x.name) (policy_said decls).tags ≡ texts (tag_names decls)
  tag_texts = by (tag_names decls)
    where
      by : (names : List Mention) → map (λ x. x.name) (map {B = Rattle.policy_model.specs.Policy.Tag} (λ m. record { name = m.text }) names) ≡ texts names
      by [] = refl
      by (m ∷ names) = ap (λ l. m.text ∷ l) (by names)

-- ---- interfaces

abbrev pub iface_mention : IfaceText → Mention
iface_mention i = mention_port (record { router = i.router; net = i.net })

ifaces_in_parts : (router : Lexeme) (managed : Bool) (parts : List RoutPartText) → filter (is_of IfaceName) (flat_map (names_in_rout_part router) parts) ≡ map iface_mention (flat_map (ifaces_in_part router managed) parts)
ifaces_in_parts router managed [] = refl
ifaces_in_parts router managed (RoutManaged by ∷ parts) = ifaces_in_parts router managed parts
ifaces_in_parts router managed (RoutModel model ∷ parts) = ifaces_in_parts router managed parts
ifaces_in_parts router managed (RoutRouting routing ∷ parts) = ifaces_in_parts router managed parts
ifaces_in_parts router managed (RoutIface name own ∷ parts) = ap (λ l. iface_mention (record { router = router; managed = managed; net = name; parts = own }) ∷ l) (ifaces_in_parts router managed parts)
ifaces_in_parts router managed (RoutIdle idle ∷ parts) = ifaces_in_parts router managed parts

iface_mentions : (d : DeclText) → filter (is_of IfaceName) (names_in d) ≡ map iface_mention (ifaces_in d)
iface_mentions (NetworkDecl name desc parts) = no_names_in_net IfaceName refl refl name parts
iface_mentions (RouterDecl name desc parts) = ifaces_in_parts name (is_managed_router parts) parts
iface_mentions _ = refl

pub iface_names : (decls : List DeclText) → names_of decls IfaceName ≡ map iface_mention (declared_ifaces decls)
iface_names decls =
    filter_flat_map (is_of IfaceName) names_in decls ∙ flat_map_same (λ d. filter (is_of IfaceName) (names_in d)) (λ d. map iface_mention (ifaces_in d)) iface_mentions decls
    ∙ sym (map_flat_map iface_mention ifaces_in decls)

-- ---- so there are as many

pub as_many : {A B C : Type 0} (f : A → C) (g : B → C) (xs : List A) (ys : List B) → map f xs ≡ map g ys → length xs ≡ length ys
as_many f g xs ys e = sym (length-map xs f) ∙ ap length e ∙ length-map ys g
