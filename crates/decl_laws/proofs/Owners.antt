-- Whose an interface is, which declaration a name means, and that names that are used have a number.
use Rattle.std.proofs.Common.{◌≡◌, ◌<◌, inl, inr, Bool, true, false, ◌||◌, ◌&&◌, List, [], ◌∷◌, ◌++◌, length, map, get_or, refl, sym, ap, subst, ◌∙◌, arith}
use Rattle.std.specs.Prelude.{Option, Some, None, flat_map, filter, if◌then◌else◌}
use Rattle.std.specs.Str.{bytes_eq}
use Rattle.std.specs.List.{list_any}
use Rattle.std.proofs.lemmas.List.{map-append, length-map, get_or-map}
use Rattle.std.proofs.lemmas.List.Concat.{flat_map-append}
use Rattle.std.proofs.lemmas.Bool.{false≢true, and_parts, and_from, false_from_ne_true, eqb-true, eq-eqb}
use Rattle.policy_model.specs.Policy.{Iface, no_iface, iface_of, router_at, is_managed}
use Rattle.policy_model.proofs.AllWalks.{IsIn, in_flat_map, in_filter}
use Rattle.list_laws.proofs.Members.{some_in, some_of}
use Rattle.list_laws.proofs.Tables.{from_flat_map}
use Rattle.spoc_ast.specs.Written.{Lexeme, PortText, IfPartText, RoutPartText, RoutManaged, RoutModel, RoutRouting, RoutIface, RoutIdle, NetPartText, NetIp, NetHost, NetNat, NetIdle, DeclText, NetworkDecl, RouterDecl, GroupDecl, AreaDecl, AggregateDecl, ProtocolDecl, ProtocolGroupDecl, RestrictionDecl, ServiceDecl}
use Rattle.policy_decls.specs.Names.{NameKind, NetworkName, RouterName, IfaceName, same_kind, Mention, mention, mention_port, names_in_net_part, names_in_rout_part, names_in, declared_names, same_name}
use Rattle.policy_decls.specs.Uses.{used_names, names_it}
use Rattle.policy_decls.specs.Lookup.{first_given, or_nothing, network_called, router_called, router_parts, is_managed_router, IfaceText, ifaces_in_part, ifaces_in, declared_ifaces}
use Rattle.policy_decls.specs.Said.{names_of, number_of_name, number_of_port, policy_said, iface_said}
use Rattle.policy_decls.specs.Faults.{name_twice, name_unknown}
use Rattle.decl_laws.proofs.Cuts.{cut_in, in_get, place, place_passes, number_is_place, filter_flat}
use Rattle.decl_laws.proofs.Absent.{stands_once, is_known}
use Rattle.decl_laws.proofs.Found.{same_from, same_to, given_here, given_later, none_kept, is_of, router_found}

-- ---- a name means the one declaration that gives it

-- names of an earlier declaration are others
pub not_before : (decls : List DeclText) → name_twice decls ≡ None → (before : List DeclText) (d : DeclText) (after : List DeclText) (m : Mention) (ms : List Mention) →
    names_in d ≡ m ∷ ms → decls ≡ before ++ d ∷ after → (e : DeclText) → IsIn e before → (n : Mention) → IsIn n (names_in e) → same_name m n ≡ false
not_before decls none before d after m ms first cut e h n g =
    let whole : declared_names decls ≡ flat_map names_in before ++ m ∷ (ms ++ flat_map names_in after) =
    ap (flat_map names_in) cut ∙ flat_map-append names_in before (d ∷ after) ∙ ap (λ l. flat_map names_in before ++ (l ++ flat_map names_in after)) first in
    let no_other = stands_once decls none (flat_map names_in before) m (ms ++ flat_map names_in after) whole in
    false_from_ne_true (same_name m n) (λ t. false≢true (sym no_other ∙ some_of (same_name m) n (flat_map names_in before) (in_flat_map names_in e n before h g) t))

first_once : {D Z : Type 0} (c : D → Option Z) (before : List D) (d : D) (after : List D) (z : Z) → ((e : D) → IsIn e before → c e ≡ None) → c d ≡ Some z →
    first_given c (before ++ d ∷ after) ≡ Some z
first_once c [] d after z no_earlier here = given_here c d after z here
first_once c (e ∷ before) d after z no_earlier here =
    given_later c e (before ++ d ∷ after) (no_earlier e (inl refl)) ∙ first_once c before d after z (λ x h. no_earlier x (inr h)) here

chosen : {Z : Type 0} (b : Bool) (z : Z) → b ≡ true → (if b then Some z else None) ≡ Some z
chosen true z e = refl
chosen false z e = absurd (false≢true e)

passed_over : {Z : Type 0} (b : Bool) (z : Z) → b ≡ false → (if b then Some z else None) ≡ None
passed_over true z e = absurd (false≢true (sym e))
passed_over false z e = refl

same_plain : (k : NameKind) (v w : Lexeme) → same_name (mention k v) (mention k w) ≡ false → bytes_eq w.text v.text ≡ false
same_plain k v w h =
    false_from_ne_true (bytes_eq w.text v.text) (λ t. false≢true (sym h ∙ and_from (same_kind k k && bytes_eq [] []) (bytes_eq v.text w.text)
    (and_from (same_kind k k) (bytes_eq [] []) (eq-eqb _ _ refl) refl) (same_to v.text w.text (sym (same_from w.text v.text t)))))

no_network_before : (name : Lexeme) (e : DeclText) → ((n : Mention) → IsIn n (names_in e) → same_name (mention NetworkName name) n ≡ false) → network_called name.text e ≡ None
no_network_before name (NetworkDecl other desc parts) h = passed_over (bytes_eq other.text name.text) parts (same_plain NetworkName name other (h (mention NetworkName other) (inl refl)))
no_network_before name (RouterDecl other desc parts) h = refl
no_network_before name (GroupDecl other desc objects) h = refl
no_network_before name (AreaDecl other desc parts) h = refl
no_network_before name (AggregateDecl other desc parts) h = refl
no_network_before name (ProtocolDecl other protocol notes) h = refl
no_network_before name (ProtocolGroupDecl other prts) h = refl
no_network_before name (RestrictionDecl other desc ports) h = refl
no_network_before name (ServiceDecl other desc idle user rules) h = refl

no_router_before : (name : Lexeme) (e : DeclText) → ((n : Mention) → IsIn n (names_in e) → same_name (mention RouterName name) n ≡ false) → router_called name.text e ≡ None
no_router_before name (NetworkDecl other desc parts) h = refl
no_router_before name (RouterDecl other desc parts) h = passed_over (bytes_eq other.text name.text) parts (same_plain RouterName name other (h (mention RouterName other) (inl refl)))
no_router_before name (GroupDecl other desc objects) h = refl
no_router_before name (AreaDecl other desc parts) h = refl
no_router_before name (AggregateDecl other desc parts) h = refl
no_router_before name (ProtocolDecl other protocol notes) h = refl
no_router_before name (ProtocolGroupDecl other prts) h = refl
no_router_before name (RestrictionDecl other desc ports) h = refl
no_router_before name (ServiceDecl other desc idle user rules) h = refl

pub network_once : (decls : List DeclText) → name_twice decls ≡ None → (name : Lexeme) (desc : Option Lexeme) (parts : List NetPartText) →
    IsIn (NetworkDecl name desc parts) decls → first_given (network_called name.text) decls ≡ Some parts
network_once decls none name desc parts h =
    let d = NetworkDecl name desc parts in
    let w = cut_in d decls h in
    ap (first_given (network_called name.text)) w.is
    ∙ first_once (network_called name.text) w.before d w.after parts
    (λ e g. no_network_before name e (λ n i. not_before decls none w.before d w.after (mention NetworkName name) (flat_map (names_in_net_part name) parts) refl w.is e g n i))
    (chosen (bytes_eq name.text name.text) parts (same_to name.text name.text refl))

pub router_once : (decls : List DeclText) → name_twice decls ≡ None → (name : Lexeme) (desc : Option Lexeme) (parts : List RoutPartText) →
    IsIn (RouterDecl name desc parts) decls → first_given (router_called name.text) decls ≡ Some parts
router_once decls none name desc parts h =
    let d = RouterDecl name desc parts in
    let w = cut_in d decls h in
    ap (first_given (router_called name.text)) w.is
    ∙ first_once (router_called name.text) w.before d w.after parts
    (λ e g. no_router_before name e (λ n i. not_before decls none w.before d w.after (mention RouterName name) (flat_map (names_in_rout_part name) parts) refl w.is e g n i))
    (chosen (bytes_eq name.text name.text) parts (same_to name.text name.text refl))

-- ---- names have numbers

-- a declared name without an owner is among those of its kind
pub own_number : (decls : List DeclText) (k : NameKind) (w : Lexeme) → IsIn (mention k w) (declared_names decls) → list_any (names_it (mention k w)) (names_of decls k) ≡ true
own_number decls k w h =
    let here = eq-eqb _ _ refl in
    some_of (names_it (mention k w)) (mention k w) (names_of decls k) (in_filter (is_of k) (mention k w) (declared_names decls) h here)
    (and_from (same_kind k k && bytes_eq w.text w.text) _ (and_from (same_kind k k) (bytes_eq w.text w.text) here (same_to w.text w.text refl)) (or_right' _ _ refl))
  where
    or_right' : (x y : Bool) → y ≡ true → (x || y) ≡ true
    or_right' true y e = refl
    or_right' false y e = e

-- a name that is used is among those of its kind
pub known_number : (decls : List DeclText) → name_unknown decls ≡ None → (used : Mention) → IsIn used (used_names decls) → list_any (names_it used) (names_of decls used.kind) ≡ true
known_number decls none used h =
    let w = some_in (names_it used) (declared_names decls) (is_known decls none used h) in
    let m : Mention = w.0 in
    let kinds = (and_parts (same_kind used.kind m.kind) (bytes_eq used.text m.text) (and_parts (same_kind used.kind m.kind && bytes_eq used.text m.text) _ w.2).0).0 in
    some_of (names_it used) m (names_of decls used.kind) (in_filter (is_of used.kind) m (declared_names decls) w.1 (eq-eqb _ _ (sym (eqb-true _ _ kinds)))) w.2

-- ---- interfaces

abbrev pub iface_mention : IfaceText → Mention
iface_mention i = mention_port (record { router = i.router; net = i.net })

no_iface_in_net : (net : Lexeme) (part : NetPartText) → filter (is_of IfaceName) (names_in_net_part net part) ≡ []
no_iface_in_net net (NetIp prefix) = refl
no_iface_in_net net (NetHost name parts) = refl
no_iface_in_net net (NetNat name parts) = refl
no_iface_in_net net (NetIdle idle) = refl

ifaces_of_parts : (router : Lexeme) (managed : Bool) (parts : List RoutPartText) →
    filter (is_of IfaceName) (flat_map (names_in_rout_part router) parts) ≡ map iface_mention (flat_map (ifaces_in_part router managed) parts)
ifaces_of_parts router managed [] = refl
ifaces_of_parts router managed (RoutManaged filter ∷ parts) = ifaces_of_parts router managed parts
ifaces_of_parts router managed (RoutModel model ∷ parts) = ifaces_of_parts router managed parts
ifaces_of_parts router managed (RoutRouting routing ∷ parts) = ifaces_of_parts router managed parts
ifaces_of_parts router managed (RoutIface name its_parts ∷ parts) = ap (λ l. mention_port (record { router = router; net = name }) ∷ l) (ifaces_of_parts router managed parts)
ifaces_of_parts router managed (RoutIdle idle ∷ parts) = ifaces_of_parts router managed parts

ifaces_of_decl : (d : DeclText) → filter (is_of IfaceName) (names_in d) ≡ map iface_mention (ifaces_in d)
ifaces_of_decl (NetworkDecl name desc parts) = none_kept (is_of IfaceName) (names_in_net_part name) (no_iface_in_net name) parts
ifaces_of_decl (RouterDecl name desc parts) = ifaces_of_parts name (is_managed_router parts) parts
ifaces_of_decl (GroupDecl name desc objects) = refl
ifaces_of_decl (AreaDecl name desc parts) = refl
ifaces_of_decl (AggregateDecl name desc parts) = refl
ifaces_of_decl (ProtocolDecl name protocol notes) = refl
ifaces_of_decl (ProtocolGroupDecl name prts) = refl
ifaces_of_decl (RestrictionDecl name desc ports) = refl
ifaces_of_decl (ServiceDecl name desc idle user rules) = refl

-- the names of interfaces are those of the declared interfaces, in their order
pub iface_names : (decls : List DeclText) → names_of decls IfaceName ≡ map iface_mention (declared_ifaces decls)
iface_names decls = filter_flat (is_of IfaceName) names_in decls ∙ each decls
  where
    each : (ds : List DeclText) → flat_map (λ d. filter (is_of IfaceName) (names_in d)) ds ≡ map iface_mention (flat_map ifaces_in ds)
    each [] = refl
    each (d ∷ ds) =
        ap (λ l. l ++ flat_map (λ e. filter (is_of IfaceName) (names_in e)) ds) (ifaces_of_decl d) ∙ ap (λ l. map iface_mention (ifaces_in d) ++ l) (each ds)
        ∙ sym (map-append iface_mention (ifaces_in d) (flat_map ifaces_in ds))

-- the declaration in which an interface stands
pub record Stands (decls : List DeclText) (i : IfaceText) : Type 0 where
  pub name : Lexeme
  pub desc : Option Lexeme
  pub parts : List RoutPartText
  pub decl : IsIn (RouterDecl name desc parts) decls
  pub net : Lexeme
  pub if_parts : List IfPartText
  pub part : IsIn (RoutIface net if_parts) parts
  pub is : i ≡ record { router = name; managed = is_managed_router parts; net = net; parts = if_parts }

record StandsIn (router : Lexeme) (managed : Bool) (parts : List RoutPartText) (i : IfaceText) : Type 0 where
  net : Lexeme
  if_parts : List IfPartText
  part : IsIn (RoutIface net if_parts) parts
  is : i ≡ record { router = router; managed = managed; net = net; parts = if_parts }

in_part : (router : Lexeme) (managed : Bool) (i : IfaceText) (parts : List RoutPartText) (part : RoutPartText) → IsIn part parts → IsIn i (ifaces_in_part router managed part) → StandsIn router managed parts i
in_part router managed i parts (RoutManaged filter) h g = absurd g
in_part router managed i parts (RoutModel model) h g = absurd g
in_part router managed i parts (RoutRouting routing) h g = absurd g
in_part router managed i parts (RoutIface name if_parts) h (inl e) = record { net = name; if_parts = if_parts; part = h; is = e }
in_part router managed i parts (RoutIface name if_parts) h (inr g) = absurd g
in_part router managed i parts (RoutIdle idle) h g = absurd g

in_decl : (decls : List DeclText) (i : IfaceText) (d : DeclText) → IsIn d decls → IsIn i (ifaces_in d) → Stands decls i
in_decl decls i (NetworkDecl name desc parts) h g = absurd g
in_decl decls i (RouterDecl name desc parts) h g =
    let w = from_flat_map (ifaces_in_part name (is_managed_router parts)) i parts g in
    let v = in_part name (is_managed_router parts) i parts w.0 w.1 w.2 in
    record { name = name; desc = desc; parts = parts; decl = h; net = v.net; if_parts = v.if_parts; part = v.part; is = v.is }
in_decl decls i (GroupDecl name desc objects) h g = absurd g
in_decl decls i (AreaDecl name desc parts) h g = absurd g
in_decl decls i (AggregateDecl name desc parts) h g = absurd g
in_decl decls i (ProtocolDecl name protocol notes) h g = absurd g
in_decl decls i (ProtocolGroupDecl name prts) h g = absurd g
in_decl decls i (RestrictionDecl name desc ports) h g = absurd g
in_decl decls i (ServiceDecl name desc idle user rules) h g = absurd g

pub stands : (decls : List DeclText) (i : IfaceText) → IsIn i (declared_ifaces decls) → Stands decls i
stands decls i h = let w = from_flat_map ifaces_in i decls h in in_decl decls i w.0 w.1 w.2

-- an interface's router is declared
pub router_number : (decls : List DeclText) (i : IfaceText) → IsIn i (declared_ifaces decls) → list_any (names_it (mention RouterName i.router)) (names_of decls RouterName) ≡ true
router_number decls i h =
    let w = stands decls i h in
    let d = RouterDecl w.name w.desc w.parts in
    subst (λ (j : IfaceText). list_any (names_it (mention RouterName j.router)) (names_of decls RouterName) ≡ true) (sym w.is)
    (own_number decls RouterName w.name (in_flat_map names_in d (mention RouterName w.name) decls w.decl (inl refl)))

-- a router's number is that of a managed one where its parts say so
pub managed_by_parts : (decls : List DeclText) (i : IfaceText) → IsIn i (declared_ifaces decls) →
    is_managed (policy_said decls) (number_of_name decls RouterName i.router) ≡ is_managed_router (router_parts decls i.router.text)
managed_by_parts decls i h =
    let w = router_found decls i.router (router_number decls i h) in
    w.same ∙ ap (λ o. is_managed_router (or_nothing o)) (sym w.given)

pub iface_managed : (decls : List DeclText) → name_twice decls ≡ None → (i : IfaceText) → IsIn i (declared_ifaces decls) →
    is_managed (policy_said decls) (number_of_name decls RouterName i.router) ≡ i.managed
iface_managed decls none i h =
    let w = stands decls i h in
    managed_by_parts decls i h
    ∙ ap (λ (j : IfaceText). is_managed_router (router_parts decls j.router.text)) w.is
    ∙ ap (λ o. is_managed_router (or_nothing o)) (router_once decls none w.name w.desc w.parts w.decl)
    ∙ sym (ap (λ (j : IfaceText). j.managed) w.is)

-- ---- ports

-- the interface that a port names
pub record IsPortAt (decls : List DeclText) (port : PortText) : Type 0 where
  pub iface : IfaceText
  pub there : IsIn iface (declared_ifaces decls)
  pub at : iface_of (policy_said decls) (number_of_port decls port) ≡ iface_said decls iface
  pub within : number_of_port decls port < length (declared_ifaces decls)
  pub router : iface.router.text ≡ port.router.text
  pub net : iface.net.text ≡ port.net.text

pub port_at : (decls : List DeclText) (port : PortText) → list_any (names_it (mention_port port)) (names_of decls IfaceName) ≡ true → IsPortAt decls port
port_at decls port h =
    let test = names_it (mention_port port) in
    let ifs = declared_ifaces decls in
    let none : IfaceText = record { router = port.router; managed = false; net = port.net; parts = [] } in
    let known = sym (ap (list_any test) (iface_names decls)) ∙ h in
    let number = number_is_place test (names_of decls IfaceName) (mention_port port) h ∙ ap (place test) (iface_names decls) in
    let w = place_passes test (map iface_mention ifs) (mention_port port) known in
    let n = place test (map iface_mention ifs) in
    let below : n < length ifs = omega (arith, w.0, length-map ifs iface_mention) in
    let i : IfaceText = get_or ifs n none in
    let passes : test (iface_mention i) ≡ true = sym (ap test (get_or-map iface_mention ifs n none (mention_port port) below)) ∙ w.1 in
    let a = and_parts (same_kind IfaceName IfaceName && bytes_eq port.net.text i.net.text) _ passes in
    record {
      iface = i;
      there = in_get ifs n none below;
      at = ap (λ k. iface_of (policy_said decls) k) number ∙ get_or-map (iface_said decls) ifs n none no_iface below;
      within = omega (arith, number, below);
      router = sym (same_from port.router.text i.router.text a.1);
      net = sym (same_from port.net.text i.net.text a.0);
    }

-- a port's router is managed where the parts of the router of that name say so
pub port_managed : (decls : List DeclText) (port : PortText) → list_any (names_it (mention_port port)) (names_of decls IfaceName) ≡ true →
    is_managed (policy_said decls) (router_at (policy_said decls) (number_of_port decls port)) ≡ is_managed_router (router_parts decls port.router.text)
port_managed decls port h =
    let w = port_at decls port h in
    ap (λ (i : Iface). is_managed (policy_said decls) i.router) w.at ∙ managed_by_parts decls w.iface w.there ∙ ap (λ t. is_managed_router (router_parts decls t)) w.router

-- ports with one number are one
pub one_port : (decls : List DeclText) (p q : PortText) → list_any (names_it (mention_port p)) (names_of decls IfaceName) ≡ true →
    list_any (names_it (mention_port q)) (names_of decls IfaceName) ≡ true → number_of_port decls p ≡ number_of_port decls q →
    (p.router.text ≡ q.router.text) × (p.net.text ≡ q.net.text)
one_port decls p q h g e =
    let names = names_of decls IfaceName in
    let v = place_passes (names_it (mention_port p)) names (mention_port p) h in
    let w = place_passes (names_it (mention_port q)) names (mention_port p) g in
    let places = sym (number_is_place (names_it (mention_port p)) names (mention_port p) h) ∙ e ∙ number_is_place (names_it (mention_port q)) names (mention_port p) g in
    let m : Mention = get_or names (place (names_it (mention_port q)) names) (mention_port p) in
    let first : names_it (mention_port p) m ≡ true = sym (ap (λ n. names_it (mention_port p) (get_or names n (mention_port p))) places) ∙ v.1 in
    let a = and_parts (same_kind IfaceName m.kind && bytes_eq p.net.text m.text) _ first in
    let b = and_parts (same_kind IfaceName m.kind && bytes_eq q.net.text m.text) _ w.1 in (
      same_from p.router.text m.owner a.1 ∙ sym (same_from q.router.text m.owner b.1),
      same_from p.net.text m.text (and_parts (same_kind IfaceName m.kind) _ a.0).1 ∙ sym (same_from q.net.text m.text (and_parts (same_kind IfaceName m.kind) _ b.0).1),
    )
