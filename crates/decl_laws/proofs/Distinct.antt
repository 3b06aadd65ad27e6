-- No two things of one kind have one name.
use Rattle.std.proofs.Common.{◌≡◌, inl, inr, refl, sym, ap, subst, ◌∙◌, ℕ, zero, suc, ◌<◌, Bool, true, false, ◌&&◌, List, [], ◌∷◌, length, map, get_or, Some, None, arith}
use Rattle.std.specs.Prelude.{IsTrue, slice_get}
use Rattle.std.specs.Str.{bytes_eq}
use Rattle.std.proofs.lemmas.Bool.{false≢true, and_from}
use Rattle.std.proofs.lemmas.Option.{get_or_from_slice_get, slice_get_within}
use Rattle.topology.specs.Sound.{IsNamed, AreDistinct}
use Rattle.policy_model.specs.Policy.{no_iface, router_at, net_at}
use Rattle.spoc_ast.specs.Written.{Lexeme, NetPartText, NetIp, NetHost, NetNat, NetIdle, RoutPartText, RoutManaged, RoutModel, RoutRouting, RoutIface, RoutIdle, DeclText, NetworkDecl, RouterDecl, GroupDecl, AreaDecl, AggregateDecl, ProtocolDecl, ProtocolGroupDecl, RestrictionDecl, ServiceDecl}
use Rattle.policy_decls.specs.Names.{NameKind, NetworkName, HostName, TagName, RouterName, IfaceName, GroupName, AreaName, AggregateName, ProtocolName, ProtocolGroupName, RestrictionName, ServiceName, same_kind, Mention, mention, names_in_net_part, names_in_rout_part, names_in, declared_names, same_name}
use Rattle.policy_decls.specs.Lookup.{declared_ifaces}
use Rattle.policy_decls.specs.Said.{same_text, names_of, tag_names, number_among, iface_said, policy_said}
use Rattle.policy_decls.specs.Faults.{fault_of}
use Rattle.policy_decls.specs.Formed.{are_formed}
use Rattle.policy_model.proofs.AllWalks.{IsIn, from_map}
use Rattle.list_laws.proofs.Members.{from_filter}
use Rattle.list_laws.proofs.Tables.{from_flat_map}
use Rattle.decl_laws.proofs.Rows.{no_rows}
use Rattle.decl_laws.proofs.Places.{get_in, AreApart, filter_apart, apart_by, apart_places, once_apart, map_apart}
use Rattle.decl_laws.proofs.Taken.{IsFaultless, each_faultless, apart_names}
use Rattle.decl_laws.proofs.NamesByKind.{is_of, texts, net_names, host_names, router_names, restriction_names, group_names, area_names, aggregate_names, service_names, tag_texts, iface_mention, iface_names}
use Rattle.decl_laws.proofs.NameNumbers.{bytes_same, bytes_alike, says_it, HasNumber, name_number, name_back, kind_onward, kind_back}
use Rattle.decl_laws.proofs.Implied.{declared_are}
use Rattle.decl_laws.proofs.Declared.{iface_of_decl, iface_router, iface_net}

-- ---- lists of texts

apart_mapped : {A : Type 0} (f : A → List ℕ) (xs : List A) → AreApart (λ a b. bytes_eq (f a) (f b)) xs → AreApart bytes_eq (map f xs)
apart_mapped f [] h = tt
apart_mapped f (x ∷ xs) h = ((λ y g. let w = from_map f y xs g in ap (λ z. bytes_eq z (f x)) w.2 ∙ h.0 w.0 w.1), apart_mapped f xs h.1)

distinct_texts : (names : List (List ℕ)) → AreApart bytes_eq names → AreDistinct names
distinct_texts names h n m low high e =
    apart_places bytes_eq (λ a b t. bytes_alike b a (sym (bytes_same a b t))) names [] h n m low high (bytes_alike (get_or names n []) (get_or names m []) e)

-- ---- only tags and interfaces have owners

owned_in_net : (name : Lexeme) (part : NetPartText) (m : Mention) → IsIn m (names_in_net_part name part) → same_kind m.kind TagName ≡ false → m.owner ≡ []
owned_in_net name (NetHost host own) m (inl e) off = ap (λ x. x.owner) e
owned_in_net name (NetHost host own) m (inr h) off = absurd h
owned_in_net name (NetNat tag own) m (inl e) off = absurd (false≢true (sym off ∙ ap (λ x. same_kind x.kind TagName) e))
owned_in_net name (NetNat tag own) m (inr h) off = absurd h
owned_in_net name (NetIp prefix) m h off = absurd h
owned_in_net name (NetIdle idle) m h off = absurd h

owned_in_router : (name : Lexeme) (part : RoutPartText) (m : Mention) → IsIn m (names_in_rout_part name part) → same_kind m.kind IfaceName ≡ false → m.owner ≡ []
owned_in_router name (RoutIface net own) m (inl e) off = absurd (false≢true (sym off ∙ ap (λ x. same_kind x.kind IfaceName) e))
owned_in_router name (RoutIface net own) m (inr h) off = absurd h
owned_in_router name (RoutManaged by) m h off = absurd h
owned_in_router name (RoutModel model) m h off = absurd h
owned_in_router name (RoutRouting routing) m h off = absurd h
owned_in_router name (RoutIdle idle) m h off = absurd h

alone : {A : Type 0} (x y : A) → IsIn x (y ∷ []) → x ≡ y
alone x y (inl e) = e
alone x y (inr h) = absurd h

pub no_owner : (d : DeclText) (m : Mention) → IsIn m (names_in d) → same_kind m.kind TagName ≡ false → same_kind m.kind IfaceName ≡ false → m.owner ≡ []
no_owner (NetworkDecl name desc parts) m (inl e) tags ifaces = ap (λ x. x.owner) e
no_owner (NetworkDecl name desc parts) m (inr h) tags ifaces = let w = from_flat_map (names_in_net_part name) m parts h in owned_in_net name w.0 m w.2 tags
no_owner (RouterDecl name desc parts) m (inl e) tags ifaces = ap (λ x. x.owner) e
no_owner (RouterDecl name desc parts) m (inr h) tags ifaces = let w = from_flat_map (names_in_rout_part name) m parts h in owned_in_router name w.0 m w.2 ifaces
no_owner (GroupDecl name desc objects) m h tags ifaces = ap (λ x. x.owner) (alone m (mention GroupName name) h)
no_owner (AreaDecl name desc parts) m h tags ifaces = ap (λ x. x.owner) (alone m (mention AreaName name) h)
no_owner (AggregateDecl name desc parts) m h tags ifaces = ap (λ x. x.owner) (alone m (mention AggregateName name) h)
no_owner (ProtocolDecl name protocol notes) m h tags ifaces = ap (λ x. x.owner) (alone m (mention ProtocolName name) h)
no_owner (ProtocolGroupDecl name prts) m h tags ifaces = ap (λ x. x.owner) (alone m (mention ProtocolGroupName name) h)
no_owner (RestrictionDecl name desc ports) m h tags ifaces = ap (λ x. x.owner) (alone m (mention RestrictionName name) h)
no_owner (ServiceDecl name desc idle user rules) m h tags ifaces = ap (λ x. x.owner) (alone m (mention ServiceName name) h)

-- what stands at a place of a map
pub mapped_at : {A B : Type 0} (f : A → B) (xs : List A) (k : ℕ) (d : B) → k < length (map f xs) → (x : A) × (slice_get xs k ≡ Some x) × (get_or (map f xs) k d ≡ f x)
mapped_at f [] k d below = absurd (omega arith)
mapped_at f (x ∷ xs) zero d below = (x, refl, refl)
mapped_at f (x ∷ xs) (suc k) d below = mapped_at f xs k d (omega arith)

-- names with one number are one
pub one_number : (names : List Mention) (a b : Mention) → HasNumber names a → HasNumber names b → number_among names a ≡ number_among names b → a.text ≡ b.text
one_number names a b h g e =
    let at = get_or names (number_among names a) a in
    let there : get_or names (number_among names b) a ≡ at = ap (λ n. get_or names n a) (sym e) in
    (says_it a at (h.there a)).text ∙ sym ((says_it b (get_or names (number_among names b) a) (g.there a)).text ∙ ap (λ m. m.text) there)

module _ (decls : List DeclText) (apart : AreApart same_name (declared_names decls)) where
  same_plain : (k : NameKind) → same_kind k TagName ≡ false → same_kind k IfaceName ≡ false → (a b : Mention) → IsIn a (names_of decls k) → IsIn b (names_of decls k) → bytes_eq a.text b.text ≡ true → same_name a b ≡ true
  same_plain k tags ifaces a b g h e =
      let v = from_filter (is_of k) a (declared_names decls) g in
      let w = from_filter (is_of k) b (declared_names decls) h in
      and_from (same_kind a.kind b.kind && bytes_eq a.owner b.owner) (bytes_eq a.text b.text)
      (and_from (same_kind a.kind b.kind) (bytes_eq a.owner b.owner) (kind_onward a.kind k b.kind v.1 (kind_back b.kind k w.1)) (bytes_alike a.owner b.owner (none a v.0 v.1 ∙ sym (none b w.0 w.1)))) e
    where
      other : (m : Mention) (j : NameKind) → same_kind m.kind k ≡ true → same_kind k j ≡ false → same_kind m.kind j ≡ false
      other m j e f = by (same_kind m.kind j) refl
        where
          by : (b : Bool) → same_kind m.kind j ≡ b → same_kind m.kind j ≡ false
          by false x = x
          by true x = absurd (false≢true (sym f ∙ kind_onward k m.kind j (kind_back m.kind k e) x))

      none : (m : Mention) → IsIn m (declared_names decls) → same_kind m.kind k ≡ true → m.owner ≡ []
      none m h e = let w = from_flat_map names_in m decls h in no_owner w.0 m w.2 (other m TagName e tags) (other m IfaceName e ifaces)

  distinct_kind : (k : NameKind) → same_kind k TagName ≡ false → same_kind k IfaceName ≡ false → AreDistinct (texts (names_of decls k))
  distinct_kind k tags ifaces =
      distinct_texts (texts (names_of decls k))
      (apart_mapped (λ m. m.text) (names_of decls k)
      (apart_by same_name (λ a b. bytes_eq a.text b.text) (names_of decls k) (same_plain k tags ifaces) (filter_apart same_name (is_of k) (declared_names decls) apart)))

  distinct_tags : AreDistinct (texts (tag_names decls))
  distinct_tags =
      distinct_texts (texts (tag_names decls)) (apart_mapped (λ m. m.text) (tag_names decls) (once_apart same_text (λ a b t. bytes_alike b.text a.text (sym (bytes_same a.text b.text t))) (names_of decls TagName)))

  pub apart_ifaces : AreApart (λ a b. same_name (iface_mention a) (iface_mention b)) (declared_ifaces decls)
  apart_ifaces = map_apart same_name iface_mention (declared_ifaces decls) (subst (AreApart same_name) (iface_names decls) (filter_apart same_name (is_of IfaceName) (declared_names decls) apart))

  module _ (faultless : (d : DeclText) → IsIn d decls → IsFaultless decls d) where
    pub distinct_ifaces : (i j : ℕ) → i < length (policy_said decls).ifaces → j < length (policy_said decls).ifaces → router_at (policy_said decls) i ≡ router_at (policy_said decls) j →
        net_at (policy_said decls) i ≡ net_at (policy_said decls) j → i ≡ j
    distinct_ifaces i j low high routers nets =
        let ifs = declared_ifaces decls in
        let v = mapped_at (iface_said decls) ifs i no_iface low in
        let w = mapped_at (iface_said decls) ifs j no_iface high in
        let a = iface_of_decl decls v.0 (get_in v.0 ifs i v.1) in
        let b = iface_of_decl decls w.0 (get_in w.0 ifs j w.1) in
        let router = one_number (names_of decls RouterName) (mention RouterName v.0.router) (mention RouterName w.0.router)
        (name_number decls RouterName v.0.router (iface_router decls v.0 a)) (name_number decls RouterName w.0.router (iface_router decls w.0 b))
        (sym (ap (λ x. x.router) v.2) ∙ routers ∙ ap (λ x. x.router) w.2) in
        let net = one_number (names_of decls NetworkName) (mention NetworkName v.0.net) (mention NetworkName w.0.net)
        (name_number decls NetworkName v.0.net (iface_net decls faultless v.0 a)) (name_number decls NetworkName w.0.net (iface_net decls faultless w.0 b))
        (sym (ap (λ x. x.net) v.2) ∙ nets ∙ ap (λ x. x.net) w.2) in
        let same = and_from (bytes_eq v.0.router.text w.0.router.text) (bytes_eq v.0.net.text w.0.net.text) (bytes_alike v.0.router.text w.0.router.text router) (bytes_alike v.0.net.text w.0.net.text net) in
        apart_places (λ a b. same_name (iface_mention a) (iface_mention b)) (λ a b t. name_back (iface_mention a) (iface_mention b) t) ifs v.0 apart_ifaces i j (slice_get_within ifs i v.0 v.1) (slice_get_within ifs j w.0 w.1)
        (subst (λ x. same_name (iface_mention x) (iface_mention (get_or ifs j v.0)) ≡ true) (sym (get_or_from_slice_get ifs i v.0 v.0 v.1))
        (subst (λ x. same_name (iface_mention v.0) (iface_mention x) ≡ true) (sym (get_or_from_slice_get ifs j w.0 v.0 w.1)) same))

    pub all_named : IsNamed (policy_said decls)
    all_named = record {
      nets = subst AreDistinct (sym (net_names decls)) (distinct_kind NetworkName refl refl);
      hosts = subst AreDistinct (sym (host_names decls)) (distinct_kind HostName refl refl);
      routers = subst AreDistinct (sym (router_names decls)) (distinct_kind RouterName refl refl);
      ifaces = distinct_ifaces;
      tags = subst AreDistinct (sym (tag_texts decls)) distinct_tags;
      restrictions = subst AreDistinct (sym (ap (map (λ x. x.name)) (declared_are decls) ∙ restriction_names decls)) (distinct_kind RestrictionName refl refl);
      groups = subst AreDistinct (sym (group_names decls)) (distinct_kind GroupName refl refl);
      areas = subst AreDistinct (sym (area_names decls)) (distinct_kind AreaName refl refl);
      aggregates = subst AreDistinct (sym (aggregate_names decls)) (distinct_kind AggregateName refl refl);
      services = subst AreDistinct (sym (service_names decls)) (distinct_kind ServiceName refl refl);
    }

pub names_distinct : (decls : List DeclText) → IsTrue (are_formed decls) → fault_of decls ≡ None → IsNamed (policy_said decls)
names_distinct decls formed none = let h = no_rows decls none in all_named decls (apart_names decls h.twice) (each_faultless decls formed h)
