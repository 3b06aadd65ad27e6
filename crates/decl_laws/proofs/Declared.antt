-- The names in declarations without a fault are declared.
use Rattle.std.proofs.Common.{◌≡◌, inl, inr, refl, sym, ap, subst, true, List, Option}
use Rattle.std.specs.Prelude.{flat_map}
use Rattle.std.specs.List.{list_any}
use Rattle.std.proofs.lemmas.Bool.{false≢true}
use Rattle.spoc_ast.specs.Written.{Lexeme, PortText, NetPartText, NetNat, IfPartText, IfIp, IfHardware, IfBindNat, IfVirtual, IfIdle, RoutPartText, RoutManaged, RoutModel, RoutRouting, RoutIface, RoutIdle, AreaPartText, AreaAnchor, AreaBorder, AreaIdle, AnyPartText, AnyLink, AnyIp, AnyIdle, DeclText, NetworkDecl, RouterDecl, AreaDecl, AggregateDecl, RestrictionDecl}
use Rattle.policy_decls.specs.Names.{NetworkName, TagName, RouterName, Mention, mention, mention_in, mention_port, names_in_net_part, names_in, declared_names}
use Rattle.policy_decls.specs.Uses.{names_it, uses_in_if_part, uses_in_rout_part, uses_in_area_part, uses_in_any_part, uses_in}
use Rattle.policy_decls.specs.Lookup.{IfaceText, ifaces_in_part, ifaces_in, declared_ifaces, is_managed_router, binds_in, iface_binds}
use Rattle.policy_decls.specs.Shapes.{anchors_in, borders_in, links_in}
use Rattle.policy_model.proofs.AllWalks.{IsIn, in_map, in_flat_map}
use Rattle.list_laws.proofs.Members.{some_of}
use Rattle.list_laws.proofs.Tables.{from_flat_map}
use Rattle.decl_laws.proofs.NameNumbers.{kind_itself, names_it_from}
use Rattle.decl_laws.proofs.Taken.{IsFaultless}

-- the name is declared
abbrev pub IsDeclared : List DeclText → Mention → Type 0
IsDeclared decls used = list_any (names_it used) (declared_names decls) ≡ true

names_itself : (m : Mention) → names_it m m ≡ true
names_itself m = names_it_from m m (record { kind = kind_itself m.kind; text = refl; owner = λ no. refl })

-- where an interface is declared
pub record IsIfaceOf (decls : List DeclText) (i : IfaceText) : Type 0 where
  pub desc : Option Lexeme
  pub parts : List RoutPartText
  pub there : IsIn (RouterDecl i.router desc parts) decls
  pub part : IsIn (RoutIface i.net i.parts) parts
  pub managed : i.managed ≡ is_managed_router parts

module _ (decls : List DeclText) where
  pub own_name : (d : DeclText) (m : Mention) → IsIn d decls → IsIn m (names_in d) → IsDeclared decls m
  own_name d m g h = some_of (names_it m) m (declared_names decls) (in_flat_map names_in d m decls g h) (names_itself m)

  pub own_tag : (name : Lexeme) (desc : _) (parts : List NetPartText) (tag : Lexeme) (own : _) → IsIn (NetworkDecl name desc parts) decls → IsIn (NetNat tag own) parts → IsDeclared decls (mention TagName tag)
  own_tag name desc parts tag own g h =
      let m = mention_in TagName name tag in
      some_of (names_it (mention TagName tag)) m (declared_names decls)
      (in_flat_map names_in (NetworkDecl name desc parts) m decls g (inr (in_flat_map (names_in_net_part name) (NetNat tag own) m parts h (inl refl))))
      (names_it_from (mention TagName tag) m (record { kind = refl; text = refl; owner = λ no. absurd (false≢true (sym no)) }))

  -- ---- interfaces

  of_part : (name : Lexeme) (desc : _) (parts : List RoutPartText) → IsIn (RouterDecl name desc parts) decls → (i : IfaceText) (part : RoutPartText) → IsIn part parts →
      IsIn i (ifaces_in_part name (is_managed_router parts) part) → IsIfaceOf decls i
  of_part name desc parts g i (RoutIface net own) there (inl e) = subst (IsIfaceOf decls) (sym e) (record { desc = desc; parts = parts; there = g; part = there; managed = refl })
  of_part name desc parts g i (RoutIface net own) there (inr h) = absurd h
  of_part name desc parts g i (RoutManaged by) there h = absurd h
  of_part name desc parts g i (RoutModel model) there h = absurd h
  of_part name desc parts g i (RoutRouting routing) there h = absurd h
  of_part name desc parts g i (RoutIdle idle) there h = absurd h

  of_decl : (d : DeclText) → IsIn d decls → (i : IfaceText) → IsIn i (ifaces_in d) → IsIfaceOf decls i
  of_decl (RouterDecl name desc parts) g i h =
      let w = from_flat_map (ifaces_in_part name (is_managed_router parts)) i parts h in
      of_part name desc parts g i w.0 w.1 w.2
  of_decl _ g i h = absurd h

  pub iface_of_decl : (i : IfaceText) → IsIn i (declared_ifaces decls) → IsIfaceOf decls i
  iface_of_decl i h = let w = from_flat_map ifaces_in i decls h in of_decl w.0 w.1 i w.2

  pub iface_router : (i : IfaceText) → IsIfaceOf decls i → IsDeclared decls (mention RouterName i.router)
  iface_router i h = own_name (RouterDecl i.router h.desc h.parts) (mention RouterName i.router) h.there (inl refl)

  module _ (faultless : (d : DeclText) → IsIn d decls → IsFaultless decls d) where
    pub known : (d : DeclText) (used : Mention) → IsIn d decls → IsIn used (uses_in d) → IsDeclared decls used
    known d used g h = (faultless d g).known used h

    pub iface_net : (i : IfaceText) → IsIfaceOf decls i → IsDeclared decls (mention NetworkName i.net)
    iface_net i h =
        let m = mention NetworkName i.net in
        known (RouterDecl i.router h.desc h.parts) m h.there (in_flat_map uses_in_rout_part (RoutIface i.net i.parts) m h.parts h.part (inl refl))

    bound : (tag : Lexeme) (tags : List Lexeme) (part : IfPartText) → IsIn tags (binds_in part) → IsIn tag tags → IsIn (mention TagName tag) (uses_in_if_part part)
    bound tag tags (IfBindNat own) (inl e) h = in_map (mention TagName) tag own (subst (IsIn tag) e h)
    bound tag tags (IfBindNat own) (inr g) h = absurd g
    bound tag tags (IfIp address) g h = absurd g
    bound tag tags (IfHardware hardware) g h = absurd g
    bound tag tags (IfVirtual parts) g h = absurd g
    bound tag tags (IfIdle idle) g h = absurd g

    pub iface_tag : (i : IfaceText) → IsIfaceOf decls i → (tags : List Lexeme) (tag : Lexeme) → IsIn tags (iface_binds i) → IsIn tag tags → IsDeclared decls (mention TagName tag)
    iface_tag i h tags tag g k =
        let m = mention TagName tag in
        let w = from_flat_map binds_in tags i.parts g in
        known (RouterDecl i.router h.desc h.parts) m h.there
        (in_flat_map uses_in_rout_part (RoutIface i.net i.parts) m h.parts h.part (inr (in_flat_map uses_in_if_part w.0 m i.parts w.1 (bound tag tags w.0 w.2 k))))

    -- ---- areas, aggregates and restrictions

    anchored : (name : Lexeme) (part : AreaPartText) → IsIn name (anchors_in part) → IsIn (mention NetworkName name) (uses_in_area_part part)
    anchored name (AreaAnchor own) (inl e) = inl (ap (mention NetworkName) e)
    anchored name (AreaAnchor own) (inr h) = absurd h
    anchored name (AreaBorder ports) h = absurd h
    anchored name (AreaIdle idle) h = absurd h

    pub anchor_known : (area : Lexeme) (desc : _) (parts : List AreaPartText) (name : Lexeme) → IsIn (AreaDecl area desc parts) decls → IsIn name (flat_map anchors_in parts) → IsDeclared decls (mention NetworkName name)
    anchor_known area desc parts name g h =
        let w = from_flat_map anchors_in name parts h in
        known (AreaDecl area desc parts) (mention NetworkName name) g (in_flat_map uses_in_area_part w.0 (mention NetworkName name) parts w.1 (anchored name w.0 w.2))

    bordered : (ports : List PortText) (port : PortText) (part : AreaPartText) → IsIn ports (borders_in part) → IsIn port ports → IsIn (mention_port port) (uses_in_area_part part)
    bordered ports port (AreaBorder own) (inl e) h = in_map mention_port port own (subst (IsIn port) e h)
    bordered ports port (AreaBorder own) (inr g) h = absurd g
    bordered ports port (AreaAnchor own) g h = absurd g
    bordered ports port (AreaIdle idle) g h = absurd g

    pub border_known : (area : Lexeme) (desc : _) (parts : List AreaPartText) (ports : List PortText) (port : PortText) → IsIn (AreaDecl area desc parts) decls → IsIn ports (flat_map borders_in parts) →
        IsIn port ports → IsDeclared decls (mention_port port)
    border_known area desc parts ports port g h k =
        let w = from_flat_map borders_in ports parts h in
        known (AreaDecl area desc parts) (mention_port port) g (in_flat_map uses_in_area_part w.0 (mention_port port) parts w.1 (bordered ports port w.0 w.2 k))

    linked : (name : Lexeme) (part : AnyPartText) → IsIn name (links_in part) → IsIn (mention NetworkName name) (uses_in_any_part part)
    linked name (AnyLink own) (inl e) = inl (ap (mention NetworkName) e)
    linked name (AnyLink own) (inr h) = absurd h
    linked name (AnyIp prefix) h = absurd h
    linked name (AnyIdle idle) h = absurd h

    pub link_known : (aggregate : Lexeme) (desc : _) (parts : List AnyPartText) (name : Lexeme) → IsIn (AggregateDecl aggregate desc parts) decls → IsIn name (flat_map links_in parts) → IsDeclared decls (mention NetworkName name)
    link_known aggregate desc parts name g h =
        let w = from_flat_map links_in name parts h in
        known (AggregateDecl aggregate desc parts) (mention NetworkName name) g (in_flat_map uses_in_any_part w.0 (mention NetworkName name) parts w.1 (linked name w.0 w.2))

    pub member_known : (name : Lexeme) (desc : _) (ports : List PortText) (port : PortText) → IsIn (RestrictionDecl name desc ports) decls → IsIn port ports → IsDeclared decls (mention_port port)
    member_known name desc ports port g h = known (RestrictionDecl name desc ports) (mention_port port) g (in_map mention_port port ports h)
