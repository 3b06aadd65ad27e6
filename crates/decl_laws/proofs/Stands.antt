-- What stands in the policy at the number of a name.
use Rattle.std.proofs.Common.{◌≡◌, inl, inr, refl, sym, ap, subst, ◌∙◌, ℕ, ◌<◌, Bool, true, false, cond, List, [], ◌∷◌, ◌++◌, length, map, get_or, Some, None, is_some}
use Rattle.std.specs.Prelude.{flat_map}
use Rattle.std.specs.Str.{bytes_eq}
use Rattle.std.proofs.lemmas.Bool.{false≢true, and_from}
use Rattle.std.proofs.lemmas.List.{get_or-map}
use Rattle.std.proofs.lemmas.Option.{same_Some}
use Rattle.policy_model.specs.Policy.{Router, no_router, no_iface, iface_of, router_of, is_managed}
use Rattle.spoc_ast.specs.Written.{Lexeme, PortText, RoutPartText, DeclText, RouterDecl}
use Rattle.policy_decls.specs.Names.{NameKind, RouterName, IfaceName, mention, mention_port, names_in, declared_names, same_name}
use Rattle.policy_decls.specs.Lookup.{IfaceText, declared_ifaces, is_managed_router, is_port}
use Rattle.policy_decls.specs.Said.{names_of, number_of_name, number_of_port, device_in, adds_of, iface_said, policy_said}
use Rattle.policy_model.proofs.AllWalks.{IsIn, in_back, in_flat_map}
use Rattle.list_laws.proofs.Tables.{from_flat_map}
use Rattle.decl_laws.proofs.Places.{at_in, get_in, AreApart}
use Rattle.decl_laws.proofs.NamesByKind.{texts, router_names, iface_mention, iface_names, as_many}
use Rattle.decl_laws.proofs.NameNumbers.{bytes_alike, says_it, name_back, name_number, port_number, iface_count}
use Rattle.decl_laws.proofs.Declared.{IsDeclared, own_name, iface_of_decl}
use Rattle.decl_laws.proofs.Distinct.{mapped_at}

-- ---- two declarations that give one name are one

module _ {A B : Type 0} (same : B → B → Bool) (back : (a b : B) → same a b ≡ true → same b a ≡ true) (f : A → List B) where
  rest_apart : (xs ys : List B) → AreApart same (xs ++ ys) → AreApart same ys
  rest_apart [] ys h = h
  rest_apart (x ∷ xs) ys h = rest_apart xs ys h.1

  across : (xs ys : List B) (x y : B) → AreApart same (xs ++ ys) → IsIn x xs → IsIn y ys → same y x ≡ true → ⊥
  across [] ys x y h g k t = g
  across (z ∷ zs) ys x y h (inl e) k t = false≢true (sym (h.0 y (in_back y zs ys k)) ∙ ap (same y) (sym e) ∙ t)
  across (z ∷ zs) ys x y h (inr g) k t = across zs ys x y h.1 g k t

  pub one_source : (xs : List A) (a b : A) (x y : B) → AreApart same (flat_map f xs) → IsIn a xs → IsIn b xs → IsIn x (f a) → IsIn y (f b) → same x y ≡ true → a ≡ b
  one_source [] a b x y h g k i j t = absurd g
  one_source (z ∷ zs) a b x y h (inl d) (inl e) i j t = d ∙ sym e
  one_source (z ∷ zs) a b x y h (inl d) (inr k) i j t =
      absurd (across (f z) (flat_map f zs) x y h (subst (λ w. IsIn x (f w)) d i) (in_flat_map f b y zs k j) (back x y t))
  one_source (z ∷ zs) a b x y h (inr g) (inl e) i j t =
      absurd (across (f z) (flat_map f zs) y x h (subst (λ w. IsIn y (f w)) e j) (in_flat_map f a x zs g i) t)
  one_source (z ∷ zs) a b x y h (inr g) (inr k) i j t = one_source zs a b x y (rest_apart (f z) (flat_map f zs) h) g k i j t

-- ---- routers

pub device_there : (parts : List RoutPartText) → is_some (device_in parts) ≡ is_managed_router parts
device_there parts = by (is_managed_router parts) _
  where
    by : {A : Type 0} (b : Bool) (x : A) → is_some (cond b (Some x) None) ≡ b
    by true x = refl
    by false x = refl

-- ---- what has a name

-- what stands at a name's number has that name
pub record IsSaidAt {X : Type 0} (decls : List DeclText) (pick : DeclText → List X) (name_of : X → List ℕ) (name : Lexeme) (x : X) : Type 0 where
  pub decl : DeclText
  pub there : IsIn decl decls
  pub said : IsIn x (pick decl)
  pub named : name_of x ≡ name.text

module _ (decls : List DeclText) where
  pub said_at : {X : Type 0} (pick : DeclText → List X) (name_of : X → List ℕ) (k : NameKind) → map name_of (flat_map pick decls) ≡ texts (names_of decls k) → (name : Lexeme) → IsDeclared decls (mention k name) →
      (z : X) → IsSaidAt decls pick name_of name (get_or (flat_map pick decls) (number_of_name decls k name) z)
  said_at pick name_of k e name h z =
      let n = number_of_name decls k name in
      let used = mention k name in
      let number = name_number decls k name h in
      let below : n < length (flat_map pick decls) = subst (λ m. n < m) (sym (as_many name_of (λ m. m.text) (flat_map pick decls) (names_of decls k) e)) number.below in
      let w = from_flat_map pick (get_or (flat_map pick decls) n z) decls (at_in (flat_map pick decls) n z below) in
      record {
        decl = w.0;
        there = w.1;
        said = w.2;
        named =
            sym (get_or-map name_of (flat_map pick decls) n z [] below) ∙ ap (λ l. get_or l n []) e ∙ get_or-map (λ m. m.text) (names_of decls k) n used [] number.below
            ∙ sym (says_it used (get_or (names_of decls k) n used) (number.there used)).text;
      }

  -- ---- interfaces

  -- the interface at a port's number
  pub record IsPortAt (port : PortText) : Type 0 where
    pub iface : IfaceText
    pub there : IsIn iface (declared_ifaces decls)
    pub said : iface_of (policy_said decls) (number_of_port decls port) ≡ iface_said decls iface
    pub named : is_port port iface ≡ true

  pub port_at : (port : PortText) → IsDeclared decls (mention_port port) → IsPortAt port
  port_at port h =
      let n = number_of_port decls port in
      let used = mention_port port in
      let number = port_number decls port h in
      let ifs = declared_ifaces decls in
      let below : n < length (map (iface_said decls) ifs) = subst (λ m. n < m) (sym (iface_count decls)) number.below in
      let w = mapped_at (iface_said decls) ifs n no_iface below in
      let at = mapped_at iface_mention ifs n used (subst (λ l. n < length l) (iface_names decls) number.below) in
      let one : at.0 ≡ w.0 = same_Some at.0 w.0 (sym at.1 ∙ w.1) in
      let here : get_or (names_of decls IfaceName) n used ≡ iface_mention w.0 = ap (λ l. get_or l n used) (iface_names decls) ∙ at.2 ∙ ap iface_mention one in
      let names = says_it used (get_or (names_of decls IfaceName) n used) (number.there used) in
      record {
        iface = w.0;
        there = get_in w.0 ifs n w.1;
        said = w.2;
        named = and_from (bytes_eq w.0.router.text port.router.text) (bytes_eq w.0.net.text port.net.text)
            (bytes_alike w.0.router.text port.router.text (sym (names.owner refl ∙ ap (λ m. m.owner) here))) (bytes_alike w.0.net.text port.net.text (sym (names.text ∙ ap (λ m. m.text) here)));
      }

  abbrev parts_of : DeclText → List RoutPartText
  parts_of (RouterDecl name desc parts) = parts
  parts_of _ = []

  module _ (apart : AreApart same_name (declared_names decls)) where
    from_router : (name : Lexeme) (desc : _) (parts : List RoutPartText) → IsIn (RouterDecl name desc parts) decls → (x : Router) (d : DeclText) → IsIn d decls → IsIn x (adds_of decls d).routers → x.name ≡ name.text →
        is_some x.device ≡ is_managed_router parts
    from_router name desc parts g x (RouterDecl own notes others) k (inl e) same =
        let one = one_source same_name name_back names_in decls (RouterDecl own notes others) (RouterDecl name desc parts) (mention RouterName own) (mention RouterName name) apart k g (inl refl) (inl refl)
        (bytes_alike own.text name.text (sym (ap (λ y. y.name) e) ∙ same)) in
        ap (λ y. is_some y.device) e ∙ device_there others ∙ ap (λ d. is_managed_router (parts_of d)) one
    from_router name desc parts g x (RouterDecl own notes others) k (inr h) same = absurd h
    from_router name desc parts g x _ k h same = absurd h

    -- the router at the number of a declared one is managed as that is
    pub managed_at : (name : Lexeme) (desc : _) (parts : List RoutPartText) → IsIn (RouterDecl name desc parts) decls → is_managed (policy_said decls) (number_of_name decls RouterName name) ≡ is_managed_router parts
    managed_at name desc parts g =
        let at = said_at (λ d. (adds_of decls d).routers) (λ x. x.name) RouterName (router_names decls) name (own_name decls (RouterDecl name desc parts) (mention RouterName name) g (inl refl)) no_router in
        from_router name desc parts g (router_of (policy_said decls) (number_of_name decls RouterName name)) at.decl at.there at.said at.named

    -- an interface's router is managed as its declaration says
    pub managed_iface : (i : IfaceText) → IsIn i (declared_ifaces decls) → is_managed (policy_said decls) (number_of_name decls RouterName i.router) ≡ i.managed
    managed_iface i h = let w = iface_of_decl decls i h in managed_at i.router w.desc w.parts w.there ∙ sym w.managed
