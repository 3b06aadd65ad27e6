-- Interfaces: their addresses, hardware and tags.
use Rattle.std.proofs.Common.{◌≡◌, ◌≢◌, ℕ, suc, ◌<◌, ◌⊎◌, inl, inr, Bool, true, false, not, ◌||◌, ◌&&◌, List, [], ◌∷◌, ◌++◌, length, map, refl, sym, ap, subst, ◌∙◌, ⊎_elim, arith}
use Rattle.std.specs.Prelude.{Option, Some, None, is_some, flat_map, option_and_then}
use Rattle.std.specs.Str.{bytes_eq}
use Rattle.std.specs.List.{list_any, list_all, slice_get}
use Rattle.std.proofs.lemmas.List.{length-map, append-nil}
use Rattle.std.proofs.lemmas.Option.{none-some, cond_some}
use Rattle.std.proofs.lemmas.Bool.{false≢true, or_parts, or_left, or_right, and_from, and_cases, not-true, not-false, not_from_false, ltb-false, cases_order}
use Rattle.spoc_base.specs.Address.{Cidr, prefix_holds}
use Rattle.policy_model.specs.Lists.{is_nothing, are_distinct}
use Rattle.policy_model.specs.Policy.{Iface, no_iface, net_of, iface_of, net_at, router_at, is_managed}
use Rattle.policy_model.proofs.AllWalks.{IsIn, in_flat_map, in_map}
use Rattle.list_laws.proofs.Members.{each_in, some_of, in_either}
use Rattle.list_laws.proofs.Tables.{from_flat_map}
use Rattle.spoc_ast.specs.Written.{Lexeme, NetPartText, VirtPartText, IfPartText, IfIp, IfHardware, IfBindNat, IfVirtual, IfIdle, RoutPartText, RoutManaged, RoutModel, RoutRouting, RoutIface, RoutIdle, DeclText, NetworkDecl, RouterDecl, GroupDecl, AreaDecl, AggregateDecl, ProtocolDecl, ProtocolGroupDecl, RestrictionDecl, ServiceDecl}
use Rattle.policy_decls.specs.Numbers.{address_of, holds_of}
use Rattle.policy_decls.specs.Names.{NetworkName, RouterName, TagName, Mention, mention, names_in, names_in_rout_part}
use Rattle.policy_decls.specs.Uses.{used_names, uses_in, uses_in_rout_part, uses_in_if_part}
use Rattle.policy_decls.specs.Lookup.{first_given, or_nothing, network_called, network_parts, own_prefix, aligned, is_managed_router, IfaceText, ifaces_in_part, ifaces_in, declared_ifaces, addresses_in, hardware_in, binds_in, iface_addresses, iface_hardware, iface_binds}
use Rattle.policy_decls.specs.Shapes.{has_two, same_texts, share, is_bad_iface, is_outside, has_address_of, has_hardware_of, is_bad_binding, virtuals_in, iface_virtuals, ips_in_virtual, is_outside_net, is_taken, is_bad_virtual, is_bad_shared, clash_with}
use Rattle.policy_decls.specs.Said.{number_of_tag, shared_in, iface_shared, text_or_none, cidr_or_any, policy_said, iface_said}
use Rattle.policy_decls.specs.Formed.{is_formed_iface, is_formed_router, are_formed}
use Rattle.decl_laws.proofs.Rows.{HasNoFault}
use Rattle.decl_laws.proofs.Cuts.{flat_cut, in_cut, no_clash}
use Rattle.decl_laws.proofs.Absent.{has_shape}
use Rattle.decl_laws.proofs.Found.{same_to, given_here, given_later, net_found}
use Rattle.decl_laws.proofs.Owners.{not_before, known_number, router_number, stands, iface_managed}
use Rattle.decl_laws.proofs.Shaped.{none_in, first_one, holds_at, formed_in, shape_of, RouterShape, router_shape}
use Rattle.decl_laws.proofs.Spelling.{one_spelling}
use Rattle.decl_laws.proofs.Numbers.{item_at, item_in, mapped_item, cut_at_number, one_name, tags_differ}
use Rattle.decl_laws.proofs.Addressed.{net_there}

-- ---- what a look-up gives is declared

given_in_step : {D Z : Type 0} (c : D → Option Z) (d : D) (ds : List D) (z : Z) (o : Option Z) → c d ≡ o → (first_given c ds ≡ Some z → (e : D) × IsIn e ds × (c e ≡ Some z)) →
    first_given c (d ∷ ds) ≡ Some z → (e : D) × IsIn e (d ∷ ds) × (c e ≡ Some z)
given_in_step c d ds z None e later h = let w = later (sym (given_later c d ds e) ∙ h) in (w.0, inr w.1, w.2)
given_in_step c d ds z (Some y) e later h = (d, inl refl, e ∙ sym (given_here c d ds y e) ∙ h)

pub given_in : {D Z : Type 0} (c : D → Option Z) (ds : List D) (z : Z) → first_given c ds ≡ Some z → (d : D) × IsIn d ds × (c d ≡ Some z)
given_in c [] z h = absurd (none-some z h)
given_in c (d ∷ ds) z h = given_in_step c d ds z (c d) refl (given_in c ds z) h

record NetworkCalled (decls : List DeclText) (parts : List NetPartText) : Type 0 where
  name : Lexeme
  desc : Option Lexeme
  decl : IsIn (NetworkDecl name desc parts) decls

called : (decls : List DeclText) (text : List ℕ) (parts : List NetPartText) (d : DeclText) → IsIn d decls → network_called text d ≡ Some parts → NetworkCalled decls parts
called decls text parts (NetworkDecl name desc its_parts) h e =
    record { name = name; desc = desc; decl = subst (λ l. IsIn (NetworkDecl name desc l) decls) (cond_some (bytes_eq name.text text) its_parts parts e).1 h }
called decls text parts (RouterDecl name desc its_parts) h e = absurd (none-some parts e)
called decls text parts (GroupDecl name desc objects) h e = absurd (none-some parts e)
called decls text parts (AreaDecl name desc its_parts) h e = absurd (none-some parts e)
called decls text parts (AggregateDecl name desc its_parts) h e = absurd (none-some parts e)
called decls text parts (ProtocolDecl name protocol notes) h e = absurd (none-some parts e)
called decls text parts (ProtocolGroupDecl name prts) h e = absurd (none-some parts e)
called decls text parts (RestrictionDecl name desc ports) h e = absurd (none-some parts e)
called decls text parts (ServiceDecl name desc idle user rules) h e = absurd (none-some parts e)

-- ---- the router of an interface gives the first name of its declaration

router_of_part : (router : Lexeme) (managed : Bool) (x : IfaceText) (part : RoutPartText) → IsIn x (ifaces_in_part router managed part) → x.router ≡ router
router_of_part router managed x (RoutManaged filter) h = absurd h
router_of_part router managed x (RoutModel model) h = absurd h
router_of_part router managed x (RoutRouting routing) h = absurd h
router_of_part router managed x (RoutIface name parts) (inl e) = ap (λ (i : IfaceText). i.router) e
router_of_part router managed x (RoutIface name parts) (inr h) = absurd h
router_of_part router managed x (RoutIdle idle) h = absurd h

router_of_decl : (x : IfaceText) (d : DeclText) → IsIn x (ifaces_in d) → (ms : List Mention) × (names_in d ≡ mention RouterName x.router ∷ ms)
router_of_decl x (NetworkDecl name desc parts) h = absurd h
router_of_decl x (RouterDecl name desc parts) h =
    let w = from_flat_map (ifaces_in_part name (is_managed_router parts)) x parts h in
    (flat_map (names_in_rout_part name) parts, ap (λ n. mention RouterName n ∷ flat_map (names_in_rout_part name) parts) (sym (router_of_part name (is_managed_router parts) x w.0 w.2)))
router_of_decl x (GroupDecl name desc objects) h = absurd h
router_of_decl x (AreaDecl name desc parts) h = absurd h
router_of_decl x (AggregateDecl name desc parts) h = absurd h
router_of_decl x (ProtocolDecl name protocol notes) h = absurd h
router_of_decl x (ProtocolGroupDecl name prts) h = absurd h
router_of_decl x (RestrictionDecl name desc ports) h = absurd h
router_of_decl x (ServiceDecl name desc idle user rules) h = absurd h

-- ---- what stands in the parts of an interface

address_in_part : (part : IfPartText) (w : Lexeme) → IsIn w (addresses_in part) → is_formed_iface part ≡ true → is_some (address_of w.text) ≡ true
address_in_part (IfIp address) w (inl e) f = ap (λ (x : Lexeme). is_some (address_of x.text)) e ∙ f
address_in_part (IfIp address) w (inr h) f = absurd h
address_in_part (IfHardware hardware) w h f = absurd h
address_in_part (IfBindNat tags) w h f = absurd h
address_in_part (IfVirtual parts) w h f = absurd h
address_in_part (IfIdle idle) w h f = absurd h

hardware_in_part : (part : IfPartText) (w : Lexeme) → IsIn w (hardware_in part) → is_formed_iface part ≡ true → is_nothing w.text ≡ false
hardware_in_part (IfIp address) w h f = absurd h
hardware_in_part (IfHardware hardware) w (inl e) f = ap (λ (x : Lexeme). is_nothing x.text) e ∙ not-true (is_nothing hardware.text) f
hardware_in_part (IfHardware hardware) w (inr h) f = absurd h
hardware_in_part (IfBindNat tags) w h f = absurd h
hardware_in_part (IfVirtual parts) w h f = absurd h
hardware_in_part (IfIdle idle) w h f = absurd h

tags_in_part : (part : IfPartText) (tags : List Lexeme) → IsIn tags (binds_in part) → (t : Lexeme) → IsIn t tags → IsIn (mention TagName t) (uses_in_if_part part)
tags_in_part (IfIp address) tags h t g = absurd h
tags_in_part (IfHardware hardware) tags h t g = absurd h
tags_in_part (IfBindNat its_tags) tags (inl e) t g = in_map (mention TagName) t its_tags (subst (λ l. IsIn t l) e g)
tags_in_part (IfBindNat its_tags) tags (inr h) t g = absurd h
tags_in_part (IfVirtual parts) tags h t g = absurd h
tags_in_part (IfIdle idle) tags h t g = absurd h

some_first : {X : Type 0} (xs : List X) → is_nothing xs ≡ false → (x : X) × (slice_get xs 0 ≡ Some x)
some_first [] h = absurd (false≢true (sym h))
some_first (x ∷ xs) h = (x, refl)

at_most_one : {X : Type 0} (xs : List X) → has_two xs ≡ false → (xs ≡ []) ⊎ ((x : X) × (xs ≡ x ∷ []))
at_most_one [] h = inl refl
at_most_one (x ∷ []) h = inr (x, refl)
at_most_one (x ∷ y ∷ xs) h = absurd (omega (arith, ltb-false 1 (suc (suc (length xs))) h))

-- both lists have a word of this text
shared : (vs ws : List Lexeme) (v w : Lexeme) → IsIn v vs → IsIn w ws → v.text ≡ w.text → share vs ws ≡ true
shared vs ws v w h g e = some_of (λ x. list_any (same_texts x) ws) v vs h (some_of (same_texts v) w ws g (same_to v.text w.text e))

-- a word of a shared address stands in its parts
shared_word : (parts : List IfPartText) (w : Lexeme) → IsIn w (flat_map shared_in parts) → (vs : List VirtPartText) × IsIn vs (flat_map virtuals_in parts) × IsIn w (flat_map ips_in_virtual vs)
shared_word parts w h = let v = from_flat_map shared_in w parts h in by v.0 v.1 v.2
  where
    by : (part : IfPartText) → IsIn part parts → IsIn w (shared_in part) → (vs : List VirtPartText) × IsIn vs (flat_map virtuals_in parts) × IsIn w (flat_map ips_in_virtual vs)
    by (IfIp address) g i = absurd i
    by (IfHardware hardware) g i = absurd i
    by (IfBindNat tags) g i = absurd i
    by (IfVirtual vs) g i = (vs, in_flat_map virtuals_in (IfVirtual vs) vs parts g (inl refl), i)
    by (IfIdle idle) g i = absurd i

-- a shared address that isn't bad has one word, which is its network's and no interface's there
good_virtual : (decls : List DeclText) (net : Lexeme) (vs : List VirtPartText) (ips : List Lexeme) → flat_map ips_in_virtual vs ≡ ips → is_bad_virtual decls net vs ≡ false →
    (w : Lexeme) × (ips ≡ w ∷ []) × (is_outside_net decls net w ≡ false) × (is_taken decls net w ≡ false)
good_virtual decls net vs [] e h = absurd (false≢true (sym h ∙ none))
  where
    none : is_bad_virtual decls net vs ≡ true
    none = rw e refl
good_virtual decls net vs (w ∷ []) e h = let both = or_parts (is_outside_net decls net w) (is_taken decls net w) (sym one ∙ h) in (w, refl, both.0, both.1)
  where
    one : is_bad_virtual decls net vs ≡ (is_outside_net decls net w || is_taken decls net w)
    one = rw e refl
good_virtual decls net vs (v ∷ w ∷ ws) e h = absurd (false≢true (sym h ∙ more))
  where
    more : is_bad_virtual decls net vs ≡ true
    more = rw e refl

alone : {X : Type 0} (x y : X) → IsIn x (y ∷ []) → x ≡ y
alone x y (inl e) = e
alone x y (inr h) = absurd h

filled : {X : Type 0} (xs : List X) (x : X) → IsIn x xs → is_nothing xs ≡ false
filled [] x h = absurd h
filled (y ∷ ys) x h = refl

-- what must not stand in an interface is absent
record IfaceShape (decls : List DeclText) (x : IfaceText) : Type 0 where
  one_bind : has_two (iface_binds x) ≡ false
  equipped : (x.managed && (is_nothing (iface_addresses x) || is_nothing (iface_hardware x))) ≡ false
  inside : is_outside decls x ≡ false
  binds_managed : (not x.managed && not (is_nothing (iface_binds x))) ≡ false
  tags_once : list_any (λ tags. clash_with same_texts [] tags) (iface_binds x) ≡ false
  shared : is_bad_shared decls x ≡ false

shape_parts : (decls : List DeclText) (x : IfaceText) → is_bad_iface x ≡ false → is_outside decls x ≡ false → is_bad_binding x ≡ false → is_bad_shared decls x ≡ false → IfaceShape decls x
shape_parts decls x bad outside binding shared =
    let a = or_parts (has_two (iface_addresses x)) _ bad in
    let b = or_parts (has_two (iface_hardware x)) _ a.1 in
    let c = or_parts (has_two (iface_binds x)) _ b.1 in
    let d = or_parts (not x.managed && not (is_nothing (iface_binds x))) _ binding in
    record { one_bind = c.0; equipped = c.1; inside = outside; binds_managed = d.0; tags_once = d.1; shared = shared }

module _ (decls : List DeclText) (formed : are_formed decls ≡ true) (no_fault : HasNoFault decls) where
  -- the interface that is declared at a number
  record IfaceThere (i : ℕ) : Type 0 where
    iface : IfaceText
    at : slice_get (declared_ifaces decls) i ≡ Some iface
    there : IsIn iface (declared_ifaces decls)
    said : iface_of (policy_said decls) i ≡ iface_said decls iface

  iface_there : (i : ℕ) → i < length (policy_said decls).ifaces → IfaceThere i
  iface_there i below =
      let ifs = declared_ifaces decls in
      let w = item_at ifs i (omega (arith, below, length-map ifs (iface_said decls))) in
      record { iface = w.0; at = w.1; there = item_in ifs i w.0 w.1; said = mapped_item (iface_said decls) no_iface ifs i w.0 w.1 }

  iface_shape : (x : IfaceText) → IsIn x (declared_ifaces decls) → IfaceShape decls x
  iface_shape x h =
      let w = from_flat_map ifaces_in x decls h in
      let s = shape_of decls no_fault.shape w.0 w.1 in
      let r = router_shape decls s.0 w.0 s.1 in
      shape_parts decls x (none_in is_bad_iface (ifaces_in w.0) r.parts x w.2) (none_in (is_outside decls) (ifaces_in w.0) r.inside x w.2) (none_in is_bad_binding (ifaces_in w.0) r.binds x w.2)
      (none_in (is_bad_shared decls) (ifaces_in w.0) r.shared x w.2)

  iface_formed : (x : IfaceText) → IsIn x (declared_ifaces decls) → list_all is_formed_iface x.parts ≡ true
  iface_formed x h =
      let w = stands decls x h in
      let f = formed_in decls formed (RouterDecl w.name w.desc w.parts) w.decl in
      subst (λ (y : IfaceText). list_all is_formed_iface y.parts ≡ true) (sym w.is) (each_in is_formed_router w.parts f (RoutIface w.net w.if_parts) w.part)

  address_formed : (x : IfaceText) → IsIn x (declared_ifaces decls) → (w : Lexeme) → IsIn w (iface_addresses x) → is_some (address_of w.text) ≡ true
  address_formed x h w g =
      let v = from_flat_map addresses_in w x.parts g in
      address_in_part v.0 w v.2 (each_in is_formed_iface x.parts (iface_formed x h) v.0 v.1)

  hardware_formed : (x : IfaceText) → IsIn x (declared_ifaces decls) → (w : Lexeme) → IsIn w (iface_hardware x) → is_nothing w.text ≡ false
  hardware_formed x h w g =
      let v = from_flat_map hardware_in w x.parts g in
      hardware_in_part v.0 w v.2 (each_in is_formed_iface x.parts (iface_formed x h) v.0 v.1)

  -- an interface of a managed router has words for an address and for hardware
  record HasWords (x : IfaceText) : Type 0 where
    address : Lexeme
    first_address : slice_get (iface_addresses x) 0 ≡ Some address
    hardware : Lexeme
    first_hardware : slice_get (iface_hardware x) 0 ≡ Some hardware

  has_words : (x : IfaceText) → IsIn x (declared_ifaces decls) → x.managed ≡ true → HasWords x
  has_words x h m =
      let s = iface_shape x h in
      let none = or_parts (is_nothing (iface_addresses x)) (is_nothing (iface_hardware x))
      (⊎_elim (λ e. absurd (false≢true (sym e ∙ m))) (λ e. e) (and_cases x.managed (is_nothing (iface_addresses x) || is_nothing (iface_hardware x)) s.equipped)) in
      let a = some_first (iface_addresses x) none.0 in
      let b = some_first (iface_hardware x) none.1 in
      record { address = a.0; first_address = a.1; hardware = b.0; first_hardware = b.1 }

  managed_there : (i : ℕ) (w : IfaceThere i) → is_managed (policy_said decls) (router_at (policy_said decls) i) ≡ w.iface.managed
  managed_there i w = ap (λ (y : Iface). is_managed (policy_said decls) y.router) w.said ∙ iface_managed decls no_fault.twice w.iface w.there

  pub are_equipped : (i : ℕ) → i < length (policy_said decls).ifaces → is_managed (policy_said decls) (router_at (policy_said decls) i) ≡ true →
      (is_some (iface_of (policy_said decls) i).addr && not (is_nothing (iface_of (policy_said decls) i).hardware)) ≡ true
  are_equipped i below managed =
      let w = iface_there i below in
      let x : IfaceText = w.iface in
      let v = has_words x w.there (sym (managed_there i w) ∙ managed) in
      let addr : (iface_of (policy_said decls) i).addr ≡ address_of v.address.text =
      ap (λ (y : Iface). y.addr) w.said ∙ ap (option_and_then (λ (u : Lexeme). address_of u.text)) v.first_address in
      let hard : (iface_of (policy_said decls) i).hardware ≡ v.hardware.text = ap (λ (y : Iface). y.hardware) w.said ∙ ap text_or_none v.first_hardware in
      and_from (is_some (iface_of (policy_said decls) i).addr) (not (is_nothing (iface_of (policy_said decls) i).hardware))
      (ap is_some addr ∙ address_formed x w.there v.address (first_one (iface_addresses x) v.address v.first_address))
      (ap (λ l. not (is_nothing l)) hard ∙ not_from_false _ (hardware_formed x w.there v.hardware (first_one (iface_hardware x) v.hardware v.first_hardware)))

  -- ---- addresses

  net_known : (x : IfaceText) → IsIn x (declared_ifaces decls) → IsIn (mention NetworkName x.net) (used_names decls)
  net_known x h =
      let w = stands decls x h in
      let d = RouterDecl w.name w.desc w.parts in
      let part = RoutIface w.net w.if_parts in
      subst (λ (y : IfaceText). IsIn (mention NetworkName y.net) (used_names decls)) (sym w.is)
      (in_flat_map uses_in d (mention NetworkName w.net) decls w.decl (in_flat_map uses_in_rout_part part (mention NetworkName w.net) w.parts w.part (inl refl)))

  record HasAddress (x : IfaceText) (a : ℕ) : Type 0 where
    word : Lexeme
    there : IsIn word (iface_addresses x)
    value : address_of word.text ≡ Some a

  first_address : (words : List Lexeme) (a : ℕ) → option_and_then (λ (w : Lexeme). address_of w.text) (slice_get words 0) ≡ Some a → (w : Lexeme) × IsIn w words × (address_of w.text ≡ Some a)
  first_address [] a e = absurd (none-some a e)
  first_address (w ∷ words) a e = (w, inl refl, e)

  its_address : (i : ℕ) (w : IfaceThere i) (a : ℕ) → (iface_of (policy_said decls) i).addr ≡ Some a → HasAddress w.iface a
  its_address i w a e =
      let v = first_address (iface_addresses w.iface) a (sym (ap (λ (y : Iface). y.addr) w.said) ∙ e) in
      record { word = v.0; there = v.1; value = v.2 }

  -- the own prefix of the network of an interface
  record ItsPrefix (i : ℕ) (x : IfaceText) : Type 0 where
    prefix : Cidr
    declared : own_prefix (network_parts decls x.net.text) ≡ Some prefix
    said : (net_of (policy_said decls) (net_at (policy_said decls) i)).own ≡ aligned prefix

  its_prefix : (i : ℕ) (w : IfaceThere i) → ItsPrefix i w.iface
  its_prefix i w =
      let p = policy_said decls in
      let x : IfaceText = w.iface in
      let f = net_found decls x.net (known_number decls no_fault.unknown (mention NetworkName x.net) (net_known x w.there)) in
      let g = given_in (network_called x.net.text) decls f.thing f.given in
      let c = called decls x.net.text f.thing g.0 g.1 g.2 in
      let net = net_there decls formed no_fault c.name c.desc f.thing c.decl in
      record {
        prefix = net.own.prefix;
        declared = ap (λ o. own_prefix (or_nothing o)) f.given ∙ net.own.is;
        said = ap (λ (y : Iface). (net_of p y.net).own) w.said ∙ f.same ∙ ap cidr_or_any net.own.is ∙ sym net.own.whole;
      }

  pub addresses_stay : (i a : ℕ) → i < length (policy_said decls).ifaces → (iface_of (policy_said decls) i).addr ≡ Some a →
      prefix_holds (net_of (policy_said decls) (net_at (policy_said decls) i)).own a ≡ true
  addresses_stay i a below e =
      let w = iface_there i below in
      let x : IfaceText = w.iface in
      let v = its_address i w a e in
      let own = its_prefix i w in
      let words = holds_at _ (own_prefix (network_parts decls x.net.text)) own.prefix own.declared (iface_shape x w.there).inside in
      let word = none_in (λ (u : Lexeme). holds_of (λ b. not (prefix_holds (aligned own.prefix) b)) (address_of u.text)) (iface_addresses x) words v.word v.there in
      let inside = not-false (prefix_holds (aligned own.prefix) a) (holds_at _ (address_of v.word.text) a v.value word) in
      ap (λ q. prefix_holds q a) own.said ∙ inside

  -- ---- two interfaces

  -- a later interface, and the declaration in which it stands
  record Later (y x : IfaceText) : Type 0 where
    before : List DeclText
    at : DeclText
    after : List DeclText
    front : List IfaceText
    back : List IfaceText
    is : decls ≡ before ++ at ∷ after
    there : ifaces_in at ≡ front ++ y ∷ back
    earlier : IsIn x (declared_ifaces before ++ front)
    shape : RouterShape decls (declared_ifaces before) (ifaces_in at)

  later : (i j : ℕ) (w : IfaceThere i) (v : IfaceThere j) → i < j → Later v.iface w.iface
  later i j w v lt =
      let c = cut_at_number (declared_ifaces decls) j v.iface v.at in
      let f = flat_cut ifaces_in decls c.before c.after v.iface c.is in
      record {
        before = f.before;
        at = f.at;
        after = f.after;
        front = f.front;
        back = f.back;
        is = f.is;
        there = f.there;
        earlier = subst (λ l. IsIn w.iface l) f.ahead (c.earlier i w.iface lt w.at);
        shape = router_shape decls (declared_ifaces f.before) f.at (has_shape decls no_fault.shape f.before f.at f.after f.is);
      }

  same_net : (i j : ℕ) (w : IfaceThere i) (v : IfaceThere j) → net_at (policy_said decls) i ≡ net_at (policy_said decls) j → v.iface.net.text ≡ w.iface.net.text
  same_net i j w v e =
      let number = sym (ap (λ (y : Iface). y.net) v.said) ∙ sym e ∙ ap (λ (y : Iface). y.net) w.said in
      one_name decls NetworkName v.iface.net w.iface.net (known_number decls no_fault.unknown (mention NetworkName v.iface.net) (net_known v.iface v.there))
      (known_number decls no_fault.unknown (mention NetworkName w.iface.net) (net_known w.iface w.there)) number

  one_address : (i j a : ℕ) → i < length (policy_said decls).ifaces → j < length (policy_said decls).ifaces → i < j → net_at (policy_said decls) i ≡ net_at (policy_said decls) j →
      (iface_of (policy_said decls) i).addr ≡ Some a → (iface_of (policy_said decls) j).addr ≡ Some a → ⊥
  one_address i j a low high lt nets e f =
      let w = iface_there i low in
      let v = iface_there j high in
      let x : IfaceText = w.iface in
      let y : IfaceText = v.iface in
      let l = later i j w v lt in
      let none = no_clash has_address_of (declared_ifaces l.before) l.front y l.back (sym (ap (clash_with has_address_of (declared_ifaces l.before)) l.there) ∙ l.shape.addresses) in
      let apart = none_in (has_address_of y) (declared_ifaces l.before ++ l.front) none x l.earlier in
      let b = its_address i w a e in
      let c = its_address j v a f in
      false≢true (sym apart ∙ and_from (same_texts y.net x.net) (share (iface_addresses y) (iface_addresses x)) (same_to y.net.text x.net.text (same_net i j w v nets))
      (shared (iface_addresses y) (iface_addresses x) c.word b.word c.there b.there (one_spelling c.word.text b.word.text a c.value b.value)))

  pub addresses_differ : (i j a : ℕ) → i < length (policy_said decls).ifaces → j < length (policy_said decls).ifaces → net_at (policy_said decls) i ≡ net_at (policy_said decls) j →
      (iface_of (policy_said decls) i).addr ≡ Some a → (iface_of (policy_said decls) j).addr ≡ Some a → i ≡ j
  addresses_differ i j a low high nets e f =
      ⊎_elim (λ same. same) (λ other. ⊎_elim (λ lt. absurd (one_address i j a low high lt nets e f)) (λ gt. absurd (one_address j i a high low gt (sym nets) f e)) other) (cases_order i j)

  -- ---- shared addresses

  -- the word of the address that an interface shares
  record SharesAddress (x : IfaceText) (a : ℕ) : Type 0 where
    word : Lexeme
    value : address_of word.text ≡ Some a
    managed : x.managed ≡ true
    inside : is_outside_net decls x.net word ≡ false
    free : is_taken decls x.net word ≡ false

  its_shared : (i : ℕ) (w : IfaceThere i) (a : ℕ) → (iface_of (policy_said decls) i).shared ≡ Some a → SharesAddress w.iface a
  its_shared i w a e =
      let x : IfaceText = w.iface in
      let v = first_address (iface_shared x) a (sym (ap (λ (y : Iface). y.shared) w.said) ∙ e) in
      let u = shared_word x.parts v.0 v.1 in
      let s = or_parts (has_two (iface_virtuals x)) _ (iface_shape x w.there).shared in
      let t = or_parts (not x.managed && not (is_nothing (iface_virtuals x))) _ s.1 in
      let good = good_virtual decls x.net u.0 (flat_map ips_in_virtual u.0) refl (none_in (is_bad_virtual decls x.net) (iface_virtuals x) t.1 u.0 u.1) in
      let same : v.0 ≡ good.0 = alone v.0 good.0 (subst (λ (ws : List Lexeme). IsIn v.0 ws) good.1 u.2) in
      record {
        word = v.0;
        value = v.2;
        managed = not-false x.managed
            (⊎_elim (λ f. f) (λ f. absurd (false≢true (sym f ∙ ap (λ b. not b) (filled (iface_virtuals x) u.0 u.1)))) (and_cases (not x.managed) (not (is_nothing (iface_virtuals x))) t.0));
        inside = ap (is_outside_net decls x.net) same ∙ good.2;
        free = ap (is_taken decls x.net) same ∙ good.3;
      }

  pub shares_hold : (i a : ℕ) → i < length (policy_said decls).ifaces → (iface_of (policy_said decls) i).shared ≡ Some a →
      (is_managed (policy_said decls) (router_at (policy_said decls) i) ≡ true) × (prefix_holds (net_of (policy_said decls) (net_at (policy_said decls) i)).own a ≡ true)
      × ((j : ℕ) → j < length (policy_said decls).ifaces → net_at (policy_said decls) j ≡ net_at (policy_said decls) i → (iface_of (policy_said decls) j).addr ≢ Some a)
  shares_hold i a below e =
      let w = iface_there i below in
      let x : IfaceText = w.iface in
      let v = its_shared i w a e in
      let own = its_prefix i w in
      let word = holds_at _ (own_prefix (network_parts decls x.net.text)) own.prefix own.declared v.inside in
      let inside = not-false (prefix_holds (aligned own.prefix) a) (holds_at _ (address_of v.word.text) a v.value word) in (
        managed_there i w ∙ v.managed,
        ap (λ q. prefix_holds q a) own.said ∙ inside,
        (λ j high nets f. let u = iface_there j high in
            let y : IfaceText = u.iface in
            let b = its_address j u a f in
            let spelled = one_spelling v.word.text b.word.text a v.value b.value in
            false≢true (sym (none_in (λ k. same_texts x.net k.net && list_any (same_texts v.word) (iface_addresses k)) (declared_ifaces decls) v.free y u.there)
            ∙ and_from (same_texts x.net y.net) (list_any (same_texts v.word) (iface_addresses y)) (same_to x.net.text y.net.text (same_net j i u w nets))
            (some_of (same_texts v.word) b.word (iface_addresses y) b.there (same_to v.word.text b.word.text spelled)))),
      )

  -- ---- hardware

  same_router : (i j : ℕ) (w : IfaceThere i) (v : IfaceThere j) → router_at (policy_said decls) i ≡ router_at (policy_said decls) j → v.iface.router.text ≡ w.iface.router.text
  same_router i j w v e =
      one_name decls RouterName v.iface.router w.iface.router (router_number decls v.iface v.there) (router_number decls w.iface w.there)
      (sym (ap (λ (y : Iface). y.router) v.said) ∙ sym e ∙ ap (λ (y : Iface). y.router) w.said)

  one_router : (y x : IfaceText) (l : Later y x) → y.router.text ≡ x.router.text → IsIn x l.front
  one_router y x l e =
      ⊎_elim
      (λ g. let c = from_flat_map ifaces_in x l.before g in
      let r = router_of_decl y l.at (subst (λ k. IsIn y k) (sym l.there) (in_cut y l.front l.back)) in
      let s = router_of_decl x c.0 c.2 in
      let other = not_before decls no_fault.twice l.before l.at l.after (mention RouterName y.router) r.0 r.1 l.is c.0 c.1 (mention RouterName x.router)
      (subst (λ ms. IsIn (mention RouterName x.router) ms) (sym s.1) (inl refl)) in
      absurd (false≢true (sym other ∙ same_to y.router.text x.router.text e)))
      (λ g. g) (in_either x (declared_ifaces l.before) l.front l.earlier)

  one_hardware : (i j : ℕ) → i < length (policy_said decls).ifaces → j < length (policy_said decls).ifaces → i < j → router_at (policy_said decls) i ≡ router_at (policy_said decls) j →
      is_managed (policy_said decls) (router_at (policy_said decls) i) ≡ true → (iface_of (policy_said decls) i).hardware ≡ (iface_of (policy_said decls) j).hardware → ⊥
  one_hardware i j low high lt routers managed e =
      let w = iface_there i low in
      let v = iface_there j high in
      let x : IfaceText = w.iface in
      let y : IfaceText = v.iface in
      let l = later i j w v lt in
      let here = one_router y x l (same_router i j w v routers) in
      let none = no_clash has_hardware_of [] l.front y l.back (sym (ap (clash_with has_hardware_of []) l.there) ∙ l.shape.hardware) in
      let apart = none_in (has_hardware_of y) l.front none x here in
      let mx = sym (managed_there i w) ∙ managed in
      let my = sym (managed_there j v) ∙ ap (is_managed (policy_said decls)) (sym routers) ∙ managed in
      let a = has_words x w.there mx in
      let b = has_words y v.there my in
      let texts : b.hardware.text ≡ a.hardware.text =
      sym (ap (λ (z : Iface). z.hardware) v.said ∙ ap text_or_none b.first_hardware) ∙ sym e ∙ ap (λ (z : Iface). z.hardware) w.said ∙ ap text_or_none a.first_hardware in
      false≢true (sym apart ∙ and_from y.managed (share (iface_hardware y) (iface_hardware x)) my
      (shared (iface_hardware y) (iface_hardware x) b.hardware a.hardware (first_one (iface_hardware y) b.hardware b.first_hardware) (first_one (iface_hardware x) a.hardware a.first_hardware) texts))

  pub hardware_differs : (i j : ℕ) → i < length (policy_said decls).ifaces → j < length (policy_said decls).ifaces → router_at (policy_said decls) i ≡ router_at (policy_said decls) j →
      is_managed (policy_said decls) (router_at (policy_said decls) i) ≡ true → (iface_of (policy_said decls) i).hardware ≡ (iface_of (policy_said decls) j).hardware → i ≡ j
  hardware_differs i j low high routers managed e =
      ⊎_elim (λ same. same)
      (λ other. ⊎_elim (λ lt. absurd (one_hardware i j low high lt routers managed e))
      (λ gt. absurd (one_hardware j i high low gt (sym routers) (ap (is_managed (policy_said decls)) (sym routers) ∙ managed) (sym e))) other)
      (cases_order i j)

  -- ---- tags

  tags_used : (x : IfaceText) → IsIn x (declared_ifaces decls) → (tags : List Lexeme) → IsIn tags (iface_binds x) → (t : Lexeme) → IsIn t tags → IsIn (mention TagName t) (used_names decls)
  tags_used x h tags g t i =
      let w = stands decls x h in
      let d = RouterDecl w.name w.desc w.parts in
      let part = RoutIface w.net w.if_parts in
      let v = from_flat_map binds_in tags w.if_parts (subst (λ (y : IfaceText). IsIn tags (iface_binds y)) w.is g) in
      in_flat_map uses_in d (mention TagName t) decls w.decl
      (in_flat_map uses_in_rout_part part (mention TagName t) w.parts w.part (inr (in_flat_map uses_in_if_part v.0 (mention TagName t) w.if_parts v.1 (tags_in_part v.0 tags v.2 t i))))

  pub binds_once : (i : ℕ) → i < length (policy_said decls).ifaces →
      (are_distinct (iface_of (policy_said decls) i).binds && (is_managed (policy_said decls) (router_at (policy_said decls) i) || is_nothing (iface_of (policy_said decls) i).binds)) ≡ true
  binds_once i below =
      let p = policy_said decls in
      let w = iface_there i below in
      let x : IfaceText = w.iface in
      let s = iface_shape x w.there in
      let said = ap (λ (y : Iface). y.binds) w.said in
      ⊎_elim
      (λ e. let empty : (iface_of p i).binds ≡ [] = said ∙ ap (flat_map (map (number_of_tag decls))) e in
      and_from (are_distinct (iface_of p i).binds) _ (ap are_distinct empty) (or_right (is_managed p (router_at p i)) (is_nothing (iface_of p i).binds) (ap is_nothing empty)))
      (λ one. let tags : List Lexeme = one.0 in
      let there : IsIn tags (iface_binds x) = subst (λ l. IsIn tags l) (sym one.1) (inl refl) in
      let numbers : (iface_of p i).binds ≡ map (number_of_tag decls) tags = said ∙ ap (flat_map (map (number_of_tag decls))) one.1 ∙ append-nil (map (number_of_tag decls) tags) in
      let distinct = tags_differ decls no_fault.unknown [] tags (tags_used x w.there tags there) (none_in _ (iface_binds x) s.tags_once tags there) in
      let managed : x.managed ≡ true =
      not-false x.managed (⊎_elim (λ e. e) (λ e. absurd (false≢true (sym e ∙ ap (λ l. not (is_nothing l)) one.1))) (and_cases (not x.managed) (not (is_nothing (iface_binds x))) s.binds_managed)) in
      and_from (are_distinct (iface_of p i).binds) _ (ap are_distinct numbers ∙ distinct) (or_left (is_managed p (router_at p i)) (is_nothing (iface_of p i).binds) (managed_there i w ∙ managed)))
      (at_most_one (iface_binds x) s.one_bind)
