-- What the rows of shapes say of a declaration in which nothing stands that must not.
use Rattle.std.proofs.Common.{◌≡◌, ℕ, suc, ◌-◌, inl, inr, Bool, true, false, not, List, [], ◌∷◌, ◌++◌, length, refl, sym, ap, subst, ◌∙◌, arith}
use Rattle.std.specs.Prelude.{Option, Some, None, is_some, flat_map, option_and_then, ◌%◌, if◌then◌else◌}
use Rattle.std.specs.List.{list_any, list_all, slice_get}
use Rattle.std.proofs.lemmas.Option.{none-some, same_Some}
use Rattle.std.proofs.lemmas.Bool.{false≢true, or_parts, and_from, false_from_ne_true, not-false, ltb-false, eqb-true}
use Rattle.spoc_base.specs.Address.{Cidr, size_of}
use Rattle.policy_model.proofs.AllWalks.{IsIn, in_front}
use Rattle.list_laws.proofs.Members.{some_of, each_in}
use Rattle.list_laws.proofs.Tables.{from_flat_map}
use Rattle.spoc_ast.specs.Written.{Lexeme, PortText, NetPartText, NetIp, NetHost, NetNat, NetIdle, AreaPartText, DeclText, NetworkDecl, RouterDecl, GroupDecl, AreaDecl, AggregateDecl, ProtocolDecl, ProtocolGroupDecl, RestrictionDecl, ServiceDecl}
use Rattle.policy_decls.specs.Numbers.{prefix_of, holds_of}
use Rattle.policy_decls.specs.Lookup.{ips_in_net_part, ips_in_nats, only_one, own_prefix, aligned, has_host_bit, IfaceText, ifaces_in, declared_ifaces}
use Rattle.policy_decls.specs.Shapes.{has_one, hosts_in, lacks_prefix, is_bad_host, leaves, is_unaligned, has_unaligned, has_other_length, is_bad_device, is_bad_iface, is_outside, has_address_of, clash_with, has_hardware_of, is_bad_binding, is_bad_shared, is_bad_restriction, is_bad_area, first_true, shape_in}
use Rattle.policy_decls.specs.Faults.{first_shape}
use Rattle.policy_decls.specs.Formed.{says_prefix, is_formed_net, is_formed}
use Rattle.decl_laws.proofs.Cuts.{cut_in}
use Rattle.decl_laws.proofs.Absent.{has_shape}

-- ---- tests that fail on a whole list

pub none_in : {X : Type 0} (test : X → Bool) (xs : List X) → list_any test xs ≡ false → (x : X) → IsIn x xs → test x ≡ false
none_in test xs h x g = false_from_ne_true (test x) (λ t. false≢true (sym h ∙ some_of test x xs g t))

pub all_from : {X : Type 0} (test : X → Bool) (xs : List X) → ((x : X) → IsIn x xs → test x ≡ true) → list_all test xs ≡ true
all_from test [] h = refl
all_from test (x ∷ xs) h = and_from (test x) (list_all test xs) (h x (inl refl)) (all_from test xs (λ y g. h y (inr g)))

pub its_only : {X : Type 0} (xs : List X) → has_one xs ≡ true → (x : X) × (xs ≡ x ∷ [])
its_only [] h = absurd (false≢true h)
its_only (x ∷ []) h = (x, refl)
its_only (x ∷ y ∷ xs) h = absurd (omega (arith, eqb-true (suc (suc (length xs))) 1 h))

pub first_one : {X : Type 0} (xs : List X) (x : X) → slice_get xs 0 ≡ Some x → IsIn x xs
first_one [] x h = absurd (none-some x h)
first_one (y ∷ ys) x h = inl (same_Some x y (sym h))

pub some_value : {A : Type 0} (o : Option A) → is_some o ≡ true → (x : A) × (o ≡ Some x)
some_value None e = absurd (false≢true e)
some_value (Some x) e = (x, refl)

pub holds_at : {A : Type 0} (test : A → Bool) (o : Option A) (x : A) → o ≡ Some x → holds_of test o ≡ false → test x ≡ false
holds_at test o x e h = sym (ap (holds_of test) e) ∙ h

abbrev AreAbsent : List (ℕ × Bool) → Type 0
AreAbsent [] = Unit {0}
AreAbsent (row ∷ rows) = (row.1 ≡ false) × AreAbsent rows

absent_row : (n : ℕ) (b : Bool) (rest : Option ℕ) → (if b then Some n else rest) ≡ None → (b ≡ false) × (rest ≡ None)
absent_row n true rest e = absurd (none-some n (sym e))
absent_row n false rest e = (refl, e)

-- no row holds where there is no least one
rows_absent : (rows : List (ℕ × Bool)) → first_true rows ≡ None → AreAbsent rows
rows_absent [] e = tt
rows_absent (row ∷ rows) e = let w = absent_row row.0 row.1 (first_true rows) e in (w.0, rows_absent rows w.1)

-- ---- each declaration is formed, and has its shape

pub formed_in : (decls : List DeclText) → list_all is_formed decls ≡ true → (d : DeclText) → IsIn d decls → is_formed d ≡ true
formed_in decls h d g = each_in is_formed decls h d g

pub shape_of : (decls : List DeclText) → first_shape decls ≡ None → (d : DeclText) → IsIn d decls → (earlier : List IfaceText) × (shape_in decls earlier d ≡ None)
shape_of decls none d h = let w = cut_in d decls h in (declared_ifaces w.before, has_shape decls none w.before d w.after w.is)

-- ---- networks

pub record NetShape (parts : List NetPartText) : Type 0 where
  pub one : lacks_prefix parts ≡ false
  pub hosts : list_any is_bad_host (flat_map hosts_in parts) ≡ false
  pub stay : holds_of (λ p. list_any (leaves p) (flat_map hosts_in parts)) (own_prefix parts) ≡ false
  pub aligned : has_unaligned parts ≡ false
  pub lengths : holds_of (λ p. has_other_length p parts) (own_prefix parts) ≡ false

pub net_shape : (decls : List DeclText) (earlier : List IfaceText) (name : Lexeme) (desc : Option Lexeme) (parts : List NetPartText) →
    shape_in decls earlier (NetworkDecl name desc parts) ≡ None → NetShape parts
net_shape decls earlier name desc parts e =
    let rows : List (ℕ × Bool) =
    (1, lacks_prefix parts) ∷ (2, list_any is_bad_host (flat_map hosts_in parts)) ∷ (3, holds_of (λ p. list_any (leaves p) (flat_map hosts_in parts)) (own_prefix parts))
    ∷ (4, has_unaligned parts) ∷ (5, holds_of (λ p. has_other_length p parts) (own_prefix parts)) ∷ [] in
    let w = rows_absent rows e in
    record { one = w.0; hosts = w.1.0; stay = w.1.1.0; aligned = w.1.1.1.0; lengths = w.1.1.1.1.0 }

-- a network's own prefix, which has no host bit
pub record OwnPrefix (parts : List NetPartText) : Type 0 where
  pub prefix : Cidr
  pub is : own_prefix parts ≡ Some prefix
  pub whole : aligned prefix ≡ prefix

ip_of_part : (part : NetPartText) (w : Lexeme) → IsIn w (ips_in_net_part part) → is_formed_net part ≡ true → says_prefix w ≡ true
ip_of_part (NetIp prefix) w (inl e) f = subst (λ (x : Lexeme). says_prefix x ≡ true) (sym e) f
ip_of_part (NetIp prefix) w (inr g) f = absurd g
ip_of_part (NetHost name parts) w g f = absurd g
ip_of_part (NetNat name parts) w g f = absurd g
ip_of_part (NetIdle idle) w g f = absurd g

no_host_bit : (p : Cidr) → has_host_bit p ≡ false → aligned p ≡ p
no_host_bit p h =
    let e : p.net - p.net % size_of p ≡ p.net = omega (arith, ltb-false 0 (p.net % size_of p) h) in
    ap (λ n. record { net = n; len = p.len }) e

pub own_of : (parts : List NetPartText) → list_all is_formed_net parts ≡ true → NetShape parts → OwnPrefix parts
own_of parts formed shape =
    let ips = flat_map ips_in_net_part parts in
    let one = its_only ips (not-false (has_one ips) (or_parts (not (has_one ips)) _ shape.one).0) in
    let w : Lexeme = one.0 in
    let there : IsIn w ips = subst (λ l. IsIn w l) (sym one.1) (inl refl) in
    let part = from_flat_map ips_in_net_part w parts there in
    let p = some_value (prefix_of w.text) (ip_of_part part.0 w part.2 (each_in is_formed_net parts formed part.0 part.1)) in
    let bit = holds_at has_host_bit (prefix_of w.text) p.0 p.1 (none_in is_unaligned (ips ++ flat_map ips_in_nats parts) shape.aligned w (in_front w ips (flat_map ips_in_nats parts) there)) in
    record { prefix = p.0; is = ap (λ l. option_and_then (λ (x : Lexeme). prefix_of x.text) (only_one l)) one.1 ∙ p.1; whole = no_host_bit p.0 bit }

-- ---- routers

pub record RouterShape (decls : List DeclText) (earlier ifaces : List IfaceText) : Type 0 where
  pub parts : list_any is_bad_iface ifaces ≡ false
  pub inside : list_any (is_outside decls) ifaces ≡ false
  pub addresses : clash_with has_address_of earlier ifaces ≡ false
  pub hardware : clash_with has_hardware_of [] ifaces ≡ false
  pub binds : list_any is_bad_binding ifaces ≡ false
  pub shared : list_any (is_bad_shared decls) ifaces ≡ false

no_ifaces : (decls : List DeclText) (earlier : List IfaceText) → RouterShape decls earlier []
no_ifaces decls earlier = record { parts = refl; inside = refl; addresses = refl; hardware = refl; binds = refl; shared = refl }

pub router_shape : (decls : List DeclText) (earlier : List IfaceText) (d : DeclText) → shape_in decls earlier d ≡ None → RouterShape decls earlier (ifaces_in d)
router_shape decls earlier (NetworkDecl name desc parts) e = no_ifaces decls earlier
router_shape decls earlier (RouterDecl name desc parts) e =
    let ifaces = ifaces_in (RouterDecl name desc parts) in
    let rows : List (ℕ × Bool) =
    (6, is_bad_device parts) ∷ (7, list_any is_bad_iface ifaces) ∷ (8, list_any (is_outside decls) ifaces) ∷ (9, clash_with has_address_of earlier ifaces)
    ∷ (10, clash_with has_hardware_of [] ifaces) ∷ (11, list_any is_bad_binding ifaces) ∷ (15, list_any (is_bad_shared decls) ifaces) ∷ [] in
    let w = rows_absent rows e in
    record { parts = w.1.0; inside = w.1.1.0; addresses = w.1.1.1.0; hardware = w.1.1.1.1.0; binds = w.1.1.1.1.1.0; shared = w.1.1.1.1.1.1.0 }
router_shape decls earlier (GroupDecl name desc objects) e = no_ifaces decls earlier
router_shape decls earlier (AreaDecl name desc parts) e = no_ifaces decls earlier
router_shape decls earlier (AggregateDecl name desc parts) e = no_ifaces decls earlier
router_shape decls earlier (ProtocolDecl name protocol notes) e = no_ifaces decls earlier
router_shape decls earlier (ProtocolGroupDecl name prts) e = no_ifaces decls earlier
router_shape decls earlier (RestrictionDecl name desc ports) e = no_ifaces decls earlier
router_shape decls earlier (ServiceDecl name desc idle user rules) e = no_ifaces decls earlier

-- ---- restrictions and areas

pub restriction_shape : (decls : List DeclText) (earlier : List IfaceText) (name : Lexeme) (desc : Option Lexeme) (ports : List PortText) →
    shape_in decls earlier (RestrictionDecl name desc ports) ≡ None → is_bad_restriction decls ports ≡ false
restriction_shape decls earlier name desc ports e = (absent_row 12 (is_bad_restriction decls ports) None e).0

pub area_shape : (decls : List DeclText) (earlier : List IfaceText) (name : Lexeme) (desc : Option Lexeme) (parts : List AreaPartText) →
    shape_in decls earlier (AreaDecl name desc parts) ≡ None → is_bad_area decls parts ≡ false
area_shape decls earlier name desc parts e = (absent_row 14 (is_bad_area decls parts) None e).0
