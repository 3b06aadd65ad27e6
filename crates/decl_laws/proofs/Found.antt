-- What is declared under a name stands at the name's number.
use Rattle.std.proofs.Common.{◌≡◌, ℕ, zero, suc, Bool, true, false, cond, ◌||◌, ◌&&◌, List, [], ◌∷◌, ◌++◌, get_or, refl, sym, ap, subst, ◌∙◌}
use Rattle.std.specs.Prelude.{Option, Some, None, is_some, flat_map, filter, if◌then◌else◌}
use Rattle.std.specs.Str.{bytes_eq}
use Rattle.std.specs.List.{list_any}
use Rattle.std.proofs.lemmas.Bool.{false≢true}
use Rattle.std.proofs.lemmas.Slice.Eq.{bytes_eq-Decides}
use Rattle.policy_model.specs.Policy.{Net, Router, no_net, no_router, net_of, router_of}
use Rattle.spoc_ast.specs.Written.{Lexeme, NetPartText, NetIp, NetHost, NetNat, NetIdle, RoutPartText, RoutManaged, RoutModel, RoutRouting, RoutIface, RoutIdle, DeclText, NetworkDecl, RouterDecl, GroupDecl, AreaDecl, AggregateDecl, ProtocolDecl, ProtocolGroupDecl, RestrictionDecl, ServiceDecl}
use Rattle.policy_decls.specs.Names.{NameKind, NetworkName, RouterName, same_kind, Mention, mention, names_in_net_part, names_in_rout_part, names_in}
use Rattle.policy_decls.specs.Uses.{names_it}
use Rattle.policy_decls.specs.Lookup.{first_given, network_called, router_called, own_prefix, is_managed_router}
use Rattle.policy_decls.specs.Said.{names_of, number_of_name, cidr_or_any, adds_of, policy_said}
use Rattle.decl_laws.proofs.Cuts.{place, number_is_place, filter_flat}

-- ---- texts

pub same_from : (a b : List ℕ) → bytes_eq a b ≡ true → a ≡ b
same_from a b h = (bytes_eq-Decides a b).0 h

pub same_to : (a b : List ℕ) → a ≡ b → bytes_eq a b ≡ true
same_to a b e = (bytes_eq-Decides a b).1 e

pub bytes_eq-sym : (a b : List ℕ) → bytes_eq a b ≡ bytes_eq b a
bytes_eq-sym a b = both (bytes_eq a b) (bytes_eq b a) (λ h. same_to b a (sym (same_from a b h))) (λ h. same_to a b (sym (same_from b a h)))
  where
    both : (x y : Bool) → (x ≡ true → y ≡ true) → (y ≡ true → x ≡ true) → x ≡ y
    both true y f g = sym (f refl)
    both false true f g = g refl
    both false false f g = refl

-- ---- a list of names, a list of things and a look-up that go with one another, declaration by declaration

-- what one declaration gives to each: nothing, or one, and then the look-up finds it exactly where its name passes
abbrev Step : {X Y Z : Type 0} → (X → Bool) → (Y → Z → Type 0) → List X → List Y → Option Z → Type 0
Step test R [] [] None = Unit {0}
Step test R (x ∷ []) (y ∷ []) None = test x ≡ false
Step test R (x ∷ []) (y ∷ []) (Some z) = (test x ≡ true) × R y z
Step test R xs ys o = ⊥

-- the look-up gives a thing, and this is it
pub record Found {Y Z : Type 0} (R : Y → Z → Type 0) (o : Option Z) (y : Y) : Type 0 where
  pub thing : Z
  pub given : o ≡ Some thing
  pub same : R y thing

pub given_here : {D Z : Type 0} (c : D → Option Z) (d : D) (ds : List D) (z : Z) → c d ≡ Some z → first_given c (d ∷ ds) ≡ Some z
given_here c d ds z e = rw e refl

pub given_later : {D Z : Type 0} (c : D → Option Z) (d : D) (ds : List D) → c d ≡ None → first_given c (d ∷ ds) ≡ first_given c ds
given_later c d ds e = rw e refl

module _ {D X Y Z : Type 0} (test : X → Bool) (R : Y → Z → Type 0) (c : D → Option Z) (none : Y) where
  turn : (d : D) (ds : List D) (fs : List X) (gs : List Y) (xs : List X) (ys : List Y) (o : Option Z) → c d ≡ o → Step test R xs ys o →
      (list_any test fs ≡ true → Found R (first_given c ds) (get_or gs (place test fs) none)) →
      list_any test (xs ++ fs) ≡ true → Found R (first_given c (d ∷ ds)) (get_or (ys ++ gs) (place test (xs ++ fs)) none)
  turn d ds fs gs [] [] None e s rest h = let w = rest h in record { thing = w.thing; given = given_later c d ds e ∙ w.given; same = w.same }
  turn d ds fs gs (x ∷ []) (y ∷ []) None e s rest h =
      let w = rest (sym (ap (λ b. b || list_any test fs) s) ∙ h) in
      record { thing = w.thing; given = given_later c d ds e ∙ w.given; same = subst (λ b. R (get_or (y ∷ gs) (cond b zero (suc (place test fs))) none) w.thing) (sym s) w.same }
  turn d ds fs gs (x ∷ []) (y ∷ []) (Some z) e s rest h = record { thing = z; given = given_here c d ds z e; same = subst (λ b. R (get_or (y ∷ gs) (cond b zero (suc (place test fs))) none) z) (sym s.0) s.1 }
  turn d ds fs gs xs ys o e s rest h = absurd s

  pub found : (f : D → List X) (g : D → List Y) → ((d : D) → Step test R (f d) (g d) (c d)) →
      (ds : List D) → list_any test (flat_map f ds) ≡ true → Found R (first_given c ds) (get_or (flat_map g ds) (place test (flat_map f ds)) none)
  found f g steps [] h = absurd (false≢true h)
  found f g steps (d ∷ ds) h = turn d ds (flat_map f ds) (flat_map g ds) (f d) (g d) (c d) refl (steps d) (found f g steps ds) h

step_named : {X Y Z : Type 0} (test : X → Bool) (R : Y → Z → Type 0) (x : X) (y : Y) (z : Z) (b : Bool) → test x ≡ b → R y z →
    Step test R (x ∷ []) (y ∷ []) (if b then Some z else None)
step_named test R x y z true e r = (e, r)
step_named test R x y z false e r = e

pub none_kept : {P X : Type 0} (keep : X → Bool) (f : P → List X) → ((p : P) → filter keep (f p) ≡ []) → (ps : List P) → filter keep (flat_map f ps) ≡ []
none_kept keep f each [] = refl
none_kept keep f each (p ∷ ps) = filter_flat keep f (p ∷ ps) ∙ ap (λ l. l ++ flat_map (λ q. filter keep (f q)) ps) (each p) ∙ sym (filter_flat keep f ps) ∙ none_kept keep f each ps

-- ---- networks and routers

abbrev pub is_of : NameKind → Mention → Bool
is_of k m = same_kind m.kind k

by_text : (a b : List ℕ) → (bytes_eq a b && true) ≡ bytes_eq b a
by_text a b = and_true (bytes_eq a b) ∙ bytes_eq-sym a b
  where
    and_true : (x : Bool) → (x && true) ≡ x
    and_true true = refl
    and_true false = refl

no_net_in_part : (router : Lexeme) (part : RoutPartText) → filter (is_of NetworkName) (names_in_rout_part router part) ≡ []
no_net_in_part router (RoutManaged filter) = refl
no_net_in_part router (RoutModel model) = refl
no_net_in_part router (RoutRouting routing) = refl
no_net_in_part router (RoutIface name parts) = refl
no_net_in_part router (RoutIdle idle) = refl

no_router_in_part : (router : Lexeme) (part : RoutPartText) → filter (is_of RouterName) (names_in_rout_part router part) ≡ []
no_router_in_part router (RoutManaged filter) = refl
no_router_in_part router (RoutModel model) = refl
no_router_in_part router (RoutRouting routing) = refl
no_router_in_part router (RoutIface name parts) = refl
no_router_in_part router (RoutIdle idle) = refl

no_net_in_net : (net : Lexeme) (part : NetPartText) → filter (is_of NetworkName) (names_in_net_part net part) ≡ []
no_net_in_net net (NetIp prefix) = refl
no_net_in_net net (NetHost name parts) = refl
no_net_in_net net (NetNat name parts) = refl
no_net_in_net net (NetIdle idle) = refl

no_router_in_net : (net : Lexeme) (part : NetPartText) → filter (is_of RouterName) (names_in_net_part net part) ≡ []
no_router_in_net net (NetIp prefix) = refl
no_router_in_net net (NetHost name parts) = refl
no_router_in_net net (NetNat name parts) = refl
no_router_in_net net (NetIdle idle) = refl

-- a network's own prefix is that of its parts
abbrev pub HasOwn : Net → List NetPartText → Type 0
HasOwn net parts = net.own ≡ cidr_or_any (own_prefix parts)

-- a router is managed where its parts say so
abbrev pub IsOfParts : Router → List RoutPartText → Type 0
IsOfParts router parts = is_some router.device ≡ is_managed_router parts

net_step : (all : List DeclText) (w : Lexeme) (d : DeclText) →
    Step (names_it (mention NetworkName w)) HasOwn (filter (is_of NetworkName) (names_in d)) (adds_of all d).nets (network_called w.text d)
net_step all w (NetworkDecl name desc parts) =
    let y = get_or (adds_of all (NetworkDecl name desc parts)).nets 0 no_net in
    let test = names_it (mention NetworkName w) in
    subst (λ l. Step test HasOwn (mention NetworkName name ∷ l) (y ∷ []) (network_called w.text (NetworkDecl name desc parts)))
    (sym (none_kept (is_of NetworkName) (names_in_net_part name) (no_net_in_net name) parts))
    (step_named test HasOwn (mention NetworkName name) y parts (bytes_eq name.text w.text) (by_text w.text name.text) refl)
net_step all w (RouterDecl name desc parts) =
    subst (λ l. Step {X = Mention} {Y = Net} {Z = List NetPartText} (names_it (mention NetworkName w)) HasOwn l [] None) (sym (none_kept (is_of NetworkName) (names_in_rout_part name) (no_net_in_part name) parts)) tt
net_step all w (GroupDecl name desc objects) = tt
net_step all w (AreaDecl name desc parts) = tt
net_step all w (AggregateDecl name desc parts) = tt
net_step all w (ProtocolDecl name protocol notes) = tt
net_step all w (ProtocolGroupDecl name prts) = tt
net_step all w (RestrictionDecl name desc ports) = tt
net_step all w (ServiceDecl name desc idle user rules) = tt

has_device : {A : Type 0} (b : Bool) (x : A) → is_some (if b then Some x else None) ≡ b
has_device true x = refl
has_device false x = refl

router_step : (all : List DeclText) (w : Lexeme) (d : DeclText) →
    Step (names_it (mention RouterName w)) IsOfParts (filter (is_of RouterName) (names_in d)) (adds_of all d).routers (router_called w.text d)
router_step all w (NetworkDecl name desc parts) =
    subst (λ l. Step {X = Mention} {Y = Router} {Z = List RoutPartText} (names_it (mention RouterName w)) IsOfParts l [] None) (sym (none_kept (is_of RouterName) (names_in_net_part name) (no_router_in_net name) parts)) tt
router_step all w (RouterDecl name desc parts) =
    let y = get_or (adds_of all (RouterDecl name desc parts)).routers 0 no_router in
    let test = names_it (mention RouterName w) in
    subst (λ l. Step test IsOfParts (mention RouterName name ∷ l) (y ∷ []) (router_called w.text (RouterDecl name desc parts)))
    (sym (none_kept (is_of RouterName) (names_in_rout_part name) (no_router_in_part name) parts))
    (step_named test IsOfParts (mention RouterName name) y parts (bytes_eq name.text w.text) (by_text w.text name.text) (has_device (is_managed_router parts) _))
router_step all w (GroupDecl name desc objects) = tt
router_step all w (AreaDecl name desc parts) = tt
router_step all w (AggregateDecl name desc parts) = tt
router_step all w (ProtocolDecl name protocol notes) = tt
router_step all w (ProtocolGroupDecl name prts) = tt
router_step all w (RestrictionDecl name desc ports) = tt
router_step all w (ServiceDecl name desc idle user rules) = tt

-- how many names of the kind stand before the one that is meant
place_of : (decls : List DeclText) (k : NameKind) (w : Lexeme) → list_any (names_it (mention k w)) (names_of decls k) ≡ true →
    place (names_it (mention k w)) (flat_map (λ d. filter (is_of k) (names_in d)) decls) ≡ number_of_name decls k w
place_of decls k w h =
    ap (place (names_it (mention k w))) (sym (filter_flat (is_of k) names_in decls)) ∙ sym (number_is_place (names_it (mention k w)) (names_of decls k) (mention k w) h)

pub net_found : (decls : List DeclText) (w : Lexeme) → list_any (names_it (mention NetworkName w)) (names_of decls NetworkName) ≡ true →
    Found HasOwn (first_given (network_called w.text) decls) (net_of (policy_said decls) (number_of_name decls NetworkName w))
net_found decls w h =
    subst (λ n. Found HasOwn (first_given (network_called w.text) decls) (net_of (policy_said decls) n)) (place_of decls NetworkName w h)
    (found (names_it (mention NetworkName w)) HasOwn (network_called w.text) no_net (λ d. filter (is_of NetworkName) (names_in d)) (λ d. (adds_of decls d).nets) (net_step decls w) decls
    (sym (ap (list_any (names_it (mention NetworkName w))) (filter_flat (is_of NetworkName) names_in decls)) ∙ h))

pub router_found : (decls : List DeclText) (w : Lexeme) → list_any (names_it (mention RouterName w)) (names_of decls RouterName) ≡ true →
    Found IsOfParts (first_given (router_called w.text) decls) (router_of (policy_said decls) (number_of_name decls RouterName w))
router_found decls w h =
    subst (λ n. Found IsOfParts (first_given (router_called w.text) decls) (router_of (policy_said decls) n)) (place_of decls RouterName w h)
    (found (names_it (mention RouterName w)) IsOfParts (router_called w.text) no_router (λ d. filter (is_of RouterName) (names_in d)) (λ d. (adds_of decls d).routers) (router_step decls w) decls
    (sym (ap (list_any (names_it (mention RouterName w))) (filter_flat (is_of RouterName) names_in decls)) ∙ h))
