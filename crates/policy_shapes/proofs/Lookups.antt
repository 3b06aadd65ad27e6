-- Networks and routers by the numbers of their names.
use Rattle.std.proofs.Common.{arith, ◌≡◌, ◌∙◌, refl, sym, ap, ℕ, ◌≤◌, Bool, true, false, ◌&&◌, cond, List, [], ◌∷◌, ◌++◌, length, map, flat_map, filter, position, slice_get, nat_lt, Option, Some, None, option_map, option_and_then, unwrap_or}
use Rattle.std.specs.Str.{bytes_eq}
use Rattle.std.specs.List.{find, position_or_len}
use Rattle.std.proofs.lemmas.List.Elements.{filter-append}
use Rattle.std.proofs.lemmas.List.Folds.{find_at}
use Rattle.std.proofs.lemmas.Bool.Decides.{nat_tests}
use Rattle.std.proofs.lemmas.Option.{slice_get-map, slice_get_past}
use Rattle.spoc_base.specs.Address.{Cidr}
use Rattle.spoc_base.specs.declared.place.Named.{Named}
use Rattle.spoc_base.specs.declared.place.Named.TheVariants.{Plain}
use Rattle.spoc_base.specs.declared.place.Kind.TheVariants as kind
use Rattle.spoc_ast.specs.Written.{Lexeme, NetPartText, NetIp, NetHost, NetNat, NetIdle, RoutPartText, RoutManaged, RoutModel, RoutRouting, RoutIface, RoutIdle, DeclText, NetworkDecl, RouterDecl, GroupDecl, AreaDecl, AggregateDecl, ProtocolDecl, ProtocolGroupDecl, RestrictionDecl, ServiceDecl}
use Rattle.policy_decls.specs.Names.{Mention, NetworkName, RouterName, same_kind, mention, names_in, names_in_net_part, names_in_rout_part, declared_names}
use Rattle.policy_decls.specs.Uses.{names_it}
use Rattle.policy_decls.specs.Lookup.{first_given, or_nothing, network_called, network_parts, own_prefix, router_called, router_parts, is_managed_router}
use Rattle.policy_names.specs.Tables.{of_kind, numbered}
use Rattle.policy_names.proofs.Noted.{bytes_sym}
use Rattle.policy_names.proofs.TestLemmas.{position_map}
use Rattle.policy_shapes.specs.Policy.{networks_in, routers_in, own_prefixes, managed_flags, joined}

-- what is first found, by its place
module _ {A B : Type 0} (p : A → Bool) (g : A → B) (xs : List A) where
  placed : (b : Bool) → nat_lt (position_or_len p xs) (length xs) ≡ b → option_and_then (slice_get (map g xs)) (cond b (Some (position_or_len p xs)) None) ≡ option_map g (slice_get xs (position_or_len p xs))
  placed true e = slice_get-map g xs (position_or_len p xs)
  placed false e = let past : length xs ≤ position_or_len p xs = grind (arith, nat_tests) in ap (option_map g) (sym (slice_get_past xs (position_or_len p xs) past))

  at_place : option_and_then (slice_get (map g xs)) (position p xs) ≡ option_map g (find p xs)
  at_place = placed (nat_lt (position_or_len p xs) (length xs)) refl ∙ ap (option_map g) (sym (find_at p xs))

-- ---- the names of networks and routers

net_names : (net : Lexeme) (parts : List NetPartText) → filter (λ name. same_kind name.kind NetworkName) (flat_map (names_in_net_part net) parts) ≡ []
net_names net [] = refl
net_names net (NetIp w ∷ parts) = net_names net parts
net_names net (NetHost name hosts ∷ parts) = net_names net parts
net_names net (NetNat name nats ∷ parts) = net_names net parts
net_names net (NetIdle idle ∷ parts) = net_names net parts

rout_names : (router : Lexeme) (parts : List RoutPartText) → filter (λ name. same_kind name.kind NetworkName) (flat_map (names_in_rout_part router) parts) ≡ []
rout_names router [] = refl
rout_names router (RoutManaged word ∷ parts) = rout_names router parts
rout_names router (RoutModel word ∷ parts) = rout_names router parts
rout_names router (RoutRouting word ∷ parts) = rout_names router parts
rout_names router (RoutIface name ifaces ∷ parts) = rout_names router parts
rout_names router (RoutIdle idle ∷ parts) = rout_names router parts

net_names_other : (net : Lexeme) (parts : List NetPartText) → filter (λ name. same_kind name.kind RouterName) (flat_map (names_in_net_part net) parts) ≡ []
net_names_other net [] = refl
net_names_other net (NetIp w ∷ parts) = net_names_other net parts
net_names_other net (NetHost name hosts ∷ parts) = net_names_other net parts
net_names_other net (NetNat name nats ∷ parts) = net_names_other net parts
net_names_other net (NetIdle idle ∷ parts) = net_names_other net parts

rout_names_other : (router : Lexeme) (parts : List RoutPartText) → filter (λ name. same_kind name.kind RouterName) (flat_map (names_in_rout_part router) parts) ≡ []
rout_names_other router [] = refl
rout_names_other router (RoutManaged word ∷ parts) = rout_names_other router parts
rout_names_other router (RoutModel word ∷ parts) = rout_names_other router parts
rout_names_other router (RoutRouting word ∷ parts) = rout_names_other router parts
rout_names_other router (RoutIface name ifaces ∷ parts) = rout_names_other router parts
rout_names_other router (RoutIdle idle ∷ parts) = rout_names_other router parts

networks_named : (d : DeclText) → filter (λ name. same_kind name.kind NetworkName) (names_in d) ≡ map (λ net. mention NetworkName net.0) (networks_in d)
networks_named (NetworkDecl name desc parts) = ap (λ l. mention NetworkName name ∷ l) (net_names name parts)
networks_named (RouterDecl name desc parts) = rout_names name parts
networks_named (GroupDecl name desc objects) = refl
networks_named (AreaDecl name desc parts) = refl
networks_named (AggregateDecl name desc parts) = refl
networks_named (ProtocolDecl name protocol notes) = refl
networks_named (ProtocolGroupDecl name prts) = refl
networks_named (RestrictionDecl name desc ports) = refl
networks_named (ServiceDecl name desc idle user rules) = refl

routers_named : (d : DeclText) → filter (λ name. same_kind name.kind RouterName) (names_in d) ≡ map (λ router. mention RouterName router.0) (routers_in d)
routers_named (NetworkDecl name desc parts) = net_names_other name parts
routers_named (RouterDecl name desc parts) = ap (λ l. mention RouterName name ∷ l) (rout_names_other name parts)
routers_named (GroupDecl name desc objects) = refl
routers_named (AreaDecl name desc parts) = refl
routers_named (AggregateDecl name desc parts) = refl
routers_named (ProtocolDecl name protocol notes) = refl
routers_named (ProtocolGroupDecl name prts) = refl
routers_named (RestrictionDecl name desc ports) = refl
routers_named (ServiceDecl name desc idle user rules) = refl

map_joined : {A B : Type 0} (f : A → B) (xs ys : List A) → map f xs ++ map f ys ≡ map f (xs ++ ys)
map_joined f [] ys = refl
map_joined f (x ∷ xs) ys = ap (λ l. f x ∷ l) (map_joined f xs ys)

module _ {R : Type 0} (own : Mention → Bool) (rows_in : DeclText → List R) (named : R → Mention) (each : (d : DeclText) → filter own (names_in d) ≡ map named (rows_in d)) where
  all_named : (decls : List DeclText) → filter own (declared_names decls) ≡ map named (flat_map rows_in decls)
  all_named [] = refl
  all_named (d ∷ decls) =
      filter-append own (names_in d) (declared_names decls) ∙ ap (λ l. l ++ filter own (declared_names decls)) (each d) ∙ ap (λ l. map named (rows_in d) ++ l) (all_named decls)
      ∙ map_joined named (rows_in d) (flat_map rows_in decls)

-- ---- what is first given, what is first found

network_first : (decls : List DeclText) (text : List ℕ) → first_given (network_called text) decls ≡ option_map (λ net. net.1) (find (λ net. bytes_eq net.0.text text) (flat_map networks_in decls))
network_first [] text = refl
network_first (NetworkDecl name desc parts ∷ decls) text = by (network_first decls text) (bytes_eq name.text text) refl
  where
    by : first_given (network_called text) decls ≡ option_map (λ net. net.1) (find (λ net. bytes_eq net.0.text text) (flat_map networks_in decls)) → (b : Bool) → bytes_eq name.text text ≡ b → first_given (network_called text) (NetworkDecl name desc parts ∷ decls) ≡ option_map (λ net. net.1) (find (λ net. bytes_eq net.0.text text) ((name, parts) ∷ flat_map networks_in decls))
    by rest true e = rw e refl
    by rest false e = rw e rest
network_first (RouterDecl name desc parts ∷ decls) text = network_first decls text
network_first (GroupDecl name desc objects ∷ decls) text = network_first decls text
network_first (AreaDecl name desc parts ∷ decls) text = network_first decls text
network_first (AggregateDecl name desc parts ∷ decls) text = network_first decls text
network_first (ProtocolDecl name protocol notes ∷ decls) text = network_first decls text
network_first (ProtocolGroupDecl name prts ∷ decls) text = network_first decls text
network_first (RestrictionDecl name desc ports ∷ decls) text = network_first decls text
network_first (ServiceDecl name desc idle user rules ∷ decls) text = network_first decls text

router_first : (decls : List DeclText) (text : List ℕ) → first_given (router_called text) decls ≡ option_map (λ router. router.1) (find (λ router. bytes_eq router.0.text text) (flat_map routers_in decls))
router_first [] text = refl
router_first (RouterDecl name desc parts ∷ decls) text = by (router_first decls text) (bytes_eq name.text text) refl
  where
    by : first_given (router_called text) decls ≡ option_map (λ router. router.1) (find (λ router. bytes_eq router.0.text text) (flat_map routers_in decls)) → (b : Bool) → bytes_eq name.text text ≡ b → first_given (router_called text) (RouterDecl name desc parts ∷ decls) ≡ option_map (λ router. router.1) (find (λ router. bytes_eq router.0.text text) ((name, parts) ∷ flat_map routers_in decls))
    by rest true e = rw e refl
    by rest false e = rw e rest
router_first (NetworkDecl name desc parts ∷ decls) text = router_first decls text
router_first (GroupDecl name desc objects ∷ decls) text = router_first decls text
router_first (AreaDecl name desc parts ∷ decls) text = router_first decls text
router_first (AggregateDecl name desc parts ∷ decls) text = router_first decls text
router_first (ProtocolDecl name protocol notes ∷ decls) text = router_first decls text
router_first (ProtocolGroupDecl name prts ∷ decls) text = router_first decls text
router_first (RestrictionDecl name desc ports ∷ decls) text = router_first decls text
router_first (ServiceDecl name desc idle user rules ∷ decls) text = router_first decls text

-- ---- look-ups

-- how a name is shown plays no part in a look-up
abbrev pub any_shown : Named
any_shown = Plain kind.Network (record { file = 0; start = 0; end = 0 })

and_true : (a b : Bool) → a ≡ b → (a && true) ≡ b
and_true true b e = e
and_true false b e = e

own_given : (found : Option (Lexeme × List NetPartText)) → joined (option_map (λ net. own_prefix net.1) found) ≡ own_prefix (or_nothing (option_map (λ net. net.1) found))
own_given None = refl
own_given (Some net) = refl

managed_given : (found : Option (Lexeme × List RoutPartText)) → unwrap_or (option_map (λ router. is_managed_router router.1) found) false ≡ is_managed_router (or_nothing (option_map (λ router. router.1) found))
managed_given None = refl
managed_given (Some router) = refl

module _ (decls : List DeclText) (names : List Mention) (text : List ℕ) (shown : Named) (named : names ≡ declared_names decls) (number : Option ℕ) where
  pub own_found : (own : List (Option Cidr)) → own ≡ own_prefixes decls → number ≡ position (names_it (record { kind = NetworkName; owner = []; text = text; shown = shown })) (numbered names NetworkName)
      → joined (option_and_then (slice_get own) number) ≡ own_prefix (network_parts decls text)
  own_found own e n =
      let rows = flat_map networks_in decls in
      let asked = names_it (record { kind = NetworkName; owner = []; text = text; shown = shown }) in
      let same : (net : Lexeme × List NetPartText) → asked (mention NetworkName net.0) ≡ bytes_eq net.0.text text = λ net. and_true (bytes_eq text net.0.text) (bytes_eq net.0.text text) (bytes_sym text net.0.text) in
      ap (λ l. joined (option_and_then (slice_get l) number)) e
      ∙ ap (λ k. joined (option_and_then (slice_get (own_prefixes decls)) k))
      (n ∙ ap (λ l. position asked (of_kind l NetworkName)) named ∙ ap (position asked) (all_named (λ name. same_kind name.kind NetworkName) networks_in (λ net. mention NetworkName net.0) networks_named decls)
      ∙ sym (position_map asked (λ net. mention NetworkName net.0) rows) ∙ ap (λ p. position p rows) (λ i net. same net i))
      ∙ ap joined (at_place (λ net. bytes_eq net.0.text text) (λ net. own_prefix net.1) rows)
      ∙ own_given (find (λ net. bytes_eq net.0.text text) rows) ∙ ap (λ found. own_prefix (or_nothing found)) (sym (network_first decls text))

  pub managed_found : (managed : List Bool) → managed ≡ managed_flags decls → number ≡ position (names_it (record { kind = RouterName; owner = []; text = text; shown = shown })) (numbered names RouterName)
      → unwrap_or (option_and_then (slice_get managed) number) false ≡ is_managed_router (router_parts decls text)
  managed_found managed e n =
      let rows = flat_map routers_in decls in
      let asked = names_it (record { kind = RouterName; owner = []; text = text; shown = shown }) in
      let same : (router : Lexeme × List RoutPartText) → asked (mention RouterName router.0) ≡ bytes_eq router.0.text text = λ router. and_true (bytes_eq text router.0.text) (bytes_eq router.0.text text) (bytes_sym text router.0.text) in
      ap (λ l. unwrap_or (option_and_then (slice_get l) number) false) e
      ∙ ap (λ k. unwrap_or (option_and_then (slice_get (managed_flags decls)) k) false)
      (n ∙ ap (λ l. position asked (of_kind l RouterName)) named ∙ ap (position asked) (all_named (λ name. same_kind name.kind RouterName) routers_in (λ router. mention RouterName router.0) routers_named decls)
      ∙ sym (position_map asked (λ router. mention RouterName router.0) rows) ∙ ap (λ p. position p rows) (λ i router. same router i))
      ∙ ap (λ found. unwrap_or found false) (at_place (λ router. bytes_eq router.0.text text) (λ router. is_managed_router router.1) rows)
      ∙ managed_given (find (λ router. bytes_eq router.0.text text) rows) ∙ ap (λ found. is_managed_router (or_nothing found)) (sym (router_first decls text))
