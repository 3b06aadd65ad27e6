-- What is declared by a name, by the number of the name among those of its kind.
use Rattle.std.specs.Option.{option_copied}
use Rattle.std.proofs.Common.{arith, ◌<◌, Bor, is_some, IfSome, get_or, ◌≡◌, ◌∙◌, refl, sym, ap, ℕ, suc, ◌+◌, ◌≤◌, Bool, true, false, cond, not, ◌&&◌, List, [], ◌∷◌, ◌++◌, length, map, flat_map, filter, position, nat_lt, Option, Some, None, option_map, option_and_then}
use Rattle.std.specs.Str.{bytes_eq}
use Rattle.std.specs.List.{slice_get, position_or_len}
use Rattle.std.proofs.lemmas.List.Elements.{filter-append}
use Rattle.std.proofs.lemmas.Option.{slice_get_past, slice_get_read, slice_get-map}
use Rattle.std.proofs.lemmas.Bool.Decides.{nat_tests}
use Rattle.spoc_ast.specs.Written.{Lexeme, NetPartText, NetIp, NetHost, NetNat, NetIdle, RoutPartText, RoutManaged, RoutModel, RoutRouting, RoutIface, RoutIdle, PrtText, DeclText, NetworkDecl, RouterDecl, GroupDecl, AreaDecl, AggregateDecl, ProtocolDecl, ProtocolGroupDecl, RestrictionDecl, ServiceDecl}
use Rattle.policy_decls.specs.Names.{NameKind, ProtocolName, ProtocolGroupName, same_kind, Mention, mention, names_in_net_part, names_in_rout_part, names_in, declared_names}
use Rattle.policy_decls.specs.Uses.{names_it}
use Rattle.policy_decls.specs.Lookup.{first_given}
use Rattle.policy_decls.specs.Said.{names_of, protocol_called, protocol_group_called}
use Rattle.policy_names.proofs.Noted.{bytes_sym}
use Rattle.policy_build.specs.Protocols.{protocol_in, group_in, said_by, protocols_in, groups_in}

module _ {A B : Type 0} (test : A → Option B) where
  pub first_none : (x : A) (xs : List A) → test x ≡ None → first_given test (x ∷ xs) ≡ first_given test xs
  first_none x xs e = rw e refl

  pub first_some : (x : A) (y : B) (xs : List A) → test x ≡ Some y → first_given test (x ∷ xs) ≡ Some y
  first_some x y xs e = rw e refl

abbrev value_at : List ℕ → Option (Lexeme × List PrtText) → Option (List PrtText)
value_at t None = None
value_at t (Some e) = cond (bytes_eq e.0.text t) (Some e.1) None

module _ (k : NameKind) (entry : DeclText → Option (Lexeme × List PrtText)) (called : List ℕ → DeclText → Option (List PrtText)) where
  abbrev names_at : Option (Lexeme × List PrtText) → List Mention
  names_at None = []
  names_at (Some e) = mention k e.0 ∷ []

  abbrev values : List DeclText → List (List PrtText)
  values decls = flat_map (λ d. said_by (entry d)) decls

  module _ (own : (d : DeclText) → filter (λ n. same_kind n.kind k) (names_in d) ≡ names_at (entry d)) (calls : (t : List ℕ) (d : DeclText) → called t d ≡ value_at t (entry d))
      (named : (w name : Lexeme) → names_it (mention k w) (mention k name) ≡ bytes_eq w.text name.text) where
    names_more : (d : DeclText) (ds : List DeclText) → names_of (d ∷ ds) k ≡ names_at (entry d) ++ names_of ds k
    names_more d ds = filter-append (λ n. same_kind n.kind k) (names_in d) (declared_names ds) ∙ ap (λ l. l ++ names_of ds k) (own d)

    lengths_more : (o : Option (Lexeme × List PrtText)) (ns : List Mention) (vs : List (List PrtText)) → length ns ≡ length vs → length (names_at o ++ ns) ≡ length (said_by o ++ vs)
    lengths_more None ns vs e = e
    lengths_more (Some x) ns vs e = ap suc e

    lengths : (ds : List DeclText) → length (names_of ds k) ≡ length (values ds)
    lengths [] = refl
    lengths (d ∷ ds) = ap length (names_more d ds) ∙ lengths_more (entry d) (names_of ds k) (values ds) (lengths ds)

    module _ (w : Lexeme) where
      hit : (x : Lexeme × List PrtText) (d : DeclText) (ds : List DeclText) (ns : List Mention) (vs : List (List PrtText)) → entry d ≡ Some x → (b : Bool) → bytes_eq w.text x.0.text ≡ b
          → first_given (called w.text) ds ≡ slice_get vs (position_or_len (names_it (mention k w)) ns)
          → first_given (called w.text) (d ∷ ds) ≡ slice_get (x.1 ∷ vs) (position_or_len (names_it (mention k w)) (mention k x.0 ∷ ns))
      hit x d ds ns vs e true t ih =
          first_some (called w.text) d x.1 ds (calls w.text d ∙ ap (value_at w.text) e ∙ ap (λ b. cond b (Some x.1) None) (bytes_sym x.0.text w.text ∙ t))
          ∙ sym (ap (λ b. slice_get (x.1 ∷ vs) (cond (not b) (1 + position_or_len (names_it (mention k w)) ns) 0)) (named w x.0 ∙ t))
      hit x d ds ns vs e false t ih =
          let n = position_or_len (names_it (mention k w)) ns in
          let step : suc n ≡ 1 + n = omega arith in
          first_none (called w.text) d ds (calls w.text d ∙ ap (value_at w.text) e ∙ ap (λ b. cond b (Some x.1) None) (bytes_sym x.0.text w.text ∙ t)) ∙ ih
          ∙ ap (λ i. slice_get (x.1 ∷ vs) i) step ∙ sym (ap (λ b. slice_get (x.1 ∷ vs) (cond (not b) (1 + n) 0)) (named w x.0 ∙ t))

      here : (o : Option (Lexeme × List PrtText)) (d : DeclText) (ds : List DeclText) → entry d ≡ o → first_given (called w.text) ds ≡ slice_get (values ds) (position_or_len (names_it (mention k w)) (names_of ds k))
          → first_given (called w.text) (d ∷ ds) ≡ slice_get (said_by o ++ values ds) (position_or_len (names_it (mention k w)) (names_at o ++ names_of ds k))
      here None d ds e ih = first_none (called w.text) d ds (calls w.text d ∙ ap (value_at w.text) e) ∙ ih
      here (Some x) d ds e ih = hit x d ds (names_of ds k) (values ds) e (bytes_eq w.text x.0.text) refl ih

      found : (ds : List DeclText) → first_given (called w.text) ds ≡ slice_get (values ds) (position_or_len (names_it (mention k w)) (names_of ds k))
      found [] = refl
      found (d ∷ ds) = here (entry d) d ds refl (found ds) ∙ ap (λ ns. slice_get (values (d ∷ ds)) (position_or_len (names_it (mention k w)) ns)) (sym (names_more d ds))

      within : (b : Bool) (n : ℕ) (vs : List (List PrtText)) (most : ℕ) → nat_lt n most ≡ b → most ≡ length vs → option_and_then (slice_get vs) (cond b (Some n) None) ≡ slice_get vs n
      within true n vs most t e = refl
      within false n vs most t e = let l : length vs ≤ n = grind (arith, nat_tests) in sym (slice_get_past vs n l)

      pub called_at : (ds : List DeclText) → first_given (called w.text) ds ≡ option_and_then (slice_get (values ds)) (position (names_it (mention k w)) (names_of ds k))
      called_at ds =
          let n = position_or_len (names_it (mention k w)) (names_of ds k) in
          found ds ∙ sym (within (nat_lt n (length (names_of ds k))) n (values ds) (length (names_of ds k)) refl (lengths ds))

-- ---- protocols and protocol groups

protocol_net : (net : Lexeme) (parts : List NetPartText) → filter (λ n. same_kind n.kind ProtocolName) (flat_map (names_in_net_part net) parts) ≡ []
protocol_net net [] = refl
protocol_net net (NetIp w ∷ parts) = protocol_net net parts
protocol_net net (NetHost w ps ∷ parts) = protocol_net net parts
protocol_net net (NetNat w ps ∷ parts) = protocol_net net parts
protocol_net net (NetIdle w ∷ parts) = protocol_net net parts

protocol_rout : (router : Lexeme) (parts : List RoutPartText) → filter (λ n. same_kind n.kind ProtocolName) (flat_map (names_in_rout_part router) parts) ≡ []
protocol_rout router [] = refl
protocol_rout router (RoutManaged w ∷ parts) = protocol_rout router parts
protocol_rout router (RoutModel w ∷ parts) = protocol_rout router parts
protocol_rout router (RoutRouting w ∷ parts) = protocol_rout router parts
protocol_rout router (RoutIface w ps ∷ parts) = protocol_rout router parts
protocol_rout router (RoutIdle w ∷ parts) = protocol_rout router parts

protocol_own : (d : DeclText) → filter (λ n. same_kind n.kind ProtocolName) (names_in d) ≡ names_at ProtocolName protocol_in (λ t d. None) (protocol_in d)
protocol_own (NetworkDecl name desc parts) = protocol_net name parts
protocol_own (RouterDecl name desc parts) = protocol_rout name parts
protocol_own (GroupDecl name desc objects) = refl
protocol_own (AreaDecl name desc parts) = refl
protocol_own (AggregateDecl name desc parts) = refl
protocol_own (ProtocolDecl name protocol notes) = refl
protocol_own (ProtocolGroupDecl name prts) = refl
protocol_own (RestrictionDecl name desc ports) = refl
protocol_own (ServiceDecl name desc idle user rules) = refl

group_net : (net : Lexeme) (parts : List NetPartText) → filter (λ n. same_kind n.kind ProtocolGroupName) (flat_map (names_in_net_part net) parts) ≡ []
group_net net [] = refl
group_net net (NetIp w ∷ parts) = group_net net parts
group_net net (NetHost w ps ∷ parts) = group_net net parts
group_net net (NetNat w ps ∷ parts) = group_net net parts
group_net net (NetIdle w ∷ parts) = group_net net parts

group_rout : (router : Lexeme) (parts : List RoutPartText) → filter (λ n. same_kind n.kind ProtocolGroupName) (flat_map (names_in_rout_part router) parts) ≡ []
group_rout router [] = refl
group_rout router (RoutManaged w ∷ parts) = group_rout router parts
group_rout router (RoutModel w ∷ parts) = group_rout router parts
group_rout router (RoutRouting w ∷ parts) = group_rout router parts
group_rout router (RoutIface w ps ∷ parts) = group_rout router parts
group_rout router (RoutIdle w ∷ parts) = group_rout router parts

group_own : (d : DeclText) → filter (λ n. same_kind n.kind ProtocolGroupName) (names_in d) ≡ names_at ProtocolGroupName group_in (λ t d. None) (group_in d)
group_own (NetworkDecl name desc parts) = group_net name parts
group_own (RouterDecl name desc parts) = group_rout name parts
group_own (GroupDecl name desc objects) = refl
group_own (AreaDecl name desc parts) = refl
group_own (AggregateDecl name desc parts) = refl
group_own (ProtocolDecl name protocol notes) = refl
group_own (ProtocolGroupDecl name prts) = refl
group_own (RestrictionDecl name desc ports) = refl
group_own (ServiceDecl name desc idle user rules) = refl

protocol_calls : (t : List ℕ) (d : DeclText) → protocol_called t d ≡ value_at t (protocol_in d)
protocol_calls t (NetworkDecl name desc parts) = refl
protocol_calls t (RouterDecl name desc parts) = refl
protocol_calls t (GroupDecl name desc objects) = refl
protocol_calls t (AreaDecl name desc parts) = refl
protocol_calls t (AggregateDecl name desc parts) = refl
protocol_calls t (ProtocolDecl name protocol notes) = refl
protocol_calls t (ProtocolGroupDecl name prts) = refl
protocol_calls t (RestrictionDecl name desc ports) = refl
protocol_calls t (ServiceDecl name desc idle user rules) = refl

group_calls : (t : List ℕ) (d : DeclText) → protocol_group_called t d ≡ value_at t (group_in d)
group_calls t (NetworkDecl name desc parts) = refl
group_calls t (RouterDecl name desc parts) = refl
group_calls t (GroupDecl name desc objects) = refl
group_calls t (AreaDecl name desc parts) = refl
group_calls t (AggregateDecl name desc parts) = refl
group_calls t (ProtocolDecl name protocol notes) = refl
group_calls t (ProtocolGroupDecl name prts) = refl
group_calls t (RestrictionDecl name desc ports) = refl
group_calls t (ServiceDecl name desc idle user rules) = refl

and_true : (b : Bool) → (b && true) ≡ b
and_true true = refl
and_true false = refl

-- the protocol of a name, by its number
pub protocol_at : (w : Lexeme) (ds : List DeclText) → first_given (protocol_called w.text) ds ≡ option_and_then (slice_get (protocols_in ds)) (position (names_it (mention ProtocolName w)) (names_of ds ProtocolName))
protocol_at w ds = called_at ProtocolName protocol_in protocol_called protocol_own protocol_calls (λ v name. and_true (bytes_eq v.text name.text)) w ds

-- the protocol group of a name, by its number
pub group_at : (w : Lexeme) (ds : List DeclText) → first_given (protocol_group_called w.text) ds ≡ option_and_then (slice_get (groups_in ds)) (position (names_it (mention ProtocolGroupName w)) (names_of ds ProtocolGroupName))
group_at w ds = called_at ProtocolGroupName group_in protocol_group_called group_own group_calls (λ v name. and_true (bytes_eq v.text name.text)) w ds

-- ---- what a look-up in memory finds

module _ {A : Type 0} (seen : A → List PrtText) (xs : List A) (vs : List (List PrtText)) (shown : map seen xs ≡ vs) where
  pub looked_up : (n : ℕ) → option_map seen (slice_get xs n) ≡ slice_get vs n
  looked_up n = sym (slice_get-map seen xs n) ∙ ap (λ l. slice_get l n) shown

module _ {A : Type 0} (xs : List A) (n : ℕ) where
  pub copied_at : (r : Option (Bor A)) → is_some r ≡ nat_lt n (length xs) → IfSome r (λ x. x.now ≡ get_or xs n x.now) → option_copied r ≡ slice_get xs n
  copied_at None e h = let l : length xs ≤ n = grind (arith, nat_tests) in sym (slice_get_past xs n l)
  copied_at (Some x) e h = let l : n < length xs = grind (arith, nat_tests) in sym (slice_get_read xs (length xs) n x.now refl l h)
