-- What holds of each word of a declaration holds of the words at which its names are printed.
use Rattle.std.proofs.Common.{◌≡◌, ℕ, Bool, List, [], ◌∷◌, ◌++◌, length, ◌<◌, get_or, map, Option, Some, None}
use Rattle.std.specs.Prelude.{flat_map}
use Rattle.std.specs.List.{All, Contains, AllByRecursion}
use Rattle.std.proofs.lemmas.List.{get_or_default}
use Rattle.std.proofs.lemmas.List.Elements.{All-from_recursion, recursion_from_All}
use Rattle.spoc_ast.specs.Written.{Lexeme, PortText, SetText, NoParts, NetworkNamed, HostNamed, PortNamed, GroupNamed, AggregateNamed, AreaNamed, UserNamed, NetworksIn, HostsIn, ZonesIn, Joining, Keeping, Leaving, NetPartText, NetIp, NetHost, NetNat, NetIdle, IfPartText, IfIp, IfHardware, IfBindNat, IfVirtual, IfIdle, RoutPartText, RoutManaged, RoutModel, RoutRouting, RoutIface, RoutIdle, AreaPartText, AreaAnchor, AreaBorder, AreaIdle, AnyPartText, AnyLink, AnyIp, AnyIdle, PrtText, PrtSimple, PrtProtocol, PrtGroup, RuleText, DeclText, NetworkDecl, RouterDecl, GroupDecl, AreaDecl, AggregateDecl, ProtocolDecl, ProtocolGroupDecl, RestrictionDecl, ServiceDecl}
use Rattle.policy_decls.specs.Lookup.{hardware_in, ifaces_in_part, ifaces_in, is_managed_router}
use Rattle.policy_decls.specs.Names.{Mention, mention, mention_port, TagName, names_in_net_part, names_in_rout_part, names_in}
use Rattle.policy_decls.specs.Uses.{uses_in_set, uses_in_prt, uses_in_if_part, uses_in_rout_part, uses_in_area_part, uses_in_any_part, uses_in_rule, uses_in_objects, uses_in}
use Rattle.syntax_laws.specs.Shown.{IsShownBy, IsIfaceOf}
use Rattle.syntax_laws.specs.WordsIn.{perhaps_in, word_in, port_words, set_words, net_words, idle_words, iface_words, router_words, area_words, any_words, prt_words, rule_words, words_in}
use Rattle.syntax_laws.proofs.Phrases.{halves}

module _ (S : Lexeme → Type 0) where
  abbrev Each : List Lexeme → Type 0
  Each words = AllByRecursion S words

  abbrev Shown : List Mention → Type 0
  Shown names = AllByRecursion (IsShownBy S) names

  -- ---- lists

  appended : {X : Type 0} (Q : X → Type 0) (xs ys : List X) → AllByRecursion Q xs → AllByRecursion Q ys → AllByRecursion Q (xs ++ ys)
  appended Q [] ys p q = q
  appended Q (x ∷ xs) ys p q = (p.0, appended Q xs ys p.1 q)

  in_each : {A B : Type 0} (Q : B → Type 0) (words : A → List Lexeme) (f : A → List B) → ((x : A) → Each (words x) → AllByRecursion Q (f x)) → (xs : List A) → Each (flat_map words xs) → AllByRecursion Q (flat_map f xs)
  in_each Q words f s [] h = tt
  in_each Q words f s (x ∷ xs) h = let both = halves S (words x) (flat_map words xs) h in appended Q (f x) (flat_map f xs) (s x both.0) (in_each Q words f s xs both.1)

  -- the words behind a description
  behind : (desc : Option Lexeme) (words : List Lexeme) → Each (perhaps_in word_in desc ++ words) → Each words
  behind desc words h = (halves S (perhaps_in word_in desc) words h).1

  -- ---- the names that a declaration gives

  net_part_names : (net : Lexeme) → S net → (part : NetPartText) → Each (net_words part) → Shown (names_in_net_part net part)
  net_part_names net s (NetIp prefix) h = tt
  net_part_names net s (NetHost name parts) h = (h.0, tt)
  net_part_names net s (NetNat name parts) h = (h.0, tt)
  net_part_names net s (NetIdle idle) h = tt

  rout_part_names : (router : Lexeme) → S router → (part : RoutPartText) → Each (router_words part) → Shown (names_in_rout_part router part)
  rout_part_names router s (RoutManaged filter) h = tt
  rout_part_names router s (RoutModel model) h = tt
  rout_part_names router s (RoutRouting routing) h = tt
  rout_part_names router s (RoutIface name parts) h = ((s, h.0), tt)
  rout_part_names router s (RoutIdle idle) h = tt

  names_shown : (decl : DeclText) → Each (words_in decl) → Shown (names_in decl)
  names_shown (NetworkDecl name desc parts) h = (h.0, in_each (IsShownBy S) net_words (names_in_net_part name) (net_part_names name h.0) parts (behind desc (flat_map net_words parts) h.1))
  names_shown (RouterDecl name desc parts) h = (h.0, in_each (IsShownBy S) router_words (names_in_rout_part name) (rout_part_names name h.0) parts (behind desc (flat_map router_words parts) h.1))
  names_shown (GroupDecl name desc objects) h = (h.0, tt)
  names_shown (AreaDecl name desc parts) h = (h.0, tt)
  names_shown (AggregateDecl name desc parts) h = (h.0, tt)
  names_shown (ProtocolDecl name protocol notes) h = (h.0, tt)
  names_shown (ProtocolGroupDecl name prts) h = (h.0, tt)
  names_shown (RestrictionDecl name desc ports) h = (h.0, tt)
  names_shown (ServiceDecl name desc idle user rules) h = (h.0, tt)

  -- ---- the names that a declaration uses

  set_uses : (e : SetText) → Each (set_words e) → Shown (uses_in_set e)
  set_uses NoParts h = tt
  set_uses (NetworkNamed name) h = (h.0, tt)
  set_uses (HostNamed name) h = (h.0, tt)
  set_uses (PortNamed port) h = ((h.0, h.1.0), tt)
  set_uses (GroupNamed name) h = (h.0, tt)
  set_uses (AggregateNamed name) h = (h.0, tt)
  set_uses (AreaNamed name) h = (h.0, tt)
  set_uses UserNamed h = tt
  set_uses (NetworksIn e) h = set_uses e h
  set_uses (HostsIn e) h = set_uses e h
  set_uses (ZonesIn only e) h = set_uses e (behind only (set_words e) h)
  set_uses (Joining e f) h = let both = halves S (set_words e) (set_words f) h in appended (IsShownBy S) (uses_in_set e) (uses_in_set f) (set_uses e both.0) (set_uses f both.1)
  set_uses (Keeping e f) h = let both = halves S (set_words e) (set_words f) h in appended (IsShownBy S) (uses_in_set e) (uses_in_set f) (set_uses e both.0) (set_uses f both.1)
  set_uses (Leaving e f) h = let both = halves S (set_words e) (set_words f) h in appended (IsShownBy S) (uses_in_set e) (uses_in_set f) (set_uses e both.0) (set_uses f both.1)

  prt_uses : (prt : PrtText) → Each (prt_words prt) → Shown (uses_in_prt prt)
  prt_uses (PrtSimple protocol) h = tt
  prt_uses (PrtProtocol name) h = (h.0, tt)
  prt_uses (PrtGroup name) h = (h.0, tt)

  tags_shown : (tags : List Lexeme) → Each tags → Shown (map (mention TagName) tags)
  tags_shown [] h = tt
  tags_shown (tag ∷ tags) h = (h.0, tags_shown tags h.1)

  ports_shown : (ports : List PortText) → Each (flat_map port_words ports) → Shown (map mention_port ports)
  ports_shown [] h = tt
  ports_shown (port ∷ ports) h = ((h.0, h.1.0), ports_shown ports h.1.1)

  if_part_uses : (part : IfPartText) → Each (iface_words part) → Shown (uses_in_if_part part)
  if_part_uses (IfIp address) h = tt
  if_part_uses (IfHardware hardware) h = tt
  if_part_uses (IfBindNat tags) h = tags_shown tags h
  if_part_uses (IfVirtual parts) h = tt
  if_part_uses (IfIdle idle) h = tt

  rout_part_uses : (part : RoutPartText) → Each (router_words part) → Shown (uses_in_rout_part part)
  rout_part_uses (RoutManaged filter) h = tt
  rout_part_uses (RoutModel model) h = tt
  rout_part_uses (RoutRouting routing) h = tt
  rout_part_uses (RoutIface name parts) h = (h.0, in_each (IsShownBy S) iface_words uses_in_if_part if_part_uses parts h.1)
  rout_part_uses (RoutIdle idle) h = tt

  area_part_uses : (part : AreaPartText) → Each (area_words part) → Shown (uses_in_area_part part)
  area_part_uses (AreaAnchor name) h = (h.0, tt)
  area_part_uses (AreaBorder ports) h = ports_shown ports h
  area_part_uses (AreaIdle idle) h = tt

  any_part_uses : (part : AnyPartText) → Each (any_words part) → Shown (uses_in_any_part part)
  any_part_uses (AnyLink name) h = (h.0, tt)
  any_part_uses (AnyIp prefix) h = tt
  any_part_uses (AnyIdle idle) h = tt

  rule_uses : (rule : RuleText) → Each (rule_words rule) → Shown (uses_in_rule rule)
  rule_uses rule h =
      let one = halves S (set_words rule.src) (set_words rule.dst ++ flat_map prt_words rule.prts) h in
      let two = halves S (set_words rule.dst) (flat_map prt_words rule.prts) one.1 in
      appended (IsShownBy S) (uses_in_set rule.src ++ uses_in_set rule.dst) (flat_map uses_in_prt rule.prts)
      (appended (IsShownBy S) (uses_in_set rule.src) (uses_in_set rule.dst) (set_uses rule.src one.0) (set_uses rule.dst two.0))
      (in_each (IsShownBy S) prt_words uses_in_prt prt_uses rule.prts two.1)

  objects_uses : (objects : Option SetText) → Each (perhaps_in set_words objects) → Shown (uses_in_objects objects)
  objects_uses None h = tt
  objects_uses (Some e) h = set_uses e h

  uses_shown : (decl : DeclText) → Each (words_in decl) → Shown (uses_in decl)
  uses_shown (NetworkDecl name desc parts) h = tt
  uses_shown (RouterDecl name desc parts) h = in_each (IsShownBy S) router_words uses_in_rout_part rout_part_uses parts (behind desc (flat_map router_words parts) h.1)
  uses_shown (GroupDecl name desc objects) h = objects_uses objects (behind desc (perhaps_in set_words objects) h.1)
  uses_shown (AreaDecl name desc parts) h = in_each (IsShownBy S) area_words uses_in_area_part area_part_uses parts (behind desc (flat_map area_words parts) h.1)
  uses_shown (AggregateDecl name desc parts) h = in_each (IsShownBy S) any_words uses_in_any_part any_part_uses parts (behind desc (flat_map any_words parts) h.1)
  uses_shown (ProtocolDecl name protocol notes) h = tt
  uses_shown (ProtocolGroupDecl name prts) h = in_each (IsShownBy S) prt_words uses_in_prt prt_uses prts h.1
  uses_shown (RestrictionDecl name desc ports) h = ports_shown ports (behind desc (flat_map port_words ports) h.1)
  uses_shown (ServiceDecl name desc idle user rules) h =
      let rest = (halves S (flat_map idle_words idle) (set_words user ++ flat_map rule_words rules) (behind desc (flat_map idle_words idle ++ (set_words user ++ flat_map rule_words rules)) h.1)).1 in
      let two = halves S (set_words user) (flat_map rule_words rules) rest in
      appended (IsShownBy S) (uses_in_set user) (flat_map uses_in_rule rules) (set_uses user two.0) (in_each (IsShownBy S) rule_words uses_in_rule rule_uses rules two.1)

  -- ---- interfaces

  hardware_of : (part : IfPartText) → Each (iface_words part) → Each (hardware_in part)
  hardware_of (IfIp address) h = tt
  hardware_of (IfHardware hardware) h = h
  hardware_of (IfBindNat tags) h = tt
  hardware_of (IfVirtual parts) h = tt
  hardware_of (IfIdle idle) h = tt

  iface_of : (router : Lexeme) (managed : Bool) → S router → (part : RoutPartText) → Each (router_words part) → AllByRecursion (IsIfaceOf S) (ifaces_in_part router managed part)
  iface_of router managed s (RoutManaged filter) h = tt
  iface_of router managed s (RoutModel model) h = tt
  iface_of router managed s (RoutRouting routing) h = tt
  iface_of router managed s (RoutIface name parts) h = (record { router = s; net = h.0; hardware = All-from_recursion S (flat_map hardware_in parts) (in_each S iface_words hardware_in hardware_of parts h.1) }, tt)
  iface_of router managed s (RoutIdle idle) h = tt

  ifaces_of : (decl : DeclText) → Each (words_in decl) → AllByRecursion (IsIfaceOf S) (ifaces_in decl)
  ifaces_of (NetworkDecl name desc parts) h = tt
  ifaces_of (RouterDecl name desc parts) h = in_each (IsIfaceOf S) router_words (ifaces_in_part name (is_managed_router parts)) (iface_of name (is_managed_router parts) h.0) parts (behind desc (flat_map router_words parts) h.1)
  ifaces_of (GroupDecl name desc objects) h = tt
  ifaces_of (AreaDecl name desc parts) h = tt
  ifaces_of (AggregateDecl name desc parts) h = tt
  ifaces_of (ProtocolDecl name protocol notes) h = tt
  ifaces_of (ProtocolGroupDecl name prts) h = tt
  ifaces_of (RestrictionDecl name desc ports) h = tt
  ifaces_of (ServiceDecl name desc idle user rules) h = tt

-- ---- each word of a declaration is one

own_words : (words : List Lexeme) → AllByRecursion (Contains words) words
own_words words = recursion_from_All (Contains words) words (λ k d lt. (k, lt, same words k d lt))
  where
    same : (ws : List Lexeme) (k : ℕ) (d : Lexeme) → k < length ws → get_or ws k (get_or ws k d) ≡ get_or ws k d
    same ws k d lt = get_or_default ws k (get_or ws k d) d lt

pub names_are_shown : (decl : DeclText) → All (IsShownBy (Contains (words_in decl))) (names_in decl)
names_are_shown decl = All-from_recursion (IsShownBy (Contains (words_in decl))) (names_in decl) (names_shown (Contains (words_in decl)) decl (own_words (words_in decl)))

pub uses_are_shown : (decl : DeclText) → All (IsShownBy (Contains (words_in decl))) (uses_in decl)
uses_are_shown decl = All-from_recursion (IsShownBy (Contains (words_in decl))) (uses_in decl) (uses_shown (Contains (words_in decl)) decl (own_words (words_in decl)))

pub ifaces_are_words : (decl : DeclText) → All (IsIfaceOf (Contains (words_in decl))) (ifaces_in decl)
ifaces_are_words decl = All-from_recursion (IsIfaceOf (Contains (words_in decl))) (ifaces_in decl) (ifaces_of (Contains (words_in decl)) decl (own_words (words_in decl)))
