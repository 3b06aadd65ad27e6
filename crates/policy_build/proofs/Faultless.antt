-- Declarations without a fault, whose words are parts of the sources, give what building the policy needs.
use Rattle.std.proofs.Common.{arith, ◌≡◌, ◌∙◌, refl, sym, ap, subst, inl, inr, ℕ, Bool, true, false, not, ◌||◌, cond, nat_lt, List, [], ◌∷◌, ◌++◌, flat_map, slice_get, Option, Some, None, is_some, option_and_then}
use Rattle.std.specs.List.{All, list_any, list_all}
use Rattle.std.proofs.lemmas.List.Elements.{All-nil, All-cons, All-head, All-tail}
use Rattle.std.proofs.lemmas.Option.{none-some}
use Rattle.std.proofs.lemmas.Bool.{or_parts, and_from, not-false, ltb-false}
use Rattle.spoc_base.specs.declared.place.Source.{Source}
use Rattle.policy_model.proofs.AllWalks.{IsIn, in_front, in_back, in_flat_map}
use Rattle.list_laws.proofs.Members.{each_in}
use Rattle.list_laws.proofs.Tables.{from_flat_map}
use Rattle.spoc_ast.specs.Written.{Lexeme, SetText, NoParts, NetworkNamed, HostNamed, PortNamed, GroupNamed, AggregateNamed, AreaNamed, UserNamed, NetworksIn, HostsIn, ZonesIn, Joining, Keeping, Leaving, HostPartText, NatPartText, NatIp, NetPartText, NetIp, NetHost, NetNat, NetIdle, IfPartText, IfIp, IfHardware, IfBindNat, IfVirtual, IfIdle, RoutPartText, RoutManaged, RoutModel, RoutRouting, RoutIface, RoutIdle, RuleText, DeclText, NetworkDecl, RouterDecl, GroupDecl, AreaDecl, AggregateDecl, ProtocolDecl, ProtocolGroupDecl, RestrictionDecl, ServiceDecl}
use Rattle.policy_decls.specs.Numbers.{prefix_of, is_bad_simple}
use Rattle.policy_decls.specs.Lookup.{ips_in_net_part, ips_in_nat_part, ips_in_nats, only_one, own_prefix}
use Rattle.policy_decls.specs.Shapes.{has_one, hosts_in, nats_in, spans_in, is_bad_host, is_unaligned, asked_in, sets_in_rule, sets_in_objects, ask_unaligned, is_bad_prt, ips_in_any_part}
use Rattle.policy_decls.specs.Said.{first_prefix, range_or_none}
use Rattle.policy_decls.specs.Formed.{says_prefix, is_formed_nat, is_formed_net, is_formed}
use Rattle.policy_decls.specs.Faults.{first_shape}
use Rattle.decl_laws.proofs.Shaped.{none_in, its_only, shape_of, formed_in, NetShape, net_shape}
use Rattle.policy_build.specs.Words.{IsNetPartOf, IsIfPartOf, IsRoutPartOf, IsDeclOf}
use Rattle.policy_build.specs.Aligned.{is_aligned_word, asks_aligned}
use Rattle.policy_build.specs.Fair.{declares_fair}
use Rattle.policy_build.specs.Good.{IsAligned, IsOrdered, IsGoodNetPart, IsGoodIfPart, IsGoodRoutPart, asks_aligned_objects, IsGoodRule, IsGood}
use Rattle.policy_build.proofs.Unions.{where_aligned}

-- ---- lists

module _ {A : Type 0} (P : A → Type 0) where
  pub all_of : (xs : List A) → ((x : A) → IsIn x xs → P x) → All P xs
  all_of [] h = All-nil P
  all_of (x ∷ xs) h = All-cons P x xs (h x (inl refl)) (all_of xs (λ y g. h y (inr g)))

  in_all : (xs : List A) (x : A) → All P xs → IsIn x xs → P x
  in_all [] x h g = absurd g
  in_all (y ∷ ys) x h (inl e) = subst P (sym e) (All-head P y ys h)
  in_all (y ∷ ys) x h (inr g) = in_all ys x (All-tail P y ys h) g

none_any : {A : Type 0} (test : A → Bool) (xs : List A) → ((x : A) → IsIn x xs → test x ≡ false) → list_any test xs ≡ false
none_any test [] h = refl
none_any test (x ∷ xs) h = ap (λ b. b || list_any test xs) (h x (inl refl)) ∙ none_any test xs (λ y g. h y (inr g))

not_all : {A : Type 0} (test : A → Bool) (xs : List A) → list_any test xs ≡ false → list_all (λ x. not (test x)) xs ≡ true
not_all test [] h = refl
not_all test (x ∷ xs) h =
    let w = or_parts (test x) (list_any test xs) h in
    and_from (not (test x)) (list_all (λ y. not (test y)) xs) (ap not w.0) (not_all test xs w.1)

absent_row : (n : ℕ) (b : Bool) (rest : Option ℕ) → cond b (Some n) rest ≡ None → (b ≡ false) × (rest ≡ None)
absent_row n true rest e = absurd (none-some n (sym e))
absent_row n false rest e = (refl, e)

-- ---- prefixes

prefix_aligned : (w : Lexeme) → is_unaligned w ≡ false → IsAligned (prefix_of w.text)
prefix_aligned w h = where_aligned (prefix_of w.text) (ap not h)

only_aligned : (ws : List Lexeme) → list_any is_unaligned ws ≡ false → IsAligned (option_and_then (λ w. prefix_of w.text) (only_one ws))
only_aligned [] h = refl
only_aligned (w ∷ []) h = prefix_aligned w (or_parts (is_unaligned w) false h).0
only_aligned (v ∷ w ∷ ws) h = refl

first_aligned : (ws : List Lexeme) → list_any is_unaligned ws ≡ false → IsAligned (first_prefix ws)
first_aligned [] h = refl
first_aligned (w ∷ ws) h = prefix_aligned w (or_parts (is_unaligned w) (list_any is_unaligned ws) h).0

-- ---- sets

word_asked : (only : Option Lexeme) (e : SetText) → list_any is_unaligned (asked_in (ZonesIn only e)) ≡ false → (is_aligned_word only ≡ true) × (list_any is_unaligned (asked_in e) ≡ false)
word_asked None e h = (refl, h)
word_asked (Some w) e h = let v = or_parts (is_unaligned w) (list_any is_unaligned (asked_in e)) h in (ap not v.0, v.1)

any_halves : (xs ys : List Lexeme) → list_any is_unaligned (xs ++ ys) ≡ false → (list_any is_unaligned xs ≡ false) × (list_any is_unaligned ys ≡ false)
any_halves xs ys h =
    (none_any is_unaligned xs (λ x g. none_in is_unaligned (xs ++ ys) h x (in_front x xs ys g)), none_any is_unaligned ys (λ x g. none_in is_unaligned (xs ++ ys) h x (in_back x xs ys g)))

set_aligned : (e : SetText) → list_any is_unaligned (asked_in e) ≡ false → asks_aligned e ≡ true
set_aligned NoParts h = refl
set_aligned (NetworkNamed name) h = refl
set_aligned (HostNamed name) h = refl
set_aligned (PortNamed port) h = refl
set_aligned (GroupNamed name) h = refl
set_aligned (AggregateNamed name) h = refl
set_aligned (AreaNamed name) h = refl
set_aligned UserNamed h = refl
set_aligned (NetworksIn e) h = set_aligned e h
set_aligned (HostsIn e) h = set_aligned e h
set_aligned (ZonesIn only e) h = let w = word_asked only e h in and_from (is_aligned_word only) (asks_aligned e) w.0 (set_aligned e w.1)
set_aligned (Joining e f) h = let w = any_halves (asked_in e) (asked_in f) h in and_from (asks_aligned e) (asks_aligned f) (set_aligned e w.0) (set_aligned f w.1)
set_aligned (Keeping e f) h = let w = any_halves (asked_in e) (asked_in f) h in and_from (asks_aligned e) (asks_aligned f) (set_aligned e w.0) (set_aligned f w.1)
set_aligned (Leaving e f) h = let w = any_halves (asked_in e) (asked_in f) h in and_from (asks_aligned e) (asks_aligned f) (set_aligned e w.0) (set_aligned f w.1)

sets_aligned : (sets : List SetText) → ask_unaligned sets ≡ false → (e : SetText) → IsIn e sets → asks_aligned e ≡ true
sets_aligned sets h e g = set_aligned e (none_any is_unaligned (asked_in e) (λ w i. none_in is_unaligned (flat_map asked_in sets) h w (in_flat_map asked_in e w sets g i)))

-- ---- networks

first_ordered : (spans : List (ℕ × ℕ)) → list_any (λ r. nat_lt r.1 r.0) spans ≡ false → IsOrdered (range_or_none (slice_get spans 0))
first_ordered [] h = omega arith
first_ordered (r ∷ rs) h = let f = ltb-false r.1 r.0 (or_parts (nat_lt r.1 r.0) (list_any (λ s. nat_lt s.1 s.0) rs) h).0 in omega (arith, f)

host_ordered : (parts : List HostPartText) → is_bad_host parts ≡ false → IsOrdered (range_or_none (slice_get (flat_map spans_in parts) 0))
host_ordered parts h = first_ordered (flat_map spans_in parts) (or_parts (not (has_one (flat_map spans_in parts))) (list_any (λ r. nat_lt r.1 r.0) (flat_map spans_in parts)) h).1

module _ (sources : List Source) (parts : List NetPartText) (shape : NetShape parts) (formed : list_all is_formed_net parts ≡ true) where
  abbrev all_ips : List Lexeme
  all_ips = flat_map ips_in_net_part parts ++ flat_map ips_in_nats parts

  own_good : IsAligned (own_prefix parts)
  own_good =
      only_aligned (flat_map ips_in_net_part parts)
      (none_any is_unaligned (flat_map ips_in_net_part parts) (λ w g. none_in is_unaligned all_ips shape.aligned w (in_front w (flat_map ips_in_net_part parts) (flat_map ips_in_nats parts) g)))

  net_part : (part : NetPartText) → IsIn part parts → IsNetPartOf sources part → IsGoodNetPart sources part
  net_part (NetIp prefix) g w = tt
  net_part (NetHost name ps) g w = (w, host_ordered ps (none_in is_bad_host (flat_map hosts_in parts) shape.hosts ps (in_flat_map hosts_in (NetHost name ps) ps parts g (inl refl))))
  net_part (NetNat name ps) g w =
      let ips = flat_map ips_in_nat_part ps in
      let aligned = first_aligned ips (none_any is_unaligned ips (λ x i. none_in is_unaligned all_ips shape.aligned x
      (in_back x (flat_map ips_in_net_part parts) (flat_map ips_in_nats parts) (in_flat_map ips_in_nats (NetNat name ps) x parts g i)))) in
      (w, aligned)
  net_part (NetIdle idle) g w = tt

  net_parts : All (IsNetPartOf sources) parts → All (IsGoodNetPart sources) parts
  net_parts words = all_of (IsGoodNetPart sources) parts (λ x g. net_part x g (in_all (IsNetPartOf sources) parts x words g))

-- ---- routers

if_part : (sources : List Source) (part : IfPartText) → IsIfPartOf sources part → IsGoodIfPart sources part
if_part sources (IfIp address) w = w
if_part sources (IfHardware hardware) w = w
if_part sources (IfBindNat tags) w = w
if_part sources (IfVirtual parts) w = w
if_part sources (IfIdle idle) w = w

rout_part : (sources : List Source) (part : RoutPartText) → IsRoutPartOf sources part → IsGoodRoutPart sources part
rout_part sources (RoutManaged filter) w = w
rout_part sources (RoutModel model) w = w
rout_part sources (RoutRouting routing) w = w
rout_part sources (RoutIface name parts) w = (w.0, all_of (IsGoodIfPart sources) parts (λ x g. if_part sources x (in_all (IsIfPartOf sources) parts x w.1 g)))
rout_part sources (RoutIdle idle) w = w

-- ---- groups and rules

objects_aligned : (objects : Option SetText) → ask_unaligned (sets_in_objects objects) ≡ false → asks_aligned_objects objects ≡ true
objects_aligned None h = refl
objects_aligned (Some e) h = sets_aligned (e ∷ []) h e (inl refl)

rule_good : (user : SetText) (rules : List RuleText) → ask_unaligned (user ∷ flat_map sets_in_rule rules) ≡ false → list_any (λ rule. list_any is_bad_prt rule.prts) rules ≡ false
    → (rule : RuleText) → IsIn rule rules → IsGoodRule rule
rule_good user rules h bad rule g =
    let sets = user ∷ flat_map sets_in_rule rules in (
      sets_aligned sets h rule.src (inr (in_flat_map sets_in_rule rule rule.src rules g (inl refl))),
      sets_aligned sets h rule.dst (inr (in_flat_map sets_in_rule rule rule.dst rules g (inr (inl refl)))),
      not_all is_bad_prt rule.prts (none_in (λ r. list_any is_bad_prt r.prts) rules bad rule g),
    )

-- ---- declarations

module _ (sources : List Source) (decls : List DeclText) (none : first_shape decls ≡ None) (formed : list_all is_formed decls ≡ true) where
  decl_good : (d : DeclText) → IsIn d decls → IsDeclOf sources d → IsGood sources d
  decl_good (NetworkDecl name desc parts) g w =
      let s = shape_of decls none (NetworkDecl name desc parts) g in
      let shape = net_shape decls s.0 name desc parts s.1 in
      let f : list_all is_formed_net parts ≡ true = formed_in decls formed (NetworkDecl name desc parts) g in
      (w.0, own_good sources parts shape f, net_parts sources parts shape f w.1)
  decl_good (RouterDecl name desc parts) g w = (w.0, all_of (IsGoodRoutPart sources) parts (λ x i. rout_part sources x (in_all (IsRoutPartOf sources) parts x w.1 i)))
  decl_good (GroupDecl name desc objects) g w =
      let s = shape_of decls none (GroupDecl name desc objects) g in
      (w, objects_aligned objects (absent_row 4 (ask_unaligned (sets_in_objects objects)) _ s.1).0)
  decl_good (AreaDecl name desc parts) g w = w
  decl_good (AggregateDecl name desc parts) g w =
      let s = shape_of decls none (AggregateDecl name desc parts) g in
      (w, first_aligned (flat_map ips_in_any_part parts) (absent_row 4 (list_any is_unaligned (flat_map ips_in_any_part parts)) _ s.1).0)
  decl_good (ProtocolDecl name protocol notes) g w = tt
  decl_good (ProtocolGroupDecl name prts) g w = tt
  decl_good (RestrictionDecl name desc ports) g w = w
  decl_good (ServiceDecl name desc idle user rules) g w =
      let sets = user ∷ flat_map sets_in_rule rules in
      let s = shape_of decls none (ServiceDecl name desc idle user rules) g in
      let a = absent_row 4 (ask_unaligned sets) _ s.1 in
      let b = absent_row 13 (list_any (λ rule. list_any is_bad_prt rule.prts) rules) _ a.1 in
      (w, sets_aligned sets a.0 user (inl refl), all_of IsGoodRule rules (rule_good user rules a.0 b.0))

  pub all_good : All (IsDeclOf sources) decls → All (IsGood sources) decls
  all_good words = all_of (IsGood sources) decls (λ d g. decl_good d g (in_all (IsDeclOf sources) decls d words g))

module _ (decls : List DeclText) (none : first_shape decls ≡ None) where
  decl_fair : (d : DeclText) → IsIn d decls → declares_fair d ≡ true
  decl_fair (NetworkDecl name desc parts) g = refl
  decl_fair (RouterDecl name desc parts) g = refl
  decl_fair (GroupDecl name desc objects) g = refl
  decl_fair (AreaDecl name desc parts) g = refl
  decl_fair (AggregateDecl name desc parts) g = refl
  decl_fair (ProtocolDecl name protocol notes) g = let s = shape_of decls none (ProtocolDecl name protocol notes) g in ap not (absent_row 13 (is_bad_simple protocol) None s.1).0
  decl_fair (ProtocolGroupDecl name prts) g = let s = shape_of decls none (ProtocolGroupDecl name prts) g in not_all is_bad_prt prts (absent_row 13 (list_any is_bad_prt prts) None s.1).0
  decl_fair (RestrictionDecl name desc ports) g = refl
  decl_fair (ServiceDecl name desc idle user rules) g = refl

  fair_from : (xs : List DeclText) → ((d : DeclText) → IsIn d xs → declares_fair d ≡ true) → list_all declares_fair xs ≡ true
  fair_from [] h = refl
  fair_from (x ∷ xs) h = and_from (declares_fair x) (list_all declares_fair xs) (h x (inl refl)) (fair_from xs (λ y g. h y (inr g)))

  pub all_fair : list_all declares_fair decls ≡ true
  all_fair = fair_from decls decl_fair
