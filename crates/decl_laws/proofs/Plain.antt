-- The boxes of rules are plain: their numbers are in their ranges, and none asks for established segments alone.
use Rattle.std.proofs.Common.{◌≡◌, ℕ, zero, suc, inl, inr, Bool, true, false, ◌||◌, cond, List, [], ◌∷◌, take, refl, sym, ap, subst, ◌∙◌, eqb, arith}
use Rattle.std.specs.Prelude.{IsTrue, Option, Some, None, option_map, flat_map, nat_lt}
use Rattle.std.specs.List.{All, list_any, list_all}
use Rattle.std.proofs.lemmas.Bool.{or_parts, ltb-false, eq-eqb, false≢true}
use Rattle.std.proofs.lemmas.Option.{none-some, cond_some}
use Rattle.std.specs.Str.{bytes_eq}
use Rattle.spoc_base.specs.Boxes.{TransportBox, AnyTransport, TcpPorts, UdpPorts, IcmpTypes, ProtocolNumber, IsOtherProtocol}
use Rattle.spoc_base.specs.PlainSets.{IsPorts, IsByteAsked, IsPlainSet}
use Rattle.policy_model.specs.Lists.{is_nothing, has}
use Rattle.policy_model.specs.Policy.{Rule, Service}
use Rattle.policy_model.specs.PlainRules.{HasPlainRules}
use Rattle.policy_model.proofs.AllWalks.{IsIn, from_map}
use Rattle.list_laws.proofs.Members.{each_in}
use Rattle.list_laws.proofs.Tables.{from_flat_map}
use Rattle.spoc_ast.specs.Written.{Lexeme, SimpleText, SimpleIp, SimpleTcp, SimpleUdp, SimpleIcmp, SimpleProto, PrtText, PrtSimple, PrtProtocol, PrtGroup, RuleText, DeclText, NetworkDecl, RouterDecl, GroupDecl, AreaDecl, AggregateDecl, ProtocolDecl, ProtocolGroupDecl, RestrictionDecl, ServiceDecl}
use Rattle.policy_decls.specs.Numbers.{number_of, spread, cut_at, both, port_pair_of, kind_of, icmp_of, is_bad_range, is_bad_number, is_bad_protocol, holds_of, is_bad_simple, interval_from, box_or_any, box_in}
use Rattle.policy_decls.specs.Lookup.{first_given, or_nothing}
use Rattle.policy_decls.specs.Shapes.{is_bad_prt, sets_in_rule, lacks_user, ask_unaligned, name_bare_port}
use Rattle.policy_decls.specs.Said.{protocol_called, protocol_group_called, prts_of, box_of_prt, boxes_in, most_nested, most_boxes, rule_in, adds_of, policy_said}
use Rattle.policy_decls.specs.Faults.{fault_of}
use Rattle.policy_decls.specs.Formed.{are_formed}
use Rattle.decl_laws.proofs.Rows.{HasNoFault, no_rows}
use Rattle.decl_laws.proofs.Places.{at_each}
use Rattle.decl_laws.proofs.Taken.{row_clear}
use Rattle.decl_laws.proofs.Shaped.{none_in, shape_of}
use Rattle.decl_laws.proofs.Equipped.{given_in}

-- what is in the front of a list is in the list
from_take : {A : Type 0} (x : A) (n : ℕ) (xs : List A) → IsIn x (take n xs) → IsIn x xs
from_take x zero xs h = absurd h
from_take x (suc n) [] h = absurd h
from_take x (suc n) (y ∷ ys) (inl e) = inl e
from_take x (suc n) (y ∷ ys) (inr h) = inr (from_take x n ys h)

-- ---- one protocol

ports_plain : (r : ℕ × ℕ) → is_bad_range r ≡ false → IsPorts (interval_from r)
ports_plain r h =
    let a = or_parts (nat_lt 65535 r.0) (nat_lt 65535 r.1 || nat_lt r.1 r.0) h in
    let b = or_parts (nat_lt 65535 r.1) (nat_lt r.1 r.0) a.1 in
    let high = ltb-false 65535 r.1 b.0 in
    let order = ltb-false r.1 r.0 b.1 in
    (omega (arith, order), omega (arith, high))

tcp_plain : (o : Option ((ℕ × ℕ) × (ℕ × ℕ))) → holds_of (λ pair. is_bad_range pair.0 || is_bad_range pair.1) o ≡ false →
    IsPlainSet (box_or_any (option_map (λ pair. TcpPorts (interval_from pair.0) (interval_from pair.1) false) o))
tcp_plain None h = record { box = tt; set = tt; unmarked = tt }
tcp_plain (Some pair) h = let w = or_parts (is_bad_range pair.0) (is_bad_range pair.1) h in record { box = (ports_plain pair.0 w.0, ports_plain pair.1 w.1); set = tt; unmarked = refl }

udp_plain : (o : Option ((ℕ × ℕ) × (ℕ × ℕ))) → holds_of (λ pair. is_bad_range pair.0 || is_bad_range pair.1) o ≡ false →
    IsPlainSet (box_or_any (option_map (λ pair. UdpPorts (interval_from pair.0) (interval_from pair.1)) o))
udp_plain None h = record { box = tt; set = tt; unmarked = tt }
udp_plain (Some pair) h = let w = or_parts (is_bad_range pair.0) (is_bad_range pair.1) h in record { box = (ports_plain pair.0 w.0, ports_plain pair.1 w.1); set = tt; unmarked = tt }

byte_plain : (n : ℕ) → nat_lt 255 n ≡ false → IsByteAsked (Some n)
byte_plain n h = let w = ltb-false 255 n h in omega (arith, w)

abbrev bad_icmp : Option ℕ × Option ℕ → Bool
bad_icmp kind = is_bad_number kind.0 || is_bad_number kind.1

abbrev icmp_box : Option (Option ℕ × Option ℕ) → TransportBox
icmp_box o = box_or_any (option_map (λ kind. IcmpTypes kind.0 kind.1) o)

kind_plain : (o : Option ℕ) → holds_of bad_icmp (option_map (λ k. (Some k, None)) o) ≡ false → IsPlainSet (icmp_box (option_map (λ k. (Some k, None)) o))
kind_plain None h = record { box = tt; set = tt; unmarked = tt }
kind_plain (Some k) h = let w = or_parts (nat_lt 255 k) false h in record { box = (byte_plain k w.0, tt); set = tt; unmarked = tt }

code_plain : (o : Option (ℕ × ℕ)) → holds_of bad_icmp (option_map (λ n. (Some n.0, Some n.1)) o) ≡ false → IsPlainSet (icmp_box (option_map (λ n. (Some n.0, Some n.1)) o))
code_plain None h = record { box = tt; set = tt; unmarked = tt }
code_plain (Some n) h = let w = or_parts (nat_lt 255 n.0) (nat_lt 255 n.1) h in record { box = (byte_plain n.0 w.0, byte_plain n.1 w.1); set = tt; unmarked = tt }

icmp_plain : (text : List ℕ) → holds_of bad_icmp (icmp_of text) ≡ false → IsPlainSet (icmp_box (icmp_of text))
icmp_plain text h = by (is_nothing text) (cut_at 47 text) h
  where
    by : (b : Bool) (o : Option (List ℕ × List ℕ)) → holds_of bad_icmp (cond b (Some (None, None)) (kind_of o text)) ≡ false → IsPlainSet (icmp_box (cond b (Some (None, None)) (kind_of o text)))
    by true o h = record { box = (tt, tt); set = tt; unmarked = tt }
    by false None h = kind_plain (number_of text) h
    by false (Some parts) h = code_plain (both (number_of parts.0) (number_of parts.1)) h

number_plain : (o : Option ℕ) → holds_of is_bad_protocol o ≡ false → IsPlainSet (box_or_any (option_map ProtocolNumber o))
number_plain None h = record { box = tt; set = tt; unmarked = tt }
number_plain (Some n) h =
    let a = or_parts (nat_lt 255 n) (has (0 ∷ 1 ∷ 6 ∷ 17 ∷ []) n) h in
    let high = ltb-false 255 n a.0 in
    let other : (m : ℕ) → IsIn m (0 ∷ 1 ∷ 6 ∷ 17 ∷ []) → n ≡ m → ⊥ = λ m g e. false≢true (sym (none_in (λ x. eqb x n) (0 ∷ 1 ∷ 6 ∷ 17 ∷ []) a.1 m g) ∙ eq-eqb m n (sym e)) in
    let proper : IsOtherProtocol n = (omega (arith, high), other 0 (inl refl), other 1 (inr (inl refl)), other 6 (inr (inr (inl refl))), other 17 (inr (inr (inr (inl refl))))) in
    record { box = proper; set = proper; unmarked = tt }

pub simple_plain : (s : SimpleText) → is_bad_simple s ≡ false → IsPlainSet (box_in s)
simple_plain SimpleIp h = record { box = tt; set = tt; unmarked = tt }
simple_plain (SimpleTcp words) h = tcp_plain (port_pair_of (spread words)) h
simple_plain (SimpleUdp words) h = udp_plain (port_pair_of (spread words)) h
simple_plain (SimpleIcmp words) h = icmp_plain (spread words) h
simple_plain (SimpleProto number) h = number_plain (number_of number.text) h

-- ---- the protocols of a rule

module _ (decls : List DeclText) (no_fault : HasNoFault decls) where
  called_good : (text : List ℕ) (prts : List PrtText) (d : DeclText) → IsIn d decls → protocol_called text d ≡ Some prts → (prt : PrtText) → IsIn prt prts → is_bad_prt prt ≡ false
  called_good text prts (ProtocolDecl name protocol notes) h e prt g =
      let s = shape_of decls no_fault.shape (ProtocolDecl name protocol notes) h in
      let bad : is_bad_simple protocol ≡ false = (row_clear 13 (is_bad_simple protocol) [] s.1).0 in
      let is : PrtSimple protocol ∷ [] ≡ prts = (cond_some (bytes_eq name.text text) (PrtSimple protocol ∷ []) prts e).1 in
      alone (subst (λ (l : List PrtText). IsIn prt l) (sym is) g) bad
    where
      alone : IsIn prt (PrtSimple protocol ∷ []) → is_bad_simple protocol ≡ false → is_bad_prt prt ≡ false
      alone (inl f) bad = ap is_bad_prt f ∙ bad
      alone (inr f) bad = absurd f
  called_good text prts (NetworkDecl name desc parts) h e prt g = absurd (none-some prts e)
  called_good text prts (RouterDecl name desc parts) h e prt g = absurd (none-some prts e)
  called_good text prts (GroupDecl name desc objects) h e prt g = absurd (none-some prts e)
  called_good text prts (AreaDecl name desc parts) h e prt g = absurd (none-some prts e)
  called_good text prts (AggregateDecl name desc parts) h e prt g = absurd (none-some prts e)
  called_good text prts (ProtocolGroupDecl name its_prts) h e prt g = absurd (none-some prts e)
  called_good text prts (RestrictionDecl name desc ports) h e prt g = absurd (none-some prts e)
  called_good text prts (ServiceDecl name desc idle user rules) h e prt g = absurd (none-some prts e)

  group_good : (text : List ℕ) (prts : List PrtText) (d : DeclText) → IsIn d decls → protocol_group_called text d ≡ Some prts → (prt : PrtText) → IsIn prt prts → is_bad_prt prt ≡ false
  group_good text prts (ProtocolGroupDecl name its_prts) h e prt g =
      let s = shape_of decls no_fault.shape (ProtocolGroupDecl name its_prts) h in
      let bad = (row_clear 13 (list_any is_bad_prt its_prts) [] s.1).0 in
      none_in is_bad_prt its_prts bad prt (subst (λ (l : List PrtText). IsIn prt l) (sym (cond_some (bytes_eq name.text text) its_prts prts e).1) g)
  group_good text prts (NetworkDecl name desc parts) h e prt g = absurd (none-some prts e)
  group_good text prts (RouterDecl name desc parts) h e prt g = absurd (none-some prts e)
  group_good text prts (GroupDecl name desc objects) h e prt g = absurd (none-some prts e)
  group_good text prts (AreaDecl name desc parts) h e prt g = absurd (none-some prts e)
  group_good text prts (AggregateDecl name desc parts) h e prt g = absurd (none-some prts e)
  group_good text prts (ProtocolDecl name protocol notes) h e prt g = absurd (none-some prts e)
  group_good text prts (RestrictionDecl name desc ports) h e prt g = absurd (none-some prts e)
  group_good text prts (ServiceDecl name desc idle user rules) h e prt g = absurd (none-some prts e)

  found_good : (find : DeclText → Option (List PrtText)) → ((prts : List PrtText) (d : DeclText) → IsIn d decls → find d ≡ Some prts → (prt : PrtText) → IsIn prt prts → is_bad_prt prt ≡ false) →
      (o : Option (List PrtText)) → first_given find decls ≡ o → (prt : PrtText) → IsIn prt (or_nothing o) → is_bad_prt prt ≡ false
  found_good find good None e prt h = absurd h
  found_good find good (Some prts) e prt h = let w = given_in find decls prts e in good prts w.0 w.1 w.2 prt h

  members_good : (prt : PrtText) → is_bad_prt prt ≡ false → (inner : PrtText) → IsIn inner (prts_of decls prt) → is_bad_prt inner ≡ false
  members_good (PrtSimple protocol) bad inner (inl e) = ap is_bad_prt e ∙ bad
  members_good (PrtSimple protocol) bad inner (inr h) = absurd h
  members_good (PrtProtocol name) bad inner h = found_good (protocol_called name.text) (called_good name.text) (first_given (protocol_called name.text) decls) refl inner h
  members_good (PrtGroup name) bad inner h = found_good (protocol_group_called name.text) (group_good name.text) (first_given (protocol_group_called name.text) decls) refl inner h

  own_plain : (prt : PrtText) → is_bad_prt prt ≡ false → (box : TransportBox) → IsIn box (box_of_prt prt) → IsPlainSet box
  own_plain (PrtSimple protocol) bad box (inl e) = subst IsPlainSet (sym e) (simple_plain protocol bad)
  own_plain (PrtSimple protocol) bad box (inr h) = absurd h
  own_plain (PrtProtocol name) bad box h = absurd h
  own_plain (PrtGroup name) bad box h = absurd h

  boxes_plain : (depth : ℕ) (prt : PrtText) → is_bad_prt prt ≡ false → (box : TransportBox) → IsIn box (boxes_in decls depth prt) → IsPlainSet box
  boxes_plain zero prt bad box h = own_plain prt bad box h
  boxes_plain (suc depth) prt bad box h =
      let w = from_flat_map (boxes_in decls depth) box (prts_of decls prt) h in
      boxes_plain depth w.0 (members_good prt bad w.0 w.1) box w.2

  services_plain : (x : Service) (d : DeclText) → IsIn d decls → IsIn x (adds_of decls d).services → (rule : Rule) → IsIn rule x.rules → (box : TransportBox) → IsIn box rule.boxes → IsPlainSet box
  services_plain x (ServiceDecl name desc idle user rules) h (inl e) rule g box k =
      let r = from_map (rule_in decls) rule rules (subst (λ (s : Service). IsIn rule s.rules) e g) in
      let text : RuleText = r.0 in
      let p = from_flat_map (boxes_in decls most_nested) box text.prts (from_take box most_boxes (flat_map (boxes_in decls most_nested) text.prts) (subst (λ (y : Rule). IsIn box y.boxes) r.2 k)) in
      let s = shape_of decls no_fault.shape (ServiceDecl name desc idle user rules) h in
      let sets = user ∷ flat_map sets_in_rule rules in
      let last : List (ℕ × Bool) = (14, list_any lacks_user rules || name_bare_port decls sets) ∷ [] in
      let row : Bool = list_any (λ (y : RuleText). list_any is_bad_prt y.prts) rules in
      let bad = (row_clear 13 row last (row_clear 4 (ask_unaligned sets) ((13, row) ∷ last) s.1).1).0 in
      boxes_plain most_nested p.0 (none_in is_bad_prt text.prts (none_in (λ (y : RuleText). list_any is_bad_prt y.prts) rules bad text r.1) p.0 p.1) box p.2
  services_plain x (ServiceDecl name desc idle user rules) h (inr g) rule i box k = absurd g
  services_plain x (NetworkDecl name desc parts) h g rule i box k = absurd g
  services_plain x (RouterDecl name desc parts) h g rule i box k = absurd g
  services_plain x (GroupDecl name desc objects) h g rule i box k = absurd g
  services_plain x (AreaDecl name desc parts) h g rule i box k = absurd g
  services_plain x (AggregateDecl name desc parts) h g rule i box k = absurd g
  services_plain x (ProtocolDecl name protocol notes) h g rule i box k = absurd g
  services_plain x (ProtocolGroupDecl name prts) h g rule i box k = absurd g
  services_plain x (RestrictionDecl name desc ports) h g rule i box k = absurd g

  pub all_plain : HasPlainRules (policy_said decls)
  all_plain k d below =
      at_each (λ (service : Service). All (λ (rule : Rule). All IsPlainSet rule.boxes) service.rules) (policy_said decls).services d
      (λ x h. let w = from_flat_map (λ e. (adds_of decls e).services) x decls h in
      λ l rule_d low. at_each (λ (rule : Rule). All IsPlainSet rule.boxes) x.rules rule_d
      (λ rule g. λ m box_d under. at_each IsPlainSet rule.boxes box_d (λ box i. services_plain x w.0 w.1 w.2 rule g box i) m under) l low) k below

pub rules_plain : (decls : List DeclText) → fault_of decls ≡ None → HasPlainRules (policy_said decls)
rules_plain decls none = all_plain decls (no_rows decls none)
