-- Each line of a printed text may stand where it stands.
use Rattle.std.proofs.Common.{◌≡◌, ◌≢◌, ◌∙◌, refl, sym, ap, subst, ℕ, eqb, Bool, true, false, cond, filter, List, [], ◌∷◌, ◌++◌, map, append_assoc, append-nil, codes, bytes_eq, Option, Some, None}
use Rattle.std.specs.List.{AllByRecursion, list_any, last_or}
use Rattle.std.proofs.lemmas.List.{append_cancel_right}
use Rattle.std.proofs.lemmas.List.Elements.{filter-append}
use Rattle.std.proofs.lemmas.List.Folds.{list_any-append}
use Rattle.std.proofs.lemmas.Bool.{false_from_ne_true, both_ways, or_from, or_right, or_left}
use Rattle.std.proofs.lemmas.Slice.Eq.{bytes_eq-Decides}
use Rattle.spoc_base.specs.Address.{Cidr}
use Rattle.spoc_base.specs.declared.dialect.Dialect.{Dialect}
use Rattle.spoc_base.specs.declared.dialect.Dialect.TheVariants.{Ios, Asa}
use Rattle.policy_model.specs.Filters.{Line}
use Rattle.policy_model.specs.Routes.{Route}
use Rattle.acl_print.specs.Words.{list_name}
use Rattle.device_reading.specs.Facts.{PortAt, Fact, OpensList, HasEntry, OpensPort}
use Rattle.spoc_base.specs.Spelling.{is_word_byte}
use Rattle.device_reading.specs.Grammar.{Lacks, IsWord, IsEnd, IsRoute, is_heading, owner, opens_list, opens_port, binds_port, has_hardware, port_for, IsFact, AreFacts}
use Rattle.text_laws.specs.Printable.{AreNamed, AreApart, IsPrintedEnd, IsPrintedLine, IsPrintedList, IsPrintedRoute}
use Rattle.text_laws.proofs.Pieces.{all_append}
use Rattle.text_laws.proofs.FactRead.{or_no_port}
use Rattle.text_laws.proofs.OneLine.{both, literal}
use Rattle.text_laws.proofs.Printed.{written_end, written, dialect_name, head_fact, route_fact, entry_facts, list_facts, lists_facts, binding_facts, bindings_facts}

-- ---- owners

module _ {A : Type 0} where
  last_more : (o : Option A) (xs : List A) (x : A) → last_or o (xs ++ x ∷ []) ≡ Some x
  last_more o [] x = refl
  last_more o (y ∷ ys) x = last_more (Some y) ys x

module _ (dialect : Dialect) (above : List Fact) (f : Fact) where
  pub owner_heading : is_heading dialect f ≡ true → owner dialect (above ++ f ∷ []) ≡ Some f
  owner_heading e =
      ap (last_or None) (filter-append (is_heading dialect) above (f ∷ []) ∙ ap (λ b. filter (is_heading dialect) above ++ cond b (f ∷ []) []) e)
      ∙ last_more None (filter (is_heading dialect) above) f

  pub owner_kept : is_heading dialect f ≡ false → owner dialect (above ++ f ∷ []) ≡ owner dialect above
  owner_kept e =
      ap (last_or None) (filter-append (is_heading dialect) above (f ∷ []) ∙ ap (λ b. filter (is_heading dialect) above ++ cond b (f ∷ []) []) e
      ∙ append-nil (filter (is_heading dialect) above))

-- ---- lines one after the other

module _ (dialect : Dialect) (ports : List PortAt) where
  pub facts_join : (above xs ys : List Fact) → AreFacts dialect ports above xs → AreFacts dialect ports (above ++ xs) ys → AreFacts dialect ports above (xs ++ ys)
  facts_join above [] ys h k = subst (λ l. AreFacts dialect ports l ys) (append-nil above) k
  facts_join above (x ∷ xs) ys h k =
      (h.0, facts_join (above ++ x ∷ []) xs ys h.1 (subst (λ l. AreFacts dialect ports l ys) (sym (append_assoc above (x ∷ []) xs)) k))

  pub facts_anywhere : (above xs : List Fact) → AllByRecursion (λ f. (lines : List Fact) → IsFact dialect ports lines f) xs → AreFacts dialect ports above xs
  facts_anywhere above [] h = tt
  facts_anywhere above (x ∷ xs) h = (h.0 above, facts_anywhere (above ++ x ∷ []) xs h.1)

-- ---- names

pub name_bytes : (hardware : List ℕ) → IsWord hardware → IsWord (list_name hardware)
name_bytes hardware w = record {
  some = some hardware;
  bytes = all_append (λ b. is_word_byte b ≡ true) hardware (codes "_in") w.bytes (refl, (refl, (refl, tt)));
}
  where
    some : (h : List ℕ) → h ++ codes "_in" ≢ []
    some [] e = cc
    some (b ∷ h) e = cc

pub other_name : (a b : List ℕ) → bytes_eq a b ≡ false → bytes_eq (list_name a) (list_name b) ≡ false
other_name a b e =
    false_from_ne_true (bytes_eq (list_name a) (list_name b))
    (λ f. both_ways (bytes_eq a b) e ((bytes_eq-Decides a b).1 (append_cancel_right a b (codes "_in") ((bytes_eq-Decides (list_name a) (list_name b)).0 f))))

pub same_bytes : (a : List ℕ) → bytes_eq a a ≡ true
same_bytes a = (bytes_eq-Decides a a).1 refl

pub other_way : (a b : List ℕ) → bytes_eq a b ≡ false → bytes_eq b a ≡ false
other_way a b e = false_from_ne_true (bytes_eq b a) (λ f. both_ways (bytes_eq a b) e ((bytes_eq-Decides a b).1 (sym ((bytes_eq-Decides b a).0 f))))

module _ {A : Type 0} (test : A → Bool) where
  pub none_more : (xs ys : List A) → list_any test xs ≡ false → list_any test ys ≡ false → list_any test (xs ++ ys) ≡ false
  none_more xs ys e f = list_any-append test xs ys ∙ or_from (list_any test xs) (list_any test ys) e f

  pub some_more : (xs ys : List A) → list_any test xs ≡ true → list_any test (xs ++ ys) ≡ true
  some_more xs ys e = list_any-append test xs ys ∙ or_left (list_any test xs) (list_any test ys) e

  pub some_before : (xs ys : List A) → list_any test ys ≡ true → list_any test (xs ++ ys) ≡ true
  some_before xs ys e = list_any-append test xs ys ∙ or_right (list_any test xs) (list_any test ys) e

-- ---- the head and the routes

ios_head_stands : (name : List ℕ) → Lacks 10 name → Lacks 10 ((codes " " ++ name) ++ dialect_name Ios)
ios_head_stands name h = both (codes " " ++ name) (dialect_name Ios) (both (codes " ") name (literal (codes " ") refl) h) (literal (codes " IOS") refl)

asa_head_stands : (name : List ℕ) → Lacks 10 name → Lacks 10 ((codes " " ++ name) ++ dialect_name Asa)
asa_head_stands name h = both (codes " " ++ name) (dialect_name Asa) (both (codes " ") name (literal (codes " ") refl) h) (literal (codes " ASA") refl)

pub head_stands : (dialect : Dialect) (ports : List PortAt) (above : List Fact) (name : List ℕ) → Lacks 10 name → IsFact dialect ports above (head_fact dialect name)
head_stands Ios ports above name h = ios_head_stands name h
head_stands Asa ports above name h = asa_head_stands name h

route_good : (ports : List PortAt) (r : Route) → IsPrintedRoute ports r → IsRoute ports (or_no_port (port_for ports r.gateway)) r.net r.gateway
route_good ports r h = record {
  net_good = h.net_good;
  gateway_good = h.gateway_good;
  port_good = h.port_good ∙ ap (λ p. Some (or_no_port p)) (sym h.port_good);
}

route_stands : (dialect : Dialect) (ports : List PortAt) (r : Route) → IsPrintedRoute ports r → (above : List Fact) → IsFact dialect ports above (route_fact ports r)
route_stands Ios ports r h above = route_good ports r h
route_stands Asa ports r h above = route_good ports r h

pub routes_stand : (dialect : Dialect) (ports : List PortAt) (above : List Fact) (routes : List Route) → AllByRecursion (IsPrintedRoute ports) routes →
    AreFacts dialect ports above (map (route_fact ports) routes)
routes_stand dialect ports above [] h = tt
routes_stand dialect ports above (r ∷ routes) h = (route_stands dialect ports r h.0 above, routes_stand dialect ports (above ++ route_fact ports r ∷ []) routes h.1)

-- ---- lists of IOS

ios_end_good : (above : List Fact) (ps : List Cidr) → IsPrintedEnd Ios ps → IsEnd Ios above (written_end [] ps)
ios_end_good above [] h = absurd h
ios_end_good above (p ∷ []) h = h
ios_end_good above (p ∷ q ∷ ps) h = absurd h

module _ (ports : List PortAt) where
  ios_entries_stand : (above : List Fact) (name : List ℕ) (lines : List Line) → owner Ios above ≡ Some (OpensList name) → AllByRecursion (IsPrintedLine Ios) lines →
      AreFacts Ios ports above (entry_facts [] name lines)
  ios_entries_stand above name [] o h = tt
  ios_entries_stand above name (l ∷ lines) o h =
      let f = HasEntry name (written [] l) in (
        (o, record { src = ios_end_good above l.src h.0.src; dst = ios_end_good above l.dst h.0.dst; box = h.0.box }),
        ios_entries_stand (above ++ f ∷ []) name lines (owner_kept Ios above f refl ∙ o) h.1,
      )

  -- the list of no such port was opened
  abbrev pub AreFresh : List Fact → List PortAt → Type 0
  AreFresh above rest = AllByRecursion (λ (p : PortAt). list_any (opens_list (list_name p.hardware)) above ≡ false) rest

  no_opening : (other name : List ℕ) (lines : List Line) → list_any (opens_list other) (entry_facts [] name lines) ≡ false
  no_opening other name [] = refl
  no_opening other name (l ∷ lines) = no_opening other name lines

  fresh_more : (above : List Fact) (port : PortAt) (lines : List Line) (rest : List PortAt) → AreFresh above rest →
      AllByRecursion (λ (q : PortAt). (bytes_eq port.hardware q.hardware ≡ false) × (eqb port.number q.number ≡ false)) rest → AreFresh (above ++ list_facts Ios [] port lines) rest
  fresh_more above port lines [] h k = tt
  fresh_more above port lines (q ∷ rest) h k = (
    none_more (opens_list (list_name q.hardware)) above (list_facts Ios [] port lines) h.0
        (or_from (bytes_eq (list_name port.hardware) (list_name q.hardware)) _ (other_name port.hardware q.hardware k.0.0) (no_opening (list_name q.hardware) (list_name port.hardware) lines)),
    fresh_more above port lines rest h.1 k.1,
  )

  pub ios_lists_stand : (above : List Fact) (rest : List PortAt) (lists : List (List Line)) → AreFresh above rest → AreNamed rest → AreApart rest → AllByRecursion (IsPrintedList Ios) lists →
      AreFacts Ios ports above (lists_facts Ios [] rest lists)
  ios_lists_stand above [] lists f n a h = tt
  ios_lists_stand above (port ∷ rest) [] f n a h = tt
  ios_lists_stand above (port ∷ rest) (lines ∷ lists) f n a h =
      let name = list_name port.hardware in
      let opening = OpensList name in
      facts_join Ios ports above (list_facts Ios [] port lines) (lists_facts Ios [] rest lists)
      ((name_bytes port.hardware n.0, f.0), ios_entries_stand (above ++ opening ∷ []) name lines (owner_heading Ios above opening refl) h.0)
      (ios_lists_stand (above ++ list_facts Ios [] port lines) rest lists (fresh_more above port lines rest f.1 a.0) n.1 a.1 h.1)

  -- ---- bindings of IOS

  -- the port is one of the ports and has no binding yet, and its list was opened
  pub record IsUnbound (above : List Fact) (p : PortAt) : Type 0 where
    pub there : list_any (has_hardware p.hardware) ports ≡ true
    pub closed : list_any (opens_port p.hardware) above ≡ false
    pub free : list_any (binds_port p.hardware) above ≡ false
    pub listed : list_any (opens_list (list_name p.hardware)) above ≡ true
    pub named : IsWord p.hardware

  abbrev pub AreUnbound : List Fact → List PortAt → Type 0
  AreUnbound above rest = AllByRecursion (IsUnbound above) rest

  unbound_more : (above : List Fact) (port : PortAt) (rest : List PortAt) → AreUnbound above rest →
      AllByRecursion (λ (q : PortAt). (bytes_eq port.hardware q.hardware ≡ false) × (eqb port.number q.number ≡ false)) rest → AreUnbound (above ++ binding_facts Ios port) rest
  unbound_more above port [] h k = tt
  unbound_more above port (q ∷ rest) h k = (
    record {
      there = h.0.there;
      closed = none_more (opens_port q.hardware) above (binding_facts Ios port) h.0.closed (or_from (bytes_eq port.hardware q.hardware) false k.0.0 refl);
      free = none_more (binds_port q.hardware) above (binding_facts Ios port) h.0.free (or_from (bytes_eq port.hardware q.hardware) false k.0.0 refl);
      listed = some_more (opens_list (list_name q.hardware)) above (binding_facts Ios port) h.0.listed;
      named = h.0.named;
    },
    unbound_more above port rest h.1 k.1,
  )

  pub ios_bindings_stand : (above : List Fact) (rest : List PortAt) → AreUnbound above rest → AreApart rest → AreFacts Ios ports above (bindings_facts Ios rest)
  ios_bindings_stand above [] h a = tt
  ios_bindings_stand above (port ∷ rest) h a =
      let opening = OpensPort port.hardware in
      facts_join Ios ports above (binding_facts Ios port) (bindings_facts Ios rest) (
        (h.0.there, h.0.closed),
        ((owner_heading Ios above opening refl, none_more (binds_port port.hardware) above (opening ∷ []) h.0.free refl, name_bytes port.hardware h.0.named, some_more (opens_list (list_name port.hardware)) above (opening ∷ []) h.0.listed), tt),
      )
      (ios_bindings_stand (above ++ binding_facts Ios port) rest (unbound_more above port rest h.1 a.0) a.1)
