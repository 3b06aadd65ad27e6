-- The numbers of names that are declared.
use Rattle.std.proofs.Common.{◌≡◌, inl, inr, ⊎_elim, refl, sym, ap, subst, ◌∙◌, ℕ, ◌<◌, Bool, true, false, not, ◌&&◌, ◌||◌, eqb, List, [], ◌∷◌, length, get_or, arith}
use Rattle.std.specs.Prelude.{filter}
use Rattle.std.specs.Str.{bytes_eq}
use Rattle.std.specs.List.{list_any}
use Rattle.std.proofs.lemmas.Bool.{false≢true, and_parts, and_from, cases_Bool, not_from_false}
use Rattle.std.proofs.lemmas.Bool.Decides.{nat_tests}
use Rattle.std.proofs.lemmas.Slice.Eq.{bytes_eq-Decides}
use Rattle.std.proofs.Math.ListN.{length-map}
use Rattle.spoc_ast.specs.Written.{Lexeme, PortText, DeclText}
use Rattle.policy_model.specs.Lists.{once_each}
use Rattle.policy_decls.specs.Names.{NameKind, NetworkName, HostName, TagName, RouterName, IfaceName, GroupName, AreaName, AggregateName, number_of_kind, same_kind, Mention, mention, mention_port, declared_names, same_name}
use Rattle.policy_decls.specs.Uses.{is_tag, names_it}
use Rattle.policy_decls.specs.Said.{same_text, names_of, tag_names, or_zero, number_among, number_of_name, number_of_tag, number_of_port, iface_said, policy_said}
use Rattle.policy_decls.specs.Lookup.{declared_ifaces}
use Rattle.policy_model.proofs.AllWalks.{IsIn, in_filter}
use Rattle.list_laws.proofs.Members.{some_in, some_of, from_filter}
use Rattle.decl_laws.proofs.Places.{position_there}
use Rattle.decl_laws.proofs.NamesByKind.{is_of, net_names, host_names, router_names, group_names, area_names, aggregate_names, iface_mention, iface_names, as_many}

-- ---- tests of names

pub bytes_same : (xs ys : List ℕ) → bytes_eq xs ys ≡ true → xs ≡ ys
bytes_same xs ys e = (bytes_eq-Decides xs ys).0 e

pub bytes_alike : (xs ys : List ℕ) → xs ≡ ys → bytes_eq xs ys ≡ true
bytes_alike xs ys e = (bytes_eq-Decides xs ys).1 e

-- what two tests that give the same have in common
pub record NamesIt (used declared : Mention) : Type 0 where
  pub kind : same_kind used.kind declared.kind ≡ true
  pub text : used.text ≡ declared.text
  pub owner : is_tag used.kind ≡ false → used.owner ≡ declared.owner

owner_part : (tag : Bool) (xs ys : List ℕ) → (tag || bytes_eq xs ys) ≡ true → tag ≡ false → xs ≡ ys
owner_part true xs ys e f = absurd (false≢true (sym f))
owner_part false xs ys e f = bytes_same xs ys e

pub says_it : (used declared : Mention) → names_it used declared ≡ true → NamesIt used declared
says_it used declared e =
    let a = and_parts (same_kind used.kind declared.kind && bytes_eq used.text declared.text) (is_tag used.kind || bytes_eq used.owner declared.owner) e in
    let b = and_parts (same_kind used.kind declared.kind) (bytes_eq used.text declared.text) a.0 in
    record { kind = b.0; text = bytes_same used.text declared.text b.1; owner = owner_part (is_tag used.kind) used.owner declared.owner a.1 }

same_owner : (tag : Bool) (xs ys : List ℕ) → (tag ≡ false → xs ≡ ys) → (tag || bytes_eq xs ys) ≡ true
same_owner true xs ys h = refl
same_owner false xs ys h = bytes_alike xs ys (h refl)

pub names_it_from : (used declared : Mention) → NamesIt used declared → names_it used declared ≡ true
names_it_from used declared h =
    and_from (same_kind used.kind declared.kind && bytes_eq used.text declared.text) (is_tag used.kind || bytes_eq used.owner declared.owner)
    (and_from (same_kind used.kind declared.kind) (bytes_eq used.text declared.text) h.kind (bytes_alike used.text declared.text h.text))
    (same_owner (is_tag used.kind) used.owner declared.owner h.owner)

pub kind_back : (a b : NameKind) → same_kind a b ≡ true → same_kind b a ≡ true
kind_back a b e = let x = number_of_kind a in let y = number_of_kind b in back x y e
  where
    back : (x y : ℕ) → eqb x y ≡ true → eqb y x ≡ true
    back x y e = grind (arith, nat_tests)

pub kind_onward : (a b c : NameKind) → same_kind a b ≡ true → same_kind b c ≡ true → same_kind a c ≡ true
kind_onward a b c e f = onward (number_of_kind a) (number_of_kind b) (number_of_kind c) e f
  where
    onward : (x y z : ℕ) → eqb x y ≡ true → eqb y z ≡ true → eqb x z ≡ true
    onward x y z e f = grind (arith, nat_tests)

pub kind_itself : (a : NameKind) → same_kind a a ≡ true
kind_itself a = itself (number_of_kind a)
  where
    itself : (x : ℕ) → eqb x x ≡ true
    itself x = grind (arith, nat_tests)

pub name_back : (a b : Mention) → same_name a b ≡ true → same_name b a ≡ true
name_back a b e =
    let p = and_parts (same_kind a.kind b.kind && bytes_eq a.owner b.owner) (bytes_eq a.text b.text) e in
    let q = and_parts (same_kind a.kind b.kind) (bytes_eq a.owner b.owner) p.0 in
    and_from (same_kind b.kind a.kind && bytes_eq b.owner a.owner) (bytes_eq b.text a.text)
    (and_from (same_kind b.kind a.kind) (bytes_eq b.owner a.owner) (kind_back a.kind b.kind q.0) (bytes_alike b.owner a.owner (sym (bytes_same a.owner b.owner q.1))))
    (bytes_alike b.text a.text (sym (bytes_same a.text b.text p.1)))

-- ---- numbers

-- the number of a name, and what stands there
pub record HasNumber (names : List Mention) (used : Mention) : Type 0 where
  pub below : number_among names used < length names
  pub there : (d : Mention) → names_it used (get_or names (number_among names used) d) ≡ true

pub has_number : (names : List Mention) (used : Mention) → list_any (names_it used) names ≡ true → HasNumber names used
has_number names used h =
    let w = λ (d : Mention). position_there (names_it used) names d h in
    let same : (d : Mention) → number_among names used ≡ (w d).0 = λ d. ap or_zero (w d).1 in
    let below = (w used).2 in
    let e = same used in
    record { below = subst (λ n. n < length names) (sym e) below; there = λ d. subst (λ n. names_it used (get_or names n d) ≡ true) (sym (same d)) (w d).3 }

-- a name that is declared is among those of its kind
pub among_kind : (names : List Mention) (used : Mention) (k : NameKind) → same_kind used.kind k ≡ true → list_any (names_it used) names ≡ true → list_any (names_it used) (filter (is_of k) names) ≡ true
among_kind names used k kind h =
    let w = some_in (names_it used) names h in
    let own = kind_onward w.0.kind used.kind k (kind_back used.kind w.0.kind (says_it used w.0 w.2).kind) kind in
    some_of (names_it used) w.0 (filter (is_of k) names) (in_filter (is_of k) w.0 names w.1 own) w.2

once_kept : {A : Type 0} (same : A → A → Bool) (text : A → List ℕ) → ((a b : A) → same a b ≡ true → text a ≡ text b) → (x : A) (xs : List A) → IsIn x xs →
    (y : A) × IsIn y (once_each same xs) × (text y ≡ text x)
once_kept same text alike x [] h = absurd h
once_kept same text alike x (z ∷ zs) (inl e) = (z, inl refl, ap text (sym e))
once_kept same text alike x (z ∷ zs) (inr h) =
    let w = once_kept same text alike x zs h in
    ⊎_elim (λ t. (z, inl refl, alike z w.0 t ∙ w.2)) (λ f. (w.0, inr (in_filter (λ y. not (same z y)) w.0 (once_each same zs) w.1 (not_from_false (same z w.0) f)), w.2)) (cases_Bool (same z w.0))

once_in : {A : Type 0} (same : A → A → Bool) (x : A) (xs : List A) → IsIn x (once_each same xs) → IsIn x xs
once_in same x [] h = h
once_in same x (y ∷ ys) (inl e) = inl e
once_in same x (y ∷ ys) (inr h) = inr (once_in same x ys (from_filter (λ z. not (same y z)) x (once_each same ys) h).0)

pub tag_kind : (decls : List DeclText) (m : Mention) → IsIn m (tag_names decls) → IsIn m (names_of decls TagName)
tag_kind decls m h = once_in same_text m (names_of decls TagName) h

module _ (decls : List DeclText) where
  pub name_number : (k : NameKind) (name : Lexeme) → list_any (names_it (mention k name)) (declared_names decls) ≡ true → HasNumber (names_of decls k) (mention k name)
  name_number k name h = has_number (names_of decls k) (mention k name) (among_kind (declared_names decls) (mention k name) k (kind_itself k) h)

  pub port_number : (port : PortText) → list_any (names_it (mention_port port)) (declared_names decls) ≡ true → HasNumber (names_of decls IfaceName) (mention_port port)
  port_number port h = has_number (names_of decls IfaceName) (mention_port port) (among_kind (declared_names decls) (mention_port port) IfaceName refl h)

  pub tag_number : (name : Lexeme) → list_any (names_it (mention TagName name)) (declared_names decls) ≡ true → HasNumber (tag_names decls) (mention TagName name)
  tag_number name h =
      let used = mention TagName name in
      let w = some_in (names_it used) (names_of decls TagName) (among_kind (declared_names decls) used TagName refl h) in
      let own = λ (a b : Mention). λ (e : same_text a b ≡ true). bytes_same a.text b.text e in
      let y = once_kept same_text (λ m. m.text) own w.0 (names_of decls TagName) w.1 in
      let kind = (from_filter (is_of TagName) y.0 (declared_names decls) (tag_kind decls y.0 y.1)).1 in
      has_number (tag_names decls) used
      (some_of (names_it used) y.0 (tag_names decls) y.1
      (names_it_from used y.0 (record { kind = kind_back y.0.kind TagName kind; text = (says_it used w.0 w.2).text ∙ sym y.2; owner = λ no. absurd (false≢true (sym no)) })))

  -- ---- the numbers are below the counts

  pub net_below : (name : Lexeme) → list_any (names_it (mention NetworkName name)) (declared_names decls) ≡ true → number_of_name decls NetworkName name < length (policy_said decls).nets
  net_below name h = subst (λ n. number_of_name decls NetworkName name < n) (sym (as_many (λ x. x.name) (λ m. m.text) (policy_said decls).nets (names_of decls NetworkName) (net_names decls))) (name_number NetworkName name h).below

  pub host_below : (name : Lexeme) → list_any (names_it (mention HostName name)) (declared_names decls) ≡ true → number_of_name decls HostName name < length (policy_said decls).hosts
  host_below name h = subst (λ n. number_of_name decls HostName name < n) (sym (as_many (λ x. x.name) (λ m. m.text) (policy_said decls).hosts (names_of decls HostName) (host_names decls))) (name_number HostName name h).below

  pub router_below : (name : Lexeme) → list_any (names_it (mention RouterName name)) (declared_names decls) ≡ true → number_of_name decls RouterName name < length (policy_said decls).routers
  router_below name h = subst (λ n. number_of_name decls RouterName name < n) (sym (as_many (λ x. x.name) (λ m. m.text) (policy_said decls).routers (names_of decls RouterName) (router_names decls))) (name_number RouterName name h).below

  pub group_below : (name : Lexeme) → list_any (names_it (mention GroupName name)) (declared_names decls) ≡ true → number_of_name decls GroupName name < length (policy_said decls).groups
  group_below name h = subst (λ n. number_of_name decls GroupName name < n) (sym (as_many (λ x. x.name) (λ m. m.text) (policy_said decls).groups (names_of decls GroupName) (group_names decls))) (name_number GroupName name h).below

  pub area_below : (name : Lexeme) → list_any (names_it (mention AreaName name)) (declared_names decls) ≡ true → number_of_name decls AreaName name < length (policy_said decls).areas
  area_below name h = subst (λ n. number_of_name decls AreaName name < n) (sym (as_many (λ x. x.name) (λ m. m.text) (policy_said decls).areas (names_of decls AreaName) (area_names decls))) (name_number AreaName name h).below

  pub aggregate_below : (name : Lexeme) → list_any (names_it (mention AggregateName name)) (declared_names decls) ≡ true → number_of_name decls AggregateName name < length (policy_said decls).aggregates
  aggregate_below name h = subst (λ n. number_of_name decls AggregateName name < n) (sym (as_many (λ x. x.name) (λ m. m.text) (policy_said decls).aggregates (names_of decls AggregateName) (aggregate_names decls))) (name_number AggregateName name h).below

  pub iface_count : length (policy_said decls).ifaces ≡ length (names_of decls IfaceName)
  iface_count = length-map (declared_ifaces decls) (iface_said decls) ∙ sym (length-map (declared_ifaces decls) iface_mention) ∙ ap length (sym (iface_names decls))

  pub port_below : (port : PortText) → list_any (names_it (mention_port port)) (declared_names decls) ≡ true → number_of_port decls port < length (policy_said decls).ifaces
  port_below port h = subst (λ n. number_of_port decls port < n) (sym iface_count) (port_number port h).below

  pub tag_below : (name : Lexeme) → list_any (names_it (mention TagName name)) (declared_names decls) ≡ true → number_of_tag decls name < length (policy_said decls).tags
  tag_below name h = subst (λ n. number_of_tag decls name < n) (sym (length-map (tag_names decls) (λ m. record { name = m.text }))) (tag_number name h).below
