-- The lines of a printed text say the config that was printed.
use Rattle.std.proofs.Common.{◌≡◌, ◌∙◌, refl, sym, ap, ℕ, ◌+◌, eqb, true, false, ◌||◌, cond, List, [], ◌∷◌, ◌++◌, length, map, flat_map, append-nil, arith, bytes_eq}
use Rattle.std.specs.List.{AllByRecursion, list_any}
use Rattle.std.proofs.lemmas.Grind.{flat_map-append}
use Rattle.spoc_base.specs.Address.{Cidr}
use Rattle.spoc_base.specs.declared.dialect.Dialect.{Dialect}
use Rattle.spoc_base.specs.declared.dialect.Dialect.TheVariants.{Ios, Asa}
use Rattle.policy_model.specs.Filters.{Line}
use Rattle.policy_model.specs.Routes.{Route}
use Rattle.policy_model.specs.Passing.{Config}
use Rattle.acl_print.specs.Words.{list_name}
use Rattle.acl_print.specs.Groups.{group_name}
use Rattle.device_reading.specs.Facts.{PortAt, Entry, line_of, Fact, Sends, OpensList, HasEntry, OpensPort, Binds, OpensGroup, HasMember}
use Rattle.device_reading.specs.Grammar.{binds_port, port_for}
use Rattle.device_reading.specs.Reading.{entry_in, entries_of, bound_entries, entries_at, route_in, config_of, AreBound}
use Rattle.text_laws.specs.Printable.{AreApart, IsPrintedRoute, IsPrintable}
use Rattle.text_laws.proofs.Pieces.{all_like}
use Rattle.text_laws.proofs.FactRead.{or_no_port}
use Rattle.text_laws.proofs.Printed.{written, same_line_read, head_fact, route_fact, group_facts, groups_facts, groups_in, entry_facts, list_facts, lists_facts, binding_facts, bindings_facts, printed_facts}
use Rattle.text_laws.proofs.Standing.{other_name, same_bytes, other_way, some_before, some_more}

module _ {A : Type 0} (P Q : A → Type 0) where
  pub all_both : (xs : List A) → AllByRecursion P xs → AllByRecursion Q xs → AllByRecursion (λ x. P x × Q x) xs
  all_both [] h k = tt
  all_both (x ∷ xs) h k = ((h.0, k.0), all_both xs h.1 k.1)

map_same : {A B : Type 0} (f g : A → B) (xs : List A) → AllByRecursion (λ x. f x ≡ g x) xs → map f xs ≡ map g xs
map_same f g [] h = refl
map_same f g (x ∷ xs) h = let e = map_same f g xs h.1 in λ i. h.0 i ∷ e i

-- ---- parts that say nothing

module _ {B : Type 0} (f : Fact → List B) where
  pub routes_nothing : ((p : PortAt) (n : Cidr) (g : ℕ) → f (Sends p n g) ≡ []) → (ports : List PortAt) (routes : List Route) → flat_map f (map (route_fact ports) routes) ≡ []
  routes_nothing h ports [] = refl
  routes_nothing h ports (r ∷ routes) =
      let e = h (or_no_port (port_for ports r.gateway)) r.net r.gateway in
      let k = routes_nothing h ports routes in
      λ i. e i ++ k i

  members_nothing : ((n : List ℕ) (m : Cidr) → f (HasMember n m) ≡ []) → (name : List ℕ) (members : List Cidr) → flat_map f (map (HasMember name) members) ≡ []
  members_nothing h name [] = refl
  members_nothing h name (m ∷ members) = let e = h name m in let k = members_nothing h name members in λ i. e i ++ k i

  pub groups_nothing : ((n : List ℕ) → f (OpensGroup n) ≡ []) → ((n : List ℕ) (m : Cidr) → f (HasMember n m) ≡ []) → (k : ℕ) (groups : List (List Cidr)) → flat_map f (groups_facts k groups) ≡ []
  groups_nothing o h k [] = refl
  groups_nothing o h k (g ∷ groups) =
      let e = o (group_name k) in
      let m = members_nothing h (group_name k) g in
      let r = groups_nothing o h (k + 1) groups in
      flat_map-append f (group_facts k g) (groups_facts (k + 1) groups) ∙ (λ i. (e i ++ m i) ++ r i)

  entries_nothing : ((n : List ℕ) (e : Entry) → f (HasEntry n e) ≡ []) → (groups : List (List Cidr)) (name : List ℕ) (lines : List Line) → flat_map f (entry_facts groups name lines) ≡ []
  entries_nothing h groups name [] = refl
  entries_nothing h groups name (l ∷ lines) = let e = h name (written groups l) in let k = entries_nothing h groups name lines in λ i. e i ++ k i

  list_nothing : ((n : List ℕ) → f (OpensList n) ≡ []) → ((n : List ℕ) (e : Entry) → f (HasEntry n e) ≡ []) → (dialect : Dialect) (groups : List (List Cidr)) (port : PortAt) (lines : List Line) →
      flat_map f (list_facts dialect groups port lines) ≡ []
  list_nothing o h Ios groups port lines =
      let e = o (list_name port.hardware) in
      let k = entries_nothing h groups (list_name port.hardware) lines in
      λ i. e i ++ k i
  list_nothing o h Asa groups port lines = entries_nothing h groups (list_name port.hardware) lines

  pub lists_nothing : ((n : List ℕ) → f (OpensList n) ≡ []) → ((n : List ℕ) (e : Entry) → f (HasEntry n e) ≡ []) → (dialect : Dialect) (groups : List (List Cidr)) (ports : List PortAt) (lists : List (List Line)) →
      flat_map f (lists_facts dialect groups ports lists) ≡ []
  lists_nothing o h dialect groups [] lists = refl
  lists_nothing o h dialect groups (port ∷ ports) [] = refl
  lists_nothing o h dialect groups (port ∷ ports) (lines ∷ lists) =
      let e = list_nothing o h dialect groups port lines in
      let k = lists_nothing o h dialect groups ports lists in
      flat_map-append f (list_facts dialect groups port lines) (lists_facts dialect groups ports lists) ∙ (λ i. e i ++ k i)

  binding_nothing : ((h : List ℕ) → f (OpensPort h) ≡ []) → (dialect : Dialect) (port : PortAt) → f (Binds port.hardware (list_name port.hardware)) ≡ [] → flat_map f (binding_facts dialect port) ≡ []
  binding_nothing o Ios port e = let k = o port.hardware in λ i. k i ++ (e i ++ [])
  binding_nothing o Asa port e = λ i. e i ++ []

  bindings_nothing : ((h : List ℕ) → f (OpensPort h) ≡ []) → (dialect : Dialect) (ports : List PortAt) → AllByRecursion (λ (p : PortAt). f (Binds p.hardware (list_name p.hardware)) ≡ []) ports →
      flat_map f (bindings_facts dialect ports) ≡ []
  bindings_nothing o dialect [] h = refl
  bindings_nothing o dialect (p ∷ ports) h =
      let e = binding_nothing o dialect p h.0 in
      let k = bindings_nothing o dialect ports h.1 in
      flat_map-append f (binding_facts dialect p) (bindings_facts dialect ports) ∙ (λ i. e i ++ k i)

  pub whole : (h : Fact) (a b c d : List Fact) → flat_map f (h ∷ (a ++ (b ++ (c ++ d)))) ≡ f h ++ (flat_map f a ++ (flat_map f b ++ (flat_map f c ++ flat_map f d)))
  whole h a b c d =
      ap (λ t. f h ++ t)
      (flat_map-append f a (b ++ (c ++ d)) ∙ ap (λ t. flat_map f a ++ t) (flat_map-append f b (c ++ d) ∙ ap (λ t. flat_map f b ++ t) (flat_map-append f c d)))

no_binds : {B : Type 0} (f : Fact → List B) (h : (a n : List ℕ) → f (Binds a n) ≡ []) (ports : List PortAt) → AllByRecursion (λ (p : PortAt). f (Binds p.hardware (list_name p.hardware)) ≡ []) ports
no_binds f h [] = tt
no_binds f h (p ∷ ports) = (h p.hardware (list_name p.hardware), no_binds f h ports)

-- ---- routes

routes_read : (ports : List PortAt) (routes : List Route) → AllByRecursion (IsPrintedRoute ports) routes → flat_map route_in (map (route_fact ports) routes) ≡ routes
routes_read ports [] h = refl
routes_read ports (r ∷ routes) h =
    let out = ap (λ p. (or_no_port p).number) h.0.port_good ∙ h.0.out in
    let k = routes_read ports routes h.1 in
    λ i. record { net = r.net; gateway = r.gateway; out = out i } ∷ k i

-- ---- entries

entries_own : (groups : List (List Cidr)) (name : List ℕ) (lines : List Line) → flat_map (entry_in name) (entry_facts groups name lines) ≡ lines
entries_own groups name [] = refl
entries_own groups name (l ∷ lines) =
    let same = same_bytes name in
    let e = same_line_read groups l in
    let k = entries_own groups name lines in
    λ i. cond (same i) (e i ∷ []) [] ++ k i

entries_other : (groups : List (List Cidr)) (name other : List ℕ) (lines : List Line) → bytes_eq name other ≡ false → flat_map (entry_in other) (entry_facts groups name lines) ≡ []
entries_other groups name other [] e = refl
entries_other groups name other (l ∷ lines) e = let k = entries_other groups name other lines e in λ i. cond (e i) (line_of (written groups l) ∷ []) [] ++ k i

list_own : (dialect : Dialect) (groups : List (List Cidr)) (port : PortAt) (lines : List Line) → flat_map (entry_in (list_name port.hardware)) (list_facts dialect groups port lines) ≡ lines
list_own Ios groups port lines = entries_own groups (list_name port.hardware) lines
list_own Asa groups port lines = entries_own groups (list_name port.hardware) lines

list_other : (dialect : Dialect) (groups : List (List Cidr)) (port other : PortAt) (lines : List Line) → bytes_eq port.hardware other.hardware ≡ false →
    flat_map (entry_in (list_name other.hardware)) (list_facts dialect groups port lines) ≡ []
list_other Ios groups port other lines e = entries_other groups (list_name port.hardware) (list_name other.hardware) lines (other_name port.hardware other.hardware e)
list_other Asa groups port other lines e = entries_other groups (list_name port.hardware) (list_name other.hardware) lines (other_name port.hardware other.hardware e)

module _ (dialect : Dialect) (groups : List (List Cidr)) where
  -- the lists of other ports have no entry of this one
  lists_other : (port : PortAt) (ports : List PortAt) (lists : List (List Line)) → AllByRecursion (λ (q : PortAt). bytes_eq q.hardware port.hardware ≡ false) ports →
      flat_map (entry_in (list_name port.hardware)) (lists_facts dialect groups ports lists) ≡ []
  lists_other port [] lists h = refl
  lists_other port (q ∷ ports) [] h = refl
  lists_other port (q ∷ ports) (lines ∷ lists) h =
      let e = list_other dialect groups q port lines h.0 in
      let k = lists_other port ports lists h.1 in
      flat_map-append (entry_in (list_name port.hardware)) (list_facts dialect groups q lines) (lists_facts dialect groups ports lists) ∙ (λ i. e i ++ k i)

  abbrev read_at : List PortAt → List (List Line) → PortAt → List Line
  read_at ports lists p = flat_map (entry_in (list_name p.hardware)) (lists_facts dialect groups ports lists)

  later_at : (port : PortAt) (lines : List Line) (ports : List PortAt) (lists : List (List Line)) (q : PortAt) → (bytes_eq port.hardware q.hardware ≡ false) × (eqb port.number q.number ≡ false) →
      read_at (port ∷ ports) (lines ∷ lists) q ≡ read_at ports lists q
  later_at port lines ports lists q h =
      flat_map-append (entry_in (list_name q.hardware)) (list_facts dialect groups port lines) (lists_facts dialect groups ports lists)
      ∙ ap (λ l. l ++ read_at ports lists q) (list_other dialect groups port q lines h.0)

  turned : (port : PortAt) (q : PortAt) → (bytes_eq port.hardware q.hardware ≡ false) × (eqb port.number q.number ≡ false) → bytes_eq q.hardware port.hardware ≡ false
  turned port q h = other_way port.hardware q.hardware h.0

  lists_read : (ports : List PortAt) (lists : List (List Line)) → length lists ≡ length ports → AreApart ports → map (read_at ports lists) ports ≡ lists
  lists_read [] [] e a = refl
  lists_read [] (lines ∷ lists) e a = absurd (omega (arith, e))
  lists_read (port ∷ ports) [] e a = absurd (omega (arith, e))
  lists_read (port ∷ ports) (lines ∷ lists) e a =
      let Apart : PortAt → Type 0 = λ q. (bytes_eq port.hardware q.hardware ≡ false) × (eqb port.number q.number ≡ false) in
      let own : read_at (port ∷ ports) (lines ∷ lists) port ≡ lines =
      flat_map-append (entry_in (list_name port.hardware)) (list_facts dialect groups port lines) (lists_facts dialect groups ports lists)
      ∙ ap (λ l. l ++ read_at ports lists port) (list_own dialect groups port lines)
      ∙ ap (λ l. lines ++ l) (lists_other port ports lists (all_like Apart (λ q. bytes_eq q.hardware port.hardware ≡ false) (turned port) ports a.0))
      ∙ append-nil lines in
      let later = map_same (read_at (port ∷ ports) (lines ∷ lists)) (read_at ports lists) ports (all_like Apart (λ q. read_at (port ∷ ports) (lines ∷ lists) q ≡ read_at ports lists q) (later_at port lines ports lists) ports a.0) in
      let rest = lists_read ports lists (omega (arith, e)) a.1 in
      λ i. own i ∷ (later ∙ rest) i

  -- ---- bindings

  module _ (facts : List Fact) where
    abbrev bound_at : List PortAt → PortAt → List Line
    bound_at ports p = flat_map (bound_entries facts p.hardware) (bindings_facts dialect ports)

    abbrev IsReadAt : List PortAt → PortAt → Type 0
    IsReadAt ports p = bound_at ports p ≡ entries_of facts (list_name p.hardware)

    binding_own : (d : Dialect) (p : PortAt) → flat_map (bound_entries facts p.hardware) (binding_facts d p) ≡ entries_of facts (list_name p.hardware)
    binding_own Ios p = ap (λ b. cond b (entries_of facts (list_name p.hardware)) [] ++ []) (same_bytes p.hardware) ∙ append-nil _
    binding_own Asa p = ap (λ b. cond b (entries_of facts (list_name p.hardware)) [] ++ []) (same_bytes p.hardware) ∙ append-nil _

    other_binding : (p q : PortAt) → (bytes_eq p.hardware q.hardware ≡ false) × (eqb p.number q.number ≡ false) → bound_entries facts p.hardware (Binds q.hardware (list_name q.hardware)) ≡ []
    other_binding p q h = ap (λ b. cond b (entries_of facts (list_name q.hardware)) []) (other_way p.hardware q.hardware h.0)

    later_binding : (p : PortAt) (ports : List PortAt) (q : PortAt) → ((bytes_eq p.hardware q.hardware ≡ false) × (eqb p.number q.number ≡ false)) × IsReadAt ports q → IsReadAt (p ∷ ports) q
    later_binding p ports q h =
        flat_map-append (bound_entries facts q.hardware) (binding_facts dialect p) (bindings_facts dialect ports)
        ∙ ap (λ l. l ++ bound_at ports q)
        (binding_nothing (bound_entries facts q.hardware) (λ _. refl) dialect p (ap (λ b. cond b (entries_of facts (list_name p.hardware)) []) h.0.0))
        ∙ h.1

    bindings_read : (ports : List PortAt) → AreApart ports → AllByRecursion (IsReadAt ports) ports
    bindings_read [] a = tt
    bindings_read (p ∷ ports) a =
        let Apart : PortAt → Type 0 = λ q. (bytes_eq p.hardware q.hardware ≡ false) × (eqb p.number q.number ≡ false) in (
          flat_map-append (bound_entries facts p.hardware) (binding_facts dialect p) (bindings_facts dialect ports)
              ∙ ap (λ l. l ++ bound_at ports p) (binding_own dialect p)
              ∙ ap (λ l. entries_of facts (list_name p.hardware) ++ l)
              (bindings_nothing (bound_entries facts p.hardware) (λ _. refl) dialect ports (all_like Apart (λ q. bound_entries facts p.hardware (Binds q.hardware (list_name q.hardware)) ≡ []) (other_binding p) ports a.0))
              ∙ append-nil _,
          all_like (λ q. Apart q × IsReadAt ports q) (IsReadAt (p ∷ ports)) (later_binding p ports) ports (all_both Apart (IsReadAt ports) ports a.0 (bindings_read ports a.1)),
        )

  binding_there : (d : Dialect) (p : PortAt) → list_any (binds_port p.hardware) (binding_facts d p) ≡ true
  binding_there Ios p = ap (λ b. b || false) (same_bytes p.hardware)
  binding_there Asa p = ap (λ b. b || false) (same_bytes p.hardware)

  bindings_there : (ports : List PortAt) → AllByRecursion (λ (p : PortAt). list_any (binds_port p.hardware) (bindings_facts dialect ports) ≡ true) ports
  bindings_there [] = tt
  bindings_there (p ∷ ports) = (
    some_more (binds_port p.hardware) (binding_facts dialect p) (bindings_facts dialect ports) (binding_there dialect p),
    all_like (λ (q : PortAt). list_any (binds_port q.hardware) (bindings_facts dialect ports) ≡ true) (λ (q : PortAt). list_any (binds_port q.hardware) (bindings_facts dialect (p ∷ ports)) ≡ true)
        (λ q. some_before (binds_port q.hardware) (binding_facts dialect p) (bindings_facts dialect ports)) ports (bindings_there ports),
  )

-- ---- the config

module _ (dialect : Dialect) (name : List ℕ) (ports : List PortAt) (config : Config) (h : IsPrintable dialect name ports config) where
  abbrev groups : List (List Cidr)
  groups = groups_in dialect config

  abbrev route_part : List Fact
  route_part = map (route_fact ports) config.routes

  abbrev group_part : List Fact
  group_part = groups_facts 0 groups

  abbrev list_part : List Fact
  list_part = lists_facts dialect groups ports config.lists

  abbrev binding_part : List Fact
  binding_part = bindings_facts dialect ports

  abbrev facts : List Fact
  facts = printed_facts dialect name ports config

  all_routes : flat_map route_in facts ≡ config.routes
  all_routes =
      let e = routes_read ports config.routes h.routes in
      let g = groups_nothing route_in (λ _. refl) (λ _ _. refl) 0 groups in
      let l = lists_nothing route_in (λ _. refl) (λ _ _. refl) dialect groups ports config.lists in
      let b = bindings_nothing route_in (λ _. refl) dialect ports (no_binds route_in (λ _ _. refl) ports) in
      whole route_in (head_fact dialect name) route_part group_part list_part binding_part ∙ (λ i. e i ++ (g i ++ (l i ++ b i))) ∙ append-nil config.routes

  all_entries : (p : PortAt) → entries_of facts (list_name p.hardware) ≡ read_at dialect groups ports config.lists p
  all_entries p =
      let f = entry_in (list_name p.hardware) in
      let r = routes_nothing f (λ _ _ _. refl) ports config.routes in
      let g = groups_nothing f (λ _. refl) (λ _ _. refl) 0 groups in
      let b = bindings_nothing f (λ _. refl) dialect ports (no_binds f (λ _ _. refl) ports) in
      whole f (head_fact dialect name) route_part group_part list_part binding_part ∙ (λ i. r i ++ (g i ++ (flat_map f list_part ++ b i))) ∙ append-nil (flat_map f list_part)

  one_list : (p : PortAt) → IsReadAt dialect groups facts ports p → entries_at facts p ≡ read_at dialect groups ports config.lists p
  one_list p is_read =
      let f = bound_entries facts p.hardware in
      let r = routes_nothing f (λ _ _ _. refl) ports config.routes in
      let g = groups_nothing f (λ _. refl) (λ _ _. refl) 0 groups in
      let l = lists_nothing f (λ _. refl) (λ _ _. refl) dialect groups ports config.lists in
      whole f (head_fact dialect name) route_part group_part list_part binding_part ∙ (λ i. r i ++ (g i ++ (l i ++ is_read i))) ∙ all_entries p

  all_lists : map (entries_at facts) ports ≡ config.lists
  all_lists =
      map_same (entries_at facts) (read_at dialect groups ports config.lists) ports
      (all_like (IsReadAt dialect groups facts ports) (λ p. entries_at facts p ≡ read_at dialect groups ports config.lists p) one_list ports (bindings_read dialect groups facts ports h.apart))
      ∙ lists_read dialect groups ports config.lists h.one_each h.apart

  pub config_read : config ≡ config_of ports facts
  config_read = λ i. record { lists = sym all_lists i; routes = sym all_routes i }

  pub bound_read : AreBound ports facts
  bound_read =
      all_like (λ (p : PortAt). list_any (binds_port p.hardware) binding_part ≡ true) (λ (p : PortAt). list_any (binds_port p.hardware) facts ≡ true)
      (λ p e. some_before (binds_port p.hardware) (head_fact dialect name ∷ route_part) (group_part ++ (list_part ++ binding_part))
      (some_before (binds_port p.hardware) group_part (list_part ++ binding_part) (some_before (binds_port p.hardware) list_part binding_part e)))
      ports (bindings_there dialect groups ports)
