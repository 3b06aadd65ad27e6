-- What each policy in memory keeps, as far as the definitions' plain policy shows it.
use Rattle.std.specs.Prelude.{◌≡◌, ◌≢◌, ℕ, ◌<◌, ◌≤◌, ◌^◌, ◌-◌, Bool, true, false, not, ◌&&◌, ◌||◌, ◌==◌, nat_lt, nat_le, List, [], ◌∷◌, ◌++◌, length, map, take, drop, slice_index_or, Option, Some, None, is_some, IsTrue, IfSome}
use Rattle.std.specs.List.{list_all, list_any}
use Rattle.spoc_base.specs.Address.{Cidr, addresses, interval_covers, prefix_holds}
use Rattle.spoc_base.specs.Spelling.{is_spelled}
use Rattle.policy_model.specs.Lists.{has, are_distinct, is_nothing}
use Rattle.policy_model.specs.Walks.{shared_sets}
use Rattle.policy_model.specs.PlainRules.{HasPlainRules}
use Rattle.policy_model.specs.Policy.{Policy, Restriction, Rule, Service, ObjectExpr, NoObjects, OneNet, OneHost, OneIface, OfGroup, OfAggregate, OfArea, OfUser, NetsOf, HostsOf, ZonesOf, Joined, Common, Without, net_of, host_of, iface_of, group_of, area_of, aggregate_of, net_at, router_at, is_managed, managed_routers}

-- The expression names things that are there: an interface of a managed router or one with an address, the user only where there is one, and areas
-- only inside the brackets of another set.
abbrev pub is_sound_expr : Policy → Bool → Bool → ObjectExpr → Bool
is_sound_expr p user bracket NoObjects = true
is_sound_expr p user bracket (OneNet n) = nat_lt n (length p.nets)
is_sound_expr p user bracket (OneHost h) = nat_lt h (length p.hosts)
is_sound_expr p user bracket (OneIface i) = nat_lt i (length p.ifaces) && (is_managed p (router_at p i) || is_some (iface_of p i).addr)
is_sound_expr p user bracket (OfGroup g) = nat_lt g (length p.groups)
is_sound_expr p user bracket (OfAggregate k) = nat_lt k (length p.aggregates)
is_sound_expr p user bracket (OfArea k) = bracket && nat_lt k (length p.areas)
is_sound_expr p user bracket OfUser = user
is_sound_expr p user bracket (NetsOf e) = is_sound_expr p user true e
is_sound_expr p user bracket (HostsOf e) = is_sound_expr p user true e
is_sound_expr p user bracket (ZonesOf only e) = is_sound_expr p user true e
is_sound_expr p user bracket (Joined e f) = is_sound_expr p user bracket e && is_sound_expr p user bracket f
is_sound_expr p user bracket (Common e f) = is_sound_expr p user bracket e && is_sound_expr p user bracket f
is_sound_expr p user bracket (Without e f) = is_sound_expr p user bracket e && is_sound_expr p user bracket f

-- whether the user is named anywhere in the expression
abbrev pub names_user : ObjectExpr → Bool
names_user NoObjects = false
names_user (OneNet n) = false
names_user (OneHost h) = false
names_user (OneIface i) = false
names_user (OfGroup g) = false
names_user (OfAggregate k) = false
names_user (OfArea k) = false
names_user OfUser = true
names_user (NetsOf e) = names_user e
names_user (HostsOf e) = names_user e
names_user (ZonesOf only e) = names_user e
names_user (Joined e f) = names_user e || names_user f
names_user (Common e f) = names_user e || names_user f
names_user (Without e f) = names_user e || names_user f

-- the groups that the expression names
abbrev pub groups_in : ObjectExpr → List ℕ
groups_in NoObjects = []
groups_in (OneNet n) = []
groups_in (OneHost h) = []
groups_in (OneIface i) = []
groups_in (OfGroup g) = g ∷ []
groups_in (OfAggregate k) = []
groups_in (OfArea k) = []
groups_in OfUser = []
groups_in (NetsOf e) = groups_in e
groups_in (HostsOf e) = groups_in e
groups_in (ZonesOf only e) = groups_in e
groups_in (Joined e f) = groups_in e ++ groups_in f
groups_in (Common e f) = groups_in e ++ groups_in f
groups_in (Without e f) = groups_in e ++ groups_in f

-- groups of the policy, of which each names the next
abbrev pub is_chain : Policy → List ℕ → Bool
is_chain p [] = true
is_chain p (g ∷ []) = nat_lt g (length p.groups)
is_chain p (g ∷ h ∷ groups) = nat_lt g (length p.groups) && has (groups_in (group_of p g).objects) h && is_chain p (h ∷ groups)

-- A rule names the user in its source or its destination, and what else it names is there.
abbrev pub is_sound_rule : Policy → Rule → Bool
is_sound_rule p rule = is_sound_expr p true false rule.src && is_sound_expr p true false rule.dst && (names_user rule.src || names_user rule.dst)

abbrev pub is_sound_service : Policy → Service → Bool
is_sound_service p service = is_sound_expr p false false service.user && list_all (is_sound_rule p) service.rules

-- What sets name is there.
pub record HasSoundSets (p : Policy) : Type 0 where
  pub groups : (g : ℕ) → g < length p.groups → IsTrue (is_sound_expr p false false (group_of p g).objects)
  pub services : IsTrue (list_all (is_sound_service p) p.services)

abbrev pub are_below : ℕ → List ℕ → Bool
are_below count numbers = list_all (λ n. nat_lt n count) numbers

-- each number in an item is below the count of its kind
pub record IsNumbered (p : Policy) : Type 0 where
  pub nats : (n : ℕ) → n < length p.nets → IsTrue (are_below (length p.tags) (map (λ nat. nat.0) (net_of p n).nats))
  pub hosts : (h : ℕ) → h < length p.hosts → (host_of p h).net < length p.nets
  pub placed : (i : ℕ) → i < length p.ifaces → (net_at p i < length p.nets) × (router_at p i < length p.routers)
  pub binds : (i : ℕ) → i < length p.ifaces → IsTrue (are_below (length p.tags) (iface_of p i).binds)
  pub restrictions : IsTrue (list_all (λ r. are_below (length p.ifaces) r.members) p.restrictions)
  pub anchors : (k : ℕ) → k < length p.areas → IfSome (area_of p k).anchor (λ n. n < length p.nets)
  pub borders : (k : ℕ) → k < length p.areas → IsTrue (are_below (length p.ifaces) (area_of p k).borders)
  pub links : (k : ℕ) → k < length p.aggregates → (aggregate_of p k).link < length p.nets

-- no name stands twice
abbrev pub AreDistinct : List (List ℕ) → Type 0
AreDistinct names = (n m : ℕ) → n < length names → m < length names → slice_index_or names n [] ≡ slice_index_or names m [] → n ≡ m

-- how many restrictions are declared: those before the ones that shared addresses imply
abbrev pub declared_count : Policy → ℕ
declared_count p = length p.restrictions - length (shared_sets p)

-- the restrictions that are declared
abbrev pub declared_restrictions : Policy → List Restriction
declared_restrictions p = take (declared_count p) p.restrictions

-- the restrictions that shared addresses imply
abbrev pub implied_restrictions : Policy → List Restriction
implied_restrictions p = drop (declared_count p) p.restrictions

-- No two things of one kind have one name. An interface's is its router's with its network's. A restriction that a shared address implies has that of an
-- interface, so it is no restriction's that is declared.
pub record IsNamed (p : Policy) : Type 0 where
  pub nets : AreDistinct (map (λ x. x.name) p.nets)
  pub hosts : AreDistinct (map (λ x. x.name) p.hosts)
  pub routers : AreDistinct (map (λ x. x.name) p.routers)
  pub ifaces : (i j : ℕ) → i < length p.ifaces → j < length p.ifaces → router_at p i ≡ router_at p j → net_at p i ≡ net_at p j → i ≡ j
  pub tags : AreDistinct (map (λ x. x.name) p.tags)
  pub restrictions : AreDistinct (map (λ x. x.name) (declared_restrictions p))
  pub groups : AreDistinct (map (λ x. x.name) p.groups)
  pub areas : AreDistinct (map (λ x. x.name) p.areas)
  pub aggregates : AreDistinct (map (λ x. x.name) p.aggregates)
  pub services : AreDistinct (map (λ x. x.name) p.services)

-- a name has at most a hundred bytes
abbrev pub is_short : List ℕ → Bool
is_short name = nat_le (length name) 100

-- No limit is passed.
pub record IsLimited (p : Policy) : Type 0 where
  pub nets : length p.nets ≤ 65535
  pub hosts : length p.hosts ≤ 1000000
  pub routers : length p.routers ≤ 65535
  pub managed : length (managed_routers p) ≤ 4095
  pub ifaces : length p.ifaces ≤ 65535
  pub services : length p.services ≤ 65535
  pub tags : length p.tags < 2 ^ 32
  pub restrictions : length p.restrictions < 2 ^ 32
  pub groups : length p.groups < 2 ^ 32
  pub areas : length p.areas < 2 ^ 32
  pub aggregates : length p.aggregates < 2 ^ 32
  pub net_names : IsTrue (list_all (λ x. is_short x.name) p.nets)
  pub host_names : IsTrue (list_all (λ x. is_short x.name) p.hosts)
  pub router_names : IsTrue (list_all (λ x. is_short x.name) p.routers)
  pub hardware_names : IsTrue (list_all (λ x. is_short x.hardware) p.ifaces)
  pub tag_names : IsTrue (list_all (λ x. is_short x.name) p.tags)
  pub group_names : IsTrue (list_all (λ x. is_short x.name) p.groups)
  pub area_names : IsTrue (list_all (λ x. is_short x.name) p.areas)
  pub aggregate_names : IsTrue (list_all (λ x. is_short x.name) p.aggregates)
  pub service_names : IsTrue (list_all (λ x. is_short x.name) p.services)
  -- Groups nest 64 deep at most. So none reaches itself: round a circle chains of any length go.
  pub nesting : (groups : List ℕ) → IsTrue (is_chain p groups) → length groups ≤ 64

-- a translation hides, or keeps the length of the own prefix
abbrev pub keeps_length : Cidr → Option Cidr → Bool
keeps_length own None = true
keeps_length own (Some q) = q.len == own.len

-- two of the numbers differ
abbrev pub has_two : List ℕ → Bool
has_two [] = false
has_two (n ∷ ns) = list_any (λ m. not (n == m)) ns

-- What declarations must say of addresses, hardware, translations and restrictions. What only their text shows, as an ip that stands twice, isn't
-- told here.
pub record IsWellFormed (p : Policy) : Type 0 where
  -- a host's addresses are its network's
  pub hosts : (h : ℕ) → h < length p.hosts → IsTrue (interval_covers (addresses (net_of p (host_of p h).net).own) (host_of p h).range)
  -- a tag translates to a prefix of the same length
  pub nats : (n : ℕ) → n < length p.nets → IsTrue (list_all (λ nat. keeps_length (net_of p n).own nat.1) (net_of p n).nats)
  -- an interface of a managed router has an address and hardware
  pub equipped : (i : ℕ) → i < length p.ifaces → IsTrue (is_managed p (router_at p i)) → IsTrue (is_some (iface_of p i).addr && not (is_nothing (iface_of p i).hardware))
  -- an interface's address is its network's
  pub addresses : (i a : ℕ) → i < length p.ifaces → (iface_of p i).addr ≡ Some a → IsTrue (prefix_holds (net_of p (net_at p i)).own a)
  -- no two interfaces of one network have one address
  pub apart : (i j a : ℕ) → i < length p.ifaces → j < length p.ifaces → net_at p i ≡ net_at p j → (iface_of p i).addr ≡ Some a → (iface_of p j).addr ≡ Some a → i ≡ j
  -- only an interface of a managed router shares an address, which is its network's and no interface's own there
  pub shared : (i a : ℕ) → i < length p.ifaces → (iface_of p i).shared ≡ Some a →
      IsTrue (is_managed p (router_at p i)) × IsTrue (prefix_holds (net_of p (net_at p i)).own a) × ((j : ℕ) → j < length p.ifaces → net_at p j ≡ net_at p i → (iface_of p j).addr ≢ Some a)
  -- no two interfaces of a managed router have one hardware
  pub hardware : (i j : ℕ) → i < length p.ifaces → j < length p.ifaces → router_at p i ≡ router_at p j → IsTrue (is_managed p (router_at p i)) →
      (iface_of p i).hardware ≡ (iface_of p j).hardware → i ≡ j
  -- only interfaces of managed routers bind tags, and each tag once
  pub binds : (i : ℕ) → i < length p.ifaces → IsTrue (are_distinct (iface_of p i).binds && (is_managed p (router_at p i) || is_nothing (iface_of p i).binds))
  -- a restriction has two different members, all of managed routers
  pub restrictions : IsTrue (list_all (λ r. has_two r.members && list_all (λ i. is_managed p (router_at p i)) r.members) p.restrictions)
  -- an area has an anchor or a border, and its borders are of managed routers
  pub areas : IsTrue (list_all (λ a. (is_some a.anchor || not (is_nothing a.borders)) && list_all (λ i. is_managed p (router_at p i)) a.borders) p.areas)

-- The restrictions are the declared ones, whose names are short, and behind them those that shared addresses imply.
pub record HasImplied (p : Policy) : Type 0 where
  pub within : length (shared_sets p) ≤ length p.restrictions
  pub members : map (λ x. x.members) (implied_restrictions p) ≡ shared_sets p
  pub names : IsTrue (list_all (λ x. is_short x.name) (declared_restrictions p))

-- Names and hardware are of letters, digits and `_ . : / -`. So no blank stands in them, and no line feed.
pub record IsSpelled (p : Policy) : Type 0 where
  pub nets : IsTrue (list_all (λ x. is_spelled x.name) p.nets)
  pub hosts : IsTrue (list_all (λ x. is_spelled x.name) p.hosts)
  pub routers : IsTrue (list_all (λ x. is_spelled x.name) p.routers)
  pub hardware : IsTrue (list_all (λ x. is_spelled x.hardware) p.ifaces)
  pub tags : IsTrue (list_all (λ x. is_spelled x.name) p.tags)
  pub restrictions : IsTrue (list_all (λ x. is_spelled x.name) p.restrictions)
  pub groups : IsTrue (list_all (λ x. is_spelled x.name) p.groups)
  pub areas : IsTrue (list_all (λ x. is_spelled x.name) p.areas)
  pub aggregates : IsTrue (list_all (λ x. is_spelled x.name) p.aggregates)
  pub services : IsTrue (list_all (λ x. is_spelled x.name) p.services)

-- all this together
pub record IsSound (p : Policy) : Type 0 where
  pub numbered : IsNumbered p
  pub sets : HasSoundSets p
  pub named : IsNamed p
  pub limited : IsLimited p
  pub well_formed : IsWellFormed p
  pub implied : HasImplied p
  pub plain : HasPlainRules p
  pub spelled : IsSpelled p
