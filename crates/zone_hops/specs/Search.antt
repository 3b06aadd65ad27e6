-- How the routers are found from which a network is reached, without passing another one.
use Rattle.std.specs.Prelude.{◌≡◌, ◌≢◌, ℕ, ◌+◌, ◌<◌, Bool, true, false, List, [], ◌∷◌, length, map}
use Rattle.std.specs.List.{list_any}
use Rattle.spoc_base.specs.declared.ids.RouterId.{RouterId}
use Rattle.policy_model.specs.Lists.{has}
use Rattle.policy_model.specs.Policy.{Policy, net_at, router_at, is_managed}
use Rattle.policy_model.specs.Paths.{Crossing, places_on, routers_on}
use Rattle.policy_model.specs.Routes.{is_chain, all_chains, starts_at}
use Rattle.group_expand.specs.Spread.{marked, unmarked_count, Grows}

-- routers, by number
abbrev pub numbers_of : List RouterId → List ℕ
numbers_of routers = map (λ r. r.0) routers

-- Below, n is the network to stay away from, and t the target.

-- A chain leads from network m to t. It stays away from n, and all its networks and routers are marked.
pub record NetLeads (p : Policy) (n t : ℕ) (seen passed : List Bool) (m : ℕ) : Type 0 where
  pub path : List Crossing
  pub chain : is_chain p m t path ≡ true
  pub apart : has (places_on (net_at p) m path) n ≡ false
  pub nets : (x : ℕ) → has (places_on (net_at p) m path) x ≡ true → marked seen x ≡ true
  pub routers : (r : ℕ) → has (routers_on p path) r ≡ true → marked passed r ≡ true

-- Such a chain leads from a network of the unmanaged router to t, and doesn't pass the router.
pub record RouterLeads (p : Policy) (n t : ℕ) (seen passed : List Bool) (r : ℕ) : Type 0 where
  pub by : ℕ
  pub there : by < length p.ifaces
  pub its : router_at p by ≡ r
  pub unmanaged : is_managed p r ≡ false
  pub leads : NetLeads p n t seen passed (net_at p by)
  pub fresh : has (routers_on p leads.path) r ≡ false

-- The networks and the routers that are marked so far, and the routers whose networks are still to be visited: those left, and those visited now. Of the
-- interfaces at marked networks, those of a row are still to be looked at.
pub record IsSearch (p : Policy) (n t : ℕ) (seen passed : List Bool) (left now row : List ℕ) : Type 0 where
  pub net : (m : ℕ) → marked seen m ≡ true → NetLeads p n t seen passed m
  pub router : (r : ℕ) → marked passed r ≡ true → RouterLeads p n t seen passed r
  pub queued : (r : ℕ) → has left r ≡ true → marked passed r ≡ true
  -- each unmanaged router at a marked network is marked, or is still to be
  pub nets_done : (i : ℕ) → i < length p.ifaces → is_managed p (router_at p i) ≡ false → marked seen (net_at p i) ≡ true → has row i ≡ false → marked passed (router_at p i) ≡ true
  -- each network of a marked router is marked, or is still to be
  pub routers_done : (j : ℕ) → j < length p.ifaces → net_at p j ≢ n → marked passed (router_at p j) ≡ true → has left (router_at p j) ≡ false → has now (router_at p j) ≡ false →
      marked seen (net_at p j) ≡ true

-- What was marked stays so, and each router marked anew is one more left.
pub record Grown (passed : List Bool) (left : List ℕ) (new_passed : List Bool) (new_left : List ℕ) : Type 0 where
  pub grows : Grows passed new_passed
  pub work : unmarked_count new_passed + length new_left ≡ unmarked_count passed + length left

-- the same with the marks of networks
pub record Goes (seen passed : List Bool) (left : List ℕ) (new_seen new_passed : List Bool) (new_left : List ℕ) : Type 0 where
  pub grows : Grows seen new_seen
  pub grown : Grown passed left new_passed new_left

-- An interface at a marked network was looked at.
abbrev pub KeepsAt : Policy → ℕ → List Bool → List ℕ → List Bool → List ℕ → Type 0
KeepsAt p i passed left new_passed new_left =
    (n t : ℕ) (seen : List Bool) (now row : List ℕ) → marked seen (net_at p i) ≡ true → IsSearch p n t seen passed left now (i ∷ row) → IsSearch p n t seen new_passed new_left now row

-- Of the interfaces at a marked network, a row was still to be looked at, and then another is.
abbrev pub KeepsRow : Policy → ℕ → List Bool → List ℕ → List ℕ → List Bool → List ℕ → List ℕ → Type 0
KeepsRow p m passed left row new_passed new_left new_row =
    (n t : ℕ) (seen : List Bool) (now : List ℕ) → marked seen m ≡ true → IsSearch p n t seen passed left now row → IsSearch p n t seen new_passed new_left now new_row

-- A network was visited. A chain leads from it, if it wasn't marked.
abbrev pub KeepsNet : Policy → ℕ → ℕ → List Bool → List Bool → List ℕ → List Bool → List Bool → List ℕ → Type 0
KeepsNet p n m seen passed left new_seen new_passed new_left =
    (t : ℕ) (now : List ℕ) → (m ≢ n → marked seen m ≡ false → (more : List Bool) → Grows seen more → marked more m ≡ true → NetLeads p n t more passed m) →
    IsSearch p n t seen passed left now [] → IsSearch p n t new_seen new_passed new_left now []

-- A network of a marked router was visited.
abbrev pub KeepsBy : Policy → ℕ → ℕ → List Bool → List Bool → List ℕ → List Bool → List Bool → List ℕ → Type 0
KeepsBy p n r seen passed left new_seen new_passed new_left =
    (t : ℕ) (now : List ℕ) → marked passed r ≡ true → IsSearch p n t seen passed left now [] → IsSearch p n t new_seen new_passed new_left now []

-- All networks of a marked router were.
abbrev pub KeepsFrom : Policy → ℕ → ℕ → List Bool → List Bool → List ℕ → List Bool → List Bool → List ℕ → Type 0
KeepsFrom p n r seen passed left new_seen new_passed new_left =
    (t : ℕ) → marked passed r ≡ true → IsSearch p n t seen passed left (r ∷ []) [] → IsSearch p n t new_seen new_passed new_left [] []

-- There is a mark for each router. Of the interfaces at n, those of marked routers begin the ways to t.
pub record AreBeginnings (p : Policy) (n t : ℕ) (passed : List Bool) : Type 0 where
  pub each : length passed ≡ length p.routers
  pub begin : (i : ℕ) → i < length p.ifaces → net_at p i ≡ n → list_any (starts_at i) (all_chains p n t) ≡ marked passed (router_at p i)
