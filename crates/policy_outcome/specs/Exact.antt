-- What is claimed of each policy that is compiled.
use Rattle.std.specs.Prelude.{◌≡◌, ℕ, ◌<◌, List, [], ◌∷◌, ◌++◌, length, map, Some, None, option_and_then, IsTrue}
use Rattle.policy_model.specs.Policy.{Policy, net_at, router_at, is_managed, managed_routers}
use Rattle.policy_model.specs.Paths.{Crossing}
use Rattle.policy_model.specs.Tags.{router_view}
use Rattle.policy_model.specs.Places.{translated_address}
use Rattle.policy_model.specs.Permits.{Packet}
use Rattle.policy_model.specs.Routes.{next_hops, lookup, is_static}
use Rattle.policy_model.specs.Blocks.{list_at}
use Rattle.policy_model.specs.Passing.{Config, config_of, list_in}
use Rattle.policy_model.specs.Headline.{Meaning, IsMeaning, IsUnderWay, TranslatesNoneInside, WalksPass, DevicesPass, ListsPass, permits_in}
use Rattle.policy_outcome.specs.Files.{as_written, config_for}
use Rattle.policy_outcome.specs.Outcome.{lists_for}

-- the configurations of the managed routers, in order
abbrev pub configs_for : Meaning → List Config
configs_for m = map (config_for m.site.policy (lists_for m)) (managed_routers m.site.policy)

-- Where a walk leaves a static router straight into the destination's network, that is the walk's one next hop there, and the router's table sends an
-- unambiguous packet to it.
abbrev pub TablesSendDirect : Meaning → List Config → Type 0
TablesSendDirect m configs =
    (x : Packet) (before : List Crossing) (c : Crossing) (rest : List Crossing) → IsUnderWay m x (before ++ c ∷ rest) →
    let p = m.site.policy in
    let r = router_at p c.enter in
    IsTrue (is_static p r) → net_at p c.leave ≡ x.dst.net →
    (next_hops p x.dst.net c rest ≡ record { out = c.leave; next = None } ∷ [])
    × (option_and_then (lookup p r (config_of p configs r).routes) (translated_address p (router_view m.views r) x.dst.net x.dst.addr)
    ≡ Some (record { out = c.leave; gateway = None }))

-- The main theorem: there are the policy's zones, views and areas, no network is translated in its own zone, and with these the devices of an allowed
-- walk pass an unambiguous packet exactly if it is permitted or a reply, all of them and each by itself, and the list by which it enters passes a reply only
-- at a router without state. The list at each managed interface is the policy's, optimised and, where the router's dialect is
-- grouped, grouped. Where a walk leaves a static router straight into the destination's network,
-- the router's table sends such a packet there; of other crossings nothing is claimed until routes are written.
pub record DecidesExactly (p : Policy) (configs : List Config) : Type 0 where
  pub meaning : Meaning
  pub is_its : IsMeaning p meaning
  pub inside : TranslatesNoneInside meaning
  pub walks : WalksPass meaning configs
  pub devices : DevicesPass meaning configs
  pub entering : ListsPass meaning configs
  pub lists : (i : ℕ) → i < length p.ifaces → IsTrue (is_managed p (router_at p i)) → list_in p configs i ≡ as_written p i (list_at meaning.site meaning.views (permits_in meaning) i)
  pub direct : TablesSendDirect meaning configs
