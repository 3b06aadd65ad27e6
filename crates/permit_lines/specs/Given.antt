-- What is known of the permits.
use Rattle.std.specs.Prelude.{ℕ, ◌<◌, List, length}
use Rattle.policy_model.specs.Policy.{Policy}
use Rattle.policy_model.specs.Zones.{Site}
use Rattle.policy_model.specs.Permits.{End, Permit}
use Rattle.policy_model.specs.Blocks.{permit_at}
use Rattle.policy_laws.specs.Secured.{IsEnd}
use Rattle.zone_graph.specs.Grouped.{Graph}

-- the policy with the zones of a graph
abbrev pub site_with : Policy → Graph → Site
site_with p g = record { policy = p; zones = g.zones }

-- The end is a range of a network that is there.
pub record IsKnownEnd (p : Policy) (e : End) : Type 0 where
  pub there : e.net < length p.nets
  pub within : IsEnd p e

-- Both ends are.
pub record IsKnown (p : Policy) (q : Permit) : Type 0 where
  pub src_end : IsKnownEnd p q.src
  pub dst_end : IsKnownEnd p q.dst

-- All permits are such ones.
pub record AreKnown (p : Policy) (permits : List Permit) : Type 0 where
  pub each : (k : ℕ) → k < length permits → IsKnown p (permit_at permits k)
