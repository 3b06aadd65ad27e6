-- What clauses see of a policy in memory: its plain policy, and its sources.
use Rattle.std.specs.Prelude.{List}
use Rattle.spoc_base.specs.declared.place.Source.{Source}
use Rattle.policy_model.specs.Policy.{Policy}
use Rattle.topology.specs.Seen.{plain_of}
use Rattle.topology.specs.declared.topo.Topo.{Topo}

-- the plain policy
abbrev pub policy_of : Topo → Policy
policy_of topo = plain_of topo.parts

-- the sources in which its names stand
abbrev pub sources_of : Topo → List Source
sources_of topo = topo.parts.sources.now
