use Rattle.std.proofs.Common.{ap, map}
use Rattle.std.specs.Prelude.{option_map}
use Rattle.spoc_base.specs.Shown.{cidr_of}
use Rattle.topology.specs.View.{policy_of}
use Rattle.nat_view.specs.Shown.{numbers_of, nat_seen}
use Rattle.nat_view.proofs.Finding.{kept_length}
use Rattle.nat_view.proofs.table.prefix_of.Goals as goal

pub returns-in-Some-clause-length : goal.returns-in-Some-clause-length
returns-in-Some-clause-length c =
    kept_length (policy_of c.args.topo) c.args.n (numbers_of c.args.tags.now) (option_map cidr_of c.in-Some.seen) (c.args.topo.kept.sound.well_formed.nats c.args.n c.requires) (map nat_seen c.net-net.result.nats.now) (ap (λ x. x.nats) c.net-net.ensures.seen) (c.in-Some.ensures {u = tt})
