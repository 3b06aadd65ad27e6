use Rattle.spoc_base.specs.declared.place.Kind.TheVariants as kind
use Rattle.topology.specs.Texts.{IsCalled}
use Rattle.policy_build.specs.Views.{sources_in}
use Rattle.policy_build.proofs.Grown.{all_pushed}
use Rattle.policy_build.proofs.aggregates.add_aggregate.Goals as goal

pub returns-clause-written : goal.returns-clause-written
returns-clause-written c =
    all_pushed (λ x. IsCalled kind.Aggregate (sources_in c.args.scope) x.name) c.args.found.now.items c.push.new.self.items _ c.in-Ok.ensures.items c.requires.written c.named.ensures.written
