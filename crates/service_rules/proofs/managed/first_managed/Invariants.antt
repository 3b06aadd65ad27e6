use Rattle.service_rules.specs.Least.{NoneBefore}
use Rattle.service_rules.specs.Scope.{site_in}
use Rattle.service_rules.proofs.managed.first_managed.Given as goal

abbrev pub invariant-loop-k : goal.invariant-loop-k
invariant-loop-k l = NoneBefore (site_in l.scope) l.scope.areas.now l.k
