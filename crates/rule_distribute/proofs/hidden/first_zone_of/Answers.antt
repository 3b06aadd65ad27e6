use Rattle.std.proofs.Common.{◌∙◌, sym}
use Rattle.topology.specs.View.{policy_of}
use Rattle.nat_view.specs.Views.{seen_of}
use Rattle.permit_lines.specs.Given.{site_with}
use Rattle.permit_set.specs.Shown.{permit_of}
use Rattle.rule_distribute.proofs.Passing.{seen_throughout}
use Rattle.rule_distribute.proofs.hidden.first_zone_of.Goals as goal

pub returns-then-not-may_hide-2-clause-none : goal.returns-then-not-may_hide-2-clause-none
returns-then-not-may_hide-2-clause-none c =
    seen_throughout (site_with (policy_of c.args.topo) c.args.graph.now) (seen_of c.args.views.now).views (permit_of c.args.q) (sym c.may_hide.ensures ∙ c.if-not-may_hide.true) (sym c.may_hide-then-not-may_hide.ensures ∙ c.if-not-may_hide-2.true)
