use Rattle.std.proofs.Common.{◌≡◌, ◌∙◌, ℕ, sym, subst}
use Rattle.std.specs.Prelude.{option_map}
use Rattle.std.proofs.lemmas.Bool.{not-false}
use Rattle.spoc_base.specs.Shown.{cidr_of}
use Rattle.policy_model.specs.Lists.{has}
use Rattle.group_expand.specs.Scope.{site_in}
use Rattle.group_expand.specs.Sets.{with_objects, zone_objects}
use Rattle.group_expand.proofs.Gathering.{zone_again, zone_done}
use Rattle.group_expand.proofs.zone_nets.add_zone_of.Goals as goal

pub returns-then-not-branch-clause-found : goal.returns-then-not-branch-clause-found
returns-then-not-branch-clause-found c =
    let s = site_in c.args.scope.now in
    let only = option_map cidr_of c.args.only in
    subst (λ (z : ℕ). c.args.found.now ≡ with_objects c.args.found.now (zone_objects s only z)) c.zone_of-z.ensures
    (zone_again s only c.args.done.now c.args.found.now c.zone_of-z.result.0
    (not-false (has c.args.done.now c.zone_of-z.result.0) (sym c.in_ok-add.ensures.added ∙ c.if-not-branch.true)) c.requires.done)

pub returns-clause-done : goal.returns-clause-done
returns-clause-done c =
    zone_done (site_in c.args.scope.now) (option_map cidr_of c.args.only) c.args.done.now c.add.new.self c.args.found.now c.add_zone.new.found c.zone_of-z.result.0
    c.in_ok-add.ensures.zones c.in_ok-add_zone.ensures c.requires.done
