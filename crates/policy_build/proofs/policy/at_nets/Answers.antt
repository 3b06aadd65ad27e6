use Rattle.std.proofs.Common.{◌≡◌, ◌∙◌, ◌<◌, map, sym, subst, IfOk}
use Rattle.std.specs.List.{All}
use Rattle.topology.specs.Kept.{HoldsRows}
use Rattle.policy_build.specs.Rows.{owned_by, all_owned}
use Rattle.policy_build.proofs.Grown.{all_mapped}
use Rattle.policy_build.proofs.policy.at_nets.Goals as goal

pub rows-requires : goal.rows-requires
rows-requires c =
    subst (λ l. All (λ o. o < c.args.count) l) (sym (c.deref.ensures.value ∙ c.in_ok-owners.ensures)) (all_mapped (λ i. i.net.0) c.args.count c.args.ifaces.now c.requires)

pub returns-clause-rows : goal.returns-clause-rows
returns-clause-rows c =
    subst (λ l. IfOk c.rows.result (λ rows. HoldsRows rows c.args.count (owned_by l))) (c.deref.ensures.value ∙ c.in_ok-owners.ensures) c.rows.ensures.rows

pub returns-clause-whole : goal.returns-clause-whole
returns-clause-whole c =
    subst (λ l. IfOk c.rows.result (λ rows. map (λ i. i.0) rows.ids.now ≡ all_owned l c.args.count)) (c.deref.ensures.value ∙ c.in_ok-owners.ensures) c.rows.ensures.whole
