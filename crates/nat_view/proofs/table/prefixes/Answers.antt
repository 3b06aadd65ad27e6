use Rattle.std.proofs.Common.{◌∙◌, ◌+◌, ap, sym, subst}
use Rattle.std.specs.Prelude.{option_map}
use Rattle.std.proofs.lemmas.List.{map_push}
use Rattle.spoc_base.specs.Shown.{cidr_of}
use Rattle.topology.specs.View.{policy_of}
use Rattle.nat_view.specs.Shown.{numbers_of, cidrs_of}
use Rattle.nat_view.specs.Tables.{ArePrefixesBelow}
use Rattle.nat_view.proofs.Items.{one_prefix_more}
use Rattle.nat_view.proofs.table.prefixes.Goals as goal

pub loop-n-preserved : goal.loop-n-preserved
loop-n-preserved c =
    let seen = c.loop-n.seen.items in
    let p = policy_of c.args.topo in
    let tags = numbers_of c.args.tags.now in
    let new = one_prefix_more p tags (cidrs_of seen) (option_map cidr_of c.prefix_of-prefix.result) c.loop-n.n c.loop-n.invariant c.prefix_of-prefix.ensures.value c.prefix_of-prefix.ensures.length in
    subst (λ xs. ArePrefixesBelow p tags xs (c.loop-n.n + 1)) (sym (ap cidrs_of (c.in_ok-push.ensures {u = tt}).items ∙ map_push (option_map cidr_of) seen c.prefix_of-prefix.result)) new
