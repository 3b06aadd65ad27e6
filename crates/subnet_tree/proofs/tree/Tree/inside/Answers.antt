use Rattle.std.proofs.Common.{rules, sym, ap, ◌∙◌}
use Rattle.std.proofs.lemmas.List.Sorted.{IsNonDecreasingBy-from_sort_by_key}
use Rattle.spoc_base.specs.Shown.{cidr_of}
use Rattle.subnet_tree.specs.Entries.{nets_inside}
use Rattle.subnet_tree.proofs.Ascending.{inside_answer}
use Rattle.subnet_tree.proofs.tree.Tree.inside.Goals as goal

pub returns : goal.returns
returns c =
    inside_answer (cidr_of c.args.p) c.deref.result.now c.self.inside.nodes.items c.in_ok-found.found.items c.sort_unstable_by_key.new.self.items c.sort_unstable_by_key.ensures.permutation
    (IsNonDecreasingBy-from_sort_by_key (λ n. n.0) _ c.sort_unstable_by_key.ensures.sorted (λ a r q k. search rules))
    (c.in_ok-found.ensures {u = tt}) c.deref.ensures.value
    ∙ (sym (c.self.invariant.insides (cidr_of c.args.p)) ∙ ap (λ items. nets_inside items (cidr_of c.args.p)) c.self.view_is)
