use Rattle.std.proofs.Common.{map, ◌++◌, sym, ap, ◌∙◌, append-nil}
use Rattle.spoc_ast.specs.Seen.{decl_seen}
use Rattle.policy_names.specs.Seen.{mention_seen}
use Rattle.policy_nesting.proofs.RowLaws.{no_nesting}
use Rattle.policy_nesting.proofs.nodes.add_node.Goals as goal

pub returns : goal.returns
returns c =
    let old = map mention_seen c.args.found.now.items in
    let none = no_nesting (decl_seen c.args.decl.now) (sym c.declares.ensures ∙ c.if-declares.false) (sym c.declares-2.ensures ∙ c.if-declares-2.false) in
    sym (ap (λ l. old ++ l) none ∙ append-nil old)
