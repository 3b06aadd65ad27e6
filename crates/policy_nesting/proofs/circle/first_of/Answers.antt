use Rattle.std.proofs.Common.{◌∙◌, ap, map, arith}
use Rattle.policy_names.specs.Seen.{mention_seen, decls_of}
use Rattle.policy_nesting.proofs.Walk.{first_here, none_here}
use Rattle.policy_nesting.proofs.circle.first_of.Goals as goal

pub returns-then-branch : goal.returns-then-branch
returns-then-branch c =
    let decls = decls_of c.args.files.now in
    first_here decls c.args.table.now c.deref-name-items.result.now c.loop-name.name-index _ c.in_ok-on_circle.field-0 (omega arith) (ap (map mention_seen) c.deref-name-items.ensures.value ∙ c.in_ok-names.ensures) c.requires.table c.loop-name.invariant
    (c.in_ok-on_circle.ensures decls c.args.depth c.requires.table c.requires.named c.in_ok-objects.ensures.graph c.in_ok-protocols.ensures.graph) c.if-branch.true

pub loop-name-preserved : goal.loop-name-preserved
loop-name-preserved c =
    let decls = decls_of c.args.files.now in
    none_here decls c.args.table.now c.deref-name-items.result.now c.loop-name.name-index _ c.in_ok-on_circle.field-0 (omega arith) (ap (map mention_seen) c.deref-name-items.ensures.value ∙ c.in_ok-names.ensures) c.requires.table c.loop-name.invariant
    (c.in_ok-on_circle.ensures decls c.args.depth c.requires.table c.requires.named c.in_ok-objects.ensures.graph c.in_ok-protocols.ensures.graph) c.if-branch.false
