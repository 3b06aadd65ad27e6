use Rattle.std.proofs.Common.{ap, sym, ◌∙◌}
use Rattle.std.proofs.lemmas.Bool.{false≢true}
use Rattle.std.proofs.lemmas.Result.{IfOk-weaker}
use Rattle.policy_names.specs.Seen.{kind_seen}
use Rattle.policy_nesting.specs.declared.nodes.Nesting.TheVariants.{Objects, Protocols}
use Rattle.policy_nesting.proofs.Walk.{no_group}
use Rattle.policy_nesting.proofs.circle.on_circle.Goals as goal

pub returns-in-Group : goal.returns-in-Group
returns-in-Group c = IfOk-weaker c.lies_on_circle.result _ _ (λ on h decls depth same named objects protocols nests known. h decls Objects depth same named objects (ap kind_seen c.in-Group.is) known) c.lies_on_circle.ensures

pub returns-in-ProtocolGroup : goal.returns-in-ProtocolGroup
returns-in-ProtocolGroup c =
    IfOk-weaker c.lies_on_circle-in-ProtocolGroup.result _ _ (λ on h decls depth same named objects protocols nests known. h decls Protocols depth same named protocols (ap kind_seen c.in-ProtocolGroup.is) known) c.lies_on_circle-in-ProtocolGroup.ensures

pub returns-in_default : goal.returns-in_default
returns-in_default c = λ decls depth same named objects protocols nests known. absurd (false≢true (sym (no_group c.args.node.now.kind c.in_default.not-Group c.in_default.not-ProtocolGroup) ∙ nests))
