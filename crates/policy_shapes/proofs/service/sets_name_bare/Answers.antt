use Rattle.std.proofs.Common.{map, flat_map}
use Rattle.spoc_ast.specs.Seen.{set_seen, rule_seen, decl_seen}
use Rattle.policy_decls.specs.Shapes.{sets_in_rule}
use Rattle.policy_shapes.proofs.SetTests.{name_rest}
use Rattle.policy_shapes.proofs.service.sets_name_bare.Goals as goal

pub returns-else-names_bare : goal.returns-else-names_bare
returns-else-names_bare c =
    name_rest (map decl_seen c.args.policy.now) (set_seen c.args.user.now) (flat_map sets_in_rule (map rule_seen c.args.rules.now)) c.names_bare.result c.rules_name_bare.result c.names_bare.ensures c.if-names_bare.false
    c.rules_name_bare.ensures
