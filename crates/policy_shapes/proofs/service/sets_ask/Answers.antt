use Rattle.std.proofs.Common.{map, flat_map}
use Rattle.spoc_ast.specs.Seen.{set_seen, rule_seen}
use Rattle.policy_decls.specs.Shapes.{sets_in_rule}
use Rattle.policy_shapes.proofs.SetTests.{ask_rest}
use Rattle.policy_shapes.proofs.service.sets_ask.Goals as goal

pub returns-else-asks_unaligned : goal.returns-else-asks_unaligned
returns-else-asks_unaligned c =
    ask_rest (set_seen c.args.user.now) (flat_map sets_in_rule (map rule_seen c.args.rules.now)) c.asks_unaligned.result c.rules_ask.result c.asks_unaligned.ensures c.if-asks_unaligned.false c.rules_ask.ensures
