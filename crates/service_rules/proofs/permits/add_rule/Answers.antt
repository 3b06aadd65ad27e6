use Rattle.topology.specs.Seen.{rule_seen}
use Rattle.topology.specs.View.{policy_of}
use Rattle.service_rules.proofs.Rules.{source_sound, destination_sound}
use Rattle.service_rules.proofs.permits.add_rule.Goals as goal

pub side-requires-clause-sound : goal.side-requires-clause-sound
side-requires-clause-sound c = source_sound (policy_of c.args.scope.now.topo) (rule_seen c.args.rule.now) c.requires.sound

pub side-requires-2-clause-sound : goal.side-requires-2-clause-sound
side-requires-2-clause-sound c = destination_sound (policy_of c.args.scope.now.topo) (rule_seen c.args.rule.now) c.requires.sound
