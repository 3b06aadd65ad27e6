use Rattle.std.proofs.Common.{ap, sym, option_and_then}
use Rattle.spoc_ast.specs.Seen.{word_seen}
use Rattle.policy_build.specs.Aligned.{aligned_prefix}
use Rattle.policy_build.proofs.Firsts.{not_alone}
use Rattle.policy_build.proofs.nets.only.Goals as goal

pub returns-in_default-2 : goal.returns-in_default-2
returns-in_default-2 c = sym (ap (option_and_then aligned_prefix) (not_alone word_seen c.args.ips.now c.in_default.len_at_least))
