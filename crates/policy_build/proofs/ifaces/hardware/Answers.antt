use Rattle.std.proofs.Common.{◌∙◌, ap, map}
use Rattle.spoc_ast.specs.Seen.{word_seen, if_part_seen}
use Rattle.policy_decls.specs.Said.{text_or_none}
use Rattle.policy_build.specs.Views.{sources_in}
use Rattle.policy_build.proofs.RouterIfaces.{hardware_word}
use Rattle.policy_build.proofs.ifaces.hardware.Goals as goal

pub returns-in-Some-clause-said : goal.returns-in-Some-clause-said
returns-in-Some-clause-said c =
    (hardware_word (sources_in c.args.scope) (map if_part_seen c.args.parts.now) (word_seen c.in-Some.word) c.requires.parts c.in-Some.ensures).same ∙ ap text_or_none c.in-Some.ensures

pub returns-in-Some-clause-written : goal.returns-in-Some-clause-written
returns-in-Some-clause-written c =
    (hardware_word (sources_in c.args.scope) (map if_part_seen c.args.parts.now) (word_seen c.in-Some.word) c.requires.parts c.in-Some.ensures).lies
