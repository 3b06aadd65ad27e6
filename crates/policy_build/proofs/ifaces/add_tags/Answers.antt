use Rattle.spoc_ast.specs.Seen.{word_seen}
use Rattle.policy_decls.specs.Said.{number_of_tag}
use Rattle.policy_build.specs.Views.{decls_of}
use Rattle.policy_build.proofs.Grown.{more_twice_mapped}
use Rattle.policy_build.proofs.ifaces.add_tags.Goals as goal

pub loop-tag-preserved : goal.loop-tag-preserved
loop-tag-preserved c =
    more_twice_mapped (number_of_tag (decls_of c.args.scope)) word_seen c.args.tags.now c.loop-tag.tag-index _ c.loop-tag-test.true _ _ _ c.loop-tag.invariant c.in_ok-add_tag.ensures
