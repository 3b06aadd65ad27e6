use Rattle.std.proofs.Common.{map}
use Rattle.spoc_ast.specs.Seen.{decl_seen}
use Rattle.decl_laws.proofs.Rows.{no_rows}
use Rattle.policy_build.proofs.Faultless.{all_good, all_fair}
use Rattle.policy_build.proofs.Placed.{all_placed}
use Rattle.policy_build.proofs.entry.build_from.Goals as goal

pub policy-requires : goal.policy-requires
policy-requires c =
    let decls = map decl_seen c.args.decls.now in
    let shape = (no_rows decls c.requires.faultless).shape in
    record {
      good = all_good c.args.sources.now decls shape c.requires.formed c.requires.words;
      fair = all_fair decls shape;
      placed = all_placed decls c.requires.formed c.requires.faultless;
      sound = c.policies_said_are_sound.ensures decls c.requires.formed c.requires.spelled c.requires.faultless c.in_ok-are_few.ensures;
    }
