use Rattle.std.specs.Prelude.{[]}
use Rattle.std.proofs.Common.{ap, sym, ◌∙◌}
use Rattle.token_checks.specs.Places.{toks_of}
use Rattle.spoc_parser.specs.Files.{most_levels}
use Rattle.syntax_laws.specs.Said.{decls_said}
use Rattle.policy_files.specs.OfTexts.{items_read}
use Rattle.policy_files.proofs.file.trees.Goals as goal

pub returns-in-Ok-clause-said : goal.returns-in-Ok-clause-said
returns-in-Ok-clause-said c =
    let w = c.trees_of_a_text.ensures.said c.args.file most_levels (toks_of c.args.tokens.now) [] c.in-Ok.tree c.in-Ok.ensures.ok in
    w.2 ∙ sym (ap (λ o. decls_said c.args.file most_levels (items_read o)) w.1)
