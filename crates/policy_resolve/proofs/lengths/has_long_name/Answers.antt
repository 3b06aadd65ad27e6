use Rattle.std.proofs.Common.{◌≡◌, map, subst}
use Rattle.std.specs.Prelude.{IfOk}
use Rattle.spoc_ast.specs.Seen.{decl_seen}
use Rattle.policy_resolve.proofs.Long.{long_words}
use Rattle.policy_resolve.proofs.lengths.has_long_name.Goals as goal

pub returns : goal.returns
returns c = subst (λ known. IfOk c.any_long_word.result (λ long. long ≡ known)) (long_words (map decl_seen c.args.decls.now)) c.any_long_word.ensures
