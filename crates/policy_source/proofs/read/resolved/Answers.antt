use Rattle.std.proofs.Common.{◌∙◌, ap, sym}
use Rattle.policy_decls.specs.Said.{policy_said}
use Rattle.policy_names.specs.Seen.{decls_of}
use Rattle.policy_files.specs.Seen.{texts_of}
use Rattle.policy_source.proofs.Sourced.{of_decls, refused_later}
use Rattle.policy_source.proofs.read.resolved.Goals as goal

pub returns-in-Ok-clause-faultless : goal.returns-in-Ok-clause-faultless
returns-in-Ok-clause-faultless c =
    of_decls (texts_of c.args.sources.now) (decls_of c.args.files.now) c.requires.faultless c.requires.said ∙ c.in-Ok.ensures.faultless

pub returns-in-Err-clause-refused : goal.returns-in-Err-clause-refused
returns-in-Err-clause-refused c =
    refused_later (texts_of c.args.sources.now) (decls_of c.args.files.now) c.in-Err.refusal c.requires.faultless c.requires.said c.in-Err.ensures.refused

pub returns-in-Ok-clause-policy : goal.returns-in-Ok-clause-policy
returns-in-Ok-clause-policy c = c.in-Ok.ensures.policy ∙ ap policy_said c.requires.said
