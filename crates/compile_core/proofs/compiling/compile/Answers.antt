use Rattle.std.proofs.Common.{ap, ◌∙◌}
use Rattle.policy_decls.specs.Said.{policy_said}
use Rattle.policy_files.specs.OfTexts.{declared}
use Rattle.compile_core.proofs.Parts.{same_texts, refused_texts}
use Rattle.compile_core.proofs.Told.{first_of_texts}
use Rattle.compile_core.proofs.compiling.compile.Goals as goal

pub compile_said-requires : goal.compile_said-requires
compile_said-requires c = record {
  policy = c.in-Ok.ensures.policy ∙ ap (λ texts. policy_said (declared texts)) (same_texts c.args.sources.now);
  told = c.in-Ok.ensures.sources;
  faultless = c.in-Ok.ensures.faultless;
}

pub returns-clause-refused : goal.returns-clause-refused
returns-clause-refused c = refused_texts c.args.sources.now c.in-Err.refusal c.in-Err.ensures.refused

pub returns-clause-first : goal.returns-clause-first
returns-clause-first c = first_of_texts c.args.sources.now c.in-Err.refusal c.in-Err.ensures.refused
