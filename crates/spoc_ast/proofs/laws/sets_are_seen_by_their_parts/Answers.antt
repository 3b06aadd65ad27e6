use Rattle.spoc_ast.proofs.Rows.{sets, parts}
use Rattle.spoc_ast.proofs.laws.sets_are_seen_by_their_parts.Goals as goal

pub returns-clause-sets : goal.returns-clause-sets
returns-clause-sets c = sets

pub returns-clause-parts : goal.returns-clause-parts
returns-clause-parts c = parts
