-- From what a policy is built.
use Rattle.std.specs.Prelude.{◌≡◌, List, None, IsTrue}
use Rattle.spoc_base.specs.declared.place.Source.{Source}
use Rattle.spoc_ast.specs.Written.{DeclText}
use Rattle.policy_decls.specs.Names.{Mention, declared_names}
use Rattle.policy_decls.specs.Faults.{fault_of}
use Rattle.policy_decls.specs.Formed.{are_formed}
use Rattle.policy_decls.specs.Spelled.{are_spelled}
use Rattle.policy_build.specs.Words.{AreWordsOf}

-- These are the declared names, the declarations have no fault, their names and hardware are words, and their words stand in the sources.
pub record IsBuildable (sources : List Source) (names : List Mention) (decls : List DeclText) : Type 0 where
  pub named : names ≡ declared_names decls
  pub faultless : fault_of decls ≡ None
  pub formed : IsTrue (are_formed decls)
  pub spelled : IsTrue (are_spelled decls)
  pub words : AreWordsOf sources decls
