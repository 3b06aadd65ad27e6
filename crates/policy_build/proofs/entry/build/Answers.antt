use Rattle.std.proofs.Common.{◌≡◌, ◌∙◌, sym, ap, subst, map, IfOk}
use Rattle.spoc_ast.specs.Seen.{decl_seen}
use Rattle.policy_decls.specs.Said.{policy_said}
use Rattle.topology.specs.View.{policy_of}
use Rattle.policy_build.specs.Buildable.{IsBuildable}
use Rattle.policy_build.proofs.entry.build.Goals as goal

pub build_from-requires : goal.build_from-requires
build_from-requires c =
    subst (λ l. IsBuildable c.args.sources.now c.args.table.now l) (sym (ap (map decl_seen) c.deref.ensures.value ∙ c.in_ok-decls.ensures))
    (record { named = c.requires.named; faultless = c.requires.faultless; formed = c.requires.formed; spelled = c.requires.spelled; words = c.requires.words })

pub returns-clause-policy : goal.returns-clause-policy
returns-clause-policy c =
    subst (λ l. IfOk c.build_from.result (λ topo. policy_of topo ≡ policy_said l)) (ap (map decl_seen) c.deref.ensures.value ∙ c.in_ok-decls.ensures) c.build_from.ensures.policy
