use Rattle.decl_laws.proofs.Numbered.{numbered}
use Rattle.decl_laws.proofs.SoundSets.{sets_sound}
use Rattle.decl_laws.proofs.Distinct.{names_distinct}
use Rattle.decl_laws.proofs.Limited.{limits_kept, implied_kept}
use Rattle.decl_laws.proofs.Plain.{rules_plain}
use Rattle.decl_laws.proofs.Spelled.{all_spelled}
use Rattle.decl_laws.proofs.WellFormed.{well_formed}
use Rattle.decl_laws.proofs.sound.policies_said_are_sound.Goals as goal

pub returns : goal.returns
returns c = λ decls formed spelled none few. record {
  numbered = numbered decls formed none;
  sets = sets_sound decls formed none;
  named = names_distinct decls formed none;
  limited = limits_kept decls formed none few;
  well_formed = well_formed decls formed none;
  implied = implied_kept decls none;
  plain = rules_plain decls none;
  spelled = all_spelled decls spelled;
}
