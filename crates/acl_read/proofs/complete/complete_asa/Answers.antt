use Rattle.acl_read.proofs.complete.complete_asa.Goals as goal

pub returns-in-Binding : goal.returns-in-Binding
returns-in-Binding c = rw c.in-Binding.is c.asa_binding.ensures
