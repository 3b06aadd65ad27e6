use Rattle.std.proofs.Common.{◌++◌, ◌∙◌, ap}
use Rattle.std.specs.Prelude.{codes}
use Rattle.acl_print.specs.Groups.{group_name}
use Rattle.acl_print.proofs.Parts.{two}
use Rattle.acl_print.proofs.entry.put_group.Goals as goal

pub returns : goal.returns
returns c =
    two _ _ _ (codes "object-group ") (group_name c.in_ok-k.k) c.in_ok-put.ensures c.in_ok-put_group_name.ensures
    ∙ ap (λ k. c.args.out.now.items ++ (codes "object-group " ++ group_name k)) c.in_ok-k.ensures
