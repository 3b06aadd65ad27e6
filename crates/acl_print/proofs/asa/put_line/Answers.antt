use Rattle.std.specs.Prelude.{codes}
use Rattle.spoc_base.specs.declared.dialect.Dialect.TheVariants.{Asa}
use Rattle.dev_config.specs.Seen.{line_of}
use Rattle.acl_print.specs.Words.{list_name}
use Rattle.acl_print.specs.Entries.{entry_text}
use Rattle.acl_print.proofs.Parts.{five}
use Rattle.acl_print.proofs.asa.put_line.Goals as goal

pub returns : goal.returns
returns c =
    five _ _ _ _ _ _ (codes "access-list ") (list_name c.args.port.now.hardware.now) (codes " extended ") (entry_text Asa c.args.groups.now (line_of c.args.line.now)) (codes "\n")
    c.in_ok-put.ensures c.in_ok-put_list_name.ensures c.in_ok-put-2.ensures c.in_ok-put_entry.ensures c.in_ok-put-3.ensures
