use Rattle.dev_config.specs.Seen.{line_of}
use Rattle.acl_print.proofs.EntryText.{entry_is_put}
use Rattle.acl_print.proofs.entry.put_entry.Goals as goal

pub returns : goal.returns
returns c =
    entry_is_put c.args.dialect c.args.groups.now (line_of c.args.line.now) _ _ _ _ _ _ _ _ _ c.in_ok-put_action.ensures c.in_ok-put_protocol.ensures c.in_ok-put_end.ensures
    c.in_ok-put_source_ports.ensures c.in_ok-put.ensures c.in_ok-put_end-2.ensures c.in_ok-put_other_ports.ensures c.in_ok-put_mark.ensures
