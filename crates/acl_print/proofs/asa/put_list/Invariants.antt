use Rattle.std.proofs.Common.{◌≡◌, ◌++◌, drop, map}
use Rattle.dev_config.specs.Seen.{line_of, lines_of}
use Rattle.acl_print.specs.Seen.{port_seen}
use Rattle.acl_print.specs.DeviceText.{asa_list_text}
use Rattle.acl_print.proofs.asa.put_list.Given as goal

abbrev pub invariant-loop-line : goal.invariant-loop-line
invariant-loop-line l =
    l.out.items ++ asa_list_text l.groups (port_seen l.port) (map line_of (drop l.line-index l.list.lines.now)) ≡ l.fn.out.items ++ asa_list_text l.groups (port_seen l.port) (lines_of l.list)
