use Rattle.std.proofs.Common.{◌≡◌, ◌++◌, drop, map}
use Rattle.dev_config.specs.Seen.{lines_of}
use Rattle.acl_print.specs.Seen.{port_seen}
use Rattle.acl_print.specs.DeviceText.{each_list, ios_list_text}
use Rattle.acl_print.proofs.ios.put_lists.Given as goal

abbrev pub invariant-loop-k : goal.invariant-loop-k
invariant-loop-k l =
    l.out.items ++ each_list ios_list_text (map port_seen (drop l.k l.ports)) (map lines_of (drop l.k l.lists))
    ≡ l.fn.out.items ++ each_list ios_list_text (map port_seen l.ports) (map lines_of l.lists)
