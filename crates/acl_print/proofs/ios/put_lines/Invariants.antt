use Rattle.std.proofs.Common.{◌≡◌, ◌++◌, drop, map}
use Rattle.std.specs.Prelude.{flat_map}
use Rattle.dev_config.specs.Seen.{line_of}
use Rattle.acl_print.specs.DeviceText.{ios_line_text}
use Rattle.acl_print.proofs.ios.put_lines.Given as goal

abbrev pub invariant-loop-line : goal.invariant-loop-line
invariant-loop-line l =
    l.out.items ++ flat_map ios_line_text (map line_of (drop l.line-index l.lines)) ≡ l.fn.out.items ++ flat_map ios_line_text (map line_of l.lines)
