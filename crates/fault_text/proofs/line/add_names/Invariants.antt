use Rattle.std.proofs.Common.{◌≡◌, ◌++◌, drop, map}
use Rattle.fault_text.specs.Texts.{pair_of, names_text}
use Rattle.fault_text.proofs.line.add_names.Given as goal

abbrev pub invariant-loop-name : goal.invariant-loop-name
invariant-loop-name l =
    l.line.items ++ names_text (map pair_of l.sources) (drop l.name-index l.names)
    ≡ l.fn.line.items ++ names_text (map pair_of l.sources) l.names
