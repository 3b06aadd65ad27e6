use Rattle.std.proofs.Common.{◌≡◌, map, drop, ◌++◌}
use Rattle.policy_decls.specs.Names.{declared_names}
use Rattle.policy_names.specs.Seen.{mention_seen, decls_of}
use Rattle.policy_names.proofs.collect.declared.Given as goal

abbrev pub invariant-loop-file : goal.invariant-loop-file
invariant-loop-file l = map mention_seen l.found.items ++ declared_names (decls_of (drop l.file-index l.files)) ≡ declared_names (decls_of l.files)
