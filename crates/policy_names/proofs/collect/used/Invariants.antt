use Rattle.std.proofs.Common.{◌≡◌, map, drop, ◌++◌}
use Rattle.policy_decls.specs.Uses.{used_names}
use Rattle.policy_names.specs.Seen.{mention_seen, decls_of}
use Rattle.policy_names.proofs.collect.used.Given as goal

abbrev pub invariant-loop-file : goal.invariant-loop-file
invariant-loop-file l = map mention_seen l.found.items ++ used_names (decls_of (drop l.file-index l.files)) ≡ used_names (decls_of l.files)
