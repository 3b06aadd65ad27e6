use Rattle.std.proofs.Common.{◌≡◌, ◌++◌, map, drop}
use Rattle.policy_decls.specs.Nesting.{nesting_names}
use Rattle.policy_names.specs.Seen.{mention_seen, decls_of}
use Rattle.policy_nesting.proofs.nodes.nodes.Given as goal

abbrev pub invariant-loop-file : goal.invariant-loop-file
invariant-loop-file l = map mention_seen l.found.items ++ nesting_names (decls_of (drop l.file-index l.files)) ≡ nesting_names (decls_of l.files)
