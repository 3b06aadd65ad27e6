use Rattle.std.proofs.Common.{◌≡◌, ◌+◌, ◌≤◌, map, drop}
use Rattle.spoc_ast.specs.Seen.{decl_seen}
use Rattle.policy_decls.specs.Limits as plain
use Rattle.policy_resolve.proofs.limits.managed_count.Given as goal

abbrev pub invariant-loop-decl : goal.invariant-loop-decl
invariant-loop-decl l = record {
  counted : l.count + plain.managed_count (map decl_seen (drop l.decl-index l.decls)) ≡ plain.managed_count (map decl_seen l.decls);
  within : l.count ≤ l.decl-index;
}
