use Rattle.std.proofs.Common.{◌≡◌, map, filter, drop}
use Rattle.policy_decls.specs.Nesting.{is_on_circle}
use Rattle.policy_names.specs.Seen.{mention_seen, decls_of}
use Rattle.policy_nesting.proofs.circle.first_of.Given as goal

abbrev pub invariant-loop-name : goal.invariant-loop-name
invariant-loop-name l =
    filter (is_on_circle (decls_of l.files)) (map mention_seen l.name-items) ≡ filter (is_on_circle (decls_of l.files)) (map mention_seen (drop l.name-index l.name-items))
