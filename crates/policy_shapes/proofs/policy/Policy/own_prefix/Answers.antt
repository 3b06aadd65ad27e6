use Rattle.std.proofs.Common.{◌∙◌, ap, map, option_map, option_and_then, slice_get}
use Rattle.spoc_ast.specs.Seen.{decl_seen}
use Rattle.policy_decls.specs.Lookup.{own_prefix, network_parts}
use Rattle.policy_shapes.specs.Seen.{block_seen}
use Rattle.policy_shapes.specs.Policy.{joined}
use Rattle.policy_shapes.proofs.Lookups.{any_shown, own_found}
use Rattle.policy_shapes.proofs.policy.Policy.own_prefix.Goals as goal

pub returns : goal.returns
returns c =
    c.block_at.ensures ∙ ap (λ own. joined (option_and_then (slice_get (map (option_map block_seen) own)) c.number.result)) c.deref.ensures.value
    ∙ own_found (map decl_seen c.self.inside.decls.now) c.self.inside.table.now c.args.net.now any_shown c.self.invariant.named c.number.result _ c.self.invariant.prefixes (c.number.ensures any_shown)
    ∙ ap (λ decls. own_prefix (network_parts (map decl_seen decls) c.args.net.now)) c.self.view_is
