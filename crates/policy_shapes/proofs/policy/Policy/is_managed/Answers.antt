use Rattle.std.proofs.Common.{◌∙◌, ap, map, false, option_and_then, slice_get, unwrap_or}
use Rattle.spoc_ast.specs.Seen.{decl_seen}
use Rattle.policy_decls.specs.Lookup.{is_managed_router, router_parts}
use Rattle.policy_shapes.proofs.Lookups.{any_shown, managed_found}
use Rattle.policy_shapes.proofs.policy.Policy.is_managed.Goals as goal

pub returns : goal.returns
returns c =
    c.flag_at.ensures ∙ ap (λ flags. unwrap_or (option_and_then (slice_get flags) c.number.result) false) c.deref.ensures.value
    ∙ managed_found (map decl_seen c.self.inside.decls.now) c.self.inside.table.now c.args.router.now any_shown c.self.invariant.named c.number.result _ c.self.invariant.flags (c.number.ensures any_shown)
    ∙ ap (λ decls. is_managed_router (router_parts (map decl_seen decls) c.args.router.now)) c.self.view_is
