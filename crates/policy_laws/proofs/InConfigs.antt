-- Lists that decide as a policy's own lists are as exact as these.
use Rattle.std.proofs.Common.{ℕ, ◌<◌, ◌&&◌, ◌++◌, [], List, length, sym, ◌∙◌}
use Rattle.std.specs.Prelude.{if◌then◌else◌, flat_map, IsTrue}
use Rattle.std.specs.List.{list_any}
use Rattle.spoc_base.specs.Boxes.{IsTransport}
use Rattle.policy_model.specs.Policy.{router_at, is_managed}
use Rattle.policy_model.specs.Zones.{Site, zone_at}
use Rattle.policy_model.specs.Tags.{Views, zone_view}
use Rattle.policy_model.specs.Permits.{Permit, mirrors_of}
use Rattle.policy_model.specs.Packets.{Header}
use Rattle.policy_model.specs.Filters.{passes}
use Rattle.policy_model.specs.Blocks.{is_on_path, places_replies_at}
use Rattle.policy_model.specs.Passing.{Config, list_in}
use Rattle.policy_model.specs.Laws.{IsExactAt, permit_has}
use Rattle.policy_laws.specs.Secured.{AreSecured, HaveLists}
use Rattle.policy_laws.proofs.Exact.{exact, nothing_else}

pub exact_in : (s : Site) (v : Views) (permits : List Permit) (configs : List Config) → AreSecured s v permits → HaveLists s v permits configs →
    (i : ℕ) → i < length s.policy.ifaces → IsTrue (is_managed s.policy (router_at s.policy i)) → IsExactAt s v permits i (list_in s.policy configs i)
exact_in s v permits configs ok lists i below managed u w h transport path src dst =
    let e = exact s v permits i (ok.lists i below) u w h transport path src dst in
    (e.0, e.1, sym (lists i below managed h transport) ∙ e.2)

pub nothing_else_in : (s : Site) (v : Views) (permits : List Permit) (configs : List Config) → AreSecured s v permits → HaveLists s v permits configs →
    (i : ℕ) → i < length s.policy.ifaces → IsTrue (is_managed s.policy (router_at s.policy i)) →
    (h : Header) → IsTransport h.transport → IsTrue (passes (list_in s.policy configs i) h) →
    IsTrue (list_any (λ q. is_on_path s i (record { src = q.src.net; dst = q.dst.net }) && permit_has s.policy (zone_view v (zone_at s i)) h q)
    (permits ++ (if places_replies_at s.policy i then flat_map mirrors_of permits else [])))
nothing_else_in s v permits configs ok lists i below managed h transport passed = nothing_else s v permits i (ok.lists i below) h (lists i below managed h transport ∙ passed)
