use Rattle.std.proofs.Common.{length, sym, ap, ◌∙◌}
use Rattle.std.proofs.lemmas.List.{length-map}
use Rattle.policy_model.specs.Policy.{managed_routers}
use Rattle.topology.specs.View.{policy_of, sources_of}
use Rattle.topology.specs.Seen.{net_seen}
use Rattle.nat_view.specs.Views.{seen_of}
use Rattle.device_files.specs.Seen.{file_of}
use Rattle.policy_outcome.specs.Files.{file_for, config_for}
use Rattle.policy_outcome.specs.Outcome.{lists_for}
use Rattle.policy_outcome.specs.Found.{meaning_in}
use Rattle.policy_compile.proofs.Texts.{same_counts}
use Rattle.policy_compile.proofs.Summed.{ends_zoned, same_local, same_permits, same_zones, same_length}
use Rattle.policy_compile.proofs.compiled.summarize.Goals as goal

pub local-requires : goal.local-requires
local-requires c = rw c.deref.ensures.value (ends_zoned c.args.topo c.args.found.now.graph (seen_of c.args.found.now.views).views c.args.found.now.permits.items c.requires.found)

pub returns : goal.returns
returns c =
    let topo = c.args.topo in
    let found = c.args.found.now in
    let p = policy_of topo in
    same_counts _ _ _ _ _ _ _ _ _ _ _ _
    (sym (length-map c.nets.result.now (net_seen (sources_of topo))) ∙ ap length c.nets.ensures)
    (c.from.ensures ∙ c.count.ensures ∙ same_zones topo found.graph c.zones_are_counted.ensures c.requires.found.zoned)
    (ap length c.items.ensures ∙ same_length file_of (λ r. file_for p r (config_for p (lists_for (meaning_in topo)) r)) c.args.made.now.files (managed_routers p) c.requires.files)
    (c.len.ensures ∙ c.args.found.now.permits.ok.0 ∙ same_permits topo found.graph (seen_of found.views).views found.permits.items c.requires.found)
    (c.local.ensures ∙ rw c.deref.ensures.value (same_local topo found.graph (seen_of found.views).views found.permits.items c.requires.found))
    c.requires.lines
