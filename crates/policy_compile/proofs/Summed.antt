-- The counts of the summary.
use Rattle.std.proofs.Common.{◌≡◌, ℕ, zero, suc, ◌<◌, ◌≤◌, inl, inr, List, [], ◌∷◌, length, map, filter, refl, sym, subst, ap, ◌∙◌, arith}
use Rattle.std.specs.Prelude.{◌==◌, slice_index_or}
use Rattle.std.proofs.lemmas.List.{length-map}
use Rattle.std.proofs.lemmas.List.FromFn.{length-range_with_len}
use Rattle.policy_model.specs.Policy.{Policy, all_ifaces}
use Rattle.policy_model.specs.Zones.{Site, zone_of, zone_count}
use Rattle.policy_model.specs.Tags.{Views}
use Rattle.policy_model.specs.Permits as plain
use Rattle.policy_model.specs.Headline.{Meaning, permits_in}
use Rattle.policy_model.proofs.AllWalks.{IsIn}
use Rattle.topology.specs.View.{policy_of}
use Rattle.topology.specs.declared.topo.Topo.{Topo}
use Rattle.zone_graph.specs.Grouped.{Graph, IsGraphOf}
use Rattle.fault_laws.proofs.There.{permit_there}
use Rattle.permit_set.specs.Shown.{permit_of}
use Rattle.permit_set.specs.declared.permit.Permit.{Permit}
use Rattle.dev_config.specs.declared.setup.List.{List as CodeList}
use Rattle.dev_config.specs.Seen.{lines_of}
use Rattle.policy_outcome.specs.Outcome.{is_local, list_for, lists_for}
use Rattle.policy_outcome.specs.Found.{meaning_in, IsZoned, IsFound}
use Rattle.policy_compile.specs.Seen.{AreZoned, is_within}

shown_in : (permits : List Permit) (k : ℕ) (d : Permit) → k < length permits → IsIn (permit_of (slice_index_or permits k d)) (map permit_of permits)
shown_in [] k d h = absurd (omega (arith, h))
shown_in (q ∷ permits) zero d h = inl refl
shown_in (q ∷ permits) (suc k) d h = inr (shown_in permits k d (omega (arith, h)))

zones_of_site : (topo : Topo) (graph : Graph) → IsZoned topo graph → graph.zones ≡ (meaning_in topo).site.zones
zones_of_site topo graph zoned = ap (λ (s : Site). s.zones) zoned.site

-- the networks of what was expanded have zones
pub ends_zoned : (topo : Topo) (graph : Graph) (tags : Views) (permits : List Permit) → IsFound topo graph tags (map permit_of permits) → AreZoned graph.zones permits
ends_zoned topo graph tags permits found k d below =
    let nets = found.zoned.is_graph.table.each in
    let zones = ap length (zones_of_site topo graph found.zoned) in
    permit_there (meaning_in topo).site topo.kept.sound (length graph.zones) (omega (arith, nets)) (omega (arith, zones)) (meaning_in topo).areas
    (permit_of (slice_index_or permits k d)) (subst (IsIn (permit_of (slice_index_or permits k d))) found.expanded (shown_in permits k d below))

-- as many of them stay in one zone as the meaning says
pub same_local : (topo : Topo) (graph : Graph) (tags : Views) (permits : List Permit) → IsFound topo graph tags (map permit_of permits) →
    length (filter (is_within graph.zones) (map permit_of permits)) ≡ length (filter (is_local (meaning_in topo)) (permits_in (meaning_in topo)))
same_local topo graph tags permits found =
    ap (λ (zones : List ℕ). length (filter (is_within zones) (map permit_of permits))) (zones_of_site topo graph found.zoned)
    ∙ ap (λ (qs : List plain.Permit). length (filter (is_local (meaning_in topo)) qs)) found.expanded

-- and there are as many
pub same_permits : (topo : Topo) (graph : Graph) (tags : Views) (permits : List Permit) → IsFound topo graph tags (map permit_of permits) →
    length permits ≡ length (permits_in (meaning_in topo))
same_permits topo graph tags permits found = sym (length-map permits permit_of) ∙ ap length found.expanded

-- the zones are counted
pub same_zones : (topo : Topo) (graph : Graph) → ((p : Policy) (g : Graph) → IsGraphOf p g → zone_count (record { policy = p; zones = g.zones }) ≡ length g.nets) → IsZoned topo graph →
    length graph.nets ≡ zone_count (meaning_in topo).site
same_zones topo graph law zoned = sym (law (policy_of topo) graph zoned.is_graph) ∙ ap zone_count zoned.site

-- lists that look the same are as long
pub same_length : {A B C : Type 0} (f : A → C) (g : B → C) (xs : List A) (ys : List B) → map f xs ≡ map g ys → length xs ≡ length ys
same_length f g xs ys e = sym (length-map xs f) ∙ ap length e ∙ length-map ys g

-- there is a list for each interface
pub listed : (topo : Topo) (lists : List CodeList) → map lines_of lists ≡ lists_for (meaning_in topo) → length lists ≡ length (policy_of topo).ifaces
listed topo lists e =
    let p = policy_of topo in
    sym (length-map lists lines_of) ∙ ap length e ∙ length-map (all_ifaces p) (list_for (meaning_in topo)) ∙ length-range_with_len 0 (length p.ifaces)
