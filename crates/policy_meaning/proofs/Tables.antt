-- The tables that are found are those of the policy's meaning.
use Rattle.std.proofs.Common.{◌≡◌, ◌∙◌, ℕ, List, length, sym, subst, ap}
use Rattle.std.specs.Prelude.{Result, Ok, Err, IfOk}
use Rattle.std.proofs.lemmas.List.FromFn.{length-map-range_with_len}
use Rattle.policy_model.specs.Zones.{Site}
use Rattle.policy_model.specs.Tags.{Views, AreViews, inner_tags}
use Rattle.policy_model.specs.Objects.{AreAreas}
use Rattle.policy_model.specs.Permits.{permits_of}
use Rattle.policy_model.specs.Headline.{permits_in}
use Rattle.policy_model.proofs.OneTable.{one_table}
use Rattle.policy_model.proofs.OneMeaning.{one_table_of_views, one_table_of_areas}
use Rattle.topology.specs.View.{policy_of}
use Rattle.topology.specs.declared.topo.Topo.{Topo}
use Rattle.zone_graph.specs.Grouped.{Graph, IsGraphOf}
use Rattle.zone_graph.proofs.Counted.{counted}
use Rattle.meaning_laws.specs.Tables.{zones_of}
use Rattle.meaning_laws.proofs.ZonesThere as there
use Rattle.meaning_laws.proofs.RowsThere as rows
use Rattle.group_expand.specs.Seen.{site_of}
use Rattle.group_expand.specs.Areas.{AreWhole}
use Rattle.policy_outcome.specs.Found.{meaning_in, IsZoned}

-- what follows of a value from two clauses
pub both_ok : {T E : Type 0} (r : Result T E) (P Q R : T → Type 0) → ((x : T) → P x → Q x → R x) → IfOk r P → IfOk r Q → IfOk r R
both_ok (Ok x) P Q R so p q = so x p q
both_ok (Err e) P Q R so p q = tt

-- a graph of the policy has the meaning's zones
pub zoned : (topo : Topo) (graph : Graph) → IsGraphOf (policy_of topo) graph → IsZoned topo graph
zoned topo graph is = record {
  is_graph = is;
  site = ap (λ (zones : List ℕ). let s : Site = record { policy = policy_of topo; zones = zones } in s) (one_table (policy_of topo) graph.zones (zones_of (policy_of topo)) is.table (there.zones_found (policy_of topo)));
}

module _ (topo : Topo) (graph : Graph) (is : IsZoned topo graph) where
  pub same_areas : (areas : List (List ℕ)) → AreAreas (site_of topo graph) areas → areas ≡ (meaning_in topo).areas
  same_areas areas its =
      one_table_of_areas (meaning_in topo).site areas (meaning_in topo).areas (subst (λ (s : Site). AreAreas s areas) is.site its) (rows.areas_found (meaning_in topo).site)

  pub whole : (areas : List (List ℕ)) → AreAreas (site_of topo graph) areas → AreWhole (site_of topo graph) areas → AreWhole (meaning_in topo).site (meaning_in topo).areas
  whole areas its are = subst (AreWhole (meaning_in topo).site) (same_areas areas its) (subst (λ (s : Site). AreWhole s areas) is.site are)

  pub same_views : (views : Views) → AreViews (site_of topo graph) views → views ≡ (meaning_in topo).views
  same_views views its =
      one_table_of_views (meaning_in topo).site views (meaning_in topo).views (subst (λ (s : Site). AreViews s views) is.site its) (rows.views_found (meaning_in topo).site)

  -- and the meaning's views are those of the site that is found
  pub are_views : (views : Views) → views ≡ (meaning_in topo).views → AreViews (site_of topo graph) views
  are_views views e =
      subst (λ (v : Views). AreViews (site_of topo graph) v) (sym e) (subst (λ (s : Site). AreViews s (meaning_in topo).views) (sym is.site) (rows.views_found (meaning_in topo).site))

  -- as many of them as there are zones, and routers
  pub zones_sized : (views : Views) → AreViews (site_of topo graph) views → length views.zones ≡ length graph.nets
  zones_sized views its = its.each ∙ counted (policy_of topo) graph is.is_graph

  pub routers_sized : (views : Views) → AreViews (site_of topo graph) views → length views.routers ≡ length (policy_of topo).routers
  routers_sized views its = ap length its.inner ∙ length-map-range_with_len (inner_tags (site_of topo graph) views) 0 (length (policy_of topo).routers)

  pub same_permits : (areas : List (List ℕ)) → areas ≡ (meaning_in topo).areas → permits_of (site_of topo graph) areas ≡ permits_in (meaning_in topo)
  same_permits areas are = ap (λ (s : Site). permits_of s areas) is.site ∙ ap (permits_of (meaning_in topo).site) are
