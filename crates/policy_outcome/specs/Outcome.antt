-- What a policy compiles to: the files of its managed routers and the summary's counts, or the line of its first fault.
use Rattle.std.specs.Prelude.{ℕ, Bool, not, ◌&&◌, ◌||◌, ◌==◌, List, [], ◌∷◌, ◌++◌, length, map, filter, Option, Some, None, Result, Ok, Err, if◌then◌else◌, codes}
use Rattle.std.specs.List.{list_any}
use Rattle.std.specs.Fmt.{decimal}
use Rattle.policy_model.specs.Lists.{is_nothing, pairs_of}
use Rattle.policy_model.specs.Policy.{Policy, net_of, all_nets, all_ifaces, router_at, is_managed, managed_routers}
use Rattle.policy_model.specs.Zones.{zone_of, zone_count}
use Rattle.policy_model.specs.Permits.{Permit}
use Rattle.policy_model.specs.Filters.{Line}
use Rattle.policy_model.specs.Blocks.{list_at}
use Rattle.policy_model.specs.FirstFault.{FaultCase}
use Rattle.policy_model.specs.Headline.{Meaning, permits_in}
use Rattle.fault_laws.specs.Cases.{first_of, split_case, conflict_case, twice_case, inside_case, views_case, same_case, managed_case, permits_case, path_case, hidden_case, lines_case}
use Rattle.shadow_laws.specs.Shadows.{shadow_case}
use Rattle.fault_text.specs.Cases.{case_line}
use Rattle.policy_outcome.specs.Files.{files_for, line_total}

-- the summary's counts
pub record Counts : Type 0 where
  pub networks : ℕ
  pub zones : ℕ
  pub routers : ℕ
  pub permits : ℕ
  pub local : ℕ
  pub lines : ℕ
  pub routes : ℕ

-- the device files, by the name of each router, and the counts
pub record Written : Type 0 where
  pub files : List (List ℕ × List ℕ)
  pub counts : Counts

-- ---- what is written for a policy

-- the list at an interface of a managed router, and none at another one
abbrev pub list_for : Meaning → ℕ → List Line
list_for m i = if is_managed m.site.policy (router_at m.site.policy i) then list_at m.site m.views (permits_in m) i else []

-- the lists of all interfaces, by number
abbrev pub lists_for : Meaning → List (List Line)
lists_for m = map (list_for m) (all_ifaces m.site.policy)

-- both ends of the permit are in one zone
abbrev pub is_local : Meaning → Permit → Bool
is_local m q = zone_of m.site q.src.net == zone_of m.site q.dst.net

abbrev pub counts_for : Meaning → Counts
counts_for m = record {
  networks = length m.site.policy.nets;
  zones = zone_count m.site;
  routers = length (managed_routers m.site.policy);
  permits = length (permits_in m);
  local = length (filter (is_local m) (permits_in m));
  lines = line_total m.site.policy (lists_for m);
  routes = 0;
}

abbrev pub written_for : Meaning → Written
written_for m = record { files = files_for m.site.policy (lists_for m); counts = counts_for m }

-- ---- the outcome

-- the line of a fault, where there is one, in place of what comes after it
abbrev pub unless : {A : Type 0} → Option A → (A → List ℕ) → Result Written (List ℕ) → Result Written (List ℕ)
unless None line outcome = outcome
unless (Some fault) line outcome = Err (line fault)

-- the first fault of tags, that of views, that of services, and that of walks
abbrev pub tag_case : Meaning → Option FaultCase
tag_case m = first_of (conflict_case m ∷ twice_case m ∷ inside_case m ∷ [])

abbrev pub view_case : Meaning → Option FaultCase
view_case m = first_of (views_case m ∷ same_case m ∷ shadow_case m ∷ [])

abbrev pub service_case : Meaning → Option FaultCase
service_case m = first_of (managed_case m ∷ permits_case m ∷ [])

abbrev pub walk_case : Meaning → Option FaultCase
walk_case m = first_of (path_case m ∷ hidden_case m ∷ lines_case m ∷ [])

module _ (m : Meaning) where
  -- the outcome where areas, tags, views and services have no fault
  abbrev pub after_services : Result Written (List ℕ)
  after_services = unless (walk_case m) (case_line m.site) (Ok (written_for m))

  -- where areas, tags and views have none
  abbrev pub after_views : Result Written (List ℕ)
  after_views = unless (service_case m) (case_line m.site) after_services

  -- where areas and tags have none
  abbrev pub after_tags : Result Written (List ℕ)
  after_tags = unless (view_case m) (case_line m.site) after_views

  -- where areas have none
  abbrev pub after_areas : Result Written (List ℕ)
  after_areas = unless (tag_case m) (case_line m.site) after_tags

  -- What a policy compiles to that means this: its faults count row by row.
  abbrev pub outcome_for : Result Written (List ℕ)
  outcome_for = unless (split_case m) (case_line m.site) after_areas

-- ---- the summary

abbrev pub count_line : List ℕ → ℕ → List ℕ
count_line word n = word ++ decimal n ++ codes "\n"

unfoldable pub summary_text : Counts → List ℕ
summary_text c =
    count_line (codes "networks ") c.networks ++ count_line (codes "zones ") c.zones ++ count_line (codes "routers ") c.routers ++ count_line (codes "permits ") c.permits
    ++ count_line (codes "local ") c.local ++ count_line (codes "lines ") c.lines ++ count_line (codes "routes ") c.routes
