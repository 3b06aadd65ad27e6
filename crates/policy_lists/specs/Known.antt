-- What is known of a policy with its zones, its views and its permits.
use Rattle.std.specs.Prelude.{◌≡◌, map}
use Rattle.policy_model.specs.Zones.{Site}
use Rattle.policy_laws.specs.Shaped.{IsShaped}
use Rattle.topology.specs.View.{policy_of}
use Rattle.nat_view.specs.Views.{seen_of}
use Rattle.permit_set.specs.Shown.{permit_of}
use Rattle.permit_lines.specs.Given.{site_with}
use Rattle.policy_outcome.specs.Found.{IsFound}
use Rattle.policy_lists.specs.declared.viewed.Viewed.{Viewed}

abbrev pub site_in : Viewed → Site
site_in w = site_with (policy_of w.topo) w.graph.now

-- They are the policy's own, and it is shaped.
pub record IsViewed (w : Viewed) : Type 0 where
  pub found : IsFound w.topo w.graph.now (seen_of w.views.now).views (map permit_of w.permits.now)
  pub policy : (seen_of w.views.now).policy ≡ policy_of w.topo
  pub shaped : IsShaped (policy_of w.topo)
