-- Where declarations have no fault, the policy that they say is well formed.
use Rattle.std.proofs.Common.{◌≡◌, List, None}
use Rattle.std.specs.Prelude.{IsTrue}
use Rattle.topology.specs.Sound.{IsWellFormed}
use Rattle.spoc_ast.specs.Written.{DeclText}
use Rattle.policy_decls.specs.Said.{policy_said}
use Rattle.policy_decls.specs.Faults.{fault_of}
use Rattle.policy_decls.specs.Formed.{are_formed}
use Rattle.decl_laws.proofs.Rows.{no_rows}
use Rattle.decl_laws.proofs.Addressed.{hosts_stay, nats_keep}
use Rattle.decl_laws.proofs.Equipped.{are_equipped, addresses_stay, addresses_differ, shares_hold, hardware_differs, binds_once}
use Rattle.decl_laws.proofs.Restricted.{restrictions_hold, areas_hold}

pub well_formed : (decls : List DeclText) → IsTrue (are_formed decls) → fault_of decls ≡ None → IsWellFormed (policy_said decls)
well_formed decls formed none =
    let h = no_rows decls none in
    record {
      hosts = hosts_stay decls formed h;
      nats = nats_keep decls formed h;
      equipped = are_equipped decls formed h;
      addresses = addresses_stay decls formed h;
      apart = addresses_differ decls formed h;
      shared = shares_hold decls formed h;
      hardware = hardware_differs decls formed h;
      binds = binds_once decls formed h;
      restrictions = restrictions_hold decls formed h;
      areas = areas_hold decls formed h;
    }
