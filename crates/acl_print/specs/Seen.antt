-- What clauses see of the interfaces of a device, and of the members of its groups.
use Rattle.std.specs.Prelude.{ℕ, List}
use Rattle.spoc_base.specs.Address.{Cidr}
use Rattle.dev_config.specs.declared.setup.Port.{Port}
use Rattle.acl_print.specs.declared.groups.Member.{Member}

-- an interface: its number in the policy, and its name on the device
pub record PortName : Type 0 where
  pub number : ℕ
  pub hardware : List ℕ

abbrev pub port_seen : Port → PortName
port_seen p = record { number = p.iface.0; hardware = p.hardware.now }

abbrev pub member_seen : Member → Cidr
member_seen m = record { net = m.net.0; len = m.len }
