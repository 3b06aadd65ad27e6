-- What clauses see: the plain ports and facts.
use Rattle.std.specs.Prelude.{Bool, nat_lt, if◌then◌else◌, List, map, Option, Some, None}
use Rattle.std.specs.List.{list_any, list_all}
use Rattle.spoc_base.specs.Shown.{cidr_of, box_of}
use Rattle.dev_config.specs.declared.setup.Port.{Port}
use Rattle.device_reading.specs.Facts as plain
use Rattle.device_reading.specs.Grammar.{binds_port}
use Rattle.acl_read.specs.declared.fact.End.{End}
use Rattle.acl_read.specs.declared.fact.End.TheVariants as end
use Rattle.acl_read.specs.declared.fact.Entry.{Entry}
use Rattle.acl_read.specs.declared.fact.Fact.{Fact}
use Rattle.acl_read.specs.declared.fact.Fact.TheVariants as fact

abbrev pub port_at : Port → plain.PortAt
port_at p = record { number = p.iface.0; hardware = p.hardware.now; connected = cidr_of p.connected }

abbrev pub ports_at : List Port → List plain.PortAt
ports_at ports = map port_at ports

abbrev pub end_seen : End → plain.End
end_seen (end.Prefix p) = plain.OnePrefix (cidr_of p)
end_seen (end.Group name members) = plain.NamedGroup name.now (map cidr_of members.now)

abbrev pub entry_seen : Entry → plain.Entry
entry_seen e = record { permit = e.permit; src = end_seen e.src; dst = end_seen e.dst; box = box_of e.t }

abbrev pub fact_seen : Fact → plain.Fact
fact_seen (fact.Remark text) = plain.Remark text.now
fact_seen (fact.Sends port net gateway) = plain.Sends (port_at port) (cidr_of net) gateway.0
fact_seen (fact.OpensList name) = plain.OpensList name.now
fact_seen (fact.HasEntry list entry) = plain.HasEntry list.now (entry_seen entry)
fact_seen (fact.OpensPort hardware) = plain.OpensPort hardware.now
fact_seen (fact.Binds hardware list) = plain.Binds hardware.now list.now
fact_seen (fact.OpensGroup name) = plain.OpensGroup name.now
fact_seen (fact.HasMember group member) = plain.HasMember group.now (cidr_of member)

abbrev pub facts_seen : List Fact → List plain.Fact
facts_seen facts = map fact_seen facts

-- the longer one, and the first of equally long ones
abbrev pub longer_port : Option plain.PortAt → plain.PortAt → plain.PortAt
longer_port None p = p
longer_port (Some b) p = if nat_lt b.connected.len p.connected.len then p else b

-- whether each port has a list
abbrev pub every_bound : List plain.PortAt → List plain.Fact → Bool
every_bound ports facts = list_all (λ (p : plain.PortAt). list_any (binds_port p.hardware) facts) ports
