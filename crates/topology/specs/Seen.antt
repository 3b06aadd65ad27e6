-- The lists of a policy as the definitions' plain policy.
use Rattle.std.specs.Prelude.{List, map, option_map}
use Rattle.spoc_base.specs.Shown.{cidr_of, interval_of, box_of}
use Rattle.spoc_base.specs.declared.place.Source.{Source}
use Rattle.policy_model.specs.Policy as plain
use Rattle.topology.specs.Texts.{text_at, name_at}
use Rattle.topology.specs.Expressions.{expr_of}
use Rattle.topology.specs.declared.items.Network.{Network}
use Rattle.topology.specs.declared.items.Host.{Host}
use Rattle.topology.specs.declared.items.Device.{Device}
use Rattle.topology.specs.declared.items.Router.{Router}
use Rattle.topology.specs.declared.items.Iface.{Iface}
use Rattle.topology.specs.declared.items.Tag.{Tag}
use Rattle.topology.specs.declared.items.Restriction.{Restriction}
use Rattle.topology.specs.declared.items.Group.{Group}
use Rattle.topology.specs.declared.items.Area.{Area}
use Rattle.topology.specs.declared.items.Aggregate.{Aggregate}
use Rattle.topology.specs.declared.items.Rule.{Rule}
use Rattle.topology.specs.declared.items.Service.{Service}
use Rattle.topology.specs.declared.items.Parts.{Parts}

abbrev pub net_seen : List Source → Network → plain.Net
net_seen sources net = record { name = name_at sources net.name; own = cidr_of net.own; nats = map (λ nat. (nat.0.0, option_map cidr_of nat.1)) net.nats.now }

abbrev pub host_seen : List Source → Host → plain.Host
host_seen sources host = record { name = name_at sources host.name; net = host.net.0; range = interval_of host.range }

abbrev pub device_seen : Device → plain.Device
device_seen device = record { dialect = device.dialect; fixed = device.fixed }

abbrev pub router_seen : List Source → Router → plain.Router
router_seen sources router = record { name = name_at sources router.name; device = option_map device_seen router.device }

abbrev pub iface_seen : List Source → Iface → plain.Iface
iface_seen sources iface =
    record {
      router = iface.router.0;
      net = iface.net.0;
      addr = option_map (λ a. a.0) iface.addr;
      shared = option_map (λ a. a.0) iface.shared;
      hardware = text_at sources iface.hardware;
      binds = map (λ tag. tag.0) iface.binds.now;
    }

abbrev pub tag_seen : List Source → Tag → plain.Tag
tag_seen sources tag = record { name = name_at sources tag.name }

abbrev pub restriction_seen : List Source → Restriction → plain.Restriction
restriction_seen sources restriction = record { name = name_at sources restriction.name; members = map (λ i. i.0) restriction.members.now }

abbrev pub group_seen : List Source → Group → plain.Group
group_seen sources group = record { name = name_at sources group.name; objects = expr_of group.objects.now }

abbrev pub area_seen : List Source → Area → plain.Area
area_seen sources area = record { name = name_at sources area.name; anchor = option_map (λ n. n.0) area.anchor; borders = map (λ i. i.0) area.borders.now }

abbrev pub aggregate_seen : List Source → Aggregate → plain.Aggregate
aggregate_seen sources aggregate = record { name = name_at sources aggregate.name; link = aggregate.link.0; only = option_map cidr_of aggregate.only }

abbrev pub rule_seen : Rule → plain.Rule
rule_seen rule = record { deny = rule.deny; src = expr_of rule.src.now; dst = expr_of rule.dst.now; boxes = map box_of rule.prts.now }

abbrev pub service_seen : List Source → Service → plain.Service
service_seen sources service = record { name = name_at sources service.name; user = expr_of service.user.now; rules = map rule_seen service.rules.now }

-- the plain policy of some lists
abbrev pub plain_of : Parts → plain.Policy
plain_of parts =
    let sources = parts.sources.now in
    record {
      nets = map (net_seen sources) parts.nets.now;
      hosts = map (host_seen sources) parts.hosts.now;
      routers = map (router_seen sources) parts.routers.now;
      ifaces = map (iface_seen sources) parts.ifaces.now;
      tags = map (tag_seen sources) parts.tags.now;
      restrictions = map (restriction_seen sources) parts.restrictions.now;
      groups = map (group_seen sources) parts.groups.now;
      areas = map (area_seen sources) parts.areas.now;
      aggregates = map (aggregate_seen sources) parts.aggregates.now;
      services = map (service_seen sources) parts.services.now;
    }
