-- What clauses see of permits and packets: the definitions' plain records.
use Rattle.spoc_base.specs.Shown.{interval_of, box_of}
use Rattle.policy_model.specs.Permits as plain
use Rattle.permit_set.specs.declared.packet.Point.{Point}
use Rattle.permit_set.specs.declared.packet.Packet.{Packet}
use Rattle.permit_set.specs.declared.permit.End.{End}
use Rattle.permit_set.specs.declared.permit.Permit.{Permit}

abbrev pub point_of : Point → plain.Point
point_of x = record { net = x.net.0; addr = x.addr.0 }

abbrev pub packet_of : Packet → plain.Packet
packet_of x = record { src = point_of x.src; dst = point_of x.dst; transport = x.t }

abbrev pub end_of : End → plain.End
end_of e = record { net = e.net.0; range = interval_of e.range }

abbrev pub permit_of : Permit → plain.Permit
permit_of q = record { src = end_of q.src; dst = end_of q.dst; box = box_of q.t }
