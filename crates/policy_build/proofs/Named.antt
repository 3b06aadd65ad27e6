-- Names in the sources.
use Rattle.std.proofs.Common.{◌≡◌, refl, ℕ, List}
use Rattle.spoc_base.specs.declared.place.Source.{Source}
use Rattle.spoc_base.specs.declared.place.Span.{Span}
use Rattle.spoc_base.specs.declared.place.Kind.{Kind}
use Rattle.spoc_base.specs.declared.place.Named.TheVariants.{Plain, Iface}
use Rattle.topology.specs.Texts.{LiesIn, text_at, IsCalled, IsIfaceCalled}

pub name_written : (sources : List Source) (kind : Kind) (span : Span) → LiesIn sources span → IsCalled kind sources (Plain kind span)
name_written sources kind span h = record { is = refl; lies = h }

pub port_written : (sources : List Source) (router net : Span) (r n : List ℕ) → LiesIn sources router → text_at sources router ≡ r → LiesIn sources net → text_at sources net ≡ n
    → IsIfaceCalled sources r n (Iface router net)
port_written sources router net r n h e i f = record { is = refl; router_lies = h; of_router = e; net_lies = i; at_net = f }
