-- What was read, as plain numbers.
use Rattle.std.specs.Prelude.{ℕ, Option}
use Rattle.spoc_base.specs.Address.{Cidr}
use Rattle.spoc_base.specs.declared.address.Addr.{Addr}
use Rattle.policy_numbers.specs.declared.text.Ends.{Ends}
use Rattle.policy_numbers.specs.declared.text.PortPair.{PortPair}
use Rattle.policy_numbers.specs.declared.text.IcmpKind.{IcmpKind}

abbrev pub prefix_seen : Addr × ℕ → Cidr
prefix_seen p = record { net = p.0.0; len = p.1 }

abbrev pub range_seen : Addr × Addr → ℕ × ℕ
range_seen r = (r.0.0, r.1.0)

abbrev pub ends_seen : Ends → ℕ × ℕ
ends_seen e = (e.first, e.last)

abbrev pub pair_seen : PortPair → (ℕ × ℕ) × (ℕ × ℕ)
pair_seen p = (ends_seen p.source, ends_seen p.destination)

abbrev pub kind_seen : IcmpKind → Option ℕ × Option ℕ
kind_seen k = (k.kind, k.code)
