-- Boxes of headers: the sources of one range, the destinations of another, and a set of transports.
use Rattle.std.specs.Prelude.{◌<◌, ◌≤◌, Bool, ◌&&◌, IsTrue}
use Rattle.spoc_base.specs.Address.{Interval, within, interval_covers}
use Rattle.spoc_base.specs.Boxes.{IsTransport, box_holds, box_covers}
use Rattle.spoc_base.specs.Pieces.{HeaderBox}
use Rattle.policy_model.specs.Packets.{Header}
use Rattle.spoc_base.specs.PlainSets.{IsBox, IsProperSet}

abbrev pub header_box_holds : HeaderBox → Header → Bool
header_box_holds b h = within b.src h.src && within b.dst h.dst && box_holds b.transport h.transport

-- part by part, the first covers the second
abbrev pub header_box_covers : HeaderBox → HeaderBox → Bool
header_box_covers a b = interval_covers a.src b.src && interval_covers a.dst b.dst && box_covers a.transport b.transport

-- a header whose numbers are in their ranges
pub record IsHeader (h : Header) : Type 0 where
  pub src : h.src < 4294967296
  pub dst : h.dst < 4294967296
  pub transport : IsTransport h.transport

pub record IsAddressRange (r : Interval) : Type 0 where
  pub ordered : r.first ≤ r.last
  pub small : r.last < 4294967296

-- the ranges ascend, and all numbers are in their ranges
pub record IsHeaderBox (b : HeaderBox) : Type 0 where
  pub src : IsAddressRange b.src
  pub dst : IsAddressRange b.dst
  pub transport : IsBox b.transport
  pub set : IsProperSet b.transport

-- the first holds each header that the second holds
abbrev pub HoldsAll : HeaderBox → HeaderBox → Type 0
HoldsAll a b = (h : Header) → IsHeader h → IsTrue (header_box_holds b h) → IsTrue (header_box_holds a h)

-- a header that both hold
pub record HoldBoth (a b : HeaderBox) : Type 0 where
  pub header : Header
  pub proper : IsHeader header
  pub first : IsTrue (header_box_holds a header)
  pub second : IsTrue (header_box_holds b header)
