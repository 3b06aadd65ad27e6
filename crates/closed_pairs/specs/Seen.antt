-- What clauses see of pairs and lines.
use Rattle.std.specs.Prelude.{Bool, ◌&&◌, option_map}
use Rattle.std.specs.List.{list_any}
use Rattle.spoc_base.specs.Address.{is_inside}
use Rattle.spoc_base.specs.Boxes.{box_covers}
use Rattle.spoc_base.specs.Shown.{cidr_of, box_of}
use Rattle.spoc_base.specs.declared.ids.NetId.{NetId}
use Rattle.policy_model.specs.Filters.{Line}
use Rattle.policy_model.specs.Blocks.{NetPair}
use Rattle.permit_lines.specs.Pieces.{permit_line}
use Rattle.permit_lines.specs.declared.cover.PermitCover.{PermitCover}
use Rattle.closed_pairs.specs.Reaching as plain
use Rattle.closed_pairs.specs.declared.pairs.PairPermits.{PairPermits}
use Rattle.closed_pairs.specs.declared.pairs.PermitLine.{PermitLine}
use Rattle.closed_pairs.specs.declared.pairs.Ends.{Ends}

abbrev pub pair_seen : PairPermits → plain.PairNumbers
pair_seen e = record { pair = record { src = e.src.0; dst = e.dst.0 }; forward = e.forward.now; mirrored = e.mirrored.now }

abbrev pub nets_seen : NetId × NetId → NetPair
nets_seen e = record { src = e.0.0; dst = e.1.0 }

abbrev pub line_seen : PermitLine → Line
line_seen l = permit_line (box_of l.t) (cidr_of l.src) (cidr_of l.dst)

abbrev pub ends_seen : Ends → plain.Ends
ends_seen e = record { src = option_map cidr_of e.src; dst = option_map cidr_of e.dst }

-- one of the permit's lines passes the test
abbrev pub has_line : (Line → Bool) → PermitCover → Bool
has_line test c = list_any (λ src. list_any (λ dst. test (permit_line (box_of c.t) (cidr_of src) (cidr_of dst))) c.dsts) c.srcs

-- one of the permit's sources holds the line's source, one of its destinations the line's destination, and its transports the line's
abbrev pub permits_line : PermitCover → PermitLine → Bool
permits_line c l =
    list_any (λ q. is_inside (cidr_of l.src) (cidr_of q)) c.srcs && list_any (λ q. is_inside (cidr_of l.dst) (cidr_of q)) c.dsts && box_covers (box_of c.t) (box_of l.t)
