use Rattle.std.proofs.Common.{◌∙◌, ◌∷◌, ◌++◌, [], ap, map}
use Rattle.std.specs.Map.{lookup}
use Rattle.std.proofs.lemmas.List.{map-append}
use Rattle.box_algebra.specs.Shown.{header_box_of}
use Rattle.permit_set.specs.Shown.{permit_of}
use Rattle.permit_pieces.specs.Rows.{boxes_of, is_key, is_row, table_of}
use Rattle.permit_pieces.proofs.Tables.{put_in, one_behind}
use Rattle.permit_pieces.proofs.denials.Denials.add.Goals as goal

pub returns : goal.returns
returns c = λ src dst.
    let d = permit_of c.args.d.now in
    let row = c.push.new.self in
    let left = lookup (is_row src dst) c.take-row.new.self.rows.entries in
    one_behind (table_of c.args.self.now) d src dst (map header_box_of row.items) (table_of (record { alloc = c.args.self.now.alloc; rows = c.insert.new.self }) src dst) (boxes_of left)
    (ap boxes_of (c.in_ok-insert.ensures.updates.0 (record { 0 = src }, record { 0 = dst })) ∙ put_in (is_key (c.args.d.now.src.net, c.args.d.now.dst.net) src dst) row left)
    (c.take-row.ensures.others src dst)
    (ap (map header_box_of) c.in_ok-push.ensures.items ∙ (map-append header_box_of c.take-row.result.items (c.box_in.result ∷ [])
    ∙ (ap (λ l. l ++ header_box_of c.box_in.result ∷ []) c.take-row.ensures.row ∙ ap (λ b. table_of c.args.self.now d.src.net d.dst.net ++ b ∷ []) c.box_in.ensures)))
