use Rattle.std.proofs.Common.{◌≡◌, ◌++◌, ◌∷◌, [], Bool, subst, sym}
use Rattle.std.specs.Prelude.{set, slice_index_or}
use Rattle.std.proofs.lemmas.Result.{IfOk-weaker}
use Rattle.zone_graph.specs.Grouped.{row_items}
use Rattle.nat_domains.specs.Rows.{tag_rows, IsPutIf}
use Rattle.nat_domains.proofs.Listing.{put_yes, put_no}
use Rattle.nat_domains.proofs.rows.put_if.Goals as goal

pub returns-then-not-yes-clause-put : goal.returns-then-not-yes-clause-put
returns-then-not-yes-clause-put c =
    subst (λ (b : Bool). IsPutIf c.args.tag.0 c.args.k b (tag_rows c.args.rows.now) (tag_rows c.args.rows.now)) (sym c.if-not-yes.true) (put_no c.args.tag.0 c.args.k (tag_rows c.args.rows.now))

pub returns-clause-put : goal.returns-clause-put
returns-clause-put c =
    IfOk-weaker c.put_tag.result
    (λ done. row_items c.put_tag.new.rows ≡ set (row_items c.args.rows.now) c.args.k (slice_index_or (row_items c.args.rows.now) c.args.k [] ++ c.args.tag ∷ []))
    (λ done. IsPutIf c.args.tag.0 c.args.k c.args.yes (tag_rows c.args.rows.now) (tag_rows c.put_tag.new.rows))
    (λ done made. subst (λ (b : Bool). IsPutIf c.args.tag.0 c.args.k b (tag_rows c.args.rows.now) (tag_rows c.put_tag.new.rows)) (sym c.if-not-yes.false)
    (put_yes c.args.rows.now c.put_tag.new.rows c.args.k c.args.tag c.requires made))
    c.put_tag.ensures.put
