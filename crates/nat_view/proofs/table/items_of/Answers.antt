use Rattle.std.proofs.Common.{◌∙◌, ◌++◌, ap, sym, arith}
use Rattle.std.specs.Prelude.{None, option_map}
use Rattle.std.proofs.lemmas.List.{get_or-map}
use Rattle.spoc_base.specs.Shown.{cidr_of}
use Rattle.nat_view.specs.Shown.{cidrs_of}
use Rattle.nat_view.specs.Tables.{entry_if, entries_below}
use Rattle.nat_view.proofs.Items.{one_item_more}
use Rattle.nat_view.proofs.table.items_of.Goals as goal

pub loop-n-preserved : goal.loop-n-preserved
loop-n-preserved c =
    let seen = c.args.seen.now in
    let n = c.loop-n.n in
    let at = get_or-map (option_map cidr_of) seen n c.index-seen-n.result None (omega (arith, c.loop-n-test.true)) ∙ ap (option_map cidr_of) (sym c.index-seen-n.is) in
    c.in_ok-push_item.ensures {u = tt}
    ∙ (ap (λ es. es ++ entry_if n (option_map cidr_of c.index-seen-n.result)) c.loop-n.invariant
    ∙ (ap (λ o. entries_below (cidrs_of seen) n ++ entry_if n o) (sym at) ∙ sym (one_item_more (cidrs_of seen) n)))
