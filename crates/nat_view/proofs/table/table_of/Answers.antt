use Rattle.std.proofs.Common.{◌∙◌, ap, sym, map, subst}
use Rattle.topology.specs.View.{policy_of}
use Rattle.subnet_tree.specs.Entries.{HaveDistinctNumbers, HaveDistinctPrefixes}
use Rattle.subnet_tree.specs.Shown.{entry_of}
use Rattle.nat_view.specs.Shown.{numbers_of, cidrs_of}
use Rattle.nat_view.specs.Tables.{entries_of, ArePrefixes}
use Rattle.nat_view.proofs.Items.{items_are_distinct, refused}
use Rattle.nat_view.proofs.table.table_of.Goals as goal

pub build-requires : goal.build-requires
build-requires c =
    let e = ap (map entry_of) c.deref-2.ensures.value ∙ (c.in_ok-items.ensures {u = tt} ∙ ap (λ xs. entries_of (cidrs_of xs)) c.deref.ensures.value) in
    subst HaveDistinctNumbers (sym e) (items_are_distinct (cidrs_of c.in_ok-seen.seen.items))

pub returns-in-Err-clause-refused : goal.returns-in-Err-clause-refused
returns-in-Err-clause-refused c =
    let e = ap (map entry_of) c.deref-2.ensures.value ∙ (c.in_ok-items.ensures {u = tt} ∙ ap (λ xs. entries_of (cidrs_of xs)) c.deref.ensures.value) in
    refused (policy_of c.args.topo) (numbers_of c.args.tags.now) (cidrs_of c.in_ok-seen.seen.items) (c.in_ok-seen.ensures {u = tt}) (map entry_of c.deref-2.result.now) c.in-Err.fail e (c.in-Err.ensures {u = tt}).same

pub returns-clause-table : goal.returns-clause-table
returns-clause-table c =
    let e = ap (map entry_of) c.deref-2.ensures.value ∙ (c.in_ok-items.ensures {u = tt} ∙ ap (λ xs. entries_of (cidrs_of xs)) c.deref.ensures.value) in
    record {
      prefixes = subst (λ tags. ArePrefixes (policy_of c.args.topo) (numbers_of tags) (cidrs_of c.in_ok-seen.seen.items)) (sym (c.in_ok-tags.ensures {u = tt})) (c.in_ok-seen.ensures {u = tt});
      items_are = (c.in-Ok.ensures {u = tt}).items ∙ e;
      apart = subst HaveDistinctPrefixes (sym (c.in-Ok.ensures {u = tt}).items) (c.in-Ok.ensures {u = tt}).apart;
    }
