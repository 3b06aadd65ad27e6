use Rattle.std.proofs.Common.{◌≡◌, ◌∙◌, false, refl, sym, ap}
use Rattle.spoc_base.specs.declared.ids.TagId.{TagId}
use Rattle.policy_model.specs.Faults.{has_tag}
use Rattle.topology.specs.View.{policy_of}
use Rattle.nat_domains.specs.Translated.{is_tag_at, numbers_of}
use Rattle.nat_domains.proofs.Members.{at_row}
use Rattle.nat_domains.proofs.Pairs.{none_more}
use Rattle.nat_domains.proofs.refuse.first_tag.Goals as goal

pub loop-k-preserved : goal.loop-k-preserved
loop-k-preserved c =
    let p = policy_of c.args.topo in
    let row = c.args.row.now in
    let at = at_row (λ (tag : TagId). tag.0) row (numbers_of row) (record { 0 = 0 }) refl c.loop-k.k in
    let fails : is_tag_at p c.args.n.0 (numbers_of row) c.loop-k.k ≡ false = ap (has_tag p c.args.n.0) (sym at) ∙ (sym c.translates.ensures ∙ c.if-translates.false) in
    none_more (is_tag_at p c.args.n.0 (numbers_of row)) c.args.from c.loop-k.k fails c.loop-k.invariant
