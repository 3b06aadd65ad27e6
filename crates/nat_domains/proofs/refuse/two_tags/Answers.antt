use Rattle.std.proofs.Common.{◌≡◌, ◌∙◌, ℕ, length, refl, sym, ap, subst, arith}
use Rattle.std.specs.Prelude.{Option, option_map, slice_index, slice_index_or}
use Rattle.std.proofs.lemmas.List.{length-map}
use Rattle.spoc_base.specs.Shown.{cidr_of}
use Rattle.spoc_base.specs.declared.address.Prefix.{Prefix}
use Rattle.spoc_base.specs.declared.ids.TagId.{TagId}
use Rattle.policy_model.specs.Policy.{Net, net_of}
use Rattle.topology.specs.View.{policy_of}
use Rattle.nat_domains.specs.Translated.{numbers_of, IsLeastPair}
use Rattle.nat_domains.proofs.Members.{at_row}
use Rattle.nat_domains.proofs.Pairs.{few_tags, no_two, no_second, two_first}
use Rattle.nat_domains.proofs.refuse.two_tags.Goals as goal

pub returns-then-net-lt2 : goal.returns-then-net-lt2
returns-then-net-lt2 c =
    let p = policy_of c.args.topo in
    let e : length (net_of p c.args.n.0).nats ≡ length c.net.result.nats.now =
    ap (λ (net : Net). length net.nats) c.net.ensures.seen ∙ length-map c.net.result.nats.now (λ (nat : TagId × Option Prefix). (nat.0.0, option_map cidr_of nat.1)) in
    few_tags p (numbers_of c.args.row.now) c.args.n.0 (omega (arith, e, c.if-net-lt2.true))

pub returns-in_err-first : goal.returns-in_err-first
returns-in_err-first c =
    let row = c.args.row.now in
    rw c.from_residual.ensures (no_two (policy_of c.args.topo) c.args.n.0 (numbers_of row) (length row) (length-map row (λ (tag : TagId). tag.0)) c.requires.ascending c.in_err-first.ensures)

pub first_tag-requires-2-clause-from : goal.first_tag-requires-2-clause-from
first_tag-requires-2-clause-from c = omega (arith, c.in_ok-first.ensures.below)

pub returns-in_err-second : goal.returns-in_err-second
returns-in_err-second c =
    let row = c.args.row.now in
    rw c.from_residual-in_err-second.ensures
    (no_second (policy_of c.args.topo) c.args.n.0 (numbers_of row) (length row) (length-map row (λ (tag : TagId). tag.0)) c.requires.ascending c.in_ok-first.first c.in_ok-first.ensures
    c.in_err-second.ensures)

pub bounds-row-first : goal.bounds-row-first
bounds-row-first c = c.in_ok-first.ensures.below

pub bounds-row-second : goal.bounds-row-second
bounds-row-second c = c.in_ok-second.ensures.below

pub returns : goal.returns
returns c =
    let p = policy_of c.args.topo in
    let row = c.args.row.now in
    let a = c.in_ok-first.first in
    let b = c.in_ok-second.second in
    let at = λ (k : ℕ). at_row (λ (tag : TagId). tag.0) row (numbers_of row) (record { 0 = 0 }) refl k in
    let least = two_first p c.args.n.0 (numbers_of row) (length row) (length-map row (λ (tag : TagId). tag.0)) c.requires.ascending a b c.in_ok-first.ensures c.in_ok-second.ensures in (
      refl,
      subst (λ (x : ℕ). IsLeastPair p (numbers_of row) c.args.n.0 x (slice_index_or row b (record { 0 = 0 })).0) (sym (at a))
          (subst (λ (x : ℕ). IsLeastPair p (numbers_of row) c.args.n.0 (slice_index (numbers_of row) a) x) (sym (at b)) least),
    )
