use Rattle.std.proofs.Common.{◌<◌, ◌≤◌, ℕ, length, sym, subst, ⊎_elim, arith}
use Rattle.std.proofs.lemmas.Bool.{cases_eq}
use Rattle.std.proofs.lemmas.List.{length-map}
use Rattle.spoc_base.specs.declared.ids.TagId.{TagId}
use Rattle.topology.specs.View.{policy_of}
use Rattle.nat_domains.specs.Translated.{numbers_of, HasNoTwo, IsFirstPair}
use Rattle.nat_domains.proofs.Pairs.{no_pair, short_row}
use Rattle.nat_domains.proofs.refuse.first_pair.Goals as goal

pub returns-then-row-lt2 : goal.returns-then-row-lt2
returns-then-row-lt2 c =
    let row = c.args.row.now in
    let long = length-map row (λ (tag : TagId). tag.0) in
    let short : length (numbers_of row) < 2 = omega (arith, long, c.if-row-lt2.true) in short_row (policy_of c.args.topo) (numbers_of row) short

pub returns-in-Some : goal.returns-in-Some
returns-in-Some c =
    let p = policy_of c.args.topo in
    let row = numbers_of c.args.row.now in
    let two = c.in-Some.two in
    subst (λ (x : ℕ). IsFirstPair p row x two.tag.0 two.other.0) (sym c.in-Some.ensures.0)
    (record { there = omega (arith, c.loop-n-test.true, c.net_count-n-end.ensures); pair = c.in-Some.ensures.1; before = λ m t o low. c.loop-n.invariant m low t o })

pub loop-n-preserved : goal.loop-n-preserved
loop-n-preserved c =
    let p = policy_of c.args.topo in
    let row = numbers_of c.args.row.now in
    λ m low. ⊎_elim (λ e. subst (λ (x : ℕ). HasNoTwo p row x) (sym e) c.in_default.ensures) (λ ne. c.loop-n.invariant m (omega (arith, low, ne))) (cases_eq m c.loop-n.n)

pub returns : goal.returns
returns c =
    let p = policy_of c.args.topo in
    let all : length p.nets ≤ c.loop-n.n = omega (arith, c.loop-n-test.false, c.net_count-n-end.ensures) in no_pair p (numbers_of c.args.row.now) c.loop-n.n all c.loop-n.invariant
