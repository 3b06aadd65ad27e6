use Rattle.std.proofs.Common.{◌≡◌, ◌∷◌, ◌++◌, [], ap, length, sym, subst, arith}
use Rattle.topology.specs.View.{policy_of}
use Rattle.nat_view.specs.Places.{HasNoneOf, HasTable}
use Rattle.nat_view.specs.Shown.{numbers_of}
use Rattle.nat_view.proofs.Placing.{has_new}
use Rattle.nat_view.proofs.build.place_of.Goals as goal

pub returns-clause-table : goal.returns-clause-table
returns-clause-table c =
    let p = policy_of c.args.topo in
    let old = c.args.tables.now.items in
    let tags = numbers_of c.args.tags.now in
    let table = c.in-Ok.table in
    let lacks : HasNoneOf old tags = subst (λ xs. HasNoneOf xs tags) c.deref.ensures.value (c.in_default.ensures {u = tt}).there in
    let has = has_new p tags old table c.requires.tables c.requires.unlike lacks (c.in-Ok.ensures {u = tt}).table (ap numbers_of (c.in-Ok.ensures {u = tt}).tags) in
    let k : length old ≡ c.len-k.result = omega (arith, c.len-k.ensures, c.args.tables.now.ok.0) in
    subst (λ new. HasTable p tags old new c.len-k.result) (sym (c.in-Ok-push.ensures {u = tt}).items) (subst (HasTable p tags old (old ++ table ∷ [])) k has)
