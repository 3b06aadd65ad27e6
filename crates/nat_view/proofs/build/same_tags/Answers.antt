use Rattle.std.proofs.Common.{ap, eqb-true, eq-eqb}
use Rattle.std.proofs.lemmas.Slice.Eq.{slice_eq-Decides}
use Rattle.spoc_base.specs.declared.ids.TagId.{TagId}
use Rattle.nat_view.proofs.build.same_tags.Goals as goal

pub returns : goal.returns
returns c =
    slice_eq-Decides (λ (a b : TagId). (λ e. ap (λ n. let t : TagId = record { 0 = n } in t) (eqb-true a.0 b.0 e), λ e. eq-eqb a.0 b.0 (ap (λ (t : TagId). t.0) e)))
    c.args.a.now c.args.b.now c.eq.result c.eq.ensures
