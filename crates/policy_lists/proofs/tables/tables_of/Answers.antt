use Rattle.std.proofs.Common.{ℕ, List, map, ap, subst, ◌∙◌}
use Rattle.std.proofs.lemmas.Result.{IfOk-weaker}
use Rattle.permit_set.specs.Shown.{permit_of}
use Rattle.nat_view.specs.Views.{seen_of}
use Rattle.rule_distribute.specs.Paths.{HaveMarks}
use Rattle.rule_distribute.specs.Shown.{zones_seen}
use Rattle.policy_lists.specs.Known.{site_in}
use Rattle.policy_lists.proofs.tables.tables_of.Goals as goal

pub returns : goal.returns
returns c =
    let told = (c.in_ok-pairs.ensures {u = tt}) (seen_of c.args.viewed.now.views.now).views (map permit_of c.args.viewed.now.permits.now) c.requires.pairs in
    IfOk-weaker c.tables_for.result _ _ (λ tables h. subst (λ (zs : List (ℕ × ℕ)). HaveMarks (site_in c.args.viewed.now) zs tables.items) (ap (map zones_seen) c.deref.ensures.value ∙ told) h) c.tables_for.ensures
