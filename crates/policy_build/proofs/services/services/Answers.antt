use Rattle.std.proofs.Common.{◌≡◌, ◌∙◌, ap, subst, map, flat_map, IfOk}
use Rattle.topology.specs.Seen.{service_seen}
use Rattle.policy_build.specs.Views.{decls_of, sources_in}
use Rattle.policy_build.specs.Services.{services_at}
use Rattle.policy_build.proofs.Fairness.{services_are}
use Rattle.policy_build.proofs.services.services.Goals as goal

pub returns-clause-said : goal.returns-clause-said
returns-clause-said c =
    subst (λ l. IfOk c.services_by.result (λ s. map (service_seen (sources_in c.args.scope)) s.now ≡ l)) (ap (λ n. flat_map (services_at (decls_of c.args.scope) 65 n) (decls_of c.args.scope)) c.most_kept.ensures ∙ services_are (decls_of c.args.scope)) c.services_by.ensures.said
