use Rattle.std.proofs.Common.{◌∙◌, ℕ, Bool, ◌++◌, ◌∷◌, [], cond, sym, ap}
use Rattle.policy_model.specs.Policy.{router_at, is_managed}
use Rattle.topology.specs.View.{policy_of}
use Rattle.rule_distribute.proofs.Filled.{filter_next}
use Rattle.rule_distribute.proofs.managed.managed_ifaces.Goals as goal

pub loop-i-preserved : goal.loop-i-preserved
loop-i-preserved c =
    let p = policy_of c.args.topo in
    let test : ℕ → Bool = λ i. is_managed p (router_at p i) in
    c.in_ok-push_managed.ensures {u = tt} ∙ (ap (λ is. is ++ cond (test c.loop-i.i) (c.loop-i.i ∷ []) []) c.loop-i.invariant ∙ sym (filter_next test c.loop-i.i))
