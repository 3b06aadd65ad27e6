use Rattle.std.proofs.Common.{◌≡◌, sym, subst, true, false, set, ◌∷◌, ◌++◌, []}
use Rattle.policy_nesting.specs.Graph.{flag_at}
use Rattle.policy_nesting.specs.Search.{Marks}
use Rattle.policy_nesting.proofs.Marked.{marks_new}
use Rattle.policy_nesting.proofs.search.mark_one.Goals as goal

pub returns : goal.returns
returns c = λ row before first h.
    let marked = c.args.marked.now.items in
    let k = c.args.node in
    let fresh : flag_at marked k ≡ false = cc in
    subst (λ l. Marks (row ++ k ∷ []) before first (set marked k true) l) (sym c.in_ok-push.ensures.items) (marks_new row before first marked c.args.found.now.items h k c.requires fresh)
