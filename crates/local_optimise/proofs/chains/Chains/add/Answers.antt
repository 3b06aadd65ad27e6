use Rattle.std.proofs.Common.{◌≡◌, ◌∙◌, suc, ap, sym, cond, length, arith}
use Rattle.std.specs.Prelude.{Some}
use Rattle.std.specs.Map.{lookup}
use Rattle.local_optimise.specs.Chained.{same_key, last_with}
use Rattle.local_optimise.proofs.SameKeys.{one_place_more, links_more}
use Rattle.local_optimise.proofs.chains.Chains.add.Goals as goal

pub returns-clause-chained : goal.returns-clause-chained
returns-clause-chained c = λ old new h same is.
    let self = c.args.self.now in
    let n = length self.links.items in
    let key = c.args.key in
    let links = c.push.new.self.items in
    let grown : length links ≡ suc n = omega (arith, c.in_ok-push.ensures.len) in
    record {
      heads = λ k. c.in_ok-insert.ensures.updates.0 k ∙ (ap (λ p. cond (same_key key k) (Some p) (lookup (same_key k) self.heads.entries)) (c.len-place.ensures ∙ self.links.ok.0)
          ∙ (one_place_more old new n key k (lookup (same_key k) self.heads.entries) same is (h.heads k) ∙ ap (last_with new k) (sym grown)));
      links = λ i lt. links_more old new n key self.links.items links c.last-before.result (omega arith) same is h.links (c.last-before.ensures old h) c.in_ok-push.ensures.items i (omega (arith, lt, grown));
    }
