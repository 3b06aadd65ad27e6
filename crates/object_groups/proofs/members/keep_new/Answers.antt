use Rattle.std.proofs.Common.{◌≡◌, ◌∙◌, ℕ, sym, ap, map, Vec, Global}
use Rattle.spoc_base.specs.declared.address.Prefix.{Prefix}
use Rattle.spoc_base.specs.Shown.{cidr_of}
use Rattle.object_groups.specs.Keys.{key_of}
use Rattle.object_groups.proofs.Kept.{IsTried, new_kept, new_seen, old_kept, old_seen}
use Rattle.object_groups.proofs.members.keep_new.Goals.{then-branch+in_ok-push, else-branch}
use Rattle.object_groups.proofs.members.keep_new.Goals as goal

pub loop-p-preserved : goal.loop-p-preserved
loop-p-preserved c =
    let prefixes = c.args.prefixes.now in
    let i = c.loop-p.p-index in
    let p = c.p-item.result in
    let kept = c.loop-p.kept.items in
    let now = c.if-branch.kept.items in
    let keys = c.loop-p.seen.keys in
    let after = c.insert.new.self.keys in
    let new = c.in_ok-insert.field-0 in
    let key : ℕ × ℕ = (c.net.result.0, c.len.result) in
    let key_is : key ≡ key_of p = ap (λ n. (n, c.len.result)) c.net.ensures ∙ ap (λ n. (p.net.0, n)) c.len.ensures.value in
    let tried : IsTried kept p keys after new key = record { seen = c.loop-p.invariant.seen; key_is = key_is; added = c.in_ok-insert.ensures.added; after_is = c.in_ok-insert.ensures.keys } in
    elim c.if-branch.branch [
      | then-branch+in_ok-push w ↦
          let grown = ap (λ (v : Vec Prefix Global). v.items) w.kept-is ∙ w.in_ok-push.ensures.items in
          record {
            seen = new_seen kept now p keys after new key tried w.if-branch.true grown;
            kept = λ before e. new_kept prefixes kept now i p keys after new key before c.loop-p-test.true c.p-item.is tried w.if-branch.true grown (c.loop-p.invariant.kept before e);
          }
      | else-branch w ↦
          let same = ap (λ (v : Vec Prefix Global). v.items) w.kept-is in
          record {
            seen = old_seen kept p keys after new key tried w.if-branch.false ∙ ap (map key_of) (sym same);
            kept = λ before e. ap (map cidr_of) same ∙ old_kept prefixes kept i p keys after new key before c.loop-p-test.true c.p-item.is tried w.if-branch.false (c.loop-p.invariant.kept before e);
          }
    ]
