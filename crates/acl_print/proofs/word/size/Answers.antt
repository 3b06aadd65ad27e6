use Rattle.std.proofs.Common.{◌≡◌, ◌≤◌, ◌^◌, ◌*◌, ◌%◌, ◌-◌, arith, rules, subst, sym}
use Rattle.std.proofs.Math.Pow.{pow_mono}
use Rattle.acl_print.proofs.word.size.Goals as goal

pub returns-clause-bounded : goal.returns-clause-bounded
returns-clause-bounded c =
    let e : 1 * 2 ^ c.saturating_sub.result % 18446744073709551616 ≡ 2 ^ (32 - c.args.len) = search rules in
    subst (λ n. n ≤ 4294967296) (sym e) (pow_mono {i = 32 - c.args.len} {j = 32} (omega arith))
