use Rattle.policy_compile.specs.Seen.{counts_of}
use Rattle.policy_compile.proofs.Texts.{summary_is_put}
use Rattle.policy_compile.proofs.summary.summary_bytes.Goals as goal

pub returns : goal.returns
returns c =
    summary_is_put (counts_of c.args.summary.now) _ _ _ _ _ _ _ _ c.new-out.ensures.items c.in_ok-put_count.ensures c.in_ok-put_count-2.ensures c.in_ok-put_count-3.ensures
    c.in_ok-put_count-4.ensures c.in_ok-put_count-5.ensures c.in_ok-put_count-6.ensures c.in_ok-put_count-7.ensures
