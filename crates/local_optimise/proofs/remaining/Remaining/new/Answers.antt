use Rattle.std.proofs.Common.{length, ap, arith}
use Rattle.std.proofs.lemmas.List.{length-map}
use Rattle.dev_config.specs.Seen.{line_of}
use Rattle.local_optimise.specs.Keys.{action_key}
use Rattle.local_optimise.specs.Held.{held_by, line_at}
use Rattle.local_optimise.proofs.remaining.Remaining.new.Goals as goal

pub returns-clause-chained : goal.returns-clause-chained
returns-clause-chained c =
    let lines = c.new.result.lines.items in
    record {
      indexed = c.new.ensures.indexed;
      count = omega (arith, c.new-2.ensures.count, ap length c.new.ensures.none, length-map lines line_of);
      chained = c.new-2.ensures.chained (λ i. action_key (line_at (held_by c.new.result) i).permit);
    }
