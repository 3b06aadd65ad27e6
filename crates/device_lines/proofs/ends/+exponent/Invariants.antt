use Rattle.device_lines.proofs.ends.+exponent.Given as goal

abbrev pub decreases-exponent : goal.decreases-exponent
decreases-exponent l = l.k
