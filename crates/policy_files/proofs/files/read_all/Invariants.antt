use Rattle.std.specs.Prelude.{◌≡◌, ◌++◌, drop, None}
use Rattle.policy_files.specs.OfTexts.{declared, declared_from}
use Rattle.policy_files.specs.Fault.{fault_of_texts, faults_from}
use Rattle.policy_files.specs.Rank.{earlier}
use Rattle.policy_files.specs.Seen.{texts_of, decls_of}
use Rattle.policy_files.proofs.files.read_all.Given as goal

-- The fault so far, and that of the texts that are left; and, as long as there is no fault, the declarations so far, and those of the texts that are left.
abbrev pub invariant-loop-k : goal.invariant-loop-k
invariant-loop-k l =
    (earlier l.reading.fault (faults_from l.k (drop l.k (texts_of l.sources))) ≡ fault_of_texts (texts_of l.sources))
    × (l.reading.fault ≡ None → decls_of l.reading.files.items ++ declared_from l.k (drop l.k (texts_of l.sources)) ≡ declared (texts_of l.sources))
