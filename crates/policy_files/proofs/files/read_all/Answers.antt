use Rattle.std.proofs.Common.{ap, ◌∙◌, ◌++◌}
use Rattle.policy_files.specs.Fault.{fault_of_texts}
use Rattle.policy_files.specs.OfTexts.{declared, decls_of_text}
use Rattle.policy_files.specs.Rank.{earlier, text_fault}
use Rattle.policy_files.specs.Seen.{texts_of, decls_of}
use Rattle.policy_files.proofs.Loop.{step, at_end, decls_step, decls_at_end}
use Rattle.policy_files.proofs.files.read_all.Goals as goal

pub loop-k-preserved : goal.loop-k-preserved
loop-k-preserved c =
    let sources = c.args.sources.now in
    let new = c.in_ok-read_next.ensures.fault ∙ ap (λ t. earlier c.loop-k.reading.fault (text_fault c.loop-k.k t)) c.bytes.ensures in (
      step c.loop-k.reading.fault c.read_next.new.reading.fault sources c.loop-k.k c.index-sources-k.result (fault_of_texts (texts_of sources))
          c.loop-k-test.true new c.loop-k.invariant.0,
      decls_step c.loop-k.reading.fault c.read_next.new.reading.fault (decls_of c.loop-k.reading.files.items) (decls_of c.read_next.new.reading.files.items)
          (declared (texts_of sources)) sources c.loop-k.k c.index-sources-k.result c.loop-k-test.true new (λ none. c.in_ok-read_next.ensures.said none ∙ ap (λ t. decls_of c.loop-k.reading.files.items ++ decls_of_text c.loop-k.k t) c.bytes.ensures) c.loop-k.invariant.1,
    )

pub returns-clause-fault : goal.returns-clause-fault
returns-clause-fault c = at_end c.loop-k.reading.fault c.args.sources.now c.loop-k.k (fault_of_texts (texts_of c.args.sources.now)) c.loop-k-test.false c.loop-k.invariant.0

pub returns-clause-said : goal.returns-clause-said
returns-clause-said c =
    decls_at_end c.loop-k.reading.fault (decls_of c.loop-k.reading.files.items) (declared (texts_of c.args.sources.now)) c.args.sources.now c.loop-k.k
    c.loop-k-test.false c.loop-k.invariant.1
