use Rattle.std.proofs.Common.{map, sym, subst}
use Rattle.policy_laws.specs.Shaped.{IsShaped}
use Rattle.fault_text.specs.Texts.{pair_of}
use Rattle.compile_core.proofs.Parts.{declared_without_fault}
use Rattle.compile_core.proofs.Said.{shaped_and_wired, done, refused, exact, named}
use Rattle.compile_core.proofs.Told.{clear, first, law_in_memory}
use Rattle.compile_core.proofs.compiling.compile_said.Goals as goal

pub compile-requires : goal.compile-requires
compile-requires c =
    let sources = c.args.sources.now in
    record {
      shaped =
          subst IsShaped (sym c.requires.policy)
          (shaped_and_wired c.args.topo (map pair_of sources) c.policies_said_are_shaped.ensures c.declarations_are_formed_and_written.ensures.formed c.requires.policy
          (declared_without_fault sources c.requires.faultless)).0;
    }

pub returns-clause-ok : goal.returns-clause-ok
returns-clause-ok c = done c.args.topo c.args.sources.now c.requires.policy c.requires.told c.requires.faultless c.compile.result c.compile.ensures.done

pub returns-clause-refused : goal.returns-clause-refused
returns-clause-refused c = refused c.args.topo c.args.sources.now c.requires.policy c.requires.told c.requires.faultless c.compile.result c.compile.ensures.refused

pub returns-clause-clear : goal.returns-clause-clear
returns-clause-clear c =
    let sources = c.args.sources.now in
    clear (map pair_of sources) (law_in_memory c.args.topo (map pair_of sources) c.requires.policy) c.compile.result
    (done c.args.topo sources c.requires.policy c.requires.told c.requires.faultless c.compile.result c.compile.ensures.done)

pub returns-clause-first : goal.returns-clause-first
returns-clause-first c =
    let sources = c.args.sources.now in
    first (map pair_of sources) (law_in_memory c.args.topo (map pair_of sources) c.requires.policy) c.compile.result
    (refused c.args.topo sources c.requires.policy c.requires.told c.requires.faultless c.compile.result c.compile.ensures.refused)

pub returns-clause-exact : goal.returns-clause-exact
returns-clause-exact c =
    let sources = c.args.sources.now in
    exact c.args.topo sources c.requires.policy c.requires.told c.requires.faultless
    (shaped_and_wired c.args.topo (map pair_of sources) c.policies_said_are_shaped.ensures c.declarations_are_formed_and_written.ensures.formed c.requires.policy
    (declared_without_fault sources c.requires.faultless))
    c.accepted_policies_decide_exactly.ensures c.written_files_read_exactly.ensures c.compile.result c.compile.ensures.done

pub returns-clause-names : goal.returns-clause-names
returns-clause-names c =
    let sources = c.args.sources.now in
    named c.args.topo sources c.requires.policy c.requires.told c.requires.faultless
    (shaped_and_wired c.args.topo (map pair_of sources) c.policies_said_are_shaped.ensures c.declarations_are_formed_and_written.ensures.formed c.requires.policy
    (declared_without_fault sources c.requires.faultless))
    c.accepted_policies_decide_exactly.ensures c.files_have_distinct_names.ensures (declared_without_fault sources c.requires.faultless) c.compile.result c.compile.ensures.done
