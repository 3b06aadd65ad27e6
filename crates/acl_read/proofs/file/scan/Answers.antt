use Rattle.std.proofs.Common.{◌≡◌, ◌∙◌, sym, ap, suc, length, map, List, [], ◌∷◌, Some, None}
use Rattle.std.proofs.lemmas.List.{length-map, map-append}
use Rattle.acl_read.specs.Next.{next_fact}
use Rattle.acl_read.specs.Seen.{port_at, fact_seen}
use Rattle.acl_read.proofs.NextLaws.{stops_here, goes_on, left_shorter}
use Rattle.acl_read.proofs.file.scan.Goals as goal

pub returns-in-None-clause-refuses : goal.returns-in-None-clause-refuses
returns-in-None-clause-refuses c =
    let e = rw (c.in-None.is, c.deref.ensures.value) at c.in_ok-next_fact.ensures in
    stops_here c.args.dialect (map port_at c.args.ports.now) c.args.text.now c.requires.named (map fact_seen c.loop-rest.facts.items) c.loop-rest.rest.now c.next_line.result.line
    c.loop-rest.invariant (sym c.is_empty.ensures ∙ c.loop-rest-test.true) e
    (c.next_line.ensures ∙ ap (λ xs. suc (length xs)) c.deref-in-None.ensures.value ∙ ap suc (sym (length-map c.loop-rest.facts.items fact_seen)))

pub loop-rest-smaller : goal.loop-rest-smaller
loop-rest-smaller c =
    let e = rw (c.in-Some.is, c.deref.ensures.value) at c.in_ok-next_fact.ensures in
    left_shorter c.args.dialect (map port_at c.args.ports.now) (map fact_seen c.loop-rest.facts.items) c.loop-rest.rest.now (fact_seen c.in-Some.fact) c.in-Some.left.now (sym e)

pub loop-rest-preserved : goal.loop-rest-preserved
loop-rest-preserved c =
    let e = rw (c.in-Some.is, c.deref.ensures.value) at c.in_ok-next_fact.ensures in
    goes_on c.args.dialect (map port_at c.args.ports.now) c.args.text.now (map fact_seen c.loop-rest.facts.items) c.loop-rest.rest.now (fact_seen c.in-Some.fact) c.in-Some.left.now
    (map fact_seen c.push.new.self.items) c.loop-rest.invariant e (ap (map fact_seen) c.in-Ok.ensures.items ∙ map-append fact_seen c.loop-rest.facts.items (c.in-Some.fact ∷ []))
