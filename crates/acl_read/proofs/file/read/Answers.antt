use Rattle.std.proofs.Common.{◌≡◌, ◌∙◌, sym, ap, suc, length, map}
use Rattle.std.proofs.lemmas.List.{length-map}
use Rattle.dev_config.specs.Seen.{config_of}
use Rattle.device_reading.specs.Reading as plain
use Rattle.acl_read.specs.Seen.{port_at, fact_seen, every_bound}
use Rattle.acl_read.proofs.NextLaws.{lacks_one, ends_here}
use Rattle.acl_read.proofs.file.read.Goals as goal

pub returns-then-not-are_bound-clause-refuses : goal.returns-then-not-are_bound-clause-refuses
returns-then-not-are_bound-clause-refuses c =
    let s = rw c.in-Ok.is at c.in_ok-bad.ensures.scans in
    let bound = rw c.deref.ensures.value at c.are_bound.ensures in
    lacks_one c.args.dialect (map port_at c.args.ports.now) c.args.text.now (map fact_seen c.in-Ok.facts.items) c.next_line.result.line s (sym bound ∙ c.if-not-are_bound.true)
    (c.next_line.ensures ∙ ap (λ xs. suc (length xs)) c.deref-then-not-are_bound.ensures.value ∙ ap suc (sym (length-map c.in-Ok.facts.items fact_seen)))

pub returns-in-Ok-config-clause-reads : goal.returns-in-Ok-config-clause-reads
returns-in-Ok-config-clause-reads c =
    let s = rw c.in-Ok.is at c.in_ok-bad.ensures.scans in
    let bound = rw c.deref.ensures.value at c.are_bound.ensures in
    let same = ap (λ xs. plain.config_of (map port_at c.args.ports.now) (map fact_seen xs)) c.deref-in-Ok.ensures.value in
    ends_here c.args.dialect (map port_at c.args.ports.now) c.args.text.now (map fact_seen c.in-Ok.facts.items) (config_of c.in-Ok-config.config) s (sym bound ∙ c.if-not-are_bound.false)
    (c.in-Ok-config.ensures ∙ same)
