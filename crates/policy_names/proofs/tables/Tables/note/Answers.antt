use Rattle.std.proofs.Common.{◌∙◌, ap, not}
use Rattle.std.specs.List.{list_any}
use Rattle.policy_decls.specs.Names.{number_of_kind}
use Rattle.policy_names.specs.Seen.{mention_seen}
use Rattle.policy_names.specs.Tables.{same_key, key_of}
use Rattle.policy_names.proofs.Noted.{kind_below, twice_in_row, tables_after}
use Rattle.policy_names.proofs.tables.Tables.note.Goals as goal

pub returns-clause-added : goal.returns-clause-added
returns-clause-added c = λ names h.
    let m = mention_seen c.args.name.now in
    c.in_ok-new.ensures.added ∙ ap not (ap (list_any (same_key (key_of m))) (h.keys (number_of_kind m.kind) (kind_below m.kind)) ∙ twice_in_row names m)

pub returns-clause-tables : goal.returns-clause-tables
returns-clause-tables c = λ names new h.
    tables_after names c.args.self.now.kinds.items c.note_kind.new.kinds.items c.args.self.now.tags c.note_tag.new.tags (mention_seen c.args.name.now) (c.in_ok-new.ensures.kinds new) c.in_ok-note_tag.ensures h
