use Rattle.std.proofs.Common.{◌∙◌, arith}
use Rattle.policy_names.specs.Seen.{kind_seen}
use Rattle.policy_names.proofs.Numbers.{not_tag, kind_length, kind_within, tag_within}
use Rattle.policy_names.proofs.tables.Tables.len.Goals as goal

pub returns-in-Tag-clause-within : goal.returns-in-Tag-clause-within
returns-in-Tag-clause-within c = λ names h. let most = tag_within names c.args.self.now.kinds.items c.args.self.now.tags h in omega (arith, c.len.ensures)

pub returns-in_default : goal.returns-in_default
returns-in_default c =
    let rows = c.args.self.now.kinds.items in
    let texts = c.args.self.now.tags in
    let k = kind_seen c.args.kind in
    let e = not_tag c.args.kind c.in_default.not-Tag in
    record {
      number = λ names h. c.len-in_default.ensures ∙ kind_length names rows texts h k c.row.result.now e c.row.ensures;
      within = λ names h. let most = kind_within names rows texts h k c.row.result.now e c.row.ensures in omega (arith, c.len-in_default.ensures);
    }
