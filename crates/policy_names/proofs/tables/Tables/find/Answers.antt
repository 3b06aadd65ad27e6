use Rattle.std.proofs.Common.{length}
use Rattle.policy_names.specs.Seen.{kind_seen}
use Rattle.policy_names.proofs.Numbers.{not_tag, kind_found, tag_found, kind_within, tag_within, found_within}
use Rattle.policy_names.proofs.tables.Tables.find.Goals as goal

pub returns-in-Tag-clause-number : goal.returns-in-Tag-clause-number
returns-in-Tag-clause-number c = λ names shown h. rw c.in-Tag.is (tag_found names c.args.self.now.kinds.items c.args.self.now.tags h c.args.owner.now c.args.text.now shown c.find.result c.find.ensures.number)

pub returns-in-Tag-clause-within : goal.returns-in-Tag-clause-within
returns-in-Tag-clause-within c = λ names h.
    let rows = c.args.self.now.kinds.items in
    found_within names rows c.args.self.now.tags h c.find.result (length c.args.self.now.tags) (tag_within names rows c.args.self.now.tags h) c.find.ensures.within

pub returns-in_default : goal.returns-in_default
returns-in_default c =
    let rows = c.args.self.now.kinds.items in
    let texts = c.args.self.now.tags in
    let k = kind_seen c.args.kind in
    let e = not_tag c.args.kind c.in_default.not-Tag in
    record {
      number = λ names shown h. kind_found names rows texts h k c.args.owner.now c.args.text.now shown c.row.result.now c.find-in_default.result e c.row.ensures c.find-in_default.ensures.number;
      within = λ names h. found_within names rows texts h c.find-in_default.result (length c.row.result.now) (kind_within names rows texts h k c.row.result.now e c.row.ensures) c.find-in_default.ensures.within;
    }
