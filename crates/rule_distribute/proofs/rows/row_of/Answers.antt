use Rattle.std.proofs.Common.{◌∙◌, sym, true, false}
use Rattle.std.proofs.lemmas.Bool.{ne_eqb}
use Rattle.rule_distribute.proofs.rows.row_of.Goals as goal

pub place_of-requires-clause-there : goal.place_of-requires-clause-there
place_of-requires-clause-there c = c.requires.there false (ne_eqb _ _ (λ e. c.if-zone_of.false (c.zone_of.ensures ∙ (e ∙ sym c.zone_of-2.ensures))))

pub place_of-requires-2-clause-there : goal.place_of-requires-2-clause-there
place_of-requires-2-clause-there c = c.requires.there true (ne_eqb _ _ (λ e. c.if-zone_of.false (c.zone_of.ensures ∙ (e ∙ sym c.zone_of-2.ensures))))
