use Rattle.std.proofs.Common.{ℕ, ◌∙◌, length, map, ap, sym, subst}
use Rattle.std.specs.List.{Contains}
use Rattle.std.specs.Option.{option_copied}
use Rattle.std.proofs.lemmas.List.{length-map}
use Rattle.policy_model.specs.Marks.{marked_crossings}
use Rattle.topology.specs.View.{policy_of}
use Rattle.permit_lines.specs.Given.{site_with}
use Rattle.rule_distribute.specs.Paths.{zones_named}
use Rattle.rule_distribute.proofs.Filing.{not_missing, found_below, found_crossings}
use Rattle.rule_distribute.proofs.paths.crossings_of.Goals as goal

pub unreachable-requires : goal.unreachable-requires
unreachable-requires c =
    let tables = c.args.tables.now in
    let names = map zones_named tables in
    not_missing names (length tables) c.args.places.now c.zones_of.result c.requires.places (sym (length-map tables zones_named)) (subst (Contains names) (sym c.zones_of.ensures) c.requires.named)
    (sym c.get.ensures.value ∙ ap option_copied c.in-None.is)

pub crossings_at-requires : goal.crossings_at-requires
crossings_at-requires c = found_below c.args.tables.now c.args.places.now c.zones_of.result c.in-Some.k.now c.requires.places (sym c.get.ensures.value ∙ ap option_copied c.in-Some.is)

pub returns : goal.returns
returns c =
    let s = site_with (policy_of c.args.topo) c.args.graph.now in
    found_crossings s c.args.tables.now c.args.places.now c.zones_of.result c.in-Some.k.now c.crossings_at.result.now c.requires.places c.requires.marks (sym c.get.ensures.value ∙ ap option_copied c.in-Some.is) c.crossings_at.ensures
    ∙ ap (λ (e : ℕ × ℕ). marked_crossings s e.0 e.1) c.zones_of.ensures
