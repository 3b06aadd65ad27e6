use Rattle.std.proofs.Common.{◌∙◌, length, map, ap, sym}
use Rattle.std.specs.Option.{option_copied}
use Rattle.std.proofs.lemmas.List.{length-map}
use Rattle.static_routes.specs.Tables.{zones_named}
use Rattle.static_routes.proofs.Filing.{not_missing, found_below, found_marks}
use Rattle.static_routes.proofs.tables.marks_of.Goals as goal

pub unreachable-requires : goal.unreachable-requires
unreachable-requires c =
    let tables = c.args.tables.now in
    not_missing (map zones_named tables) (length tables) c.args.places.now c.args.zones c.requires.places (sym (length-map tables zones_named)) c.requires.named (sym c.get.ensures.value ∙ ap option_copied c.in-None.is)

pub marks_at-requires : goal.marks_at-requires
marks_at-requires c = found_below c.args.tables.now c.args.places.now c.args.zones c.in-Some.k.now c.requires.places (sym c.get.ensures.value ∙ ap option_copied c.in-Some.is)

pub returns : goal.returns
returns c = λ s marked.
    found_marks s c.args.tables.now c.args.places.now c.args.zones c.in-Some.k.now c.marks_at.result.now c.requires.places marked (sym c.get.ensures.value ∙ ap option_copied c.in-Some.is) c.marks_at.ensures
