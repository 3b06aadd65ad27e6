use Rattle.std.proofs.Common.{◌∙◌, sym}
use Rattle.local_optimise.proofs.Shelving.{found_by_masks, ends_there}
use Rattle.local_optimise.proofs.shelf.Shelf.nearest.Goals as goal

pub returns : goal.returns
returns c =
    let self = c.args.self.now in
    let line = c.args.line.now in
    c.last_by_masks.ensures ∙ found_by_masks c.args.any line self.masks.keys self.lines.items (ends_there line (sym c.is_empty.ensures ∙ c.if-is_empty.false) (sym c.is_empty-else-is_empty.ensures ∙ c.if-is_empty-2.false)) c.requires.masks
