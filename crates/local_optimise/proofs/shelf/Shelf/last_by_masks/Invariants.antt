-- So far the lines with the masks up to here are looked up.
use Rattle.std.proofs.Common.{◌≡◌, map, take}
use Rattle.dev_config.specs.Seen.{line_of}
use Rattle.local_optimise.specs.Held.{last_by}
use Rattle.local_optimise.proofs.shelf.Shelf.last_by_masks.Given as goal

abbrev pub invariant-loop-mask : goal.invariant-loop-mask
invariant-loop-mask l = l.found ≡ last_by l.any (line_of l.line) (take l.mask-index l.self.masks.keys) (map line_of l.self.lines.items)
