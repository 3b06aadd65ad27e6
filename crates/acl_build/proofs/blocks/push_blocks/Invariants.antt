use Rattle.std.proofs.Common.{◌≡◌, map, flat_map, drop, ◌++◌}
use Rattle.permit_set.specs.Shown.{permit_of}
use Rattle.dev_config.specs.Seen.{line_of}
use Rattle.nat_view.specs.Sights.{sight_of}
use Rattle.acl_build.specs.Pieces.{lines_of_block}
use Rattle.acl_build.specs.Seen.{block_seen}
use Rattle.acl_build.proofs.blocks.push_blocks.Given as goal

abbrev pub invariant-loop-block : goal.invariant-loop-block
invariant-loop-block l =
    map line_of l.lines.items ++ flat_map (lines_of_block (sight_of l.view).policy (sight_of l.view).tags (map permit_of l.permits)) (map block_seen (drop l.block-index l.blocks))
    ≡ map line_of l.initial.lines.items ++ flat_map (lines_of_block (sight_of l.view).policy (sight_of l.view).tags (map permit_of l.permits)) (map block_seen l.blocks)
