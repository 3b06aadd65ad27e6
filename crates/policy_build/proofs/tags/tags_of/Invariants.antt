use Rattle.std.proofs.Common.{◌≡◌, map, flat_map, drop, fold}
use Rattle.spoc_ast.specs.Seen.{net_part_seen}
use Rattle.policy_build.specs.Tags.{IsKnown, with_text, tag_texts_in}
use Rattle.policy_build.specs.Views.{sources_in}
use Rattle.policy_build.proofs.tags.tags_of.Given as goal

abbrev pub invariant-loop-part : goal.invariant-loop-part
invariant-loop-part l = record {
  known : IsKnown (sources_in l.scope) l.known;
  texts : fold with_text l.known.texts (flat_map tag_texts_in (map net_part_seen (drop l.part-index l.parts))) ≡ fold with_text l.initial.known.texts (flat_map tag_texts_in (map net_part_seen l.parts));
}
