use Rattle.std.proofs.Common.{arith, refl, map, flat_map}
use Rattle.spoc_ast.specs.Seen.{if_part_seen}
use Rattle.policy_decls.specs.Lookup as plain
use Rattle.policy_shapes.specs.Keys.{word_key}
use Rattle.policy_shapes.proofs.Known.{known_more, known_end}
use Rattle.policy_shapes.proofs.clash.add_addresses.Goals as goal

pub loop-part-preserved : goal.loop-part-preserved
loop-part-preserved c = known_more plain.addresses_in (word_key c.args.iface.now.net.text.now) if_part_seen c.args.iface.now.parts.now c.loop-part.part-index _ (omega arith) _ _ _ c.in_ok-add_address.ensures c.loop-part.invariant

pub returns : goal.returns
returns c = known_end if_part_seen c.args.iface.now.parts.now c.loop-part.part-index (λ parts. map (word_key c.args.iface.now.net.text.now) (flat_map plain.addresses_in parts)) _ _ (omega arith) refl c.loop-part.invariant
