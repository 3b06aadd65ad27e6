-- What the code holds, as plain data.
use Rattle.std.specs.Prelude.{Option, Some, None, List, [], ◌∷◌, map}
use Rattle.spoc_base.specs.Address.{Cidr}
use Rattle.spoc_ast.specs.Seen.{word_seen, if_part_seen}
use Rattle.policy_decls.specs.Lookup.{IfaceText}
use Rattle.policy_shapes.specs.declared.block.Block.{Block}
use Rattle.policy_shapes.specs.declared.iface.Iface.{Iface}

abbrev pub block_seen : Block → Cidr
block_seen b = record { net = b.net.0; len = b.len }

abbrev pub iface_seen : Iface → IfaceText
iface_seen i = record { router = word_seen i.router; managed = i.managed; net = word_seen i.net; parts = map if_part_seen i.parts.now }

-- what there is, as a list
abbrev pub listed : {A : Type 0} → Option A → List A
listed None = []
listed (Some x) = x ∷ []
