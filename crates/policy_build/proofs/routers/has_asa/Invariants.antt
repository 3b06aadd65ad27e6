use Rattle.std.proofs.Common.{◌≡◌, map, flat_map, drop, codes}
use Rattle.std.specs.List.{list_any}
use Rattle.std.specs.Str.{bytes_eq}
use Rattle.spoc_ast.specs.Seen.{rout_part_seen}
use Rattle.policy_decls.specs.Lookup.{models_in}
use Rattle.policy_build.proofs.routers.has_asa.Given as goal

abbrev pub invariant-loop-part : goal.invariant-loop-part
invariant-loop-part l =
    list_any (λ w. bytes_eq w.text (codes "ASA")) (flat_map models_in (map rout_part_seen l.parts)) ≡ list_any (λ w. bytes_eq w.text (codes "ASA")) (flat_map models_in (map rout_part_seen (drop l.part-index l.parts)))
