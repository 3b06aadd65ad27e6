-- How names and hardware are spelled.
use Rattle.std.specs.Prelude.{Bool, ◌&&◌, List, flat_map}
use Rattle.std.specs.List.{list_all}
use Rattle.spoc_base.specs.Spelling.{is_spelled}
use Rattle.spoc_ast.specs.Written.{DeclText}
use Rattle.policy_decls.specs.Names.{names_in}
use Rattle.policy_decls.specs.Lookup.{ifaces_in, iface_hardware}

-- The names that the declaration gives, and the hardware in it, are of letters, digits and `_ . : / -`.
abbrev pub is_spelled_decl : DeclText → Bool
is_spelled_decl d = list_all (λ m. is_spelled m.text) (names_in d) && list_all (λ w. is_spelled w.text) (flat_map iface_hardware (ifaces_in d))

abbrev pub are_spelled : List DeclText → Bool
are_spelled decls = list_all is_spelled_decl decls
