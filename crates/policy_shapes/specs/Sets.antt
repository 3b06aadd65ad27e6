-- What is asked of the names in a set.
use Rattle.std.specs.Prelude.{Bool, List}
use Rattle.std.specs.List.{list_any}
use Rattle.spoc_ast.specs.Written.{SetText, DeclText}
use Rattle.policy_decls.specs.Shapes.{is_unaligned, asked_in, is_bare_port, ports_in}

-- the set asks for a prefix with a host bit
abbrev pub asks_unaligned : SetText → Bool
asks_unaligned e = list_any is_unaligned (asked_in e)

-- the set names an interface of an unmanaged router that has no address
abbrev pub names_bare : List DeclText → SetText → Bool
names_bare decls e = list_any (is_bare_port decls) (ports_in e)
