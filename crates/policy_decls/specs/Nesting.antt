-- Groups that name groups, and protocol groups that name protocol groups.
use Rattle.std.specs.Prelude.{ℕ, zero, suc, Bool, true, false, ◌||◌, List, length, flat_map, filter}
use Rattle.std.specs.List.{list_any}
use Rattle.spoc_ast.specs.Written.{DeclText}
use Rattle.policy_decls.specs.Names.{GroupName, ProtocolGroupName, same_kind, Mention, same_name, names_in, declared_names}
use Rattle.policy_decls.specs.Uses.{uses_in}

abbrev pub is_nesting : Mention → Bool
is_nesting name = same_kind name.kind GroupName || same_kind name.kind ProtocolGroupName

-- the groups and protocol groups, in the order of their declarations
abbrev pub nesting_names : List DeclText → List Mention
nesting_names decls = filter is_nesting (declared_names decls)

-- the groups that a group names, or the protocol groups that a protocol group names
abbrev pub nested_in : List DeclText → Mention → List Mention
nested_in decls g = flat_map (λ decl. filter (λ used. same_kind used.kind g.kind) (uses_in decl)) (filter (λ decl. list_any (same_name g) (names_in decl)) decls)

-- h is named by g, or by one that g names, and so on, in so many steps at most
abbrev pub reaches : List DeclText → ℕ → Mention → Mention → Bool
reaches decls zero g h = false
reaches decls (suc n) g h = list_any (λ k. same_name k h || reaches decls n k h) (nested_in decls g)

-- The group names itself, or one that does, and so on. A way back to it needs no more steps than there are declarations.
abbrev pub is_on_circle : List DeclText → Mention → Bool
is_on_circle decls g = reaches decls (length decls) g g

-- there are so many groups, the first of them this one, of which each names the next
abbrev pub nests : List DeclText → ℕ → Mention → Bool
nests decls zero g = true
nests decls (suc zero) g = true
nests decls (suc (suc n)) g = list_any (nests decls (suc n)) (nested_in decls g)
