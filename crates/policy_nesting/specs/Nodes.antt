-- The groups of a policy, or its protocol groups, as numbered nodes.
use Rattle.std.specs.Prelude.{◌≡◌, ℕ, Bool, true, false, List, [], ◌∷◌, map, filter, None, if◌then◌else◌}
use Rattle.spoc_ast.specs.Written.{DeclText, NetworkDecl, RouterDecl, GroupDecl, AreaDecl, AggregateDecl, ProtocolDecl, ProtocolGroupDecl, RestrictionDecl, ServiceDecl}
use Rattle.policy_decls.specs.Names.{NameKind, GroupName, ProtocolGroupName, same_kind, Mention}
use Rattle.policy_decls.specs.Uses.{uses_in}
use Rattle.policy_decls.specs.Nesting.{nested_in}
use Rattle.policy_decls.specs.Said.{names_of, number_among}
use Rattle.policy_decls.specs.Faults.{name_twice, name_unknown}
use Rattle.policy_names.specs.Tables.{of_kind}
use Rattle.policy_nesting.specs.declared.nodes.Nesting.{Nesting}
use Rattle.policy_nesting.specs.declared.nodes.Nesting.TheVariants.{Objects, Protocols}
use Rattle.policy_nesting.specs.Graph.{AreChains}

abbrev pub kind_of : Nesting → NameKind
kind_of Objects = GroupName
kind_of Protocols = ProtocolGroupName

-- whether the declaration is that of a group of the kind
abbrev pub is_node : Nesting → DeclText → Bool
is_node n (NetworkDecl name desc parts) = false
is_node n (RouterDecl name desc parts) = false
is_node Objects (GroupDecl name desc objects) = true
is_node Protocols (GroupDecl name desc objects) = false
is_node n (AreaDecl name desc parts) = false
is_node n (AggregateDecl name desc parts) = false
is_node n (ProtocolDecl name protocol notes) = false
is_node Objects (ProtocolGroupDecl name prts) = false
is_node Protocols (ProtocolGroupDecl name prts) = true
is_node n (RestrictionDecl name desc ports) = false
is_node n (ServiceDecl name desc idle user rules) = false

-- the names of the kind that a declaration uses
abbrev pub used_of : Nesting → DeclText → List Mention
used_of n decl = filter (λ used. same_kind used.kind (kind_of n)) (uses_in decl)

-- the row of a declaration, where it is that of a group of the kind: the numbers of those that it names
abbrev pub row_in : List Mention → Nesting → DeclText → List (List ℕ)
row_in names n decl = if is_node n decl then map (number_among (of_kind names (kind_of n))) (used_of n decl) ∷ [] else []

-- of each group in the order of their declarations, the numbers of those that it names
abbrev pub nodes_of : List DeclText → Nesting → List (List ℕ)
nodes_of decls n = map (λ g. map (number_among (names_of decls (kind_of n))) (nested_in decls g)) (names_of decls (kind_of n))

-- the nodes of declarations, and where so many begin of which each names the next
pub record IsGraph (decls : List DeclText) (n : Nesting) (depth : ℕ) (rows : List (List ℕ)) (flags : List Bool) : Type 0 where
  pub nodes : rows ≡ nodes_of decls n
  pub deep : AreChains rows depth flags

-- no name is declared twice, and each that is used is declared
pub record AreNamed (decls : List DeclText) : Type 0 where
  pub once : name_twice decls ≡ None
  pub known : name_unknown decls ≡ None
