-- Which fault of declarations counts, from a name that is declared twice to a limit that is passed.
use Rattle.std.specs.Prelude.{ℕ, is_some, List, [], ◌∷◌, length, filter, slice_get, Option, Some, None, option_map, option_and_then}
use Rattle.spoc_base.specs.declared.place.Named.{Named}
use Rattle.spoc_base.specs.declared.fault.Fault.{Fault}
use Rattle.spoc_base.specs.declared.fault.Fault.TheVariants.{Twice, Unknown, Circle, Shape, Limit}
use Rattle.spoc_ast.specs.Written.{DeclText}
use Rattle.policy_decls.specs.Names.{names_in, declared_names, first_below, is_again, shown_at}
use Rattle.policy_decls.specs.Uses.{used_names, is_unknown}
use Rattle.policy_decls.specs.Nesting.{nesting_names, is_on_circle}
use Rattle.policy_decls.specs.Shapes.{shape_at}
use Rattle.policy_decls.specs.Limits.{limit_passed}

-- the first name that is declared a second time
abbrev pub name_twice : List DeclText → Option Named
name_twice decls = option_and_then (shown_at (declared_names decls)) (first_below (is_again (declared_names decls)) (length (declared_names decls)))

-- the first name that is used and isn't declared
abbrev pub name_unknown : List DeclText → Option Named
name_unknown decls = shown_at (filter (is_unknown (declared_names decls)) (used_names decls)) 0

-- the first group or protocol group that reaches itself
abbrev pub name_on_circle : List DeclText → Option Named
name_on_circle decls = shown_at (filter (is_on_circle decls) (nesting_names decls)) 0

-- the name of the k-th declaration
abbrev pub name_of_decl : List DeclText → ℕ → Option Named
name_of_decl decls k = option_and_then (λ decl. shown_at (names_in decl) 0) (slice_get decls k)

-- the first declaration in which something stands that must not, with the least number of that
abbrev pub first_shape : List DeclText → Option (ℕ × Named)
first_shape decls =
    option_and_then (λ k. option_and_then (λ n. option_map (λ name. (n, name)) (name_of_decl decls k)) (shape_at decls k)) (first_below (λ k. is_some (shape_at decls k)) (length decls))

abbrev pub first_of : List (Option Fault) → Option Fault
first_of [] = None
first_of (None ∷ faults) = first_of faults
first_of (Some fault ∷ faults) = Some fault

-- the fault that counts
abbrev pub fault_of : List DeclText → Option Fault
fault_of decls = first_of (
    option_map Twice (name_twice decls) ∷ option_map Unknown (name_unknown decls) ∷ option_map Circle (name_on_circle decls)
    ∷ option_map (λ s. Shape s.0 s.1) (first_shape decls) ∷ option_map Limit (limit_passed decls) ∷ [])
