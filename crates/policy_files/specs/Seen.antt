-- What clauses see of refusals and sources.
use Rattle.std.specs.Prelude.{ℕ, List, map, flat_map}
use Rattle.spoc_base.specs.declared.fault.Fault.{Fault}
use Rattle.spoc_base.specs.declared.fault.Refusal.{Refusal}
use Rattle.spoc_base.specs.declared.fault.Refusal.TheVariants as refusal
use Rattle.spoc_base.specs.declared.place.Source.{Source}
use Rattle.spoc_ast.specs.Written.{DeclText}
use Rattle.spoc_ast.specs.Seen.{file_seen}
use Rattle.spoc_ast.specs.declared.decl.File.{File}

-- P holds of the fault, unless memory ran out
abbrev pub IsRefusalOf : (Fault → Type 0) → Refusal → Type 0
IsRefusalOf P (refusal.Policy fault) = P fault
IsRefusalOf P refusal.Memory = Unit {0}

-- the texts of sources
abbrev pub texts_of : List Source → List (List ℕ)
texts_of sources = map (λ s. s.text) sources

-- the declarations of files, those of the first file first
abbrev pub decls_of : List File → List DeclText
decls_of files = flat_map file_seen files
