-- What clauses see of that from which a policy is built.
use Rattle.std.specs.Prelude.{ℕ, List, [], ◌∷◌, map, Option, Some, None, option_map}
use Rattle.spoc_base.specs.Address.{Cidr}
use Rattle.spoc_base.specs.Shown.{cidr_of}
use Rattle.spoc_base.specs.declared.ids.TagId.{TagId}
use Rattle.spoc_base.specs.declared.address.Prefix.{Prefix}
use Rattle.spoc_base.specs.declared.place.Source.{Source}
use Rattle.spoc_ast.specs.Written.{DeclText}
use Rattle.spoc_ast.specs.Seen.{decl_seen}
use Rattle.policy_build.specs.declared.scope.Scope.{Scope}

-- the declarations
abbrev pub decls_of : Scope → List DeclText
decls_of scope = map decl_seen scope.decls.now

-- the sources
abbrev pub sources_in : Scope → List Source
sources_in scope = scope.sources.now

-- a translation: the number of its tag, and its prefix, with none where the tag hides the network
abbrev pub nat_seen : TagId × Option Prefix → ℕ × Option Cidr
nat_seen nat = (nat.0.0, option_map cidr_of nat.1)

abbrev pub listed : {A : Type 0} → Option A → List A
listed None = []
listed (Some x) = x ∷ []
