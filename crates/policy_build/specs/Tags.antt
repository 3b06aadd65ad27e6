-- The texts of tags.
use Rattle.std.specs.Prelude.{◌≡◌, ℕ, List, [], ◌∷◌, ◌++◌, map, flat_map, if◌then◌else◌}
use Rattle.std.specs.Str.{bytes_eq}
use Rattle.std.specs.List.{All, list_any}
use Rattle.spoc_base.specs.declared.place.Source.{Source}
use Rattle.spoc_ast.specs.Written.{NetPartText, NetIp, NetHost, NetNat, NetIdle, DeclText, NetworkDecl, RouterDecl, GroupDecl, AreaDecl, AggregateDecl, ProtocolDecl, ProtocolGroupDecl, RestrictionDecl, ServiceDecl}
use Rattle.spoc_base.specs.declared.place.Kind.TheVariants as kind
use Rattle.topology.specs.Texts.{name_at, IsCalled}
use Rattle.policy_build.specs.declared.tags.Known.{Known}

-- the texts, with one more where it isn't among them
abbrev pub with_text : List (List ℕ) → List ℕ → List (List ℕ)
with_text texts text = if list_any (bytes_eq text) texts then texts else texts ++ text ∷ []

abbrev pub tag_texts_in : NetPartText → List (List ℕ)
tag_texts_in (NetIp prefix) = []
tag_texts_in (NetHost name parts) = []
tag_texts_in (NetNat name parts) = name.text ∷ []
tag_texts_in (NetIdle idle) = []

-- the tags that a declaration gives, with repeats
abbrev pub tag_texts : DeclText → List (List ℕ)
tag_texts (NetworkDecl name desc parts) = flat_map tag_texts_in parts
tag_texts (RouterDecl name desc parts) = []
tag_texts (GroupDecl name desc objects) = []
tag_texts (AreaDecl name desc parts) = []
tag_texts (AggregateDecl name desc parts) = []
tag_texts (ProtocolDecl name protocol notes) = []
tag_texts (ProtocolGroupDecl name prts) = []
tag_texts (RestrictionDecl name desc ports) = []
tag_texts (ServiceDecl name desc idle user rules) = []

-- the tags that were found have the texts that were found, and stand in the sources
pub record IsKnown (sources : List Source) (known : Known) : Type 0 where
  pub said : map (λ tag. name_at sources tag.name) known.found.items ≡ known.texts
  pub written : All (λ x. IsCalled kind.Tag sources x.name) known.found.items
