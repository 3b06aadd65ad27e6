-- Names, and parts of the sources.
use Rattle.std.specs.Prelude.{◌≡◌, ℕ, ◌<◌, ◌≤◌, ◌-◌, List, [], ◌∷◌, ◌++◌, length, take, drop, slice_get, Option, Some, None, codes}
use Rattle.std.specs.Option.{ForSome}
use Rattle.std.specs.List.{All}
use Rattle.spoc_base.specs.declared.place.Source.{Source}
use Rattle.spoc_base.specs.declared.place.Span.{Span}
use Rattle.spoc_base.specs.declared.place.Kind.{Kind}
use Rattle.spoc_base.specs.declared.place.Named.{Named}
use Rattle.spoc_base.specs.declared.place.Named.TheVariants.{Plain, Iface}

-- the span is a part of a source
pub record LiesIn (sources : List Source) (span : Span) : Type 0 where
  pub file : span.file < length sources
  pub order : span.start ≤ span.end
  pub inside : ForSome (slice_get sources span.file) (λ source. span.end ≤ length source.text)

-- the spans of a name
abbrev pub spans_of : Named → List Span
spans_of (Plain kind name) = name ∷ []
spans_of (Iface router net) = router ∷ net ∷ []

-- each span of the name is a part of a source
abbrev pub IsNameIn : List Source → Named → Type 0
IsNameIn sources named = All (LiesIn sources) (spans_of named)

-- the bytes of a span
abbrev pub text_at : List Source → Span → List ℕ
text_at sources span = cut (slice_get sources span.file)
  where
    cut : Option Source → List ℕ
    cut None = []
    cut (Some source) = take (span.end - span.start) (drop span.start source.text)

-- the name of a thing, without its kind
abbrev pub name_at : List Source → Named → List ℕ
name_at sources (Plain kind name) = text_at sources name
name_at sources (Iface router net) = text_at sources router ++ (codes "." ++ text_at sources net)

-- the span of a name, or of the router's name of an interface's
abbrev pub name_span : Named → Span
name_span (Plain kind name) = name
name_span (Iface router net) = router

-- the span of the network's name of an interface's
abbrev pub net_span : Named → Span
net_span (Plain kind name) = name
net_span (Iface router net) = net

-- The thing is called by its kind and a name, which is a part of a source.
pub record IsCalled (k : Kind) (sources : List Source) (named : Named) : Type 0 where
  pub is : named ≡ Plain k (name_span named)
  pub lies : LiesIn sources (name_span named)

-- The interface is called by the names of its router and its network, which are parts of a source.
pub record IsIfaceCalled (sources : List Source) (router net : List ℕ) (named : Named) : Type 0 where
  pub is : named ≡ Iface (name_span named) (net_span named)
  pub router_lies : LiesIn sources (name_span named)
  pub of_router : text_at sources (name_span named) ≡ router
  pub net_lies : LiesIn sources (net_span named)
  pub at_net : text_at sources (net_span named) ≡ net
