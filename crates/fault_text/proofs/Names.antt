-- The names that are cut out of the sources are those of the policy.
use Rattle.std.proofs.Common.{◌≡◌, ◌∙◌, refl, sym, ap, ℕ, ◌≤◌, ◌-◌, true, ◌&&◌, cond, List, [], ◌∷◌, ◌++◌, length, map, take, drop, get_or, Some, arith}
use Rattle.std.specs.Prelude.{nat_le, codes, slice_get}
use Rattle.std.proofs.lemmas.List.{get_or-map}
use Rattle.std.proofs.lemmas.Option.{slice_get-get_or}
use Rattle.std.proofs.lemmas.Bool.Decides.{nat_tests}
use Rattle.spoc_base.specs.declared.place.Source.{Source}
use Rattle.spoc_base.specs.declared.place.Span.{Span}
use Rattle.spoc_base.specs.declared.place.Kind.{Kind}
use Rattle.spoc_base.specs.declared.place.Named.{Named}
use Rattle.topology.specs.Texts as theirs
use Rattle.topology.specs.Told.{IsNameOf}
use Rattle.fault_text.specs.Texts.{pair_of, part_of, text_at, kind_word, named_word, bare_name}
use Rattle.fault_text.specs.Cases.{under}

pub same_text : (sources : List Source) (span : Span) → theirs.LiesIn sources span → text_at (map pair_of sources) span ≡ theirs.text_at sources span
same_text [] span lies = absurd (omega (arith, lies.file))
same_text (x ∷ xs) span lies =
    let source = get_or (x ∷ xs) span.file x in
    let there : slice_get (x ∷ xs) span.file ≡ Some source = slice_get-get_or (x ∷ xs) span.file x lies.file in
    let ends : span.end ≤ length source.text = lies.inside source there in
    let own : get_or (map pair_of (x ∷ xs)) span.file ([], []) ≡ pair_of source = get_or-map pair_of (x ∷ xs) span.file x ([], []) lies.file in
    let here : (nat_le span.start span.end && nat_le span.end (length source.text)) ≡ true = grind (arith, nat_tests, lies.order, ends) in
    let theirs_is : theirs.text_at (x ∷ xs) span ≡ take (span.end - span.start) (drop span.start source.text) = rw there refl in
    ap (λ (p : List ℕ × List ℕ). part_of p.1 span.start span.end) own ∙ ap (λ b. cond b (take (span.end - span.start) (drop span.start source.text)) []) here ∙ sym theirs_is

-- a thing as it is printed behind its blank
abbrev pub shown : List Source → Named → List ℕ
shown sources named = under (named_word named) (bare_name (map pair_of sources) named)

pub name_is : (k : Kind) (sources : List Source) (name : List ℕ) (named : Named) → IsNameOf k sources name named → shown sources named ≡ under (kind_word k) name
name_is k sources name named h = ap (shown sources) h.is ∙ ap (under (kind_word k)) (same_text sources (theirs.name_span named) h.lies ∙ h.text)

module _ (sources : List Source) (router net : List ℕ) (named : Named) (h : theirs.IsIfaceCalled sources router net named) where
  bare_is : text_at (map pair_of sources) (theirs.name_span named) ++ codes "." ++ text_at (map pair_of sources) (theirs.net_span named) ≡ router ++ codes "." ++ net
  bare_is =
      let r = same_text sources (theirs.name_span named) h.router_lies ∙ h.of_router in
      let n = same_text sources (theirs.net_span named) h.net_lies ∙ h.at_net in
      λ i. r i ++ codes "." ++ n i

  pub iface_is : shown sources named ≡ under (codes "interface") (router ++ codes "." ++ net)
  iface_is = ap (shown sources) h.is ∙ ap (under (codes "interface")) bare_is

  pub direct_is : under (codes "direct") (bare_name (map pair_of sources) named) ≡ under (codes "direct") (router ++ codes "." ++ net)
  direct_is = ap (λ n. under (codes "direct") (bare_name (map pair_of sources) n)) h.is ∙ ap (under (codes "direct")) bare_is
