-- How networks and zones are called.
use Rattle.std.proofs.Common.{◌≡◌, ℕ, ◌<◌, Bool, true, List, [], ◌∷◌, length, sym, ap, subst, ◌∙◌, refl, arith}
use Rattle.std.specs.Prelude.{◌==◌, slice_index, slice_index_or}
use Rattle.std.proofs.lemmas.Bool.{eq-eqb}
use Rattle.spoc_base.specs.declared.place.Source.{Source}
use Rattle.spoc_base.specs.declared.place.Span.{Span}
use Rattle.spoc_base.specs.declared.place.Kind.{Kind}
use Rattle.spoc_base.specs.declared.place.Kind.TheVariants as kind
use Rattle.spoc_base.specs.declared.place.Named.{Named}
use Rattle.spoc_base.specs.declared.place.Named.TheVariants.{Plain}
use Rattle.policy_model.specs.Lists.{numbers_below}
use Rattle.policy_model.specs.Policy.{Policy, net_of}
use Rattle.policy_model.specs.Zones.{Site, nets_in}
use Rattle.policy_model.proofs.AllWalks.{IsIn, in_filter, in_numbers}
use Rattle.list_laws.proofs.Members.{from_filter}
use Rattle.topology.specs.Texts.{LiesIn, IsCalled, text_at, name_at, name_span}
use Rattle.topology.specs.Told.{IsNameOf, IsNetName, IsZoneName}
use Rattle.zone_graph.specs.Grouped.{Graph, IsGraphOf, nets_with}
use Rattle.rule_distribute.proofs.Concerns.{below_count}
use Rattle.rule_distribute.proofs.Rising.{contains_in, in_contains}
use Rattle.std.proofs.lemmas.List.{get_or_default}

pub name_told : (k : Kind) (sources : List Source) (name : List ℕ) (named : Named) → IsCalled k sources named → name ≡ name_at sources named → IsNameOf k sources name named
name_told k sources name named called e = record { is = called.is; lies = called.lies; text = sym (e ∙ ap (name_at sources) called.is) }

pub zone_told : (sources : List Source) (s : Site) (z n : ℕ) (named : Named) (span : Span) → n ≡ slice_index_or (nets_in s z) 0 0 → IsNetName sources s.policy n named → span ≡ name_span named →
    IsZoneName sources s z (Plain kind.Zone span)
zone_told sources s z n named span e net is =
    record {
      is = refl;
      lies = subst (λ (x : Span). LiesIn sources x) (sym is) net.lies;
      text = ap (text_at sources) is ∙ (net.text ∙ ap (λ (x : ℕ). (net_of s.policy x).name) e);
    }

-- the least network of a zone is there
pub first_there : (p : Policy) (g : Graph) → IsGraphOf p g → (z : ℕ) → z < length g.nets → slice_index (slice_index_or g.nets z []) 0 < length p.nets
first_there p g graph z h =
    let w = graph.numbers.used z h in
    let test : ℕ → Bool = λ n. slice_index g.zones n == z in
    let rows = nets_with g.zones z in
    let listed : IsIn w.0 rows = in_filter test w.0 (numbers_below (length g.zones)) (in_numbers (length g.zones) w.0 w.1) (eq-eqb (slice_index g.zones w.0) z w.2) in
    let some = (in_contains rows w.0 listed).1 in
    let first : IsIn (slice_index rows 0) rows = contains_in rows (slice_index rows 0) (0, omega (arith, some), get_or_default rows 0 (slice_index rows 0) 0 (omega (arith, some))) in
    let low = below_count (length g.zones) (slice_index rows 0) (from_filter test (slice_index rows 0) (numbers_below (length g.zones)) first).0 in
    subst (λ (xs : List ℕ). slice_index xs 0 < length p.nets) (sym (graph.nets_are z h)) (omega (arith, low, graph.table.each))
