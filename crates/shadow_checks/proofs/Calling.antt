-- How things are called.
use Rattle.std.proofs.Common.{◌≡◌, ℕ, ◌<◌, Bool, List, [], ◌∷◌, length, refl, sym, ap, subst, ◌∙◌, arith}
use Rattle.std.specs.Prelude.{◌==◌, slice_index, slice_index_or}
use Rattle.std.proofs.lemmas.Bool.{eq-eqb}
use Rattle.spoc_base.specs.declared.place.Source.{Source}
use Rattle.spoc_base.specs.declared.place.Span.{Span}
use Rattle.spoc_base.specs.declared.place.Kind.{Kind}
use Rattle.spoc_base.specs.declared.place.Kind.TheVariants as kind
use Rattle.spoc_base.specs.declared.place.Named.{Named}
use Rattle.spoc_base.specs.declared.place.Named.TheVariants.{Plain}
use Rattle.spoc_base.specs.declared.fault.Fault.TheVariants as fault
use Rattle.policy_model.specs.Lists.{numbers_below}
use Rattle.policy_model.specs.Policy.{Policy, net_of}
use Rattle.policy_model.specs.Zones.{Site, nets_in}
use Rattle.policy_model.specs.FirstFault.{ViewPlace}
use Rattle.policy_model.proofs.AllWalks.{IsIn, in_filter, in_numbers}
use Rattle.policy_laws.proofs.Members.{from_filter}
use Rattle.policy_laws.proofs.PermitLines.{in_at}
use Rattle.policy_laws.proofs.Placed.{from_numbers}
use Rattle.topology.specs.Texts.{LiesIn, IsCalled, text_at, name_at, name_span}
use Rattle.topology.specs.Told.{IsNameOf, IsNetName, IsZoneName, IsPlaceName, IsTold}
use Rattle.zone_graph.specs.Grouped.{Graph, IsGraphOf, nets_with}
use Rattle.shadow_checks.specs.Names.{IsHolderName}
use Rattle.shadow_checks.specs.Sightings.{case_of}
use Rattle.shadow_checks.specs.declared.here.Holder.{Holder}
use Rattle.shadow_checks.specs.declared.here.Holder.TheVariants.{Host, Iface}

pub name_told : (k : Kind) (sources : List Source) (name : List ℕ) (named : Named) → IsCalled k sources named → name ≡ name_at sources named → IsNameOf k sources name named
name_told k sources name named called e = record { is = called.is; lies = called.lies; text = sym (e ∙ ap (name_at sources) called.is) }

pub zone_told : (sources : List Source) (s : Site) (z n : ℕ) (named : Named) (span : Span) → n ≡ slice_index_or (nets_in s z) 0 0 → IsNetName sources s.policy n named → span ≡ name_span named →
    IsZoneName sources s z (Plain kind.Zone span)
zone_told sources s z n named span e net is =
    record {
      is = refl;
      lies = subst (λ (x : Span). LiesIn sources x) (sym is) net.lies;
      text = ap (text_at sources) is ∙ (net.text ∙ ap (λ (x : ℕ). (net_of s.policy x).name) e);
    }

some_in : (xs : List ℕ) (n : ℕ) → IsIn n xs → 0 < length xs
some_in [] n h = absurd h
some_in (x ∷ xs) n h = omega arith

-- the least network of a zone is there
pub first_there : (p : Policy) (g : Graph) → IsGraphOf p g → (z : ℕ) → z < length g.nets → slice_index (slice_index_or g.nets z []) 0 < length p.nets
first_there p g graph z h =
    let w = graph.numbers.used z h in
    let test : ℕ → Bool = λ n. slice_index g.zones n == z in
    let some = some_in (nets_with g.zones z) w.0 (in_filter test w.0 (numbers_below (length g.zones)) (in_numbers (length g.zones) w.0 w.1) (eq-eqb (slice_index g.zones w.0) z w.2)) in
    let first = slice_index (nets_with g.zones z) 0 in
    let listed = (from_filter test first (numbers_below (length g.zones)) (in_at (nets_with g.zones z) 0 0 some)).0 in
    let below = (from_numbers 0 (length g.zones) first listed).1 in
    subst (λ (xs : List ℕ). slice_index xs 0 < length p.nets) (sym (graph.nets_are z h)) (omega (arith, below, graph.table.each))

pub fault_told : (sources : List Source) (s : Site) (at : ViewPlace) (holder : Holder) (m : ℕ) (name net place : Named) → IsHolderName sources s.policy holder name → IsNetName sources s.policy m net →
    IsPlaceName sources s at place → IsTold sources s (case_of at holder m) (fault.HostShadowed name net place)
fault_told sources s at (Host h) m name net place a b c = (a, b, c)
fault_told sources s at (Iface i shared) m name net place a b c = (a, b, c)
