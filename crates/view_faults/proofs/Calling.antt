-- How zones are called, and how many views there are.
use Rattle.std.proofs.Common.{◌≡◌, ℕ, zero, suc, ◌+◌, ◌<◌, ◌≤◌, Bool, true, false, cond, List, [], ◌∷◌, length, filter, refl, sym, ap, subst, ◌∙◌, arith}
use Rattle.std.specs.Prelude.{◌≢◌, ◌==◌, slice_index, slice_index_or}
use Rattle.std.specs.List.{range_with_len}
use Rattle.std.proofs.lemmas.Bool.{eq-eqb, false≢true}
use Rattle.std.proofs.lemmas.List.{length-map}
use Rattle.std.proofs.lemmas.List.FromFn.{length-range_with_len}
use Rattle.spoc_base.specs.declared.place.Source.{Source}
use Rattle.spoc_base.specs.declared.place.Span.{Span}
use Rattle.spoc_base.specs.declared.place.Kind.TheVariants as kind
use Rattle.spoc_base.specs.declared.place.Named.{Named}
use Rattle.spoc_base.specs.declared.place.Named.TheVariants.{Plain}
use Rattle.policy_model.specs.Policy.{Policy, net_of, all_routers}
use Rattle.policy_model.specs.Zones.{Site, nets_in, zone_count}
use Rattle.policy_model.specs.Tags.{Views, AreViews, inner_tags}
use Rattle.topology.specs.Texts.{LiesIn, text_at, name_span}
use Rattle.topology.specs.Told.{IsNetName, IsZoneName}
use Rattle.zone_graph.specs.Grouped.{Graph, IsGraphOf}
use Rattle.zone_graph.proofs.Counted.{counted}

pub zone_told : (sources : List Source) (s : Site) (z n : ℕ) (named : Named) (span : Span) → n ≡ slice_index_or (nets_in s z) 0 0 → IsNetName sources s.policy n named → span ≡ name_span named →
    IsZoneName sources s z (Plain kind.Zone span)
zone_told sources s z n named span e net is =
    record {
      is = refl;
      lies = subst (λ (x : Span). LiesIn sources x) (sym is) net.lies;
      text = ap (text_at sources) is ∙ (net.text ∙ ap (λ (x : ℕ). (net_of s.policy x).name) e);
    }

-- the first number that passes is among those that were asked
first_kept : (test : ℕ → Bool) (a n x : ℕ) → a ≤ x → x < a + n → test x ≡ true → slice_index (filter test (range_with_len a n)) 0 < a + n
first_kept test a zero x low high t = absurd (omega (arith, low, high))
first_kept test a (suc n) x low high t = go (λ ne. let h = first_kept test (a + 1) n x (omega (arith, low, ne)) (omega (arith, high)) t in omega (arith, h)) (test a) refl
  where
    go : (a ≢ x → slice_index (filter test (range_with_len (a + 1) n)) 0 < a + suc n) → (b : Bool) → test a ≡ b →
        slice_index (cond b (a ∷ filter test (range_with_len (a + 1) n)) (filter test (range_with_len (a + 1) n))) 0 < a + suc n
    go later true e = omega arith
    go later false e = later (λ q. false≢true (sym e ∙ (ap test q ∙ t)))

-- the least network of a zone is there
pub first_there : (p : Policy) (g : Graph) → IsGraphOf p g → (z : ℕ) → z < length g.nets → slice_index (slice_index_or g.nets z []) 0 < length p.nets
first_there p g graph z h =
    let w = graph.numbers.used z h in
    let first = first_kept (λ n. slice_index g.zones n == z) 0 (length g.zones) w.0 (omega arith) (omega (arith, w.1)) (eq-eqb (slice_index g.zones w.0) z w.2) in
    subst (λ (xs : List ℕ). slice_index xs 0 < length p.nets) (sym (graph.nets_are z h)) (omega (arith, first, graph.table.each))

-- ---- counts

pub zones_counted : (p : Policy) (g : Graph) → IsGraphOf p g → zone_count (record { policy = p; zones = g.zones }) ≡ length g.nets
zones_counted p g graph = counted p g graph

pub zone_views : (p : Policy) (g : Graph) (v : Views) → IsGraphOf p g → AreViews (record { policy = p; zones = g.zones }) v → length v.zones ≡ length g.nets
zone_views p g v graph views = views.each ∙ counted p g graph

pub router_views : (s : Site) (v : Views) → AreViews s v → length v.routers ≡ length s.policy.routers
router_views s v views =
    ap (λ (xs : List (List ℕ)). length xs) views.inner ∙ (length-map (all_routers s.policy) (inner_tags s v) ∙ length-range_with_len 0 (length s.policy.routers))
