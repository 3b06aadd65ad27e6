-- How networks, tags and zones are called.
use Rattle.std.proofs.Common.{◌≡◌, ℕ, ◌<◌, Bool, true, List, [], ◌∷◌, length, map, refl, sym, ap, subst, ◌∙◌, arith}
use Rattle.std.specs.Prelude.{◌==◌, slice_index, slice_index_or}
use Rattle.std.proofs.lemmas.Bool.{eq-eqb, false≢true}
use Rattle.std.proofs.lemmas.List.{length-map, get_or-map}
use Rattle.spoc_base.specs.declared.place.Source.{Source}
use Rattle.spoc_base.specs.declared.place.Span.{Span}
use Rattle.spoc_base.specs.declared.place.Kind.{Kind}
use Rattle.spoc_base.specs.declared.place.Kind.TheVariants as kind
use Rattle.spoc_base.specs.declared.place.Named.{Named}
use Rattle.spoc_base.specs.declared.place.Named.TheVariants.{Plain}
use Rattle.policy_model.specs.Lists.{has}
use Rattle.policy_model.specs.Policy.{Policy, net_of}
use Rattle.policy_model.specs.Zones.{Site, nets_in, zone_of, zone_count}
use Rattle.policy_model.specs.Tags.{Views, AreViews}
use Rattle.topology.specs.Texts.{LiesIn, IsCalled, text_at, name_at, name_span}
use Rattle.topology.specs.Told.{IsNameOf, IsNetName, IsZoneName}
use Rattle.zone_graph.specs.Grouped.{Graph, IsGraphOf, nets_with}
use Rattle.nat_domains.proofs.Members.{has_at, has_kept, kept_has}
use Rattle.nat_domains.proofs.Viewed.{zones_counted}

pub name_told : (k : Kind) (sources : List Source) (name : List ℕ) (named : Named) → IsCalled k sources named → name ≡ name_at sources named → IsNameOf k sources name named
name_told k sources name named called e = record { is = called.is; lies = called.lies; text = sym (e ∙ ap (name_at sources) called.is) }

pub zone_told : (sources : List Source) (s : Site) (z n : ℕ) (named : Named) (span : Span) → n ≡ slice_index_or (nets_in s z) 0 0 → IsNetName sources s.policy n named → span ≡ name_span named →
    IsZoneName sources s z (Plain kind.Zone span)
zone_told sources s z n named span e net is =
    record {
      is = refl;
      lies = subst (λ (x : Span). LiesIn sources x) (sym is) net.lies;
      text = ap (text_at sources) is ∙ (net.text ∙ ap (λ (x : ℕ). (net_of s.policy x).name) e);
    }

has_some : (xs : List ℕ) (n : ℕ) → has xs n ≡ true → 0 < length xs
has_some [] n h = absurd (false≢true h)
has_some (x ∷ xs) n h = omega arith

-- the least network of a zone is there
pub first_there : (p : Policy) (g : Graph) → IsGraphOf p g → (z : ℕ) → z < length g.nets → slice_index (slice_index_or g.nets z []) 0 < length p.nets
first_there p g graph z h =
    let w = graph.numbers.used z h in
    let test : ℕ → Bool = λ n. slice_index g.zones n == z in
    let listed : has (nets_with g.zones z) w.0 ≡ true = kept_has test 0 (length g.zones) w.0 (omega arith) (omega (arith, w.1)) (eq-eqb (slice_index g.zones w.0) z w.2) in
    let some = has_some (nets_with g.zones z) w.0 listed in
    let first = has_kept test 0 (length g.zones) (slice_index (nets_with g.zones z) 0) (has_at (nets_with g.zones z) 0 some) in
    subst (λ (xs : List ℕ). slice_index xs 0 < length p.nets) (sym (graph.nets_are z h)) (omega (arith, first.1, graph.table.each))

-- ---- lists in memory

pub as_long : {A B : Type 0} (see : A → B) (xs : List A) (ys : List B) → map see xs ≡ ys → length xs ≡ length ys
as_long {A} {B} see xs ys e = sym (length-map xs see) ∙ ap (λ (zs : List B). length zs) e

pub seen_at : {A B : Type 0} (see : A → B) (xs : List A) (ys : List B) (k : ℕ) (d : A) (e : B) → map see xs ≡ ys → k < length xs → slice_index_or ys k e ≡ see (slice_index_or xs k d)
seen_at {A} {B} see xs ys k d e same there = sym (ap (λ (zs : List B). slice_index_or zs k e) same) ∙ get_or-map see xs k d e there

-- ---- zones in memory

module _ (p : Policy) (g : Graph) (graph : IsGraphOf p g) where
  abbrev its_site : Site
  its_site = record { policy = p; zones = g.zones }

  pub count_zones : zone_count its_site ≡ length g.nets
  count_zones = zones_counted its_site (length g.nets) graph.numbers

  pub net_zoned : (n : ℕ) → n < length p.nets → slice_index g.zones n < length g.nets
  net_zoned n h = graph.numbers.below n (omega (arith, h, graph.table.each))

  pub zone_there : (n : ℕ) → n < length p.nets → zone_of its_site n < zone_count its_site
  zone_there n h = omega (arith, net_zoned n h, count_zones)

  pub table_long : (v : Views) → AreViews its_site v → length v.zones ≡ length g.nets
  table_long v views = views.each ∙ count_zones
