-- What is known where a policy's zones, views and permits were found.
use Rattle.std.proofs.Common.{◌≡◌, ℕ, ◌<◌, List, length, sym, ap, subst, ◌∙◌, arith}
use Rattle.policy_model.specs.Policy.{Policy}
use Rattle.policy_model.specs.Zones.{zone_count}
use Rattle.policy_model.specs.Tags.{Views}
use Rattle.policy_model.specs.Permits.{Permit}
use Rattle.policy_model.specs.Blocks.{permit_at, no_permit}
use Rattle.policy_model.specs.Headline.{Meaning, permits_in}
use Rattle.policy_laws.specs.Secured.{IsEnd}
use Rattle.policy_laws.specs.Shaped.{IsShaped}
use Rattle.policy_laws.proofs.PermitLines.{in_at}
use Rattle.topology.specs.Sound.{IsSound}
use Rattle.zone_graph.specs.Grouped.{Graph, IsGraphOf}
use Rattle.zone_graph.proofs.Counted.{counted}
use Rattle.meaning_laws.specs.Tables.{meaning_of}
use Rattle.meaning_laws.proofs.MeaningThere.{meaning_found}
use Rattle.fault_laws.proofs.There.{permit_there}
use Rattle.permit_lines.specs.Given.{site_with, AreKnown}
use Rattle.policy_lists.proofs.Ends.{permit_ends}

-- ---- views

-- as many zones have a view as the graph has
pub zones_sized : (p : Policy) (g : Graph) (v : Views) → IsGraphOf p g → site_with p g ≡ (meaning_of p).site → v ≡ (meaning_of p).views → length v.zones ≡ length g.nets
zones_sized p g v is site e =
    ap (λ (w : Views). length w.zones) e ∙ ((meaning_found p).views.each ∙ (ap zone_count (sym site) ∙ counted p g is))

-- ---- permits

module _ (p : Policy) (sound : IsSound p) (shaped : IsShaped p) (permits : List Permit) (expanded : permits ≡ permits_in (meaning_of p)) where
  m : Meaning
  m = meaning_of p

  abbrev IsThere : Permit → Type 0
  IsThere q = (q.src.net < length p.nets) × (q.dst.net < length p.nets) × (IsEnd p q.src × IsEnd p q.dst)

  each_there : (k : ℕ) → k < length permits → IsThere (permit_at permits k)
  each_there k below =
      let s = (meaning_of p).site in
      let areas = (meaning_of p).areas in
      let q = permit_at (permits_in (meaning_of p)) k in
      let long = ap length expanded in
      let known = in_at (permits_in (meaning_of p)) no_permit k (omega (arith, below, long)) in
      let zoned = (meaning_found p).zones.each in
      let nets = permit_there s sound (length p.nets) (omega arith) (omega (arith, zoned)) areas q known in
      subst (λ (xs : List Permit). IsThere (permit_at xs k)) (sym expanded) (nets.0, nets.1, permit_ends s areas shaped q known)

  pub are_known : AreKnown p permits
  are_known = record {
    each = λ k h. record {
      src_end = record { there = (each_there k h).0; within = (each_there k h).2.0 };
      dst_end = record { there = (each_there k h).1; within = (each_there k h).2.1 };
    };
  }
