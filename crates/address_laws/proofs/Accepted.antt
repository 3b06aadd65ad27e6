-- A policy that is accepted has no fault of tags, views and walks.
use Rattle.std.proofs.Common.{◌≡◌, ℕ, true, List, refl, arith}
use Rattle.std.specs.Prelude.{Option, Some, None, Result, Ok}
use Rattle.policy_model.specs.Policy.{Policy}
use Rattle.policy_model.specs.Permits.{Packet}
use Rattle.policy_model.specs.Packets.{is_packet, is_unambiguous}
use Rattle.policy_model.specs.Zones.{IsSite}
use Rattle.policy_model.specs.Headline.{Meaning, is_to_pass}
use Rattle.policy_laws.specs.Shaped.{IsShaped}
use Rattle.topology.specs.First.{HasNone}
use Rattle.topology.specs.Sound.{IsSound}
use Rattle.fault_laws.specs.Cases.{split_case}
use Rattle.fault_laws.proofs.EachRow.{tags_first, walks_first}
use Rattle.shadow_laws.proofs.Row.{view_faults_first}
use Rattle.meaning_laws.specs.Tables.{meaning_of}
use Rattle.meaning_laws.proofs.MeaningThere.{meaning_found}
use Rattle.fault_text.specs.Cases.{case_line}
use Rattle.policy_outcome.specs.Outcome.{Written, unless, tag_case, view_case, service_case, walk_case, written_for, after_services, after_views, after_tags, after_areas, outcome_for}
use Rattle.address_laws.specs.Held.{IsHeld, is_seen_on_walks}
use Rattle.address_laws.proofs.OnWalks.{is_one, on_all_walks}
use Rattle.address_laws.proofs.Passing.{passing_packets}

past : {A : Type 0} (o : Option A) (line : A → List ℕ) (rest : Result Written (List ℕ)) (written : Written) → unless o line rest ≡ Ok written → (o ≡ None) × (rest ≡ Ok written)
past None line rest written e = (refl, e)
past (Some fault) line rest written e = cc e

pub record IsClearOf (m : Meaning) : Type 0 where
  pub tags : HasNone m 1 3
  pub views : HasNone m 4 6
  pub walks : HasNone m 9 11

clear_of : (m : Meaning) (written : Written) → IsSound m.site.policy → IsSite m.site → outcome_for m ≡ Ok written → IsClearOf m
clear_of m written sound site e =
    let areas = past (split_case m) (case_line m.site) (after_areas m) written e in
    let tags = past (tag_case m) (case_line m.site) (after_tags m) written areas.1 in
    let views = past (view_case m) (case_line m.site) (after_views m) written tags.1 in
    let services = past (service_case m) (case_line m.site) (after_services m) written views.1 in
    let walks = past (walk_case m) (case_line m.site) (Ok (written_for m)) written services.1 in
    record { tags = (tags_first m sound).none.1 tags.0; views = (view_faults_first m).none.1 views.0; walks = (walks_first m sound site).none.1 walks.0 }

pub unambiguous_packets : (p : Policy) (written : Written) → IsSound p → IsShaped p → outcome_for (meaning_of p) ≡ Ok written →
    (x : Packet) → IsHeld p x.src → IsHeld p x.dst → (is_packet (meaning_of p).site (meaning_of p).views x ≡ true) ×
    (is_seen_on_walks (meaning_of p).site (meaning_of p).views x ≡ true → is_unambiguous (meaning_of p).site (meaning_of p).views x ≡ true)
unambiguous_packets p written sound shaped e x src dst =
    let m = meaning_of p in
    let site = (meaning_found p).zones in
    let clear = clear_of m written sound site e in
    (is_one m site sound shaped clear.tags clear.views x src dst, on_all_walks m site sound shaped clear.tags clear.views x src dst)

pub accepted_packets : (p : Policy) (written : Written) → outcome_for (meaning_of p) ≡ Ok written → IsSound p → IsShaped p →
    (x : Packet) → IsHeld p x.src → IsHeld p x.dst → is_to_pass (meaning_of p) x ≡ true → is_unambiguous (meaning_of p).site (meaning_of p).views x ≡ true
accepted_packets p written e sound shaped x src dst passing =
    let m = meaning_of p in
    let found = meaning_found p in
    let clear = clear_of m written sound found.zones e in
    (passing_packets p m found sound shaped clear.tags clear.views (λ f within. clear.walks f (record { lower = omega (arith, within.lower); upper = omega (arith, within.upper) })) x src dst passing).1
