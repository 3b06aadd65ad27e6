-- A packet is permitted exactly if some listed permit holds it and no listed denial does.
use Rattle.std.proofs.Common.{ℕ, Bool, not, List, [], map, sym, subst}
use Rattle.std.specs.Prelude.{filter, flat_map}
use Rattle.std.specs.List.{All}
use Rattle.spoc_base.specs.Boxes.{TransportBox}
use Rattle.policy_model.specs.Policy.{Rule, Service}
use Rattle.policy_model.specs.Zones.{Site}
use Rattle.policy_model.specs.Objects.{Object, objects_of}
use Rattle.policy_model.specs.Permits.{End, Permit, ends_in, rule_items, service_items, items_of, listed_permits, listed_denials}
use Rattle.policy_model.proofs.AllWalks.{IsIn, from_map}
use Rattle.list_laws.proofs.Matching.{each_of}
use Rattle.spoc_base.specs.PlainSets.{IsPlainSet}
use Rattle.piece_laws.proofs.Left.{IsPlainPermit, each_left}
use Rattle.policy_model.specs.PlainRules.{HasPlainRules}
use Rattle.policy_laws.specs.Listed.{DeniesExactly}
use Rattle.policy_laws.specs.Shaped.{IsShaped}
use Rattle.policy_laws.proofs.Members.{from_flat_map, from_filter}
use Rattle.policy_laws.proofs.Shapes.{item_ends}

rule_box : (s : Site) (areas : List (List ℕ)) (user : List Object) (rule : Rule) (q : Permit) → IsIn q (rule_items s areas user rule) → IsIn q.box rule.boxes
rule_box s areas user rule q h =
    let of_src = λ (src : End). flat_map (λ (dst : End). map (λ (box : TransportBox). record { src = src; dst = dst; box = box }) rule.boxes) (ends_in s areas user rule.dst) in
    let a = from_flat_map of_src q (ends_in s areas user rule.src) h in
    let src : End = a.0 in
    let of_dst = λ (dst : End). map (λ (box : TransportBox). record { src = src; dst = dst; box = box }) rule.boxes in
    let b = from_flat_map of_dst q (ends_in s areas user rule.dst) a.2 in
    let dst : End = b.0 in
    let c = from_map (λ (box : TransportBox). record { src = src; dst = dst; box = box }) q rule.boxes b.2 in
    subst (λ (x : Permit). IsIn x.box rule.boxes) (sym c.2) c.1

module _ (s : Site) (areas : List (List ℕ)) (ok : IsShaped s.policy) (plain : HasPlainRules s.policy) where
  item_is_plain : (test : Rule → Bool) (q : Permit) → IsIn q (items_of s areas test) → IsPlainPermit q
  item_is_plain test q h =
      let ends = item_ends s areas ok test q h in
      let a = from_flat_map (service_items s areas test) q s.policy.services h in
      let service : Service = a.0 in
      let user = objects_of s areas [] service.user in
      let b = from_flat_map (rule_items s areas user) q (filter test service.rules) a.2 in
      let rule : Rule = b.0 in
      let of_service = each_of (λ (service : Service). All (λ (rule : Rule). All IsPlainSet rule.boxes) service.rules) s.policy.services plain service a.1 in
      let of_rule = each_of (λ (rule : Rule). All IsPlainSet rule.boxes) service.rules of_service rule (from_filter test rule service.rules b.1).0 in
      record { set = each_of IsPlainSet rule.boxes of_rule q.box (rule_box s areas user rule q b.2); up = record { src = ends.0.ordered; dst = ends.1.ordered } }

  pub denies : DeniesExactly s areas
  denies x proper =
      each_left x proper (listed_denials s areas) (item_is_plain (λ rule. rule.deny)) (listed_permits s areas) (item_is_plain (λ rule. not rule.deny))
