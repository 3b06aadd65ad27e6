-- A packet that is not to pass ends at its first device, or is lost behind it.
use Rattle.std.proofs.Common.{◌≡◌, ℕ, suc, true, false, List, [], ◌∷◌, length, refl, ap, subst, ◌∙◌, sym, ⊎_elim, cond}
use Rattle.std.specs.Prelude.{◌==◌, Option, Some, None}
use Rattle.std.proofs.lemmas.Bool.{cases_Bool, false≢true}
use Rattle.policy_model.specs.Policy.{managed_routers}
use Rattle.policy_model.specs.Paths.{Crossing}
use Rattle.policy_model.specs.Zones.{zone_of}
use Rattle.policy_model.specs.Permits.{Packet}
use Rattle.policy_model.specs.Packets.{is_unambiguous_on, walks_of}
use Rattle.policy_model.specs.Routes.{Hop}
use Rattle.policy_model.specs.Passing.{Config, device_passes}
use Rattle.policy_model.specs.Delivery.{Delivery, NoWalk, ended_by, with_turn, is_on_way, turn, sent_by, delivery_within, delivery}
use Rattle.policy_model.specs.Headline.{Meaning, permits_in, is_to_pass, IsUnderWay, IsSent, IsRefused, Refuses}
use Rattle.policy_model.proofs.AllWalks.{in_allowed_walks}
use Rattle.list_laws.proofs.Members.{each_in}
use Rattle.policy_laws.specs.Secured.{AreSecured, HaveLists}
use Rattle.policy_laws.proofs.Devices.{devices_pass}
use Rattle.delivery_laws.proofs.Ways.{IsItsWalk, way_on, some_walks}
use Rattle.delivery_laws.proofs.Turns.{crossing, made, back_out, stops, goes, is_lost}

-- an unambiguous packet is under way on each walk of its own
pub under_way : (m : Meaning) (x : Packet) (choose : List Crossing → ℕ) → IsSent m x choose → (path : List Crossing) → IsItsWalk m.site x path → IsUnderWay m x path
under_way m x choose sent path walk = record {
  transport = sent.transport;
  packet = sent.packet;
  walk = walk;
  unambiguous = each_in (is_unambiguous_on m.site m.views x) (walks_of m.site x) sent.unambiguous path
      (in_allowed_walks m.site (zone_of m.site x.src.net) (zone_of m.site x.dst.net) path walk);
}

-- a delivery of a packet that has a walk begins with a turn
pub begins : (m : Meaning) (configs : List Config) (x : Packet) (choose : List Crossing → ℕ) → IsSent m x choose →
    delivery m.site m.views configs x choose ≡ delivery_within m.site m.views configs x choose (suc (length (managed_routers m.site.policy))) []
begins m configs x choose sent =
    ap (λ b. cond b (ended_by NoWalk) (delivery_within m.site m.views configs x choose (suc (length (managed_routers m.site.policy))) []))
    (some_walks m.site x sent.walk sent.joined)

module _ (m : Meaning) (configs : List Config) (ok : AreSecured m.site m.views (permits_in m)) (lists : HaveLists m.site m.views (permits_in m) configs) where
  module _ (x : Packet) (choose : List Crossing → ℕ) (sent : IsSent m x choose) (refused : is_to_pass m x ≡ false) (next : List Crossing → Delivery) where
    -- the device of a crossing that is on the way stops it
    stopped : (c : Crossing) → is_on_way m.site x (c ∷ []) ≡ true → device_passes m.site m.views configs x c ≡ false
    stopped c on =
        let w = way_on m.site x (c ∷ []) on in
        devices_pass m configs ok lists x c ([], w.0, under_way m x choose sent (c ∷ w.0) w.1) ∙ refused

    first_turn : (i : ℕ) (o : Option Hop) → IsRefused (turn m.site m.views configs x next [] i o)
    first_turn i None = refl
    first_turn i (Some h) =
        let c = crossing i h.out in
        let o : Option Hop = Some h in
        ⊎_elim (λ back. subst IsRefused (sym (back_out m.site m.views configs x next [] i o h refl back)) refl)
        (λ out. ⊎_elim
        (λ passed. ⊎_elim (λ on. absurd (false≢true (sym (stopped c on) ∙ passed)))
        (λ off. subst IsRefused (sym (goes m.site m.views configs x next [] i o h refl out passed ∙ ap (with_turn (made c h)) (is_lost m.site m.views configs x next [] c off))) refl)
        (cases_Bool (is_on_way m.site x (c ∷ []))))
        (λ stop. subst IsRefused (sym (stops m.site m.views configs x next [] i o h refl out stop)) refl)
        (cases_Bool (device_passes m.site m.views configs x c)))
        (cases_Bool (h.out == i))

  pub refuses : Refuses m configs
  refuses x choose sent refused =
      subst IsRefused (sym (begins m configs x choose sent))
      (first_turn x choose sent refused (delivery_within m.site m.views configs x choose (length (managed_routers m.site.policy))) (choose []) (sent_by m.site m.views configs x (choose [])))
