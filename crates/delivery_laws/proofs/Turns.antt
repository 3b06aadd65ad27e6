-- What a turn does, case by case.
use Rattle.std.proofs.Common.{◌≡◌, ℕ, Bool, true, false, not, cond, List, [], ◌∷◌, ◌++◌, ap, ◌∙◌}
use Rattle.std.specs.Prelude.{◌==◌, Option, Some, None}
use Rattle.policy_model.specs.Paths.{Crossing}
use Rattle.policy_model.specs.Zones.{Site, zone_of, zone_at}
use Rattle.policy_model.specs.Tags.{Views}
use Rattle.policy_model.specs.Permits.{Packet}
use Rattle.policy_model.specs.Routes.{Hop}
use Rattle.policy_model.specs.Passing.{Config, device_passes}
use Rattle.policy_model.specs.Delivery.{Delivery, Turn, Arrived, Lost, NoRoute, Stopped, ended_by, with_turn, is_on_way, arrival, turn}

abbrev pub crossing : ℕ → ℕ → Crossing
crossing i j = record { enter = i; leave = j }

abbrev pub made : Crossing → Hop → Turn
made c h = record { crossing = c; gateway = h.gateway }

module _ (s : Site) (v : Views) (configs : List Config) (x : Packet) (next : List Crossing → Delivery) (so_far : List Crossing) where
  abbrev to : ℕ
  to = zone_of s x.dst.net

  pub no_route : (i : ℕ) (o : Option Hop) → o ≡ None → turn s v configs x next so_far i o ≡ ended_by (NoRoute i)
  no_route i o is = ap (turn s v configs x next so_far i) is

  -- where the look-up gives something, and then by the way out
  past : (i : ℕ) (h : Hop) (b : Bool) → Delivery
  past i h b = cond b (ended_by (NoRoute i)) (cond (not (device_passes s v configs x (crossing i h.out))) (ended_by (Stopped (crossing i h.out)))
      (with_turn (made (crossing i h.out) h) (arrival s v configs x next so_far (crossing i h.out))))

  pub back_out : (i : ℕ) (o : Option Hop) (h : Hop) → o ≡ Some h → (h.out == i) ≡ true → turn s v configs x next so_far i o ≡ ended_by (NoRoute i)
  unfolding past
  back_out i o h is back = ap (turn s v configs x next so_far i) is ∙ ap (past i h) back

  pub stops : (i : ℕ) (o : Option Hop) (h : Hop) → o ≡ Some h → (h.out == i) ≡ false → device_passes s v configs x (crossing i h.out) ≡ false →
      turn s v configs x next so_far i o ≡ ended_by (Stopped (crossing i h.out))
  unfolding past
  stops i o h is out stopped =
      let c = crossing i h.out in
      ap (turn s v configs x next so_far i) is ∙ (ap (past i h) out
      ∙ ap (λ b. cond (not b) (ended_by (Stopped c)) (with_turn (made c h) (arrival s v configs x next so_far c))) stopped)

  pub goes : (i : ℕ) (o : Option Hop) (h : Hop) → o ≡ Some h → (h.out == i) ≡ false → device_passes s v configs x (crossing i h.out) ≡ true →
      turn s v configs x next so_far i o ≡ with_turn (made (crossing i h.out) h) (arrival s v configs x next so_far (crossing i h.out))
  unfolding past
  goes i o h is out passed =
      let c = crossing i h.out in
      ap (turn s v configs x next so_far i) is ∙ (ap (past i h) out
      ∙ ap (λ b. cond (not b) (ended_by (Stopped c)) (with_turn (made c h) (arrival s v configs x next so_far c))) passed)

  pub is_lost : (c : Crossing) → is_on_way s x (so_far ++ c ∷ []) ≡ false → arrival s v configs x next so_far c ≡ ended_by Lost
  is_lost c off = ap (λ b. cond (not b) (ended_by Lost) (cond (zone_at s c.leave == to) (ended_by Arrived) (next (so_far ++ c ∷ [])))) off

  pub is_there : (c : Crossing) → is_on_way s x (so_far ++ c ∷ []) ≡ true → (zone_at s c.leave == to) ≡ true → arrival s v configs x next so_far c ≡ ended_by Arrived
  is_there c on here =
      ap (λ b. cond (not b) (ended_by Lost) (cond (zone_at s c.leave == to) (ended_by Arrived) (next (so_far ++ c ∷ [])))) on
      ∙ ap (λ b. cond b (ended_by Arrived) (next (so_far ++ c ∷ []))) here

  pub is_further : (c : Crossing) → is_on_way s x (so_far ++ c ∷ []) ≡ true → (zone_at s c.leave == to) ≡ false → arrival s v configs x next so_far c ≡ next (so_far ++ c ∷ [])
  is_further c on elsewhere =
      ap (λ b. cond (not b) (ended_by Lost) (cond (zone_at s c.leave == to) (ended_by Arrived) (next (so_far ++ c ∷ [])))) on
      ∙ ap (λ b. cond b (ended_by Arrived) (next (so_far ++ c ∷ []))) elsewhere
