-- Each delivery ends: the crossings so far always begin a walk, and no walk is longer than there are managed routers.
use Rattle.std.proofs.Common.{◌≡◌, ◌≢◌, ℕ, zero, suc, ◌+◌, ◌<◌, Bool, true, false, List, [], ◌∷◌, ◌++◌, length, refl, ap, subst, sym, ⊎_elim, cond, arith}
use Rattle.std.specs.Prelude.{◌==◌, Option, Some, None}
use Rattle.std.specs.List.{list_any}
use Rattle.std.proofs.Math.ListN.{length-append}
use Rattle.std.proofs.lemmas.Bool.{cases_Bool, false≢true}
use Rattle.policy_model.specs.Lists.{is_nothing}
use Rattle.policy_model.specs.Policy.{managed_routers}
use Rattle.policy_model.specs.Paths.{Crossing}
use Rattle.policy_model.specs.Zones.{Site, zone_of, zone_at}
use Rattle.policy_model.specs.Tags.{Views}
use Rattle.policy_model.specs.Permits.{Packet}
use Rattle.policy_model.specs.Packets.{walks_of}
use Rattle.policy_model.specs.Routes.{Hop}
use Rattle.policy_model.specs.Passing.{Config, device_passes}
use Rattle.policy_model.specs.Delivery.{Delivery, Ending, Unfinished, NoWalk, ended_by, is_on_way, arrival, turn, sent_by, delivery_within, delivery}
use Rattle.policy_model.proofs.AllWalks.{some_walk}
use Rattle.delivery_laws.proofs.Ways.{IsItsWalk, short, way_on}
use Rattle.delivery_laws.proofs.Turns.{crossing, back_out, stops, goes, is_lost, is_there, is_further}

-- the delivery has come to an end
abbrev pub HasEnded : Delivery → Type 0
HasEnded d = d.ending ≢ Unfinished

by_end : (d : Delivery) (e : Ending) → d ≡ ended_by e → e ≢ Unfinished → HasEnded d
by_end d e is other = subst HasEnded (sym is) other

module _ (s : Site) (v : Views) (configs : List Config) (x : Packet) where
  behind : (next : List Crossing → Delivery) (so_far : List Crossing) → ((c : Crossing) → is_on_way s x (so_far ++ c ∷ []) ≡ true → HasEnded (next (so_far ++ c ∷ []))) →
      (c : Crossing) → HasEnded (arrival s v configs x next so_far c)
  behind next so_far later c =
      ⊎_elim
      (λ on. ⊎_elim (λ here. by_end _ _ (is_there s v configs x next so_far c on here) (λ e. cc e))
      (λ elsewhere. subst HasEnded (sym (is_further s v configs x next so_far c on elsewhere)) (later c on)) (cases_Bool (zone_at s c.leave == zone_of s x.dst.net)))
      (λ off. by_end _ _ (is_lost s v configs x next so_far c off) (λ e. cc e))
      (cases_Bool (is_on_way s x (so_far ++ c ∷ [])))

  one_turn : (next : List Crossing → Delivery) (so_far : List Crossing) → ((c : Crossing) → is_on_way s x (so_far ++ c ∷ []) ≡ true → HasEnded (next (so_far ++ c ∷ []))) →
      (i : ℕ) (o : Option Hop) → HasEnded (turn s v configs x next so_far i o)
  one_turn next so_far later i None = λ e. cc e
  one_turn next so_far later i (Some h) =
      let c = crossing i h.out in
      ⊎_elim (λ back. by_end _ _ (back_out s v configs x next so_far i (Some h) h refl back) (λ e. cc e))
      (λ out. ⊎_elim
      (λ passed. subst HasEnded (sym (goes s v configs x next so_far i (Some h) h refl out passed)) (behind next so_far later c))
      (λ stopped. by_end _ _ (stops s v configs x next so_far i (Some h) h refl out stopped) (λ e. cc e))
      (cases_Bool (device_passes s v configs x c)))
      (cases_Bool (h.out == i))

  module _ (choose : List Crossing → ℕ) where
    within : (n : ℕ) (so_far rest : List Crossing) → IsItsWalk s x (so_far ++ rest) → length (managed_routers s.policy) < n + length so_far →
        HasEnded (delivery_within s v configs x choose n so_far)
    within zero so_far rest walk less =
        let a = short s x (so_far ++ rest) walk in
        absurd (omega (arith, a, less, length-append so_far rest))
    within (suc n) so_far rest walk less =
        one_turn (delivery_within s v configs x choose n) so_far
        (λ c on. let w = way_on s x (so_far ++ c ∷ []) on in
        within n (so_far ++ c ∷ []) w.0 w.1 (omega (arith, less, length-append so_far (c ∷ []))))
        (choose so_far) (sent_by s v configs x (choose so_far))

    has_some : (xs : List (List Crossing)) → is_nothing xs ≡ false → list_any (λ y. true) xs ≡ true
    has_some [] h = absurd (false≢true (sym h))
    has_some (y ∷ ys) h = refl

    pub ends : HasEnded (delivery s v configs x choose)
    ends =
        let n = length (managed_routers s.policy) in
        let whole = λ (b : Bool). cond b (ended_by NoWalk) (delivery_within s v configs x choose (suc n) []) in
        ⊎_elim (λ none. by_end _ NoWalk (ap whole none) (λ e. cc e))
        (λ some. let w = (some_walk s (zone_of s x.src.net) (zone_of s x.dst.net) (λ y. true)).0 (has_some (walks_of s x) some) in
        subst HasEnded (sym (ap whole some)) (within (suc n) [] w.0 w.1 (omega arith)))
        (cases_Bool (is_nothing (walks_of s x)))
