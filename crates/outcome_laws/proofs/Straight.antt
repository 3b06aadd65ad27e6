-- The walks of a single router lead straight into the destination's network.
use Rattle.std.proofs.Common.{◌≡◌, ℕ, ◌≤◌, inl, true, not, ◌&&◌, List, [], ◌∷◌, ◌++◌, length, refl, sym, ap, subst, ◌∙◌, arith}
use Rattle.std.specs.Prelude.{◌==◌, nat_lt, None}
use Rattle.std.specs.List.{list_all}
use Rattle.std.proofs.lemmas.Bool.{and_parts, eqb-true, ltb-true}
use Rattle.std.proofs.lemmas.List.{length-append}
use Rattle.policy_model.specs.Policy.{Policy, net_at, router_at, is_managed, all_routers, managed_routers, unmanaged_routers}
use Rattle.policy_model.specs.Paths.{Crossing, leads, is_through_router, crosses_unmanaged}
use Rattle.policy_model.specs.Zones.{IsSite, AreJoined, zone_of, zone_at}
use Rattle.policy_model.specs.Tags.{zone_view}
use Rattle.policy_model.specs.Places.{place}
use Rattle.policy_model.specs.Packets.{is_own_point}
use Rattle.policy_model.specs.Walks.{is_crossing}
use Rattle.policy_model.specs.Permits.{Packet}
use Rattle.policy_model.specs.Passing.{Config}
use Rattle.policy_model.specs.Headline.{Meaning, IsMeaning, IsUnderWay, TablesSend}
use Rattle.policy_model.proofs.AllWalks.{IsIn, in_back, in_filter, in_numbers, parts_of, no_longer}
use Rattle.list_laws.proofs.Members.{each_in}
use Rattle.policy_laws.specs.Routed.{IsWired}
use Rattle.policy_laws.proofs.Devices.{interfaces_below, number_is}
use Rattle.policy_laws.proofs.Placed.{placed_at}
use Rattle.policy_outcome.specs.Exact.{TablesSendDirect}

-- ---- no routers but managed ones: networks of one zone are one

no_chain : (p : Policy) → IsWired p → unmanaged_routers p ≡ [] → (c : Crossing) → crosses_unmanaged p c ≡ true → ⊥
no_chain p wired none c h =
    let n = length p.ifaces in
    let a = and_parts (is_through_router p c) (not (is_managed p (router_at p c.enter))) h in
    let b = and_parts (nat_lt c.enter n && nat_lt c.leave n) (router_at p c.enter == router_at p c.leave) a.0 in
    let d = and_parts (nat_lt c.enter n) (nat_lt c.leave n) b.0 in
    let below = (wired.placed c.enter (ltb-true c.enter n d.0)).1 in
    let listed : IsIn (router_at p c.enter) (unmanaged_routers p) =
    in_filter (λ r. not (is_managed p r)) (router_at p c.enter) (all_routers p) (in_numbers (length p.routers) (router_at p c.enter) below) a.1 in
    subst (λ l. IsIn (router_at p c.enter) l) none listed

same_net : (p : Policy) → IsWired p → unmanaged_routers p ≡ [] → (n k : ℕ) → AreJoined p n k → n ≡ k
same_net p wired none n k joined = go joined.path joined.crossings joined.ends
  where
    go : (path : List Crossing) → list_all (crosses_unmanaged p) path ≡ true → leads (net_at p) n path k ≡ true → n ≡ k
    go [] all ends = eqb-true n k ends
    go (c ∷ path) all ends = absurd (no_chain p wired none c (and_parts (crosses_unmanaged p c) (list_all (crosses_unmanaged p) path) all).0)

-- ---- one router: a walk has one crossing

last_one : (before : List Crossing) (c : Crossing) (rest : List Crossing) → length (before ++ c ∷ rest) ≤ 1 → rest ≡ []
last_one before c [] short = refl
last_one before c (d ∷ rest) short = let long = length-append before (c ∷ d ∷ rest) in absurd (omega (arith, long, short))

first_one : (before : List Crossing) (c : Crossing) (rest : List Crossing) → length (before ++ c ∷ rest) ≤ 1 → before ≡ []
first_one [] c rest short = refl
first_one (d ∷ before) c rest short = let long = length-append before (c ∷ rest) in absurd (omega (arith, long, short))

straight : (m : Meaning) → IsSite m.site → IsWired m.site.policy → length (managed_routers m.site.policy) ≤ 1 → unmanaged_routers m.site.policy ≡ [] →
    (x : Packet) (before : List Crossing) (c : Crossing) (rest : List Crossing) → IsUnderWay m x (before ++ c ∷ rest) → net_at m.site.policy c.leave ≡ x.dst.net
straight m site wired one none x before c rest way =
    let s = m.site in
    let p = s.policy in
    let path = before ++ c ∷ rest in
    let from = zone_of s x.src.net in
    let to = zone_of s x.dst.net in
    let w = parts_of s from to path way.walk in
    let few = no_longer s path w.crossings w.routers_once in
    let short : length path ≤ 1 = omega (arith, few, one) in
    let whole : path ≡ c ∷ [] = ap (λ l. l ++ c ∷ rest) (first_one before c rest short) ∙ ap (λ l. c ∷ l) (last_one before c rest short) in
    let ends = subst (λ l. leads (zone_at s) from l to ≡ true) whole w.ends in
    let there = (and_parts (zone_at s c.enter == from) (leads (zone_at s) (zone_at s c.leave) [] to) ends).1 in
    let below = interfaces_below s c (each_in (is_crossing s) path w.crossings c (in_back c before (c ∷ rest) (inl refl))) in
    let own = (and_parts (is_own_point s m.views x.src) (is_own_point s m.views x.dst) way.packet).1 in
    let at = placed_at p (zone_view m.views to) x.dst.addr x.dst.net (number_is (place p (zone_view m.views to) x.dst.addr) x.dst.net own) in
    same_net p wired none (net_at p c.leave) x.dst.net
    ((site.joined (net_at p c.leave) x.dst.net (wired.placed c.leave below.1).0 at.below).0 (eqb-true (zone_at s c.leave) to there))

pub one_router_sends : (p : Policy) (m : Meaning) (configs : List Config) → IsMeaning p m → IsWired p → length (managed_routers p) ≤ 1 → unmanaged_routers p ≡ [] →
    TablesSendDirect m configs → TablesSend m configs
one_router_sends q m configs its wired one none direct x before c rest way pass fixed no_detour =
    let back = λ (P : Policy → Type 0) (h : P q). subst P (sym its.policy) h in
    let leaves = straight m its.zones (back IsWired wired) (back (λ p. length (managed_routers p) ≤ 1) one) (back (λ p. unmanaged_routers p ≡ []) none) x before c rest way in
    let sent = direct x before c rest way fixed leaves in
    (record { out = c.leave; next = None }, sent.0, sent.1)
