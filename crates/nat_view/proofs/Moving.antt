-- Moved addresses are addresses.
use Rattle.std.proofs.Common.{◌≡◌, ℕ, ◌+◌, ◌-◌, ◌^◌, ◌<◌, ◌≤◌, true, ap, arith}
use Rattle.std.proofs.lemmas.Bool.{and_parts, leb-true, ltb-true, le-leb, lt-ltb, and_from}
use Rattle.std.proofs.Math.Pow.{pow_pos}
use Rattle.spoc_base.specs.Address.{Cidr, Interval, size_of, prefix_holds, addresses, interval_covers}
use Rattle.policy_model.specs.Places.{moved}

same_size : (from to : Cidr) → to.len ≡ from.len → size_of to ≡ size_of from
same_size from to e = ap (λ n. 2 ^ (32 - n)) e

pub moved_fits : (from to : Cidr) (a : ℕ) → prefix_holds from a ≡ true → to.len ≡ from.len → to.net + size_of to ≤ 2 ^ 32 → moved from to a < 2 ^ 32
moved_fits from to a held e fits =
    let w = and_parts _ _ held in
    let low = leb-true from.net a w.0 in
    let high = ltb-true a (from.net + size_of from) w.1 in
    let s = same_size from to e in
    omega (arith, low, high, s, fits)

pub above : (from : Cidr) (a : ℕ) → prefix_holds from a ≡ true → from.net ≤ a
above from a held = leb-true from.net a (and_parts _ _ held).0

pub first_held : (p : Cidr) (r : Interval) → r.first ≤ r.last → interval_covers (addresses p) r ≡ true → prefix_holds p r.first ≡ true
first_held p r order inside =
    let w = and_parts _ _ inside in
    let low = leb-true p.net r.first w.0 in
    let high = leb-true r.last (p.net + (size_of p - 1)) w.1 in
    let pos : 0 < size_of p = pow_pos (32 - p.len) in
    and_from _ _ (le-leb p.net r.first low) (lt-ltb r.first (p.net + size_of p) (omega (arith, high, pos, order)))

pub last_held : (p : Cidr) (r : Interval) → r.first ≤ r.last → interval_covers (addresses p) r ≡ true → prefix_holds p r.last ≡ true
last_held p r order inside =
    let w = and_parts _ _ inside in
    let low = leb-true p.net r.first w.0 in
    let high = leb-true r.last (p.net + (size_of p - 1)) w.1 in
    let pos : 0 < size_of p = pow_pos (32 - p.len) in
    and_from _ _ (le-leb p.net r.last (omega (arith, low, order))) (lt-ltb r.last (p.net + size_of p) (omega (arith, high, pos)))

-- the ends of a range stay in order
pub moved_order : (from to : Cidr) (r : Interval) → r.first ≤ r.last → moved from to r.first ≤ moved from to r.last
moved_order from to r order = omega (arith, order)
