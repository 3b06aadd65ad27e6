-- The prefixes that stand in the lists of interfaces have no host bit, and their addresses have 32 bits.
use Rattle.std.proofs.Common.{◌≡◌, ℕ, zero, suc, ◌+◌, ◌≤◌, ◌<◌, List, [], ◌∷◌, length, refl, arith}
use Rattle.std.specs.Prelude.{◌-◌, Option, Some, None, slice_index_or}
use Rattle.std.specs.Option.{option_map_or}
use Rattle.std.proofs.lemmas.Nat.{pow_pos}
use Rattle.spoc_base.specs.Address.{Cidr, Interval, size_of, any_address, cover_of}
use Rattle.policy_model.specs.Policy.{Policy, Net, no_net, net_of}
use Rattle.policy_model.specs.Places.{prefix_in, range_in}
use Rattle.policy_model.specs.Permits.{End}
use Rattle.policy_model.specs.Blocks.{end_cover}
use Rattle.policy_model.proofs.AllWalks.{IsIn}
use Rattle.list_laws.proofs.Matching.{each_of}
use Rattle.list_laws.proofs.Ranges.{cover_is_fewest}
use Rattle.policy_laws.specs.Secured.{IsNet}
use Rattle.policy_laws.proofs.Nested.{cidrs_of_cover}
use Rattle.policy_laws.proofs.Placed.{seen_as}
use Rattle.device_reading.specs.Grammar.{IsPrefix}

cover_good : (r : Interval) (q : Cidr) → IsIn q (cover_of r) → IsPrefix q
cover_good r q h =
    let fits : q.net + size_of q ≤ 4294967296 = each_of (λ p. p.net + size_of p ≤ 4294967296) (cover_of r) (cover_is_fewest r).fits q h in
    let some = pow_pos (32 - q.len) in
    record { good = cidrs_of_cover r q h; low = omega (arith, fits, some) }

range_good : (o : Option Interval) (q : Cidr) → IsIn q (option_map_or cover_of o []) → IsPrefix q
range_good None q h = absurd h
range_good (Some r) q h = cover_good r q h

pub end_good : (p : Policy) (view : List ℕ) (e : End) (q : Cidr) → IsIn q (end_cover p view e) → IsPrefix q
end_good p view e q h = range_good (range_in p view e.net e.range) q h

pub seen_good : (p : Policy) (view : List ℕ) (n : ℕ) (q : Cidr) → IsNet (net_of p n) → prefix_in p view n ≡ Some q → IsPrefix q
seen_good p view n q h e = let w = seen_as p view n q h e in record { good = w.prefix.cidr; low = w.prefix.small }

pub any_good : IsPrefix any_address
any_good = record { good = record { short = omega arith; aligned = refl }; low = omega arith }

-- ---- the prefixes of networks

no_net_good : IsNet no_net
no_net_good = record {
  own = record { cidr = record { short = omega arith; aligned = refl }; small = omega arith };
  nats = λ k below. absurd (omega (arith, below));
}

-- past the end of the list stands a network too
pub each_net : (nets : List Net) → ((n : ℕ) → n < length nets → IsNet (slice_index_or nets n no_net)) → (n : ℕ) → IsNet (slice_index_or nets n no_net)
each_net [] each n = no_net_good
each_net (net ∷ nets) each zero = each 0 (omega arith)
each_net (net ∷ nets) each (suc n) = each_net nets (λ k h. each (suc k) (omega (arith, h))) n
