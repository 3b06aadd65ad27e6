-- Places that are chained by keys: the last place of each key, and from each place the one before it with the same key.
use Rattle.std.specs.Prelude.{◌≡◌, ℕ, zero, suc, ◌<◌, Bool, ◌&&◌, ◌==◌, nat_lt, if◌then◌else◌, length, slice_index_or, Option, Some, None}
use Rattle.std.specs.Bool.{beq}
use Rattle.std.specs.Map.{lookup}
use Rattle.local_optimise.specs.declared.keys.Mask.{Mask}
use Rattle.local_optimise.specs.declared.keys.Key.{Key}
use Rattle.local_optimise.specs.declared.chains.Chains.{Chains}

abbrev pub same_mask : Mask → Mask → Bool
same_mask m n =
    beq m.permit n.permit && ((m.src == n.src) && ((m.dst == n.dst) && (beq m.protocol n.protocol && (beq m.first n.first && beq m.second n.second))))

abbrev pub same_key : Key → Key → Bool
same_key k q =
    same_mask k.mask q.mask && ((k.src == q.src) && ((k.dst == q.dst) && ((k.protocol == q.protocol) && ((k.first == q.first) && (k.second == q.second)))))

-- the greatest number below n that passes
abbrev pub greatest : (ℕ → Bool) → ℕ → Option ℕ
greatest test zero = None
greatest test (suc n) = if test n then Some n else greatest test n

-- the greater of two places, where there are any
abbrev pub later : Option ℕ → Option ℕ → Option ℕ
later None b = b
later (Some m) None = Some m
later (Some m) (Some n) = if nat_lt m n then Some n else Some m

-- the last of the first n places whose key is this one
abbrev pub last_with : (ℕ → Key) → Key → ℕ → Option ℕ
last_with keys k n = greatest (λ i. same_key k (keys i)) n

-- the places from 0 on are chained by these keys
pub record AreChained (chains : Chains) (keys : ℕ → Key) : Type 0 where
  pub heads : (k : Key) → lookup (same_key k) chains.heads.entries ≡ last_with keys k (length chains.links.items)
  pub links : (i : ℕ) → i < length chains.links.items → slice_index_or chains.links.items i None ≡ last_with keys (keys i) i
