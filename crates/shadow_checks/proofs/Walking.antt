-- Which addresses aren't placed at a network, past one that is placed at another.
use Rattle.std.proofs.Common.{◌≡◌, ℕ, ◌+◌, ◌<◌, ◌≤◌, true, false, List, length, refl, sym, ap, ◌∙◌, ⊎_elim, arith}
use Rattle.std.specs.Prelude.{◌-◌, nat_lt, nat_le, Option, Some, None, is_some, IsTrue}
use Rattle.std.specs.Option.{option_map_or}
use Rattle.std.proofs.lemmas.Bool.{and_from, and_parts, lt-ltb, le-leb, leb-true, cases_lt, cases_Bool, false≢true}
use Rattle.std.proofs.Math.Pow.{pow_pos}
use Rattle.spoc_base.specs.Address.{Cidr, Interval, size_of, prefix_holds, addresses, within}
use Rattle.policy_model.specs.Policy.{Policy}
use Rattle.policy_model.specs.Places.{prefix_in, holds_in, place}
use Rattle.policy_model.specs.Faults.{are_one_prefix}
use Rattle.nat_view.specs.Seen.{AreApartIn}
use Rattle.list_laws.proofs.Nesting.{holds_parts, holds_from}
use Rattle.policy_laws.proofs.Placed.{placed_at, held_by, round_place}
use Rattle.shadow_checks.specs.Lying.{HaveNets, HasOneAt, NoneBetween, IsCommon}

pub held_of : (p : Policy) (view : List ℕ) (n a : ℕ) (q : Cidr) → prefix_in p view n ≡ Some q → holds_in p view n a ≡ prefix_holds q a
held_of p view n a q e = ap (λ (o : Option Cidr). option_map_or (λ seen. prefix_holds seen a) o false) e

pub none_less : (p : Policy) (view : List ℕ) (m from mid to : ℕ) → NoneBetween p view m from mid → NoneBetween p view m mid to → NoneBetween p view m from to
none_less p view m from mid to one other a low high placed = ⊎_elim (λ less. one a low less placed) (λ more. other a more high placed) (cases_lt a mid)

module _ (p : Policy) (view : List ℕ) (nets : HaveNets p) (apart : AreApartIn p view) where
  pub no_pair : (n m : ℕ) → n < m → m < length p.nets → are_one_prefix (prefix_in p view n) (prefix_in p view m) ≡ false
  no_pair n m less below =
      let one = are_one_prefix (prefix_in p view n) (prefix_in p view m) in
      ⊎_elim (λ t. absurd (apart n m below (and_from (nat_lt n m) one (lt-ltb n m less) t))) (λ f. f) (cases_Bool one)

  -- where both hold an address that is placed at k, no address of k is placed at m
  passed : (m k at b : ℕ) → m < length p.nets → holds_in p view m at ≡ true → place p view at ≡ Some k → (k ≡ m → ⊥) → holds_in p view k b ≡ true → place p view b ≡ Some m → ⊥
  passed m k at b below held here other holds there =
      let placed = placed_at p view at k here in
      let late = placed_at p view b m there in
      let round = round_place p view at k m no_pair placed (held_by p view k at (nets k placed.below) placed.holds) below held (held_by p view m at (nets m below) held) in
      let le = late.longest k placed.below holds in
      ⊎_elim (λ same. other (sym same)) (λ less. absurd (omega (arith, less, le))) round.less

  pub past_end : (m k at next : ℕ) (q : Cidr) → m < length p.nets → holds_in p view m at ≡ true → Some k ≡ place p view at → (k ≡ m → ⊥) → prefix_in p view k ≡ Some q → next ≡ q.net + size_of q →
      (at < next) × NoneBetween p view m at next
  past_end m k at next q below held here other seen is =
      let placed = placed_at p view at k (sym here) in
      let w = holds_parts q at (sym (held_of p view k at q seen) ∙ placed.holds) in (
        omega (arith, w.high, is),
        λ b low high there.
            passed m k at b below held (sym here) other (held_of p view k b q seen ∙ holds_from q b (omega (arith, w.low, low)) (omega (arith, high, is))) there,
      )

  pub placed_below : (k at : ℕ) → Some k ≡ place p view at → k < length p.nets
  placed_below k at here = (placed_at p view at k (sym here)).below

-- a network at which an address is placed isn't hidden
seen_of : (o : Option Cidr) (a : ℕ) → option_map_or (λ seen. prefix_holds seen a) o false ≡ true → is_some o ≡ true
seen_of None a h = absurd (false≢true h)
seen_of (Some q) a h = refl

pub placed_seen : (p : Policy) (view : List ℕ) (k at : ℕ) → Some k ≡ place p view at → is_some (prefix_in p view k) ≡ true
placed_seen p view k at here = seen_of (prefix_in p view k) at (placed_at p view at k (sym here)).holds

pub none_hidden : (p : Policy) (view : List ℕ) (range : Interval) (m : ℕ) → prefix_in p view m ≡ None → HasOneAt p view range m → ⊥
none_hidden p view range m e w = false≢true (sym (ap is_some e) ∙ placed_seen p view m w.address (sym w.placed))

-- all addresses of a prefix are held
pub in_addresses : (q : Cidr) (a : ℕ) → IsTrue (within (addresses q) a) → prefix_holds q a ≡ true
in_addresses q a h =
    let w = and_parts (nat_le q.net a) (nat_le a (q.net + (size_of q - 1))) h in
    let low = leb-true q.net a w.0 in
    let high = leb-true a (q.net + (size_of q - 1)) w.1 in
    let some = pow_pos (32 - q.len) in holds_from q a low (omega (arith, high, some))

pub of_addresses : (q : Cidr) (a : ℕ) → prefix_holds q a ≡ true → IsTrue (within (addresses q) a)
of_addresses q a h =
    let w = holds_parts q a h in
    let low = w.low in
    let high = w.high in
    let some = pow_pos (32 - q.len) in and_from (nat_le q.net a) (nat_le a (q.net + (size_of q - 1))) (le-leb q.net a low) (le-leb a (q.net + (size_of q - 1)) (omega (arith, high, some)))

module _ (p : Policy) (view : List ℕ) (range : Interval) (m : ℕ) (q : Cidr) (seen : prefix_in p view m ≡ Some q) (start end : ℕ) (common : IsCommon range (addresses q) start end) where
  pub common_held : (a : ℕ) → start ≤ a → a < end → holds_in p view m a ≡ true
  common_held a low high = held_of p view m a q seen ∙ in_addresses q a (common.both a low high).1

  pub one_at : (a : ℕ) → start ≤ a → a < end → place p view a ≡ Some m → HasOneAt p view range m
  one_at a low high placed = record { address = a; inside = (common.both a low high).0; placed = placed }

  pub none_at : (at : ℕ) → end ≤ at → NoneBetween p view m start at → HasOneAt p view range m → ⊥
  none_at at past none w =
      let held = sym (held_of p view m w.address q seen) ∙ (placed_at p view w.address m w.placed).holds in
      let c = common.all w.address w.inside (of_addresses q w.address held) in none w.address c.0 (omega (arith, c.1, past)) w.placed
