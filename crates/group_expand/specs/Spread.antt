-- How the zones of an area are found: from one zone on, through managed routers, but through no marked interface.
use Rattle.std.specs.Prelude.{◌≡◌, ◌↔◌, ℕ, suc, ◌+◌, ◌<◌, Bool, true, false, not, ◌&&◌, List, [], ◌∷◌, length, slice_index, slice_index_or}
use Rattle.policy_model.specs.Lists.{has}
use Rattle.policy_model.specs.Policy.{Policy, router_at, is_managed}
use Rattle.policy_model.specs.Paths.{Crossing, Reaches, crosses_managed}
use Rattle.policy_model.specs.Zones.{Site, zone_at}

abbrev pub marked : List Bool → ℕ → Bool
marked marks n = slice_index_or marks n false

-- how many have no mark
abbrev pub unmarked_count : List Bool → ℕ
unmarked_count [] = 0
unmarked_count (true ∷ marks) = unmarked_count marks
unmarked_count (false ∷ marks) = suc (unmarked_count marks)

-- a managed router, in and out by interfaces without a mark
abbrev pub inside_marks : Policy → List Bool → Crossing → Bool
inside_marks p marks c = crosses_managed p c && not (marked marks c.enter) && not (marked marks c.leave)

-- an interface of a managed router without a mark
abbrev pub is_open : Policy → List Bool → ℕ → Bool
is_open p marks i = is_managed p (router_at p i) && not (marked marks i)

-- A chain of such crossings leads from the first zone to the second.
abbrev pub Spreads : Site → List Bool → ℕ → ℕ → Type 0
Spreads s marks from to = Reaches (inside_marks s.policy marks) (zone_at s) from to

-- each that was marked is marked still
abbrev pub Grows : List Bool → List Bool → Type 0
Grows old new = (n : ℕ) → marked old n ≡ true → marked new n ≡ true

-- The zones seen so far, the routers that were passed, and the zones whose interfaces are still to be looked at, but for those ahead.
pub record IsSearch (s : Site) (marks : List Bool) (start : ℕ) (seen passed : List Bool) (left ahead : List ℕ) : Type 0 where
  pub sound : (z : ℕ) → marked seen z ≡ true → Spreads s marks start z
  pub started : marked seen start ≡ true
  pub queued : (z : ℕ) → has left z ≡ true → marked seen z ≡ true
  -- all zones at a router that was passed are seen
  pub behind : (j : ℕ) → j < length s.policy.ifaces → is_open s.policy marks j ≡ true → marked passed (router_at s.policy j) ≡ true → marked seen (zone_at s j) ≡ true
  -- each router at a zone that is seen was passed, or is still to be
  pub pending : (i : ℕ) → i < length s.policy.ifaces → is_open s.policy marks i ≡ true → marked seen (zone_at s i) ≡ true → has left (zone_at s i) ≡ false → has ahead i ≡ false →
      marked passed (router_at s.policy i) ≡ true

-- The search goes on from a zone that is seen: what was seen stays so, each zone seen anew is one more left, and all that holds of a search holds still.
pub record Goes (s : Site) (marks : List Bool) (from : ℕ) (seen passed : List Bool) (left ahead : List ℕ) (new_seen new_passed : List Bool) (new_left new_ahead : List ℕ) : Type 0 where
  pub grows : Grows seen new_seen
  pub work : unmarked_count new_seen + length new_left ≡ unmarked_count seen + length left
  pub keeps : (start : ℕ) → marked seen from ≡ true → IsSearch s marks start seen passed left ahead → IsSearch s marks start new_seen new_passed new_left new_ahead

-- the same, whatever was passed and is ahead
abbrev pub GoesBy : Site → List Bool → ℕ → List Bool → List ℕ → List Bool → List ℕ → Type 0
GoesBy s marks from seen left new_seen new_left = (passed : List Bool) (ahead : List ℕ) → Goes s marks from seen passed left ahead new_seen passed new_left ahead

-- the zones at all open interfaces of the router are seen
abbrev pub SeesRouter : Site → List Bool → List Bool → ℕ → Type 0
SeesRouter s marks seen r = (j : ℕ) → j < length s.policy.ifaces → is_open s.policy marks j ≡ true → router_at s.policy j ≡ r → marked seen (zone_at s j) ≡ true

-- the same for the first interfaces of a row
abbrev pub SeesRow : Site → List Bool → List Bool → List ℕ → ℕ → Type 0
SeesRow s marks seen row count = (k : ℕ) → k < count → is_open s.policy marks (slice_index row k) ≡ true → marked seen (zone_at s (slice_index row k)) ≡ true

-- so many, and none has a mark
pub record AreUnmarked (marks : List Bool) (count : ℕ) : Type 0 where
  pub each : length marks ≡ count
  pub bare : (n : ℕ) → marked marks n ≡ false

-- so many marks, at these numbers
pub record AreMarksOf (marks : List Bool) (count : ℕ) (numbers : List ℕ) : Type 0 where
  pub each : length marks ≡ count
  pub at : (n : ℕ) → marked marks n ≡ has numbers n

-- the marked zones are those to which chains lead
pub record AreSpread (s : Site) (marks : List Bool) (start : ℕ) (seen : List Bool) (count : ℕ) : Type 0 where
  pub each : length seen ≡ count
  pub zones : (z : ℕ) → (marked seen z ≡ true) ↔ Spreads s marks start z
