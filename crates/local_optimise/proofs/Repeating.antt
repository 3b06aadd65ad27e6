-- A repeated line, by the places of the lines below.
use Rattle.std.proofs.Common.{◌≡◌, ℕ, ◌<◌, ◌≤◌, Bool, true, false, not, ◌&&◌, List, length, reverse, refl, sym, ap, ◌∙◌, arith}
use Rattle.std.specs.Prelude.{Option, Some, None, nat_lt}
use Rattle.std.proofs.Math.Seq.{take-length}
use Rattle.std.proofs.lemmas.Bool.{lt-ltb, ltb-true, false_from_ne_true}
use Rattle.policy_model.specs.Filters.{Line, line_meets}
use Rattle.policy_model.specs.Optimised.{same_action, is_repeated}
use Rattle.local_optimise.specs.declared.keys.Key.{Key}
use Rattle.local_optimise.specs.Keys.{action_key}
use Rattle.local_optimise.specs.Chained.{greatest, same_key}
use Rattle.local_optimise.specs.Held.{line_at, last_cover, last_across, is_across, is_nearer}
use Rattle.local_optimise.proofs.Places.{greatest_same, greatest_at_least, repeated_by_place}

pub repeated_of_held : (l : Line) (lines : List Line) → is_repeated l (reverse lines) ≡ is_nearer (last_cover false l lines) (last_across l lines)
repeated_of_held l lines = ap (λ ls. is_repeated l (reverse ls)) (sym (take-length lines)) ∙ repeated_by_place l lines (length lines) (omega arith)

other_action : (a b : Bool) → same_key (action_key (not a)) (action_key b) ≡ not (same_action a b)
other_action true true = refl
other_action true false = refl
other_action false true = refl
other_action false false = refl

-- the keys of the lines by their actions
abbrev pub action_keys : List Line → ℕ → Key
action_keys lines i = action_key (line_at lines i).permit

pub across_by_action : (l : Line) (lines : List Line) → greatest (λ i. same_key (action_key (not l.permit)) (action_keys lines i) && line_meets (line_at lines i) l) (length lines) ≡ last_across l lines
across_by_action l lines =
    greatest_same (λ i. same_key (action_key (not l.permit)) (action_keys lines i) && line_meets (line_at lines i) l) (λ i. is_across l (line_at lines i)) (length lines)
    (λ i lt. ap (λ b. b && line_meets (line_at lines i) l) (other_action l.permit (line_at lines i).permit))

-- a place at the floor or above it is no farther than the floor
pub not_under : (floor : ℕ) (o : Option ℕ) (i : ℕ) → o ≡ Some i → floor ≤ i → is_nearer (Some floor) o ≡ false
not_under floor o i e le = ap (is_nearer (Some floor)) e ∙ false_from_ne_true (nat_lt i floor) (λ t. let h = ltb-true i floor t in omega (arith, h, le))

pub all_under : (floor : ℕ) (o : Option ℕ) → ((i : ℕ) → o ≡ Some i → i < floor) → is_nearer (Some floor) o ≡ true
all_under floor None h = refl
all_under floor (Some i) h = lt-ltb i floor (h i refl)

-- one line across at the floor or above it is enough
pub known_across : (l : Line) (lines : List Line) (floor place : ℕ) → place < length lines → floor ≤ place → is_across l (line_at lines place) ≡ true → is_nearer (Some floor) (last_across l lines) ≡ false
known_across l lines floor place lt le t =
    let w = greatest_at_least (λ i. is_across l (line_at lines i)) (length lines) place lt t in
    not_under floor (last_across l lines) w.place w.is (omega (arith, w.least, le))
