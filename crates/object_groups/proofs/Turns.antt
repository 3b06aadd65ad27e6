-- Turns until one takes no line away.
use Rattle.std.proofs.Common.{◌≡◌, ℕ, ◌≤◌, List, length, sym, ap, ◌∙◌, arith}
use Rattle.policy_model.specs.Filters.{Line}
use Rattle.policy_model.specs.Grouped.{grouped_lines}
use Rattle.list_laws.proofs.Grouping.{turn, Turned, stays, shrinks, turned}
use Rattle.list_laws.proofs.GroupingSteps.{grouped-turn, grouped-stays}

turn_stays : (lines : List Line) → length lines ≤ length (turn lines) → Turned lines → turn lines ≡ lines
turn_stays lines h (stays e k) = e
turn_stays lines h (shrinks lt) = absurd (omega (arith, lt, h))

-- the same lines come out in the end; and these are they, where none went away
pub record AreLeft (all left : List Line) (before : ℕ) : Type 0 where
  pub alike : grouped_lines left ≡ grouped_lines all
  pub settled : before ≤ length left → grouped_lines left ≡ left

pub after_turn : (all lines left : List Line) (before : ℕ) → grouped_lines lines ≡ grouped_lines all → left ≡ turn lines → before ≡ length lines → AreLeft all left before
after_turn all lines left before same is count = record {
  alike = ap grouped_lines is ∙ (grouped-turn lines ∙ same);
  settled = λ h.
      let n : length left ≡ length (turn lines) = ap (λ (ls : List Line). length ls) is in
      let e = turn_stays lines (omega (arith, h, n, count)) (turned lines) in
      let f = ap (λ (ls : List Line). length ls) e in
      ap grouped_lines (is ∙ e) ∙ (grouped-stays lines f ∙ sym (is ∙ e));
}

pub all_grouped : (all left : List Line) (before : ℕ) → AreLeft all left before → before ≤ length left → left ≡ grouped_lines all
all_grouped all left before are h = sym (are.settled h) ∙ are.alike
