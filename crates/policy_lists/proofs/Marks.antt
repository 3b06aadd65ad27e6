-- Tables of marks are those of their pairs of zones.
use Rattle.std.proofs.Common.{◌≡◌, ℕ, zero, suc, ◌<◌, List, [], ◌∷◌, length, map, drop, refl, sym, ap, subst, ◌∙◌, arith}
use Rattle.std.specs.Prelude.{slice_index_or}
use Rattle.std.specs.List.{Contains}
use Rattle.spoc_base.specs.declared.ids.ZoneId.{ZoneId}
use Rattle.policy_model.specs.Zones.{Site}
use Rattle.policy_model.specs.Marks.{marked_crossings}
use Rattle.zone_graph.specs.declared.marks.PairMarks.{PairMarks}
use Rattle.path_walk.specs.Tables.{Table, table_seen, table_of}
use Rattle.rule_distribute.specs.Paths.{HaveMarks, zones_named, crossing_seen}
use Rattle.rule_distribute.specs.Shown.{zones_seen}

-- the table has the crossings of all allowed walks between its zones
abbrev IsMarked : Site → PairMarks → Type 0
IsMarked s t = map crossing_seen t.marks.crossings ≡ marked_crossings s t.from.0 t.to.0

names_of : (s : Site) (pairs : List (ZoneId × ZoneId)) (tables : List PairMarks) → map table_seen tables ≡ map (table_of s) pairs → map zones_named tables ≡ map zones_seen pairs
names_of s pairs tables e = sym (seen tables) ∙ (ap (λ l. map (λ (t : Table). (t.from, t.to)) l) e ∙ between pairs)
  where
    seen : (ts : List PairMarks) → map (λ (t : Table). (t.from, t.to)) (map table_seen ts) ≡ map zones_named ts
    seen [] = refl
    seen (t ∷ ts) = ap (λ l. zones_named t ∷ l) (seen ts)

    between : (zs : List (ZoneId × ZoneId)) → map (λ (t : Table). (t.from, t.to)) (map (table_of s) zs) ≡ map zones_seen zs
    between [] = refl
    between (z ∷ zs) = ap (λ l. zones_seen z ∷ l) (between zs)

is_marked : (s : Site) (z : ZoneId × ZoneId) (t : PairMarks) → table_seen t ≡ table_of s z → IsMarked s t
is_marked s z t e =
    ap (λ (x : Table). x.crossings) e
    ∙ (ap (λ (k : ℕ). marked_crossings s k z.1.0) (sym (ap (λ (x : Table). x.from) e)) ∙ ap (λ (k : ℕ). marked_crossings s t.from.0 k) (sym (ap (λ (x : Table). x.to) e)))

marked_all : (s : Site) (pairs : List (ZoneId × ZoneId)) (tables : List PairMarks) → map table_seen tables ≡ map (table_of s) pairs →
    (k : ℕ) (t : PairMarks) → k < length tables → slice_index_or tables k t ≡ t → IsMarked s t
marked_all s pairs [] e k t below at = absurd (omega (arith, below))
marked_all s [] (x ∷ tables) e k t below at = absurd (omega (arith, ap length e))
marked_all s (z ∷ pairs) (x ∷ tables) e zero t below at = subst (IsMarked s) at (is_marked s z x (ap (λ l. slice_index_or l 0 (table_seen x)) e))
marked_all s (z ∷ pairs) (x ∷ tables) e (suc k) t below at = marked_all s pairs tables (ap (λ l. drop 1 l) e) k t (omega (arith, below)) at

pub have_marks : (s : Site) (pairs : List (ZoneId × ZoneId)) (tables : List PairMarks) → map table_seen tables ≡ map (table_of s) pairs → HaveMarks s (map zones_seen pairs) tables
have_marks s pairs tables e = record { there = λ z c. subst (λ (zs : List (ℕ × ℕ)). Contains zs z) (sym (names_of s pairs tables e)) c; marks = marked_all s pairs tables e }
