-- One line more is held, and what is found among the lines that are held.
use Rattle.std.proofs.Common.{◌≡◌, ℕ, zero, suc, ◌<◌, ◌≤◌, Bool, true, false, cond, ◌&&◌, ◌||◌, List, [], ◌∷◌, ◌++◌, length, map, refl, sym, ap, ◌∙◌, ⊎_elim, arith}
use Rattle.std.specs.Prelude.{◌==◌, is_some}
use Rattle.std.specs.List.{list_any}
use Rattle.std.proofs.Math.ListN.{get_or-append}
use Rattle.std.proofs.Math.Seq.{get_or-append_seam, take-length}
use Rattle.std.proofs.lemmas.Bool.{cases_lt, and_from, eq-eqb, false≢true}
use Rattle.std.proofs.lemmas.List.{length-map}
use Rattle.spoc_base.specs.Address.{Cidr}
use Rattle.spoc_base.specs.Shown.{cidr_of}
use Rattle.spoc_base.specs.declared.address.Prefix.{Prefix}
use Rattle.policy_model.specs.Filters.{Line, line_covers, deny_all}
use Rattle.dev_config.specs.declared.setup.Line.{Line as CodeLine}
use Rattle.dev_config.specs.Seen.{line_of}
use Rattle.local_optimise.specs.declared.keys.Mask.{Mask}
use Rattle.local_optimise.specs.Keys.{mask_of, is_cover, Stem, same_stem, has_stem}
use Rattle.local_optimise.specs.Chained.{same_mask}
use Rattle.local_optimise.specs.Held.{line_at, last_by, last_cover}
use Rattle.local_optimise.proofs.Places.{greatest_same, any_by_place}
use Rattle.local_optimise.proofs.SameKeys.{same_mask_self}
use Rattle.local_optimise.proofs.Probing.{IsSound, HasEnds, sound_line, is_probed, probing_is_enough}

-- ---- one line more

pub line_before : (old new : List Line) (x : Line) (i : ℕ) → new ≡ old ++ x ∷ [] → i < length old → line_at new i ≡ line_at old i
line_before old new x i e lt = ap (λ ls. line_at ls i) e ∙ get_or-append old (x ∷ []) deny_all i lt

pub line_last : (old new : List Line) (x : Line) (i : ℕ) → new ≡ old ++ x ∷ [] → i ≡ length old → line_at new i ≡ x
line_last old new x i e at = ap (λ ls. line_at ls i) e ∙ (ap (λ k. line_at (old ++ x ∷ []) k) at ∙ get_or-append_seam old x [] deny_all)

kept_true : (b c : Bool) → c ≡ true → cond b true c ≡ true
kept_true true c e = refl
kept_true false c e = e

-- the masks of all lines are there, with that of one line more
pub masks_more : (old new : List Line) (x : Line) (mask : Mask) (before after : List Mask) → new ≡ old ++ x ∷ [] → mask ≡ mask_of x →
    ((q : Mask) → list_any (same_mask q) after ≡ cond (same_mask mask q) true (list_any (same_mask q) before)) →
    ((i : ℕ) → i < length old → list_any (same_mask (mask_of (line_at old i))) before ≡ true) →
    (i : ℕ) → i < suc (length old) → list_any (same_mask (mask_of (line_at new i))) after ≡ true
masks_more old new x mask before after e is added has i lt = ⊎_elim
    (λ (lo : i < length old). let q = mask_of (line_at old i) in
    ap (λ m. list_any (same_mask (mask_of m)) after) (line_before old new x i e lo) ∙ (added q ∙ kept_true (same_mask mask q) (list_any (same_mask q) before) (has i lo)))
    (λ (hi : length old ≤ i). ap (λ m. list_any (same_mask (mask_of m)) after) (line_last old new x i e (omega (arith, hi, lt)))
    ∙ (ap (λ q. list_any (same_mask q) after) (sym is) ∙ (added mask ∙ ap (λ b. cond b true (list_any (same_mask mask) before)) (same_mask_self mask))))
    (cases_lt i (length old))

or_kept : (b c : Bool) → b ≡ true → (b || c) ≡ true
or_kept b c e = ap (λ x. x || c) e

or_new : (b c : Bool) → c ≡ true → (b || c) ≡ true
or_new true c e = refl
or_new false c e = e

same_stem_self : (b : Stem) → same_stem b b ≡ true
same_stem_self b = and_from (b.0 == b.0) (b.1 == b.1) (eq-eqb b.0 b.0 refl) (eq-eqb b.1 b.1 refl)

-- the stems of all lines are there, with that of one line more
pub stems_more : (stem : Line → Stem) (old new : List Line) (x : Line) (added : Stem) (before after : List Stem) → new ≡ old ++ x ∷ [] → added ≡ stem x →
    ((b : Stem) → has_stem after b ≡ (has_stem before b || same_stem b added)) → ((i : ℕ) → i < length old → has_stem before (stem (line_at old i)) ≡ true) →
    (i : ℕ) → i < suc (length old) → has_stem after (stem (line_at new i)) ≡ true
stems_more stem old new x added before after e is grown has i lt = ⊎_elim
    (λ (lo : i < length old). ap (λ l. has_stem after (stem l)) (line_before old new x i e lo)
    ∙ (grown (stem (line_at old i)) ∙ or_kept (has_stem before (stem (line_at old i))) (same_stem (stem (line_at old i)) added) (has i lo)))
    (λ (hi : length old ≤ i). ap (λ l. has_stem after (stem l)) (line_last old new x i e (omega (arith, hi, lt)))
    ∙ (ap (has_stem after) (sym is) ∙ (grown added ∙ or_new (has_stem before added) (same_stem added added) (same_stem_self added))))
    (cases_lt i (length old))

-- ---- what is found

sound_at : (lines : List CodeLine) (i : ℕ) → i < length (map line_of lines) → IsSound (line_at (map line_of lines) i)
sound_at [] i lt = absurd (omega (arith, lt))
sound_at (x ∷ lines) zero lt = sound_line x
sound_at (x ∷ lines) (suc i) lt = sound_at lines i (omega (arith, lt))

-- there is a first prefix
first_there : (ps : List Prefix) → (length ps == 0) ≡ false → (p : Cidr) × (rest : List Cidr) × (map cidr_of ps ≡ p ∷ rest)
first_there [] e = absurd (false≢true (sym e))
first_there (p ∷ ps) e = (cidr_of p, map cidr_of ps, refl)

pub ends_there : (l : CodeLine) → (length l.src.now == 0) ≡ false → (length l.dst.now == 0) ≡ false → HasEnds (line_of l)
ends_there l e f = (first_there l.src.now e, first_there l.dst.now f)

-- by the masks of all lines, the last one that covers is found
pub found_by_masks : (any : Bool) (l : CodeLine) (masks : List Mask) (lines : List CodeLine) → HasEnds (line_of l) →
    ((i : ℕ) → i < length lines → list_any (same_mask (mask_of (line_at (map line_of lines) i))) masks ≡ true) →
    last_by any (line_of l) masks (map line_of lines) ≡ last_cover any (line_of l) (map line_of lines)
found_by_masks any l masks lines ends has =
    let held = map line_of lines in
    greatest_same (λ i. is_probed any (line_of l) masks (line_at held i) && line_covers (line_at held i) (line_of l)) (λ i. is_cover any (line_of l) (line_at held i)) (length held)
    (λ i lt. probing_is_enough any (line_of l) (line_at held i) masks (sound_at lines i lt) (sound_line l) ends (has i (omega (arith, lt, length-map lines line_of))))

-- some line covers where there is a last one that does
pub covered_by_place : (l : Line) (lines : List Line) → is_some (last_cover true l lines) ≡ list_any (λ m. line_covers m l) lines
covered_by_place l lines =
    sym (any_by_place (λ m. line_covers m l) lines deny_all (length lines) (omega arith)) ∙ ap (list_any (λ m. line_covers m l)) (take-length lines)
