-- The two passes, a line at a time.
use Rattle.std.proofs.Common.{◌≡◌, ℕ, ◌<◌, ◌≤◌, ◌+◌, true, false, cond, List, [], ◌∷◌, ◌++◌, length, map, take, drop, reverse, get_or, refl, sym, ap, ◌∙◌, arith}
use Rattle.std.specs.List.{All, list_any}
use Rattle.std.proofs.lemmas.List.{append-nil, map-append, reverse-append, take_more}
use Rattle.std.proofs.lemmas.List.Elements.{All-nil, All-cons}
use Rattle.spoc_base.specs.Address.{IsCidr}
use Rattle.spoc_base.specs.Shown.{cidr_of}
use Rattle.spoc_base.specs.declared.address.Prefix.{Prefix}
use Rattle.policy_model.specs.Filters.{line_covers}
use Rattle.policy_model.specs.Optimised.{without_covered, without_repeated}
use Rattle.list_laws.specs.Lines.{IsProperLine, AreProperLines}
use Rattle.dev_config.specs.declared.setup.Line.{Line}
use Rattle.dev_config.specs.Seen.{line_of}
use Rattle.list_laws.proofs.Matching.{each_of}
use Rattle.list_laws.proofs.OptimisingSteps.{without_covered-push}

-- ---- lines of the program are proper

proper_prefixes : (ps : List Prefix) → All IsCidr (map cidr_of ps)
proper_prefixes [] = All-nil IsCidr
proper_prefixes (p ∷ ps) = All-cons IsCidr (cidr_of p) (map cidr_of ps) (record { short = p.short; aligned = p.aligned }) (proper_prefixes ps)

pub proper_line : (l : Line) → IsProperLine (line_of l)
proper_line l = record { src = proper_prefixes l.src.now; dst = proper_prefixes l.dst.now }

pub proper_lines : (lines : List Line) → AreProperLines (map line_of lines)
proper_lines [] = All-nil IsProperLine
proper_lines (l ∷ lines) = All-cons IsProperLine (line_of l) (map line_of lines) (proper_line l) (proper_lines lines)

-- ---- the first pass

one_more : (lines : List Line) (i : ℕ) (x : Line) → i < length lines → x ≡ get_or lines i x →
    without_covered (map line_of (take (i + 1) lines)) ≡ without_covered (map line_of (take i lines)) ++ cond (list_any (λ m. line_covers m (line_of x)) (without_covered (map line_of (take i lines)))) [] (line_of x ∷ [])
one_more lines i x below is =
    ap (λ ls. without_covered (map line_of ls)) (take_more lines i x below ∙ ap (λ y. take i lines ++ y ∷ []) (sym is))
    ∙ (ap without_covered (map-append line_of (take i lines) (x ∷ [])) ∙ without_covered-push (map line_of (take i lines)) (line_of x) (each_of IsProperLine (map line_of (take i lines)) (proper_lines (take i lines))))

-- one line more is left where none that is left covers it
pub one_kept : (lines : List Line) (i : ℕ) (x : Line) (left now : List Line) → i < length lines → x ≡ get_or lines i x → map line_of left ≡ without_covered (map line_of (take i lines)) →
    list_any (λ m. line_covers m (line_of x)) (map line_of left) ≡ false → map line_of now ≡ map line_of left ++ line_of x ∷ [] → map line_of now ≡ without_covered (map line_of (take (i + 1) lines))
one_kept lines i x left now below is so_far none grown =
    grown ∙ (ap (λ ls. ls ++ line_of x ∷ []) so_far ∙ sym (one_more lines i x below is ∙ ap (λ b. without_covered (map line_of (take i lines)) ++ cond b [] (line_of x ∷ [])) (ap (list_any (λ m. line_covers m (line_of x))) (sym so_far) ∙ none)))

-- and is left out where one does
pub one_dropped : (lines : List Line) (i : ℕ) (x : Line) (left : List Line) → i < length lines → x ≡ get_or lines i x → map line_of left ≡ without_covered (map line_of (take i lines)) →
    list_any (λ m. line_covers m (line_of x)) (map line_of left) ≡ true → map line_of left ≡ without_covered (map line_of (take (i + 1) lines))
one_dropped lines i x left below is so_far some =
    so_far ∙ sym (one_more lines i x below is ∙ (ap (λ b. without_covered (map line_of (take i lines)) ++ cond b [] (line_of x ∷ [])) (ap (list_any (λ m. line_covers m (line_of x))) (sym so_far) ∙ some) ∙ append-nil (without_covered (map line_of (take i lines)))))

-- ---- the second pass

map_reverse : {A B : Type 0} (f : A → B) (xs : List A) → map f (reverse xs) ≡ reverse (map f xs)
map_reverse f [] = refl
map_reverse f (x ∷ xs) =
    ap (map f) (reverse-append (x ∷ []) xs) ∙ (map-append f (reverse xs) (x ∷ []) ∙ (ap (λ ys. ys ++ f x ∷ []) (map_reverse f xs) ∙ sym (reverse-append (f x ∷ []) (map f xs))))

-- at the top, the lines that are left are turned round
pub turned_round : (lines below now : List Line) (k : ℕ) → k ≤ 0 → reverse (map line_of below) ≡ without_repeated (map line_of (drop k lines)) → now ≡ reverse below → map line_of now ≡ without_repeated (map line_of lines)
turned_round lines below now k top so_far is =
    let e : k ≡ 0 = omega (arith, top) in
    ap (map line_of) is ∙ (map_reverse line_of below ∙ (so_far ∙ ap (λ n. without_repeated (map line_of (drop n lines))) e))
