-- One file more, and the end of the files.
use Rattle.std.specs.Prelude.{◌≡◌, refl, ℕ, ◌+◌, ◌<◌, ◌≤◌, List, ◌∷◌, ◌++◌, length, map, drop, Option, Some, None}
use Rattle.std.proofs.Common.{ap, sym, ◌∙◌}
use Rattle.std.proofs.lemmas.List.{drop_more, drop-map, drop_all}
use Rattle.std.proofs.Math.ListN.{get_or}
use Rattle.spoc_base.specs.declared.fault.Fault.{Fault}
use Rattle.spoc_base.specs.declared.place.Source.{Source}
use Rattle.policy_files.specs.Fault.{faults_from}
use Rattle.std.proofs.lemmas.Option.{none-some}
use Rattle.std.proofs.lemmas.List.{append_assoc, append-nil}
use Rattle.spoc_ast.specs.Written.{DeclText}
use Rattle.policy_files.specs.OfTexts.{decls_of_text, declared_from}
use Rattle.policy_files.specs.Rank.{earlier, earlier_of, text_fault}
use Rattle.policy_files.specs.Seen.{texts_of}
use Rattle.policy_files.proofs.Order.{more, joined}

abbrev text_of : Source → List ℕ
text_of s = s.text

-- the text of the k-th source, and those behind it
next_text : (sources : List Source) (k : ℕ) (d : Source) → k < length sources → drop k (texts_of sources) ≡ (get_or sources k d).text ∷ drop (k + 1) (texts_of sources)
next_text sources k d within =
    drop-map text_of k sources ∙ ap (map text_of) (drop_more sources k d within) ∙ ap (λ texts. (get_or sources k d).text ∷ texts) (sym (drop-map text_of (k + 1) sources))

pub step : (f f' : Option Fault) (sources : List Source) (k : ℕ) (d : Source) (whole : Option Fault) → k < length sources →
    f' ≡ earlier f (text_fault k (get_or sources k d).text) → earlier f (faults_from k (drop k (texts_of sources))) ≡ whole →
    earlier f' (faults_from (k + 1) (drop (k + 1) (texts_of sources))) ≡ whole
step f f' sources k d whole within new old =
    let text = (get_or sources k d).text in
    let rest = drop (k + 1) (texts_of sources) in
    ap (λ g. earlier g (faults_from (k + 1) rest)) new ∙ joined f (text_fault k text) (faults_from (k + 1) rest) ∙ ap (earlier f) (sym (more k text rest))
    ∙ ap (λ texts. earlier f (faults_from k texts)) (sym (next_text sources k d within)) ∙ old

nothing_more : (f : Option Fault) → earlier f None ≡ f
nothing_more None = refl
nothing_more (Some fault) = refl

pub at_end : (f : Option Fault) (sources : List Source) (k : ℕ) (whole : Option Fault) → length sources ≤ k → earlier f (faults_from k (drop k (texts_of sources))) ≡ whole → f ≡ whole
at_end f sources k whole past old =
    sym (nothing_more f) ∙ ap (λ texts. earlier f (faults_from k texts)) (sym (drop-map text_of k sources ∙ ap (map text_of) (drop_all k sources past))) ∙ old

-- ---- declarations

is_none_first : (f g : Option Fault) → earlier f g ≡ None → f ≡ None
is_none_first None g e = refl
is_none_first (Some a) None e = e
is_none_first (Some a) (Some b) e = absurd (none-some (earlier_of a b) (sym e))

pub decls_step : (f f' : Option Fault) (decls decls' whole : List DeclText) (sources : List Source) (k : ℕ) (d : Source) → k < length sources →
    f' ≡ earlier f (text_fault k (get_or sources k d).text) →
    (f' ≡ None → decls' ≡ decls ++ decls_of_text k (get_or sources k d).text) →
    (f ≡ None → decls ++ declared_from k (drop k (texts_of sources)) ≡ whole) →
    f' ≡ None → decls' ++ declared_from (k + 1) (drop (k + 1) (texts_of sources)) ≡ whole
decls_step f f' decls decls' whole sources k d within new grown old none =
    let text = (get_or sources k d).text in
    let rest = declared_from (k + 1) (drop (k + 1) (texts_of sources)) in
    ap (λ ds. ds ++ rest) (grown none) ∙ append_assoc decls (decls_of_text k text) rest
    ∙ ap (λ texts. decls ++ declared_from k texts) (sym (next_text sources k d within)) ∙ old (is_none_first f (text_fault k text) (sym new ∙ none))

pub decls_at_end : (f : Option Fault) (decls whole : List DeclText) (sources : List Source) (k : ℕ) → length sources ≤ k →
    (f ≡ None → decls ++ declared_from k (drop k (texts_of sources)) ≡ whole) → f ≡ None → decls ≡ whole
decls_at_end f decls whole sources k past old none =
    sym (append-nil decls) ∙ ap (λ texts. decls ++ declared_from k texts) (sym (drop-map text_of k sources ∙ ap (map text_of) (drop_all k sources past))) ∙ old none
