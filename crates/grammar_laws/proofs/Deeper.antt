-- Where no bracket opens a level too many, more levels read nothing else.
use Rattle.std.proofs.Common.{◌≡◌, ◌≤◌, ℕ, zero, suc, List, ◌++◌, Option, Some, None, length, map, refl, sym, ap, ◌∙◌}
use Rattle.spoc_lexer.specs.Tokens.{Tok}
use Rattle.token_checks.specs.Places.{NonePasses}
use Rattle.token_checks.specs.Nesting.{is_too_deep_at}
use Rattle.spoc_parser.specs.Trees.{DeclIn}
use Rattle.spoc_parser.specs.Grammar.{SpellsDeclIn}
use Rattle.spoc_parser.specs.Readers.{with_first}
use Rattle.spoc_parser.specs.Reading.{read_decl_in}
use Rattle.spoc_parser.specs.Files.{goes_on, read_run, run_of}
use Rattle.grammar_laws.specs.Levels.{most_set_levels, above, raised_by, read_with}
use Rattle.grammar_laws.proofs.Balanced.{decl_in_even}
use Rattle.grammar_laws.proofs.Raising.{raised_by_spells}
use Rattle.grammar_laws.proofs.Lowering.{Within, none_too_deep, part_within, decl_by_lowers}

-- what is read is spelled
abbrev pub AllSpelled : Type 0
AllSpelled = (depth : ℕ) (toks rest : List Tok) (decl : DeclIn depth) → read_decl_in depth toks ≡ Some (decl, rest) → (front : List Tok) × SpellsDeclIn depth decl front × (toks ≡ front ++ rest)

-- what is spelled is read
abbrev pub AllRead : Type 0
AllRead = (depth : ℕ) (front rest : List Tok) (decl : DeclIn depth) → SpellsDeclIn depth decl front → read_decl_in depth (front ++ rest) ≡ Some (decl, rest)

first_changed : {A B : Type 0} (f : A → B) (a : A) (o : Option (List A × List Tok)) → with_first (f a) (read_with (map f) o) ≡ read_with (map f) (with_first a o)
first_changed f a None = refl
first_changed f a (Some r) = refl

module _ (spelled : AllSpelled) (read : AllRead) (more depth : ℕ) (deep : most_set_levels ≤ depth) where
  same_decl : (toks : List Tok) → Within toks 0 → read_decl_in (above more depth) toks ≡ read_with (raised_by more depth) (read_decl_in depth toks)
  same_decl toks w = by (read_decl_in depth toks) (read_decl_in (above more depth) toks) refl refl
    where
      by : (low : Option (DeclIn depth × List Tok)) (high : Option (DeclIn (above more depth) × List Tok)) → read_decl_in depth toks ≡ low → read_decl_in (above more depth) toks ≡ high
          → read_decl_in (above more depth) toks ≡ read_with (raised_by more depth) (read_decl_in depth toks)
      by (Some r) high e e' =
          let s = spelled depth toks r.1 r.0 e in
          ap (read_decl_in (above more depth)) s.2
          ∙ read (above more depth) s.0 r.1 (raised_by more depth r.0) (raised_by_spells more depth r.0 s.0 s.1)
          ∙ ap (read_with (raised_by more depth)) (sym e)
      by None None e e' = e' ∙ ap (read_with (raised_by more depth)) (sym e)
      by None (Some r) e e' =
          let s = spelled (above more depth) toks r.1 r.0 e' in
          let parts = part_within (decl_in_even (above more depth) r.0) 0 toks s.0 r.1 s.1 s.2 w in
          let low = (decl_by_lowers more depth deep r.0).found s.0 s.1 parts.0 in
          absurd (differ (sym e ∙ ap (read_decl_in depth) s.2 ∙ read depth s.0 r.1 low.0.0 low.1))
        where
          differ : {x : DeclIn depth × List Tok} → ◌≡◌ {A = Option (DeclIn depth × List Tok)} None (Some x) → ⊥
          differ h = cc

  same_run : (n : ℕ) (toks : List Tok) → Within toks 0 → read_run (read_decl_in (above more depth)) n toks ≡ read_with (map (raised_by more depth)) (read_run (read_decl_in depth) n toks)
  same_run zero toks w = refl
  same_run (suc n) toks w =
      ap (λ o. goes_on o (read_run (read_decl_in (above more depth)) n) toks) (same_decl toks w) ∙ by (same_run n) (read_decl_in depth toks) refl
    where
      by : ((toks : List Tok) → Within toks 0 → read_run (read_decl_in (above more depth)) n toks ≡ read_with (map (raised_by more depth)) (read_run (read_decl_in depth) n toks))
          → (o : Option (DeclIn depth × List Tok)) → read_decl_in depth toks ≡ o
          → goes_on (read_with (raised_by more depth) o) (read_run (read_decl_in (above more depth)) n) toks ≡ read_with (map (raised_by more depth)) (goes_on o (read_run (read_decl_in depth) n) toks)
      by again None e = refl
      by again (Some r) e =
          let s = spelled depth toks r.1 r.0 e in
          let parts = part_within (decl_in_even depth r.0) 0 toks s.0 r.1 s.1 s.2 w in
          ap (with_first (raised_by more depth r.0)) (again r.1 parts.1) ∙ first_changed (raised_by more depth) r.0 (read_run (read_decl_in depth) n r.1)

  pub runs_are_the_same : (toks : List Tok) → NonePasses (is_too_deep_at toks) → run_of (above more depth) toks ≡ read_with (map (raised_by more depth)) (run_of depth toks)
  runs_are_the_same toks none = same_run (length toks) toks (none_too_deep toks none)
