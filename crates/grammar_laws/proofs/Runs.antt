-- The run of declarations that is read, and all others.
use Rattle.std.proofs.Common.{◌≡◌, ◌≤◌, ℕ, zero, suc, true, List, [], ◌∷◌, ◌++◌, Option, Some, None, length, refl, sym, ap, subst, ◌∙◌, append_assoc, append-nil, arith}
use Rattle.std.specs.Prelude.{is_some}
use Rattle.std.proofs.lemmas.List.{length-append}
use Rattle.spoc_lexer.specs.Tokens.{Tok}
use Rattle.spoc_parser.specs.Trees.{DeclIn}
use Rattle.spoc_parser.specs.Phrases.{Phrase, many}
use Rattle.spoc_parser.specs.Grammar.{SpellsDeclIn, SpellsFile}
use Rattle.spoc_parser.specs.Readers.{Reader, with_first}
use Rattle.spoc_parser.specs.Reading.{read_decl_in}
use Rattle.spoc_parser.specs.Files.{goes_on, read_run, run_of}
use Rattle.grammar_laws.proofs.Found.{Fronts, Sound, parts, first_some, none_taken, in_turn}
use Rattle.grammar_laws.proofs.Spelled.{decl_in_sound}
use Rattle.grammar_laws.proofs.Only.{Takes, Always, Tells, has_token, size_of}
use Rattle.grammar_laws.proofs.Taken.{decl_in_takes, decl_in_some}

module _ {A : Type 0} (spells : A → Phrase) (read : Reader A) (s : Sound spells read) where
  run_sound : (n : ℕ) → Sound (many spells) (read_run read n)
  run_sound zero = record { fronts = λ toks rest xs h. none_taken (many spells) [] xs toks rest refl h }
  run_sound (suc n) = record { fronts = λ toks rest xs h. by (run_sound n) toks rest xs (read toks) refl h }
    where
      by : Sound (many spells) (read_run read n) → (toks rest : List Tok) (xs : List A) (o : Option (A × List Tok)) → read toks ≡ o → goes_on o (read_run read n) toks ≡ Some (xs, rest) → Fronts (many spells xs) toks rest
      by again toks rest xs None is h = none_taken (many spells) [] xs toks rest refl h
      by again toks rest xs (Some r) is h =
          let more = first_some r.0 (read_run read n r.1) xs rest h in
          let own = s.fronts toks r.1 r.0 is in
          let others = again.fronts r.1 more.0.1 more.0.0 more.1 in (
            own.0 ++ others.0,
            subst (λ z. many spells z (own.0 ++ others.0)) more.2 (own.0, others.0, own.1, others.1, refl),
            in_turn toks own.0 r.1 others.0 more.0.1 rest own.2 others.2 more.3,
          )

-- there is always a run
run_some : {A : Type 0} (read : Reader A) (n : ℕ) (toks : List Tok) → is_some (read_run read n toks) ≡ true
run_some read zero toks = refl
run_some {A} read (suc n) toks = by (run_some read n) (read toks)
  where
    first_is : (x : A) (o : Option (List A × List Tok)) → is_some (with_first x o) ≡ is_some o
    first_is x None = refl
    first_is x (Some r) = refl

    by : ((toks : List Tok) → is_some (read_run read n toks) ≡ true) → (o : Option (A × List Tok)) → is_some (goes_on o (read_run read n) toks) ≡ true
    by again None = refl
    by again (Some r) = first_is r.0 (read_run read n r.1) ∙ again r.1

module _ {A : Type 0} (spells : A → Phrase) (read : Reader A) (s : Sound spells read) (t : (x : A) → Takes (spells x) Always read x) (sizes : (x : A) → Tells (spells x) has_token true) where
  run_longest : (ys : List A) (n : ℕ) (front left rest : List Tok) (xs : List A) → many spells ys front → length front ≤ n → read_run read n (front ++ left) ≡ Some (xs, rest) → length rest ≤ length left
  run_longest [] n front left rest xs p fuel h =
      let found = (run_sound spells read s n).fronts left rest xs (ap (λ l. read_run read n (l ++ left)) (sym p) ∙ h) in
      omega (arith, ap length found.2, length-append found.0 rest)
  run_longest (y ∷ ys) zero front left rest xs p fuel h = absurd (omega (arith, ap length p.4, length-append p.0 p.1, size_of (sizes y) p.0 p.2, fuel))
  run_longest (y ∷ ys) (suc n) front left rest xs p fuel h =
      let whole : front ++ left ≡ p.0 ++ (p.1 ++ left) = ap (λ l. l ++ left) p.4 ∙ append_assoc p.0 p.1 left in
      let turn = ap (λ o. goes_on o (read_run read n) (p.0 ++ (p.1 ++ left))) ((t y).takes p.0 (p.1 ++ left) p.2 tt) in
      let more = first_some y (read_run read n (p.1 ++ left)) xs rest (sym turn ∙ ap (read_run read (suc n)) (sym whole) ∙ h) in
      let shorter = run_longest ys n p.1 left more.0.1 more.0.0 p.3 (omega (arith, ap length p.4, length-append p.0 p.1, size_of (sizes y) p.0 p.2, fuel)) more.1 in
      subst (λ l. length l ≤ length left) more.3 shorter

  run_whole : read [] ≡ None → (xs : List A) (n : ℕ) (front : List Tok) → many spells xs front → length front ≤ n → read_run read n front ≡ Some (xs, [])
  run_whole none [] zero front p fuel = ap (read_run read zero) p
  run_whole none [] (suc n) front p fuel = ap (read_run read (suc n)) p ∙ ap (λ o. goes_on o (read_run read n) []) none
  run_whole none (x ∷ xs) zero front p fuel = absurd (omega (arith, ap length p.4, length-append p.0 p.1, size_of (sizes x) p.0 p.2, fuel))
  run_whole none (x ∷ xs) (suc n) front p fuel =
      ap (read_run read (suc n)) p.4
      ∙ ap (λ o. goes_on o (read_run read n) (p.0 ++ p.1)) ((t x).takes p.0 p.1 p.2 tt)
      ∙ ap (with_first x) (run_whole none xs n p.1 p.3 (omega (arith, ap length p.4, length-append p.0 p.1, size_of (sizes x) p.0 p.2, fuel)))

  -- no phrase is a part of another one's beginning
  alone : (x y : A) (front more : List Tok) → spells x front → spells y (front ++ more) → (more ≡ []) × (x ≡ y)
  alone x y front more p q =
      let is = parts x y more [] (sym ((t x).takes front more p tt) ∙ ap read (sym (append-nil (front ++ more))) ∙ (t y).takes (front ++ more) [] q tt) in
      (is.1, is.0)

pub file_sound : (depth n : ℕ) → Sound (SpellsFile depth) (read_run (read_decl_in depth) n)
file_sound depth = run_sound (SpellsDeclIn depth) (read_decl_in depth) (decl_in_sound depth)

pub file_some : (depth : ℕ) (toks : List Tok) → is_some (run_of depth toks) ≡ true
file_some depth toks = run_some (read_decl_in depth) (length toks) toks

pub file_longest : (depth : ℕ) (toks rest : List Tok) (decls : List (DeclIn depth)) → run_of depth toks ≡ Some (decls, rest) → (others : List (DeclIn depth)) (front left : List Tok) → SpellsFile depth others front → toks ≡ front ++ left → length rest ≤ length left
file_longest depth toks rest decls h others front left p whole =
    run_longest (SpellsDeclIn depth) (read_decl_in depth) (decl_in_sound depth) (decl_in_takes depth) (decl_in_some depth) others (length toks) front left rest decls p
    (omega (arith, ap length whole, length-append front left)) (ap (read_run (read_decl_in depth) (length toks)) (sym whole) ∙ h)

pub file_whole : (depth : ℕ) (toks : List Tok) (decls : List (DeclIn depth)) → SpellsFile depth decls toks → run_of depth toks ≡ Some (decls, [])
file_whole depth toks decls p = run_whole (SpellsDeclIn depth) (read_decl_in depth) (decl_in_sound depth) (decl_in_takes depth) (decl_in_some depth) refl decls (length toks) toks p (omega arith)

pub file_spelled : (depth : ℕ) (toks : List Tok) (decls : List (DeclIn depth)) → run_of depth toks ≡ Some (decls, []) → SpellsFile depth decls toks
file_spelled depth toks decls h =
    let found = (file_sound depth (length toks)).fronts toks [] decls h in
    subst (SpellsFile depth decls) (sym (found.2 ∙ append-nil found.0)) found.1

pub file_alone : (depth : ℕ) (toks : List Tok) (decls others : List (DeclIn depth)) → SpellsFile depth decls toks → SpellsFile depth others toks → decls ≡ others
file_alone depth toks decls others p q = (parts decls others [] [] (sym (file_whole depth toks decls p) ∙ file_whole depth toks others q)).0

pub decl_alone : (depth : ℕ) (front more : List Tok) (decl other : DeclIn depth) → SpellsDeclIn depth decl front → SpellsDeclIn depth other (front ++ more) → (more ≡ []) × (decl ≡ other)
decl_alone depth front more decl other p q = alone (SpellsDeclIn depth) (read_decl_in depth) (decl_in_sound depth) (decl_in_takes depth) (decl_in_some depth) decl other front more p q
