-- The run of declarations that is read of tokens without a seventeenth level.
use Rattle.std.proofs.Common.{◌≡◌, ℕ, ◌+◌, ◌≤◌, true, List, [], ◌∷◌, ◌++◌, length, Option, Some, None, refl, sym, ap, ◌∙◌, arith}
use Rattle.std.specs.Prelude.{is_some, slice_get}
use Rattle.std.proofs.lemmas.Bool.{false≢true}
use Rattle.std.proofs.lemmas.List.{length-append, append-nil}
use Rattle.std.proofs.lemmas.Option.{none-some, same_Some}
use Rattle.spoc_lexer.specs.Tokens.{Tok}
use Rattle.spoc_parser.specs.Trees.{DeclIn}
use Rattle.spoc_parser.specs.Grammar.{SpellsFile}
use Rattle.spoc_parser.specs.Files.{run_of, most_levels}
use Rattle.grammar_laws.proofs.Runs.{file_sound, file_some, file_longest, file_whole, file_spelled}
use Rattle.policy_files.specs.Fault.{behind_run}
use Rattle.syntax_laws.specs.Said.{decls_said}
use Rattle.reading_laws.specs.Said.{AreShallow}
use Rattle.reading_laws.specs.Told.{SpellDecls, EndsBefore}
use Rattle.reading_laws.proofs.Levels.{lowered}

abbrev pub Items : Type 0
Items = List (DeclIn most_levels)

some_there : {A : Type 0} (o : Option A) → is_some o ≡ true → (a : A) × (o ≡ Some a)
some_there None h = absurd (false≢true h)
some_there (Some a) h = (a, refl)

ran : (toks : List Tok) → (r : Items × List Tok) × (run_of most_levels toks ≡ Some r)
ran toks = some_there (run_of most_levels toks) (file_some most_levels toks)

nothing_there : (toks : List Tok) → slice_get toks 0 ≡ None → toks ≡ []
nothing_there [] e = refl
nothing_there (t ∷ toks) e = absurd (none-some t (sym e))

first_there : (tok : Tok) (toks : List Tok) → slice_get toks 0 ≡ Some tok → (behind : List Tok) × (toks ≡ tok ∷ behind)
first_there tok [] e = absurd (none-some tok e)
first_there tok (t ∷ toks) e = (toks, ap (λ x. x ∷ toks) (same_Some t tok e))

abbrev tail : List Tok → List Tok
tail [] = []
tail (t ∷ toks) = toks

-- what follows fronts of one length is the same
same_rest : (xs ys : List Tok) (as' bs : List Tok) → xs ++ as' ≡ ys ++ bs → length xs ≡ length ys → as' ≡ bs
same_rest [] [] as' bs e l = e
same_rest [] (y ∷ ys) as' bs e l = absurd (omega (arith, l))
same_rest (x ∷ xs) [] as' bs e l = absurd (omega (arith, l))
same_rest (x ∷ xs) (y ∷ ys) as' bs e l = same_rest xs ys as' bs (tails (x ∷ (xs ++ as')) (y ∷ (ys ++ bs)) e) (omega (arith, l))
  where
    tails : (one other : List Tok) → one ≡ other → tail one ≡ tail other
    tails one other h = ap tail h

module _ (toks : List Tok) (shallow : AreShallow toks) where
  -- tokens that spell declarations are read to their end, as declarations that say the same
  pub whole_run : (depth : ℕ) (items : List (DeclIn depth)) → SpellsFile depth items toks →
      (low : Items) × (run_of most_levels toks ≡ Some (low, [])) × ((file : ℕ) → decls_said file most_levels low ≡ decls_said file depth items)
  whole_run depth items spelled =
      let low = lowered toks toks [] depth items shallow (sym (append-nil toks)) spelled in
      (low.decls, file_whole most_levels toks low.decls low.spelled, low.same)

  pub none_behind : SpellDecls toks → behind_run (run_of most_levels toks) ≡ None
  none_behind h = ap behind_run (whole_run h.0 h.1 h.2).1

  pub spelled_whole : behind_run (run_of most_levels toks) ≡ None → (items : Items) × SpellsFile most_levels items toks × (run_of most_levels toks ≡ Some (items, []))
  spelled_whole e =
      let r = ran toks in
      let rest = nothing_there r.0.1 (sym (ap behind_run r.1) ∙ e) in
      let run : run_of most_levels toks ≡ Some (r.0.0, []) = r.1 ∙ ap (λ left. Some (r.0.0, left)) rest in
      (r.0.0, file_spelled most_levels toks r.0.0 run, run)

  no_longer : (rest : List Tok) (decls : Items) → run_of most_levels toks ≡ Some (decls, rest) → (other left : List Tok) → toks ≡ other ++ left → SpellDecls other → length rest ≤ length left
  no_longer rest decls run other left whole spelled =
      let low = lowered toks other left spelled.0 spelled.1 shallow whole spelled.2 in
      file_longest most_levels toks rest decls run low.decls other left low.spelled whole

  pub ends_there : (tok : Tok) → behind_run (run_of most_levels toks) ≡ Some tok → EndsBefore toks tok
  ends_there tok e =
      let r = ran toks in
      let rest = first_there tok r.0.1 (sym (ap behind_run r.1) ∙ e) in
      let front = (file_sound most_levels (length toks)).fronts toks r.0.1 r.0.0 r.1 in
      record {
        front = front.0;
        behind = rest.0;
        whole = front.2 ∙ ap (λ left. front.0 ++ left) rest.1;
        spelled = (most_levels, r.0.0, front.1);
        longest = λ other left whole spelled. shorter front.0 r.0.1 other left front.2 whole (no_longer r.0.1 r.0.0 r.1 other left whole spelled);
      }
    where
      shorter : (front rest other left : List Tok) → toks ≡ front ++ rest → toks ≡ other ++ left → length rest ≤ length left → length other ≤ length front
      shorter front rest other left e f h =
          let one : length toks ≡ length front + length rest = ap length e ∙ length-append front rest in
          let two : length toks ≡ length other + length left = ap length f ∙ length-append other left in
          omega (arith, one, two, h)

  pub ends_back : (tok : Tok) → EndsBefore toks tok → behind_run (run_of most_levels toks) ≡ Some tok
  ends_back tok ends =
      let r = ran toks in
      let front = (file_sound most_levels (length toks)).fronts toks r.0.1 r.0.0 r.1 in
      let short = ends.longest front.0 r.0.1 front.2 (most_levels, r.0.0, front.1) in
      let long = no_longer r.0.1 r.0.0 r.1 ends.front (tok ∷ ends.behind) ends.whole ends.spelled in
      ap behind_run r.1 ∙ ap (λ left. slice_get left 0) (same_rest front.0 ends.front r.0.1 (tok ∷ ends.behind) (sym front.2 ∙ ends.whole) (even front.0 r.0.1 ends.front (tok ∷ ends.behind) front.2 ends.whole short long))
    where
      even : (front rest other left : List Tok) → toks ≡ front ++ rest → toks ≡ other ++ left → length front ≤ length other → length rest ≤ length left → length front ≡ length other
      even front rest other left e f h k =
          let one : length toks ≡ length front + length rest = ap length e ∙ length-append front rest in
          let two : length toks ≡ length other + length left = ap length f ∙ length-append other left in
          omega (arith, one, two, h, k)
