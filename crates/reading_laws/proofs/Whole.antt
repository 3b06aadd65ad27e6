-- What texts say and what is told of them.
use Rattle.std.proofs.Common.{◌≡◌, ◌↔◌, ℕ, ◌+◌, List, [], ◌∷◌, ◌++◌, Option, Some, None, refl, sym, ap, subst, ◌∙◌}
use Rattle.std.specs.Prelude.{option_map}
use Rattle.std.specs.List.{All}
use Rattle.std.proofs.lemmas.List.Elements.{All-nil, All-cons, All-head, All-tail, All-weaker}
use Rattle.std.proofs.lemmas.Option.{none-some, same_Some}
use Rattle.spoc_base.specs.declared.fault.Fault.{Fault}
use Rattle.spoc_base.specs.declared.fault.Fault.TheVariants.{Lex, LeftOut, Deep, Syntax}
use Rattle.spoc_lexer.specs.Tokens.{Tok}
use Rattle.spoc_lexer.specs.Grammar.{HasTokens, StopsAt}
use Rattle.spoc_ast.specs.Written.{DeclText}
use Rattle.spoc_parser.specs.Files.{run_of, most_levels}
use Rattle.syntax_laws.specs.Said.{decls_said}
use Rattle.policy_files.specs.Fault.{or_else, first_in, toks_in, bad_byte, omitted_word, deep_bracket, unread_token, lex_fault, left_out_fault, deep_fault, syntax_fault, fault_of_texts}
use Rattle.policy_files.specs.OfTexts.{items_read, decls_of_text, declared_from, declared}
use Rattle.reading_laws.specs.Said.{OmitNothing, AreShallow, Says, SayFrom, Say}
use Rattle.reading_laws.specs.Told.{IsDivided, OmitsNothing, IsShallow, SpellDecls, IsSpelled, OmitsFirst, NestsFirst, SpellsUpTo, IsTold}
use Rattle.reading_laws.proofs.Runs.{whole_run}
use Rattle.reading_laws.proofs.Rows.{toks_are, same_toks, Anything, lexed, omitted, nested, spelled, all_good, none_found, first_wrong, wrong_found}

abbrev Offset : Type 0
Offset = Option (ℕ × ℕ)

abbrev Place : Type 0
Place = Option (ℕ × Tok)

abbrev chosen : Offset → Place → Place → Place → Option Fault
chosen a b c d = or_else (option_map lex_fault a) (or_else (option_map left_out_fault b) (or_else (option_map deep_fault c) (option_map syntax_fault d)))

module _ (texts : List (List ℕ)) where
  found : (a : Offset) (b c d : Place) → first_in bad_byte 0 texts ≡ a → first_in omitted_word 0 texts ≡ b → first_in deep_bracket 0 texts ≡ c → first_in unread_token 0 texts ≡ d →
      fault_of_texts texts ≡ chosen a b c d
  found a b c d ea eb ec ed = λ i. chosen (ea i) (eb i) (ec i) (ed i)

  any : All Anything texts
  any k d h = tt

  -- ---- which rows have nothing

  no_stop : first_in bad_byte 0 texts ≡ None → All IsDivided texts
  no_stop e = all_good Anything IsDivided StopsAt bad_byte lexed texts any e

  no_stop_back : All IsDivided texts → first_in bad_byte 0 texts ≡ None
  no_stop_back goods = none_found Anything IsDivided StopsAt bad_byte lexed texts any goods

  none_omitted : All IsDivided texts → first_in omitted_word 0 texts ≡ None → All OmitsNothing texts
  none_omitted divided e = all_good IsDivided OmitsNothing OmitsFirst omitted_word omitted texts divided e

  none_omitted_back : All IsDivided texts → All OmitsNothing texts → first_in omitted_word 0 texts ≡ None
  none_omitted_back divided goods = none_found IsDivided OmitsNothing OmitsFirst omitted_word omitted texts divided goods

  none_nested : All IsDivided texts → first_in deep_bracket 0 texts ≡ None → All IsShallow texts
  none_nested divided e = all_good IsDivided IsShallow NestsFirst deep_bracket nested texts divided e

  none_nested_back : All IsDivided texts → All IsShallow texts → first_in deep_bracket 0 texts ≡ None
  none_nested_back divided goods = none_found IsDivided IsShallow NestsFirst deep_bracket nested texts divided goods

  all_spelled : All IsShallow texts → first_in unread_token 0 texts ≡ None → All IsSpelled texts
  all_spelled shallow e = all_good IsShallow IsSpelled SpellsUpTo unread_token spelled texts shallow e

  all_spelled_back : All IsShallow texts → All IsSpelled texts → first_in unread_token 0 texts ≡ None
  all_spelled_back shallow goods = none_found IsShallow IsSpelled SpellsUpTo unread_token spelled texts shallow goods

  divided_of : All OmitsNothing texts → All IsDivided texts
  divided_of goods = All-weaker OmitsNothing IsDivided (λ text h. (h.0, h.1)) texts goods

  -- ---- from what is found to what is told

  told : (fault : Fault) → fault_of_texts texts ≡ Some fault → IsTold texts fault
  told fault e = by_byte (first_in bad_byte 0 texts) refl
    where
      is_it : (other : Fault) → IsTold texts other → fault_of_texts texts ≡ Some other → IsTold texts fault
      is_it other h f = subst (IsTold texts) (same_Some other fault (sym f ∙ e)) h

      by_spelling : (d : Place) → All OmitsNothing texts → All IsShallow texts → first_in bad_byte 0 texts ≡ None → first_in omitted_word 0 texts ≡ None → first_in deep_bracket 0 texts ≡ None →
          first_in unread_token 0 texts ≡ d → IsTold texts fault
      by_spelling None omits shallow ea eb ec ed = absurd (none-some fault (sym (found None None None None ea eb ec ed) ∙ e))
      by_spelling (Some x) omits shallow ea eb ec ed =
          is_it (syntax_fault x) (omits, shallow, x.1, first_wrong IsShallow IsSpelled SpellsUpTo unread_token spelled texts x.0 x.1 shallow ed, refl) (found None None None (Some x) ea eb ec ed)

      by_level : (c : Place) → All OmitsNothing texts → first_in bad_byte 0 texts ≡ None → first_in omitted_word 0 texts ≡ None → first_in deep_bracket 0 texts ≡ c → IsTold texts fault
      by_level None omits ea eb ec = by_spelling (first_in unread_token 0 texts) omits (none_nested (divided_of omits) ec) ea eb ec refl
      by_level (Some x) omits ea eb ec =
          is_it (deep_fault x) (omits, x.1, first_wrong IsDivided IsShallow NestsFirst deep_bracket nested texts x.0 x.1 (divided_of omits) ec, refl)
          (found None None (Some x) (first_in unread_token 0 texts) ea eb ec refl)

      by_word : (b : Place) → All IsDivided texts → first_in bad_byte 0 texts ≡ None → first_in omitted_word 0 texts ≡ b → IsTold texts fault
      by_word None divided ea eb = by_level (first_in deep_bracket 0 texts) (none_omitted divided eb) ea eb refl
      by_word (Some x) divided ea eb =
          is_it (left_out_fault x) (divided, x.1, first_wrong IsDivided OmitsNothing OmitsFirst omitted_word omitted texts x.0 x.1 divided eb, refl, refl)
          (found None (Some x) (first_in deep_bracket 0 texts) (first_in unread_token 0 texts) ea eb refl refl)

      by_byte : (a : Offset) → first_in bad_byte 0 texts ≡ a → IsTold texts fault
      by_byte None ea = by_word (first_in omitted_word 0 texts) (no_stop ea) ea refl
      by_byte (Some x) ea =
          is_it (lex_fault x) (first_wrong Anything IsDivided StopsAt bad_byte lexed texts x.0 x.1 any ea)
          (found (Some x) (first_in omitted_word 0 texts) (first_in deep_bracket 0 texts) (first_in unread_token 0 texts) ea refl refl refl)

  -- ---- from what is told to what is found

  told_back : (fault : Fault) → IsTold texts fault → fault_of_texts texts ≡ Some fault
  told_back (Lex file offset) h =
      found (Some (file, offset)) (first_in omitted_word 0 texts) (first_in deep_bracket 0 texts) (first_in unread_token 0 texts)
      (wrong_found Anything IsDivided StopsAt bad_byte lexed texts file offset any h) refl refl refl
  told_back (LeftOut file offset word) h =
      found None (Some (file, h.1)) (first_in deep_bracket 0 texts) (first_in unread_token 0 texts) (no_stop_back h.0)
      (wrong_found IsDivided OmitsNothing OmitsFirst omitted_word omitted texts file h.1 h.0 h.2) refl refl
      ∙ (λ i. Some (LeftOut file (sym h.3 i) (sym h.4 i)))
  told_back (Deep file offset) h =
      let divided = divided_of h.0 in
      found None None (Some (file, h.1)) (first_in unread_token 0 texts) (no_stop_back divided) (none_omitted_back divided h.0)
      (wrong_found IsDivided IsShallow NestsFirst deep_bracket nested texts file h.1 divided h.2) refl
      ∙ (λ i. Some (Deep file (sym h.3 i)))
  told_back (Syntax file offset) h =
      let divided = divided_of h.0 in
      found None None None (Some (file, h.2)) (no_stop_back divided) (none_omitted_back divided h.0) (none_nested_back divided h.1)
      (wrong_found IsShallow IsSpelled SpellsUpTo unread_token spelled texts file h.2 h.1 h.3)
      ∙ (λ i. Some (Syntax file (sym h.4 i)))
  told_back _ h = absurd h

-- ---- what is declared

-- the text says some declarations
abbrev IsRead : List ℕ → Type 0
IsRead text = (toks : List Tok) × HasTokens text toks × OmitNothing toks × AreShallow toks × SpellDecls toks

all_read : (k : ℕ) (texts : List (List ℕ)) (decls : List DeclText) → SayFrom k texts decls → All IsRead texts
all_read k [] decls h = All-nil IsRead
all_read k (text ∷ texts) decls h =
    let s = h.2 in
    All-cons IsRead text texts (s.toks, s.divided, s.omits, s.shallow, (s.spelled.0, s.spelled.1, s.spelled.2)) (all_read (k + 1) texts h.1 h.3)

faultless : (texts : List (List ℕ)) → All IsRead texts → fault_of_texts texts ≡ None
faultless texts read =
    let divided = All-weaker IsRead IsDivided (λ text h. (h.0, h.1)) texts read in
    let omits = All-weaker IsRead OmitsNothing (λ text h. (h.0, h.1, h.2)) texts read in
    let shallow = All-weaker IsRead IsShallow (λ text h. (h.0, h.1, h.3)) texts read in
    let whole = All-weaker IsRead IsSpelled (λ text h. (h.0, h.1, h.4)) texts read in
    found texts None None None None (no_stop_back texts divided) (none_omitted_back texts divided omits) (none_nested_back texts divided shallow) (all_spelled_back texts shallow whole)

abbrev decls_in : ℕ → List Tok → List DeclText
decls_in k toks = decls_said k most_levels (items_read (run_of most_levels toks))

by_toks : (k : ℕ) (text : List ℕ) (toks : List Tok) → HasTokens text toks → decls_of_text k text ≡ decls_in k toks
by_toks k text toks h = ap (λ r. decls_in k (toks_in r)) (toks_are text toks h)

said_is : (k : ℕ) (text : List ℕ) (decls : List DeclText) → Says k text decls → decls_of_text k text ≡ decls
said_is k text decls s =
    let run = whole_run s.toks s.shallow s.spelled.0 s.spelled.1 s.spelled.2 in
    by_toks k text s.toks s.divided ∙ ap (λ r. decls_said k most_levels (items_read r)) run.1 ∙ run.2 k ∙ sym s.spelled.3

declared_is : (k : ℕ) (texts : List (List ℕ)) (decls : List DeclText) → SayFrom k texts decls → declared_from k texts ≡ decls
declared_is k [] decls h = sym h
declared_is k (text ∷ texts) decls h = (λ i. said_is k text h.0 h.2 i ++ declared_is (k + 1) texts h.1 h.3 i) ∙ sym h.4

says_its_own : (k : ℕ) (text : List ℕ) → IsRead text → Says k text (decls_of_text k text)
says_its_own k text h =
    let toks = h.0 in
    let run = whole_run toks h.3 h.4.0 h.4.1 h.4.2 in
    record {
      toks = toks;
      divided = h.1;
      omits = h.2;
      shallow = h.3;
      spelled = (h.4.0, h.4.1, h.4.2, by_toks k text toks h.1 ∙ ap (λ r. decls_said k most_levels (items_read r)) run.1 ∙ run.2 k);
    }

say_their_own : (k : ℕ) (texts : List (List ℕ)) → All IsRead texts → SayFrom k texts (declared_from k texts)
say_their_own k [] read = refl
say_their_own k (text ∷ texts) read =
    (decls_of_text k text, declared_from (k + 1) texts, says_its_own k text (All-head IsRead text texts read), say_their_own (k + 1) texts (All-tail IsRead text texts read), refl)

read_where_faultless : (texts : List (List ℕ)) → fault_of_texts texts ≡ None → All IsRead texts
read_where_faultless texts e = by_byte (first_in bad_byte 0 texts) refl
  where
    one : (text : List ℕ) → OmitsNothing text → IsShallow text → IsSpelled text → IsRead text
    one text omits shallow whole =
        let toks = omits.0 in
        (toks, omits.1, omits.2, subst AreShallow (same_toks text shallow.0 toks shallow.1 omits.1) shallow.2, subst SpellDecls (same_toks text whole.0 toks whole.1 omits.1) whole.2)

    fails : (fault : Fault) → fault_of_texts texts ≡ Some fault → All IsRead texts
    fails fault f = absurd (none-some fault (sym e ∙ f))

    by_spelling : (d : Place) → All OmitsNothing texts → All IsShallow texts → first_in bad_byte 0 texts ≡ None → first_in omitted_word 0 texts ≡ None → first_in deep_bracket 0 texts ≡ None →
        first_in unread_token 0 texts ≡ d → All IsRead texts
    by_spelling None omits shallow ea eb ec ed =
        let whole = all_spelled texts shallow ed in
        λ k d h. one _ (omits k d h) (shallow k d h) (whole k d h)
    by_spelling (Some x) omits shallow ea eb ec ed = fails (syntax_fault x) (found texts None None None (Some x) ea eb ec ed)

    by_level : (c : Place) → All OmitsNothing texts → first_in bad_byte 0 texts ≡ None → first_in omitted_word 0 texts ≡ None → first_in deep_bracket 0 texts ≡ c → All IsRead texts
    by_level None omits ea eb ec = by_spelling (first_in unread_token 0 texts) omits (none_nested texts (divided_of texts omits) ec) ea eb ec refl
    by_level (Some x) omits ea eb ec = fails (deep_fault x) (found texts None None (Some x) (first_in unread_token 0 texts) ea eb ec refl)

    by_word : (b : Place) → All IsDivided texts → first_in bad_byte 0 texts ≡ None → first_in omitted_word 0 texts ≡ b → All IsRead texts
    by_word None divided ea eb = by_level (first_in deep_bracket 0 texts) (none_omitted texts divided eb) ea eb refl
    by_word (Some x) divided ea eb = fails (left_out_fault x) (found texts None (Some x) (first_in deep_bracket 0 texts) (first_in unread_token 0 texts) ea eb refl refl)

    by_byte : (a : Offset) → first_in bad_byte 0 texts ≡ a → All IsRead texts
    by_byte None ea = by_word (first_in omitted_word 0 texts) (no_stop texts ea) ea refl
    by_byte (Some x) ea = fails (lex_fault x) (found texts (Some x) (first_in omitted_word 0 texts) (first_in deep_bracket 0 texts) (first_in unread_token 0 texts) ea refl refl refl)

-- ---- the laws

pub faults_are_told : (texts : List (List ℕ)) (fault : Fault) → (fault_of_texts texts ≡ Some fault) ↔ IsTold texts fault
faults_are_told texts fault = (told texts fault, told_back texts fault)

pub texts_say : (texts : List (List ℕ)) (decls : List DeclText) → Say texts decls ↔ ((fault_of_texts texts ≡ None) × (declared texts ≡ decls))
texts_say texts decls = (
  λ h. (faultless texts (all_read 0 texts decls h), declared_is 0 texts decls h),
  λ h. subst (Say texts) h.1 (say_their_own 0 texts (read_where_faultless texts h.0)),
)

pub say_one : (texts : List (List ℕ)) (decls others : List DeclText) → Say texts decls → Say texts others → decls ≡ others
say_one texts decls others h k = sym (declared_is 0 texts decls h) ∙ declared_is 0 texts others k
