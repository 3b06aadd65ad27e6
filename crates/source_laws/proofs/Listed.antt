-- The fault of sources that counts is the first of all that are listed.
use Rattle.std.proofs.Common.{◌≡◌, ℕ, ◌<◌, true, List, [], ◌∷◌, ◌++◌, length, map, Option, Some, None, refl, sym, ap, ◌∙◌}
use Rattle.std.specs.Prelude.{is_some, filter, slice_get, option_map, option_and_then}
use Rattle.std.proofs.lemmas.Bool.{false≢true}
use Rattle.spoc_base.specs.declared.place.Named.{Named}
use Rattle.spoc_base.specs.declared.fault.Fault.{Fault}
use Rattle.spoc_base.specs.declared.fault.Fault.TheVariants.{Twice, Unknown, Circle, Shape, Limit}
use Rattle.spoc_lexer.specs.Tokens.{tokens_of}
use Rattle.token_checks.specs.LeftOut.{is_left_out_at}
use Rattle.token_checks.specs.Nesting.{is_too_deep_at}
use Rattle.spoc_ast.specs.Written.{DeclText, NetworkDecl, RouterDecl, GroupDecl, AreaDecl, AggregateDecl, ProtocolDecl, ProtocolGroupDecl, RestrictionDecl, ServiceDecl}
use Rattle.policy_model.specs.Lists.{numbers_below}
use Rattle.policy_model.proofs.AllWalks.{IsIn}
use Rattle.list_laws.proofs.Members.{from_filter}
use Rattle.policy_decls.specs.Names.{Mention, names_in, declared_names, is_again, shown_at}
use Rattle.policy_decls.specs.Uses.{used_names, is_unknown}
use Rattle.policy_decls.specs.Nesting.{nesting_names, is_on_circle}
use Rattle.policy_decls.specs.Shapes.{shape_at}
use Rattle.policy_decls.specs.Limits.{limit_passed}
use Rattle.policy_decls.specs.Faults as decls
use Rattle.policy_decls.specs.Faults.{name_twice, name_unknown, name_on_circle, name_of_decl, first_shape, fault_of}
use Rattle.policy_files.specs.Fault.{or_else, toks_in, bad_byte, omitted_word, deep_bracket, unread_token, first_in, lex_fault, left_out_fault, deep_fault, syntax_fault, fault_of_texts}
use Rattle.policy_files.specs.OfTexts.{declared}
use Rattle.policy_source.specs.Faults.{fault_of_sources}
use Rattle.source_laws.specs.Sources.{source_texts}
use Rattle.source_laws.specs.Table.{one_or_none, in_each, omitted_words, deep_brackets, text_faults, names_again, names_unknown, names_on_circles, shapes_in, decl_faults, faults_in}
use Rattle.source_laws.proofs.Heads.{head, both, mapped, head_one, head_given, some_there, place_below, head_tokens, head_in_each}

-- ---- texts

text_row : {A : Type 0} (fault : ℕ × A → Fault) (wrong : List ℕ → List A) (test : List ℕ → Option A) → ((text : List ℕ) → head (wrong text) ≡ test text) → (texts : List (List ℕ)) →
    head (map fault (in_each wrong 0 texts)) ≡ option_map fault (first_in test 0 texts)
text_row fault wrong test same texts = mapped fault (in_each wrong 0 texts) (first_in test 0 texts) (head_in_each wrong test same 0 texts)

texts_first : (texts : List (List ℕ)) → head (text_faults texts) ≡ fault_of_texts texts
texts_first texts =
    let lex = map lex_fault (in_each (λ text. one_or_none (bad_byte text)) 0 texts) in
    let omitted = map left_out_fault (in_each omitted_words 0 texts) in
    let deep = map deep_fault (in_each deep_brackets 0 texts) in
    let unread = map syntax_fault (in_each (λ text. one_or_none (unread_token text)) 0 texts) in
    both lex (omitted ++ (deep ++ unread)) _ _
    (text_row lex_fault (λ text. one_or_none (bad_byte text)) bad_byte (λ text. head_one (bad_byte text)) texts)
    (both omitted (deep ++ unread) _ _
    (text_row left_out_fault omitted_words omitted_word (λ text. let toks = toks_in (tokens_of text) in head_tokens (is_left_out_at toks) toks) texts)
    (both deep unread _ _
    (text_row deep_fault deep_brackets deep_bracket (λ text. let toks = toks_in (tokens_of text) in head_tokens (is_too_deep_at toks) toks) texts)
    (text_row syntax_fault (λ text. one_or_none (unread_token text)) unread_token (λ text. head_one (unread_token text)) texts)))

-- ---- declarations

some_map : {A B : Type 0} (f : A → B) (o : Option A) → is_some o ≡ true → is_some (option_map f o) ≡ true
some_map f None h = h
some_map f (Some a) h = refl

some_then : {A B : Type 0} (f : A → Option B) (o : Option A) → is_some o ≡ true → ((a : A) → is_some (f a) ≡ true) → is_some (option_and_then f o) ≡ true
some_then f None h each = absurd (false≢true h)
some_then f (Some a) h each = each a

shown_there : (names : List Mention) (k : ℕ) → k < length names → is_some (shown_at names k) ≡ true
shown_there names k below = some_map (λ (name : Mention). name.shown) (slice_get names k) (some_there names k below)

first_name : (d : DeclText) → is_some (shown_at (names_in d) 0) ≡ true
first_name (NetworkDecl name desc parts) = refl
first_name (RouterDecl name desc parts) = refl
first_name (GroupDecl name desc objects) = refl
first_name (AreaDecl name desc parts) = refl
first_name (AggregateDecl name desc parts) = refl
first_name (ProtocolDecl name protocol notes) = refl
first_name (ProtocolGroupDecl name prts) = refl
first_name (RestrictionDecl name desc ports) = refl
first_name (ServiceDecl name desc idle user rules) = refl

or_first_of : (o : Option Fault) (faults : List (Option Fault)) → decls.first_of (o ∷ faults) ≡ or_else o (decls.first_of faults)
or_first_of None faults = refl
or_first_of (Some fault) faults = refl

module _ (ds : List DeclText) where
  again_first : head (names_again ds) ≡ name_twice ds
  again_first =
      let names = declared_names ds in
      head_given (shown_at names) (filter (is_again names) (numbers_below (length names)))
      (λ k h. shown_there names k (place_below (is_again names) (length names) k h))

  abbrev its_shape : ℕ → Option (ℕ × Named)
  its_shape k = option_and_then (λ n. option_map (λ name. (n, name)) (name_of_decl ds k)) (shape_at ds k)

  shape_there : (k : ℕ) → IsIn k (filter (λ k. is_some (shape_at ds k)) (numbers_below (length ds))) → is_some (its_shape k) ≡ true
  shape_there k h =
      let below = place_below (λ k. is_some (shape_at ds k)) (length ds) k h in
      let shape = (from_filter (λ k. is_some (shape_at ds k)) k (numbers_below (length ds)) h).1 in
      let named : is_some (name_of_decl ds k) ≡ true = some_then (λ (d : DeclText). shown_at (names_in d) 0) (slice_get ds k) (some_there ds k below) first_name in
      some_then (λ (n : ℕ). option_map (λ (name : Named). (n, name)) (name_of_decl ds k)) (shape_at ds k) shape (λ n. some_map (λ (name : Named). (n, name)) (name_of_decl ds k) named)

  shapes_first : head (shapes_in ds) ≡ first_shape ds
  shapes_first = head_given its_shape (filter (λ k. is_some (shape_at ds k)) (numbers_below (length ds))) shape_there

  decls_first : head (decl_faults ds) ≡ fault_of ds
  decls_first =
      let again = map Twice (names_again ds) in
      let unknown = map Unknown (names_unknown ds) in
      let circle = map Circle (names_on_circles ds) in
      let shape = map (λ (s : ℕ × Named). Shape s.0 s.1) (shapes_in ds) in
      let limit = map Limit (one_or_none (limit_passed ds)) in
      let twice_o = option_map Twice (name_twice ds) in
      let unknown_o = option_map Unknown (name_unknown ds) in
      let circle_o = option_map Circle (name_on_circle ds) in
      let shape_o = option_map (λ (s : ℕ × Named). Shape s.0 s.1) (first_shape ds) in
      let limit_o = option_map Limit (limit_passed ds) in
      both again (unknown ++ (circle ++ (shape ++ limit))) _ _ (mapped Twice (names_again ds) (name_twice ds) again_first)
      (both unknown (circle ++ (shape ++ limit)) _ _ (mapped Unknown (names_unknown ds) (name_unknown ds) (mapped _ (filter (is_unknown (declared_names ds)) (used_names ds)) _ refl))
      (both circle (shape ++ limit) _ _ (mapped Circle (names_on_circles ds) (name_on_circle ds) (mapped _ (filter (is_on_circle ds) (nesting_names ds)) _ refl))
      (both shape limit _ _ (mapped (λ (s : ℕ × Named). Shape s.0 s.1) (shapes_in ds) (first_shape ds) shapes_first)
      (mapped Limit (one_or_none (limit_passed ds)) (limit_passed ds) (head_one (limit_passed ds))))))
      ∙ sym (or_first_of twice_o (unknown_o ∷ circle_o ∷ shape_o ∷ limit_o ∷ [])
      ∙ ap (or_else twice_o) (or_first_of unknown_o (circle_o ∷ shape_o ∷ limit_o ∷ [])
      ∙ ap (or_else unknown_o) (or_first_of circle_o (shape_o ∷ limit_o ∷ [])
      ∙ ap (or_else circle_o) (or_first_of shape_o (limit_o ∷ [])
      ∙ ap (or_else shape_o) (or_last limit_o)))))
    where
      or_last : (o : Option Fault) → decls.first_of (o ∷ []) ≡ o
      or_last None = refl
      or_last (Some fault) = refl

-- ---- both

pub sources_first : (sources : List (List ℕ × List ℕ)) → head (faults_in sources) ≡ fault_of_sources (source_texts sources)
sources_first sources =
    let texts = source_texts sources in
    both (text_faults texts) (decl_faults (declared texts)) (fault_of_texts texts) (fault_of (declared texts)) (texts_first texts) (decls_first (declared texts))
