-- What texts declare is formed, and its words stand in the sources.
use Rattle.std.proofs.Common.{◌≡◌, ℕ, zero, suc, ◌+◌, ◌<◌, ◌≤◌, ◌-◌, Bool, true, List, [], ◌∷◌, ◌++◌, length, map, Option, Some, None, refl, sym, ap, subst, ◌∙◌, arith}
use Rattle.std.specs.Prelude.{flat_map, slice_get, take, drop, Result, Ok, Err, ◌&&◌}
use Rattle.std.specs.Option.{ForSome}
use Rattle.std.specs.List.{All, AllByRecursion, list_all}
use Rattle.std.proofs.lemmas.Bool.{and_parts, and_from}
use Rattle.std.proofs.lemmas.List.Folds.{list_all-append}
use Rattle.std.proofs.lemmas.List.Elements.{All-from_recursion, recursion_from_All}
use Rattle.spoc_base.specs.declared.place.Source.{Source}
use Rattle.spoc_lexer.specs.Tokens.{Tok, tokens_of}
use Rattle.spoc_ast.specs.Written.{Lexeme, NetPartText, NetIp, NetHost, NetNat, NetIdle, IfPartText, IfIp, IfHardware, IfBindNat, IfVirtual, IfIdle, RoutPartText, RoutManaged, RoutModel, RoutRouting, RoutIface, RoutIdle, DeclText, NetworkDecl, RouterDecl, GroupDecl, AreaDecl, AggregateDecl, ProtocolDecl, ProtocolGroupDecl, RestrictionDecl, ServiceDecl}
use Rattle.spoc_parser.specs.Trees.{DeclIn}
use Rattle.spoc_parser.specs.Files.{run_of, most_levels}
use Rattle.policy_decls.specs.Formed.{is_formed, are_formed}
use Rattle.policy_decls.specs.Spelled.{is_spelled_decl, are_spelled}
use Rattle.topology.specs.Texts.{LiesIn, text_at}
use Rattle.syntax_laws.specs.Said.{decls_said}
use Rattle.syntax_laws.specs.WordsIn.{IsSlice, perhaps_in, word_in, net_words, iface_words, router_words, words_in}
use Rattle.syntax_laws.proofs.Phrases.{halves}
use Rattle.syntax_laws.proofs.Spelled.{run_spelled}
use Rattle.syntax_laws.proofs.Whole.{run_formed, run_in_text}
use Rattle.spoc_base.specs.declared.fault.Fault.{Fault}
use Rattle.spoc_base.specs.declared.fault.Refusal.{Refusal}
use Rattle.spoc_base.specs.declared.fault.Refusal.TheVariants as refusal
use Rattle.topology.specs.First.{IsRefusalOf}
use Rattle.policy_decls.specs.Faults.{fault_of}
use Rattle.policy_files.specs.Fault.{toks_in, or_else, fault_of_texts}
use Rattle.policy_source.specs.Faults.{fault_of_sources}
use Rattle.policy_files.specs.OfTexts.{items_read, decls_of_text, declared_from, declared}
use Rattle.policy_files.specs.Seen.{texts_of}
use Rattle.policy_build.specs.Words.{IsWordOf, IsNetPartOf, IsIfPartOf, IsRoutPartOf, IsDeclOf, AreWordsOf}

-- ---- one text

-- the declarations of a text, by its tokens and by what the run of them reads
by_run : (k : ℕ) (text : List ℕ) (toks : List Tok) → tokens_of text ≡ Ok toks → (o : Option (List (DeclIn most_levels) × List Tok)) → run_of most_levels toks ≡ o →
    (are_formed (decls_said k most_levels (items_read o)) ≡ true) × All (IsSlice k text) (flat_map words_in (decls_said k most_levels (items_read o)))
by_run k text toks h None run = (refl, All-from_recursion (IsSlice k text) [] tt)
by_run k text toks h (Some r) run = (run_formed k most_levels text toks r.1 r.0 h run, run_in_text k most_levels text toks r.1 r.0 h run)

by_tokens : (k : ℕ) (text : List ℕ) (r : Result (List Tok) ℕ) → tokens_of text ≡ r →
    (are_formed (decls_said k most_levels (items_read (run_of most_levels (toks_in r)))) ≡ true) × All (IsSlice k text) (flat_map words_in (decls_said k most_levels (items_read (run_of most_levels (toks_in r)))))
by_tokens k text (Ok toks) h = by_run k text toks h (run_of most_levels toks) refl
by_tokens k text (Err offset) h = (refl, All-from_recursion (IsSlice k text) [] tt)

text_is : (k : ℕ) (text : List ℕ) → (are_formed (decls_of_text k text) ≡ true) × All (IsSlice k text) (flat_map words_in (decls_of_text k text))
text_is k text = by_tokens k text (tokens_of text) refl

-- ---- formed

both_formed : (xs ys : List DeclText) → are_formed xs ≡ true → are_formed ys ≡ true → are_formed (xs ++ ys) ≡ true
both_formed [] ys h g = g
both_formed (x ∷ xs) ys h g = let w = parts h in and_from (is_formed x) (are_formed (xs ++ ys)) w.0 (both_formed xs ys w.1 g)
  where
    parts : (is_formed x && are_formed xs) ≡ true → (is_formed x ≡ true) × (are_formed xs ≡ true)
    parts e = and_parts (is_formed x) (are_formed xs) e

formed_from : (k : ℕ) (texts : List (List ℕ)) → are_formed (declared_from k texts) ≡ true
formed_from k [] = refl
formed_from k (text ∷ texts) = both_formed (decls_of_text k text) (declared_from (k + 1) texts) (text_is k text).0 (formed_from (k + 1) texts)

pub formed : (texts : List (List ℕ)) → are_formed (declared texts) ≡ true
formed texts = formed_from 0 texts

-- ---- spelled

spelled_by_run : (k : ℕ) (text : List ℕ) (toks : List Tok) → tokens_of text ≡ Ok toks → (o : Option (List (DeclIn most_levels) × List Tok)) → run_of most_levels toks ≡ o →
    are_spelled (decls_said k most_levels (items_read o)) ≡ true
spelled_by_run k text toks h None run = refl
spelled_by_run k text toks h (Some r) run = run_spelled k most_levels text toks r.1 r.0 h run

spelled_by_tokens : (k : ℕ) (text : List ℕ) (r : Result (List Tok) ℕ) → tokens_of text ≡ r → are_spelled (decls_said k most_levels (items_read (run_of most_levels (toks_in r)))) ≡ true
spelled_by_tokens k text (Ok toks) h = spelled_by_run k text toks h (run_of most_levels toks) refl
spelled_by_tokens k text (Err offset) h = refl

spelled_from : (k : ℕ) (texts : List (List ℕ)) → are_spelled (declared_from k texts) ≡ true
spelled_from k [] = refl
spelled_from k (text ∷ texts) =
    list_all-append is_spelled_decl (decls_of_text k text) (declared_from (k + 1) texts)
    ∙ and_from (are_spelled (decls_of_text k text)) (are_spelled (declared_from (k + 1) texts)) (spelled_by_tokens k text (tokens_of text) refl) (spelled_from (k + 1) texts)

pub spelled : (texts : List (List ℕ)) → are_spelled (declared texts) ≡ true
spelled texts = spelled_from 0 texts

-- ---- written

same_source : (a b : Source) → Some a ≡ Some b → a ≡ b
same_source a b e = ap (go a) e
  where
    go : Source → Option Source → Source
    go d None = d
    go d (Some c) = c

module _ (sources : List Source) where
  -- the words of a file that is the k-th source
  word_of : (k : ℕ) (source : Source) → slice_get sources k ≡ Some source → k < length sources → (w : Lexeme) → IsSlice k source.text w → IsWordOf sources w
  word_of k source there below w s =
      let at : slice_get sources w.span.file ≡ Some source = ap (slice_get sources) s.source ∙ there in
      record {
        lies = record {
          file = subst (λ (n : ℕ). n < length sources) (sym s.source) below;
          order = s.order;
          inside = subst (λ (o : Option Source). ForSome o (λ source. w.span.«end» ≤ length source.text)) (sym at) (λ x e. subst (λ (t : Source). w.span.«end» ≤ length t.text) (same_source source x e) s.within);
        };
        same = ap (cut_by w) at ∙ s.bytes;
      }
    where
      cut_by : Lexeme → Option Source → List ℕ
      cut_by w None = []
      cut_by w (Some source) = take (w.span.«end» - w.span.start) (drop w.span.start source.text)

  module _ (S : Lexeme → Type 0) (word : (w : Lexeme) → S w → IsWordOf sources w) where
    each : {A : Type 0} (Q : A → Type 0) (words : A → List Lexeme) → ((x : A) → AllByRecursion S (words x) → Q x) → (xs : List A) → AllByRecursion S (flat_map words xs) → AllByRecursion Q xs
    each Q words s [] h = tt
    each Q words s (x ∷ xs) h = let both = halves S (words x) (flat_map words xs) h in (s x both.0, each Q words s xs both.1)

    behind : (desc : Option Lexeme) (words : List Lexeme) → AllByRecursion S (perhaps_in word_in desc ++ words) → AllByRecursion S words
    behind desc words h = (halves S (perhaps_in word_in desc) words h).1

    net_part : (part : NetPartText) → AllByRecursion S (net_words part) → IsNetPartOf sources part
    net_part (NetIp prefix) h = tt
    net_part (NetHost name parts) h = word name h.0
    net_part (NetNat name parts) h = word name h.0
    net_part (NetIdle idle) h = tt

    if_part : (part : IfPartText) → AllByRecursion S (iface_words part) → IsIfPartOf sources part
    if_part (IfIp address) h = tt
    if_part (IfHardware hardware) h = word hardware h.0
    if_part (IfBindNat tags) h = tt
    if_part (IfVirtual parts) h = tt
    if_part (IfIdle idle) h = tt

    rout_part : (part : RoutPartText) → AllByRecursion S (router_words part) → IsRoutPartOf sources part
    rout_part (RoutManaged filter) h = tt
    rout_part (RoutModel model) h = tt
    rout_part (RoutRouting routing) h = tt
    rout_part (RoutIface name parts) h = (word name h.0, All-from_recursion (IsIfPartOf sources) parts (each (IsIfPartOf sources) iface_words if_part parts h.1))
    rout_part (RoutIdle idle) h = tt

    decl_of : (d : DeclText) → AllByRecursion S (words_in d) → IsDeclOf sources d
    decl_of (NetworkDecl name desc parts) h =
        (word name h.0, All-from_recursion (IsNetPartOf sources) parts (each (IsNetPartOf sources) net_words net_part parts (behind desc (flat_map net_words parts) h.1)))
    decl_of (RouterDecl name desc parts) h =
        (word name h.0, All-from_recursion (IsRoutPartOf sources) parts (each (IsRoutPartOf sources) router_words rout_part parts (behind desc (flat_map router_words parts) h.1)))
    decl_of (GroupDecl name desc objects) h = word name h.0
    decl_of (AreaDecl name desc parts) h = word name h.0
    decl_of (AggregateDecl name desc parts) h = word name h.0
    decl_of (ProtocolDecl name protocol notes) h = word name h.0
    decl_of (ProtocolGroupDecl name prts) h = word name h.0
    decl_of (RestrictionDecl name desc ports) h = word name h.0
    decl_of (ServiceDecl name desc idle user rules) h = word name h.0

    decls_of : (ds : List DeclText) → AllByRecursion S (flat_map words_in ds) → AllByRecursion (IsDeclOf sources) ds
    decls_of ds h = each (IsDeclOf sources) words_in decl_of ds h

  both : (xs ys : List DeclText) → AllByRecursion (IsDeclOf sources) xs → AllByRecursion (IsDeclOf sources) ys → AllByRecursion (IsDeclOf sources) (xs ++ ys)
  both [] ys h g = g
  both (x ∷ xs) ys h g = (h.0, both xs ys h.1 g)

  -- the sources from the k-th on
  written_from : (k : ℕ) (rest : List Source) → ((j : ℕ) → slice_get sources (k + j) ≡ slice_get rest j) → k + length rest ≡ length sources →
      AllByRecursion (IsDeclOf sources) (declared_from k (texts_of rest))
  written_from k [] there long = tt
  written_from k (source ∷ rest) there long =
      let at : slice_get sources k ≡ Some source = (let e : k ≡ k + 0 = omega arith in ap (slice_get sources) e) ∙ there 0 in
      both (decls_of_text k source.text) (declared_from (k + 1) (texts_of rest))
      (decls_of (IsSlice k source.text) (word_of k source at (omega (arith, long))) (decls_of_text k source.text)
      (recursion_from_All (IsSlice k source.text) (flat_map words_in (decls_of_text k source.text)) (text_is k source.text).1))
      (written_from (k + 1) rest (λ j. (let e : (k + 1) + j ≡ k + suc j = omega arith in ap (slice_get sources) e) ∙ there (suc j)) (omega (arith, long)))

pub written : (sources : List Source) → AreWordsOf sources (declared (texts_of sources))
written sources = All-from_recursion (IsDeclOf sources) (declared (texts_of sources)) (written_from sources 0 sources (λ j. let e : 0 + j ≡ j = omega arith in ap (slice_get sources) e) (omega arith))

-- ---- faults

-- where the texts have no fault, that of the declarations counts
pub of_decls : (texts : List (List ℕ)) (decls : List DeclText) → fault_of_texts texts ≡ None → decls ≡ declared texts → fault_of_sources texts ≡ fault_of decls
of_decls texts decls ok said = ap (λ (o : Option Fault). or_else o (fault_of (declared texts))) ok ∙ ap fault_of (sym said)

pub refused_later : (texts : List (List ℕ)) (decls : List DeclText) (r : Refusal) → fault_of_texts texts ≡ None → decls ≡ declared texts →
    IsRefusalOf (λ fault. fault_of decls ≡ Some fault) r → IsRefusalOf (λ fault. fault_of_sources texts ≡ Some fault) r
refused_later texts decls (refusal.Policy fault) ok said e = of_decls texts decls ok said ∙ e
refused_later texts decls refusal.Memory ok said e = tt
