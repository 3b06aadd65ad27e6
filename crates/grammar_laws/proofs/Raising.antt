-- A tree that may have a level more spells what it spelled before.
use Rattle.std.proofs.Common.{ℕ, zero, suc, Bool, true, false, List, [], ◌∷◌, Some, None, map, option_map}
use Rattle.spoc_lexer.specs.Tokens.{Tok}
use Rattle.std.specs.Prelude.{codes}
use Rattle.spoc_parser.specs.Trees.{network, host, port, group, aggregate, area, user, nets, hosts, anys, SetIn, network_decl, router_decl, group_decl, area_decl, aggregate_decl, protocol_decl, protogroup_decl, restriction_decl, service_decl}
use Rattle.spoc_parser.specs.Phrases.{Phrase, ◌then◌, sign, perhaps, many, some, further, listed, listed_open}
use Rattle.spoc_parser.specs.Grammar.{SpellsTermOf, SpellsFurther, SpellsInter, SpellsSet, SpellsNone, SpellsSetIn, SpellsRule, SpellsDecl, SpellsDeclIn, SpellsFile}
use Rattle.grammar_laws.specs.Levels.{term_with, further_with, inter_with, set_with, no_set, raised, rule_with, decl_with, raised_decl, above, raised_by}

-- what is changed by f spells what it spelled before
abbrev pub Keeps : {A B : Type 0} → (A → B) → (A → Phrase) → (B → Phrase) → Type 0
Keeps {A} f P Q = (a : A) (toks : List Tok) → P a toks → Q (f a) toks

module _ {A B : Type 0} (f : A → B) (P : A → Phrase) (Q : B → Phrase) (keeps : Keeps f P Q) where
  pub perhaps_keeps : Keeps (option_map f) (perhaps P) (perhaps Q)
  perhaps_keeps None toks h = h
  perhaps_keeps (Some x) toks h = keeps x toks h

  pub many_keeps : Keeps (map f) (many P) (many Q)
  many_keeps [] toks h = h
  many_keeps (x ∷ xs) toks h = (h.0, h.1, keeps x h.0 h.2, many_keeps xs h.1 h.3, h.4)

  pub some_keeps : Keeps (map f) (some P) (some Q)
  some_keeps [] toks h = h
  some_keeps (x ∷ xs) toks h = (h.0, h.1, keeps x h.0 h.2, many_keeps xs h.1 h.3, h.4)

module _ {A B : Type 0} (f : A → B) (P : A → Phrase) (Q : B → Phrase) (keeps : Keeps f P Q) where
  comma_keeps : Keeps f (λ x. sign (codes ",") then P x) (λ x. sign (codes ",") then Q x)
  comma_keeps x toks h = (h.0, h.1, h.2, keeps x h.1 h.3, h.4)

  further_keeps : Keeps (map f) (further P) (further Q)
  further_keeps = many_keeps f (λ x. sign (codes ",") then P x) (λ x. sign (codes ",") then Q x) comma_keeps

  listed_keeps : Keeps (map f) (listed P) (listed Q)
  listed_keeps [] toks h = h
  listed_keeps (x ∷ xs) toks h = (h.0, h.1, keeps x h.0 h.2, further_keeps xs h.1 h.3, h.4)

  pub listed_open_keeps : Keeps (map f) (listed_open P) (listed_open Q)
  listed_open_keeps xs toks h = (h.0, h.1, listed_keeps xs h.0 h.2, h.3, h.4)

module _ {S T : Type 0} (f : S → T) (P : S → Phrase) (Q : T → Phrase) (keeps : Keeps f P Q) where
  bracket_keeps : Keeps f (λ s. sign (codes "[") then P s then sign (codes "]")) (λ t. sign (codes "[") then Q t then sign (codes "]"))
  bracket_keeps s toks h = (h.0, h.1, h.2, (h.3.0, h.3.1, keeps s h.3.0 h.3.2, h.3.3, h.3.4), h.4)

  term_keeps : (u a : Bool) → Keeps (term_with f) (SpellsTermOf u a P) (SpellsTermOf u a Q)
  term_keeps u a (network name) toks h = h
  term_keeps u a (host name) toks h = h
  term_keeps u a (port place) toks h = h
  term_keeps u a (group name) toks h = h
  term_keeps u a (aggregate name) toks h = h
  term_keeps u a (area name) toks h = h
  term_keeps u a user toks h = h
  term_keeps u a (nets set) toks h = (h.0, h.1, h.2, bracket_keeps set h.1 h.3, h.4)
  term_keeps u a (hosts set) toks h = (h.0, h.1, h.2, bracket_keeps set h.1 h.3, h.4)
  term_keeps u a (anys inside set) toks h =
      (h.0, h.1, h.2, (h.3.0, h.3.1, h.3.2, (h.3.3.0, h.3.3.1, h.3.3.2, (h.3.3.3.0, h.3.3.3.1, keeps set h.3.3.3.0 h.3.3.3.2, h.3.3.3.3, h.3.3.3.4), h.3.3.4), h.3.4), h.4)

module _ {T U : Type 0} (f : T → U) (P : T → Phrase) (Q : U → Phrase) (keeps : Keeps f P Q) where
  other_keeps : Keeps (further_with f) (SpellsFurther P) (SpellsFurther Q)
  other_keeps t toks h = (h.0, h.1, h.2, (h.3.0, h.3.1, h.3.2, keeps t.1 h.3.1 h.3.3, h.3.4), h.4)

  inter_keeps : Keeps (inter_with f) (SpellsInter P) (SpellsInter Q)
  inter_keeps i toks h = (h.0, h.1, keeps i.0 h.0 h.2, many_keeps (further_with f) (SpellsFurther P) (SpellsFurther Q) other_keeps i.1 h.1 h.3, h.4)

  set_keeps : Keeps (set_with f) (SpellsSet P) (SpellsSet Q)
  set_keeps = listed_open_keeps (inter_with f) (SpellsInter P) (SpellsInter Q) inter_keeps

none_keeps : (Q : SetIn (suc zero) → Phrase) → Keeps no_set SpellsNone Q
none_keeps Q none toks h = absurd h

pub set_in_keeps : (u : Bool) (depth : ℕ) (a : Bool) → Keeps (raised depth) (SpellsSetIn u depth a) (SpellsSetIn u (suc depth) a)
set_in_keeps u zero a = none_keeps (SpellsSetIn u (suc zero) a)
set_in_keeps u (suc depth) a =
    set_keeps (term_with (raised depth)) (SpellsTermOf u a (SpellsSetIn u depth true)) (SpellsTermOf u a (SpellsSetIn u (suc depth) true))
    (term_keeps (raised depth) (SpellsSetIn u depth true) (SpellsSetIn u (suc depth) true) (set_in_keeps u depth true) u a)

module _ {S T : Type 0} (f : S → T) (P P' : S → Phrase) (Q Q' : T → Phrase) (keeps : Keeps f P Q) (keeps' : Keeps f P' Q') where
  side_keeps : {R R' : Phrase} → ((toks : List Tok) → R toks → R' toks) → Keeps f (λ s. sign (codes "=") then P' s then sign (codes ";") then R) (λ s. sign (codes "=") then Q' s then sign (codes ";") then R')
  side_keeps r s toks h = (h.0, h.1, h.2, (h.3.0, h.3.1, keeps' s h.3.0 h.3.2, (h.3.3.0, h.3.3.1, h.3.3.2, r h.3.3.1 h.3.3.3, h.3.3.4), h.3.4), h.4)

  rule_keeps : Keeps (rule_with f) (SpellsRule P') (SpellsRule Q')
  rule_keeps rule toks h =
      (h.0, h.1, h.2, (h.3.0, h.3.1, h.3.2, side_keeps (λ toks g. (g.0, g.1, g.2, side_keeps (λ toks r. r) rule.dst g.1 g.3, g.4)) rule.src h.3.1 h.3.3, h.3.4), h.4)

  users_keep : {R R' : Phrase} → ((toks : List Tok) → R toks → R' toks) → Keeps f (λ s. sign (codes "=") then P s then sign (codes ";") then R) (λ s. sign (codes "=") then Q s then sign (codes ";") then R')
  users_keep r s toks h = (h.0, h.1, h.2, (h.3.0, h.3.1, keeps s h.3.0 h.3.2, (h.3.3.0, h.3.3.1, h.3.3.2, r h.3.3.1 h.3.3.3, h.3.3.4), h.3.4), h.4)

  pub decl_keeps : Keeps (decl_with f) (SpellsDecl P P') (SpellsDecl Q Q')
  decl_keeps (network_decl name desc parts) toks h = h
  decl_keeps (router_decl name desc parts) toks h = h
  decl_keeps (group_decl name desc objects) toks h =
      (h.0, h.1, h.2, (h.3.0, h.3.1, h.3.2, (h.3.3.0, h.3.3.1, h.3.3.2, (h.3.3.3.0, h.3.3.3.1, perhaps_keeps f P Q keeps objects h.3.3.3.0 h.3.3.3.2, h.3.3.3.3, h.3.3.3.4), h.3.3.4), h.3.4), h.4)
  decl_keeps (area_decl name desc parts) toks h = h
  decl_keeps (aggregate_decl name desc parts) toks h = h
  decl_keeps (protocol_decl name proto notes) toks h = h
  decl_keeps (protogroup_decl name prts) toks h = h
  decl_keeps (restriction_decl name desc ports) toks h = h
  decl_keeps (service_decl name desc idle users rules) toks h =
      let inner = h.3.3.3.3 in (
        h.0,
        h.1,
        h.2,
        (
          h.3.0,
          h.3.1,
          h.3.2,
          (
            h.3.3.0,
            h.3.3.1,
            h.3.3.2,
            (
              h.3.3.3.0,
              h.3.3.3.1,
              h.3.3.3.2,
              (inner.0, inner.1, inner.2, (inner.3.0, inner.3.1, inner.3.2, users_keep rules_keep users inner.3.1 inner.3.3, inner.3.4), inner.4),
              h.3.3.3.4,
            ),
            h.3.3.4,
          ),
          h.3.4,
        ),
        h.4,
      )
    where
      rules_keep : (toks : List Tok) → (some (SpellsRule P') rules then sign (codes "}")) toks → (some (SpellsRule Q') (map (rule_with f) rules) then sign (codes "}")) toks
      rules_keep toks g = (g.0, g.1, some_keeps (rule_with f) (SpellsRule P') (SpellsRule Q') rule_keeps rules g.0 g.2, g.3, g.4)

pub raised_spells : (depth : ℕ) → Keeps (raised_decl depth) (SpellsDeclIn depth) (SpellsDeclIn (suc depth))
raised_spells depth =
    decl_keeps (raised depth) (SpellsSetIn false depth false) (SpellsSetIn true depth false) (SpellsSetIn false (suc depth) false) (SpellsSetIn true (suc depth) false)
    (set_in_keeps false depth false) (set_in_keeps true depth false)

pub raised_by_spells : (more depth : ℕ) → Keeps (raised_by more depth) (SpellsDeclIn depth) (SpellsDeclIn (above more depth))
raised_by_spells zero depth decl toks h = h
raised_by_spells (suc more) depth decl toks h = raised_spells (above more depth) (raised_by more depth decl) toks (raised_by_spells more depth decl toks h)

pub files_by_spell : (more depth : ℕ) → Keeps (map (raised_by more depth)) (SpellsFile depth) (SpellsFile (above more depth))
files_by_spell more depth = many_keeps (raised_by more depth) (SpellsDeclIn depth) (SpellsDeclIn (above more depth)) (raised_by_spells more depth)
