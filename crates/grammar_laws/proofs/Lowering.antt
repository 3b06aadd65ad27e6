-- Where no bracket opens a level too many, a tree of more levels than the limit stands for one of fewer.
use Rattle.std.proofs.Common.{◌≡◌, ◌≤◌, ℕ, zero, suc, ◌+◌, Bool, true, false, nat_le, List, [], ◌∷◌, ◌++◌, Some, None, take, slice_get, map, option_map, refl, sym, ap, subst, ◌∙◌, arith}
use Rattle.std.specs.Prelude.{codes}
use Rattle.spoc_lexer.specs.Tokens.{Tok}
use Rattle.token_checks.specs.Places.{passes_there, NonePasses}
use Rattle.token_checks.specs.Nesting.{most_levels, level_behind, opens_beyond, is_too_deep_at}
use Rattle.spoc_parser.specs.Trees.{network, host, port, group, aggregate, area, user, nets, hosts, anys, network_decl, router_decl, group_decl, area_decl, aggregate_decl, protocol_decl, protogroup_decl, restriction_decl, service_decl, DeclIn}
use Rattle.spoc_parser.specs.Phrases.{Phrase, ◌then◌, sign, perhaps, many, some, further, listed, listed_open}
use Rattle.spoc_parser.specs.Grammar.{SpellsIdle, SpellsTermOf, SpellsFurther, SpellsInter, SpellsSet, SpellsSetIn, action, SpellsRule, SpellsDecl, SpellsDeclIn, SpellsFile}
use Rattle.grammar_laws.specs.Levels.{level_past, most_set_levels, term_with, further_with, inter_with, set_with, raised, rule_with, decl_with, raised_decl, above, raised_by}
use Rattle.grammar_laws.proofs.Balanced.{IsEven, AreEven, sign_token, named_even, key_even, sign_even, comma_even, mark_even, desc_part_even, inside_part_even, many_even, idle_even, term_even, other_even, inter_even, set_in_even, rule_even, decl_in_even, file_even}

-- no bracket opens a level too many, from this level on
abbrev pub Within : List Tok → ℕ → Type 0
Within [] level = Unit {0}
Within (t ∷ toks) level = (opens_beyond level t ≡ false) × Within toks (level_behind level t)

split_within : (front behind : List Tok) (level : ℕ) → Within (front ++ behind) level → Within front level × Within behind (level_past level front)
split_within [] behind level h = (tt, h)
split_within (t ∷ front) behind level h = let s = split_within front behind (level_behind level t) h.1 in ((h.0, s.0), s.1)

within_places : (toks : List Tok) (level : ℕ) → ((place : ℕ) → passes_there (opens_beyond (level_past level (take place toks))) (slice_get toks place) ≡ false) → Within toks level
within_places [] level h = tt
within_places (t ∷ toks) level h = (h 0, within_places toks (level_behind level t) (λ place. h (suc place)))

pub none_too_deep : (toks : List Tok) → NonePasses (is_too_deep_at toks) → Within toks 0
none_too_deep toks h = within_places toks 0 h

pub part_within : {P : Phrase} → IsEven P → (level : ℕ) (toks front behind : List Tok) → P front → toks ≡ front ++ behind → Within toks level → Within front level × Within behind level
part_within p level toks front behind h e w =
    let s = split_within front behind level (subst (λ l. Within l level) e w) in
    (s.0, subst (λ n. Within behind n) (p.holds level front h) s.1)

-- where no bracket opens a level too many, what is spelled so is spelled as one of the family
pub record Finds (level : ℕ) (Q : Phrase) (A : Type 0) (P : A → Phrase) : Type 0 where
  pub found : (toks : List Tok) → Q toks → Within toks level → (a : A) × P a toks

-- one that f changes into this
abbrev pub Source : {A B : Type 0} → (A → B) → B → Type 0
Source {A} f b = (a : A) × (f a ≡ b)

-- where no bracket opens a level too many, what is spelled so is spelled so by one that f changes into it
abbrev pub Lowers : {A B : Type 0} → ℕ → (A → B) → (A → Phrase) → (B → Phrase) → Type 0
Lowers {A} {B} level f P Q = (b : B) → Finds level (Q b) (Source f b) (λ x. P x.0)

module _ {level : ℕ} where
  pub finds_behind : {P Q : Phrase} {A : Type 0} {R : A → Phrase} → IsEven P → Finds level Q A R → Finds level (P then Q) A (λ a. P then R a)
  finds_behind even q = record {
    found = λ toks h w.
        let parts = part_within even level toks h.0 h.1 h.2 h.4 w in
        let r = q.found h.1 h.3 parts.1 in
        (r.0, (h.0, h.1, h.2, r.1, h.4));
  }

  pub finds_front : {P Q : Phrase} {A : Type 0} {R : A → Phrase} → Finds level P A R → Finds level (P then Q) A (λ a. R a then Q)
  finds_front p = record {
    found = λ toks h w.
        let parts = split_within h.0 h.1 level (subst (λ l. Within l level) h.4 w) in
        let r = p.found h.0 h.2 parts.0 in
        (r.0, (h.0, h.1, r.1, h.3, h.4));
  }

  pub finds_both : {P Q : Phrase} {A B : Type 0} {R : A → Phrase} {S : B → Phrase} → IsEven P → Finds level P A R → Finds level Q B S → Finds level (P then Q) (A × B) (λ x. R x.0 then S x.1)
  finds_both even p q = record {
    found = λ toks h w.
        let parts = part_within even level toks h.0 h.1 h.2 h.4 w in
        let r = p.found h.0 h.2 parts.0 in
        let s = q.found h.1 h.3 parts.1 in
        ((r.0, s.0), (h.0, h.1, r.1, s.1, h.4));
  }

  -- as another family
  pub finds_as : {Q : Phrase} {A B : Type 0} {R : B → Phrase} (f : A → B) → Finds level Q A (λ a. R (f a)) → Finds level Q B R
  finds_as f q = record { found = λ toks h w. let r = q.found toks h w in (f r.0, r.1) }

  -- the same, which nothing has changed
  pub finds_same : {Q : Phrase} {B : Type 0} {R : B → Phrase} (b : B) → ((toks : List Tok) → Q toks → R b toks) → Finds level Q B R
  finds_same b q = record { found = λ toks h w. (b, q toks h) }

below : (level : ℕ) → nat_le most_levels level ≡ false → level + 1 ≤ most_levels
below level h = grind arith

-- the sign opens a level, wherever it stands
abbrev pub Opens : List ℕ → Type 0
Opens text = (level start : ℕ) → (opens_beyond level (sign_token text start) ≡ nat_le most_levels level) × (level_behind level (sign_token text start) ≡ level + 1)

brace_opens : Opens (codes "{")
brace_opens level start = (refl, refl)

bracket_opens : Opens (codes "[")
bracket_opens level start = (refl, refl)

-- behind an opening bracket one level more is open
finds_inside : {level : ℕ} {Q : Phrase} {A : Type 0} {R : A → Phrase} (text : List ℕ) → Opens text → (level + 1 ≤ most_levels → Finds (level + 1) Q A R) → Finds level (sign text then Q) A (λ a. sign text then R a)
finds_inside {level} text is q = record {
  found = λ toks h w.
      let first = subst (λ l. Within l level) (h.4 ∙ ap (λ l. l ++ h.1) h.2.1) w in
      let opening = is level h.2.0 in
      let r = (q (below level (sym opening.0 ∙ first.0))).found h.1 h.3 (subst (λ n. Within h.1 n) opening.1 first.1) in
      (r.0, (h.0, h.1, h.2, r.1, h.4));
}

module _ {level : ℕ} {A B : Type 0} (f : A → B) (P : A → Phrase) (Q : B → Phrase) (even : AreEven Q) (lowers : Lowers level f P Q) where
  pub perhaps_lowers : Lowers level (option_map f) (perhaps P) (perhaps Q)
  perhaps_lowers None = finds_same (None, refl) (λ toks h. h)
  perhaps_lowers (Some b) = finds_as (λ x. (Some x.0, ap Some x.1)) (lowers b)

  pub many_lowers : Lowers level (map f) (many P) (many Q)
  many_lowers [] = finds_same ([], refl) (λ toks h. h)
  many_lowers (b ∷ bs) = finds_as (λ x. (x.0.0 ∷ x.1.0, λ i. x.0.1 i ∷ x.1.1 i)) (finds_both (even b) (lowers b) (many_lowers bs))

  pub some_lowers : Lowers level (map f) (some P) (some Q)
  some_lowers [] = finds_same ([], refl) (λ toks h. h)
  some_lowers (b ∷ bs) = finds_as (λ x. (x.0.0 ∷ x.1.0, λ i. x.0.1 i ∷ x.1.1 i)) (finds_both (even b) (lowers b) (many_lowers bs))

module _ {level : ℕ} {A B : Type 0} (f : A → B) (P : A → Phrase) (Q : B → Phrase) (even : AreEven Q) (lowers : Lowers level f P Q) where
  comma_lowers : Lowers level f (λ x. sign (codes ",") then P x) (λ x. sign (codes ",") then Q x)
  comma_lowers b = finds_behind (sign_even (codes ",") (λ level start. refl)) (lowers b)

  further_lowers : Lowers level (map f) (further P) (further Q)
  further_lowers = many_lowers f (λ x. sign (codes ",") then P x) (λ x. sign (codes ",") then Q x) (comma_even Q even) comma_lowers

  listed_lowers : Lowers level (map f) (listed P) (listed Q)
  listed_lowers [] = finds_same ([], refl) (λ toks h. h)
  listed_lowers (b ∷ bs) = finds_as (λ x. (x.0.0 ∷ x.1.0, λ i. x.0.1 i ∷ x.1.1 i)) (finds_both (even b) (lowers b) (further_lowers bs))

  pub listed_open_lowers : Lowers level (map f) (listed_open P) (listed_open Q)
  listed_open_lowers bs = finds_front (listed_lowers bs)

module _ {S T : Type 0} (f : S → T) (P : S → Phrase) (Q : T → Phrase) (even : AreEven Q) (level : ℕ) (inside : level + 1 ≤ most_levels → Lowers (level + 1) f P Q) where
  bracket_lowers : Lowers level f (λ s. sign (codes "[") then P s then sign (codes "]")) (λ t. sign (codes "[") then Q t then sign (codes "]"))
  bracket_lowers set = finds_inside (codes "[") bracket_opens (λ low. finds_front (inside low set))

  pub term_lowers : (u a : Bool) → Lowers level (term_with f) (SpellsTermOf u a P) (SpellsTermOf u a Q)
  term_lowers u a (network name) = finds_same (network name, refl) (λ toks h. h)
  term_lowers u a (host name) = finds_same (host name, refl) (λ toks h. h)
  term_lowers u a (port place) = finds_same (port place, refl) (λ toks h. h)
  term_lowers u a (group name) = finds_same (group name, refl) (λ toks h. h)
  term_lowers u a (aggregate name) = finds_same (aggregate name, refl) (λ toks h. h)
  term_lowers u a (area name) = finds_same (area name, refl) (λ toks h. h)
  term_lowers u a user = finds_same (user, refl) (λ toks h. h)
  term_lowers u a (nets set) = finds_as (λ x. (nets x.0, ap nets x.1)) (finds_behind (key_even (codes "network:")) (bracket_lowers set))
  term_lowers u a (hosts set) = finds_as (λ x. (hosts x.0, ap hosts x.1)) (finds_behind (key_even (codes "host:")) (bracket_lowers set))
  term_lowers u a (anys prefix set) =
      finds_as (λ x. (anys prefix x.0, ap (anys prefix) x.1)) (finds_behind (key_even (codes "any:")) (finds_inside (codes "[") bracket_opens (λ low. finds_behind (inside_part_even prefix) (finds_front (inside low set)))))

module _ {level : ℕ} {T U : Type 0} (f : T → U) (P : T → Phrase) (Q : U → Phrase) (even : AreEven Q) (lowers : Lowers level f P Q) where
  other_lowers : Lowers level (further_with f) (SpellsFurther P) (SpellsFurther Q)
  other_lowers t = finds_as (λ x. ((t.0, x.0), λ i. (t.0, x.1 i))) (finds_behind (sign_even (codes "&") (λ level start. refl)) (finds_behind (mark_even t.0) (lowers t.1)))

  inter_lowers : Lowers level (inter_with f) (SpellsInter P) (SpellsInter Q)
  inter_lowers i = finds_as (λ x. ((x.0.0, x.1.0), λ k. (x.0.1 k, x.1.1 k))) (finds_both (even i.0) (lowers i.0) (many_lowers (further_with f) (SpellsFurther P) (SpellsFurther Q) (other_even Q even) other_lowers i.1))

  pub set_lowers : Lowers level (set_with f) (SpellsSet P) (SpellsSet Q)
  set_lowers = listed_open_lowers (inter_with f) (SpellsInter P) (SpellsInter Q) (inter_even Q even) inter_lowers

-- a set at a level has no more levels than are left
pub set_in_lowers : (u : Bool) (depth : ℕ) (a : Bool) (level : ℕ) → level ≤ most_levels → most_set_levels ≤ level + depth → Lowers level (raised depth) (SpellsSetIn u depth a) (SpellsSetIn u (suc depth) a)
set_in_lowers u zero a level low deep = absurd (omega (arith, low, deep))
set_in_lowers u (suc depth) a level low deep =
    set_lowers (term_with (raised depth)) (SpellsTermOf u a (SpellsSetIn u depth true)) (SpellsTermOf u a (SpellsSetIn u (suc depth) true))
    (term_even (SpellsSetIn u (suc depth) true) (set_in_even u (suc depth) true) u a)
    (term_lowers (raised depth) (SpellsSetIn u depth true) (SpellsSetIn u (suc depth) true) (set_in_even u (suc depth) true) level (λ lower. set_in_lowers u depth true (level + 1) lower (omega (arith, deep))) u a)

equals_even : IsEven (sign (codes "="))
equals_even = sign_even (codes "=") (λ level start. refl)

end_even : IsEven (sign (codes ";"))
end_even = sign_even (codes ";") (λ level start. refl)

module _ {level : ℕ} {S T : Type 0} (f : S → T) (P : S → Phrase) (Q : T → Phrase) (even : AreEven Q) (lowers : Lowers level f P Q) where
  pub rule_lowers : Lowers level (rule_with f) (SpellsRule P) (SpellsRule Q)
  rule_lowers rule =
      finds_as (λ x. (record { deny = rule.deny; src = x.0.0; dst = x.1.0; prts = rule.prts }, λ i. record { deny = rule.deny; src = x.0.1 i; dst = x.1.1 i; prts = rule.prts }))
      (finds_behind (key_even (action rule.deny)) (finds_behind (key_even (codes "src")) (finds_behind equals_even (finds_both (even rule.src) (lowers rule.src)
      (finds_behind end_even (finds_behind (key_even (codes "dst")) (finds_behind equals_even (finds_front (lowers rule.dst)))))))))

-- a declaration outside brackets: a group's set is at level 0, and those of a service are at level 1
module _ {S T : Type 0} (f : S → T) (P in_rules : S → Phrase) (Q in_rules' : T → Phrase) (even : AreEven Q) (even' : AreEven in_rules') (group_lowers : Lowers 0 f P Q) (user_lowers : Lowers 1 f P Q) (side_lowers : Lowers 1 f in_rules in_rules') where
  pub decl_lowers : Lowers 0 (decl_with f) (SpellsDecl P in_rules) (SpellsDecl Q in_rules')
  decl_lowers (network_decl name desc parts) = finds_same (network_decl name desc parts, refl) (λ toks h. h)
  decl_lowers (router_decl name desc parts) = finds_same (router_decl name desc parts, refl) (λ toks h. h)
  decl_lowers (group_decl name desc objects) =
      finds_as (λ x. (group_decl name desc x.0, ap (group_decl name desc) x.1))
      (finds_behind (named_even (codes "group:") name) (finds_behind equals_even (finds_behind (desc_part_even desc) (finds_front (perhaps_lowers f P Q even group_lowers objects)))))
  decl_lowers (area_decl name desc parts) = finds_same (area_decl name desc parts, refl) (λ toks h. h)
  decl_lowers (aggregate_decl name desc parts) = finds_same (aggregate_decl name desc parts, refl) (λ toks h. h)
  decl_lowers (protocol_decl name proto notes) = finds_same (protocol_decl name proto notes, refl) (λ toks h. h)
  decl_lowers (protogroup_decl name prts) = finds_same (protogroup_decl name prts, refl) (λ toks h. h)
  decl_lowers (restriction_decl name desc ports) = finds_same (restriction_decl name desc ports, refl) (λ toks h. h)
  decl_lowers (service_decl name desc idle users rules) =
      finds_as (λ x. (service_decl name desc idle x.0.0 x.1.0, λ i. service_decl name desc idle (x.0.1 i) (x.1.1 i)))
      (finds_behind (named_even (codes "service:") name) (finds_behind equals_even (finds_inside (codes "{") brace_opens (λ low.
      finds_behind (desc_part_even desc) (finds_behind (many_even SpellsIdle idle_even idle) (finds_behind (key_even (codes "user")) (finds_behind equals_even
      (finds_both (even users) (user_lowers users) (finds_behind end_even (finds_front (some_lowers (rule_with f) (SpellsRule in_rules) (SpellsRule in_rules') (rule_even in_rules' even') (rule_lowers f in_rules in_rules' even' side_lowers) rules)))))))))))

pub decl_in_lowers : (depth : ℕ) → most_set_levels ≤ depth → Lowers 0 (raised_decl depth) (SpellsDeclIn depth) (SpellsDeclIn (suc depth))
decl_in_lowers depth deep =
    decl_lowers (raised depth) (SpellsSetIn false depth false) (SpellsSetIn true depth false) (SpellsSetIn false (suc depth) false) (SpellsSetIn true (suc depth) false)
    (set_in_even false (suc depth) false) (set_in_even true (suc depth) false)
    (set_in_lowers false depth false 0 (omega arith) (omega (arith, deep)))
    (set_in_lowers false depth false 1 (omega arith) (omega (arith, deep)))
    (set_in_lowers true depth false 1 (omega arith) (omega (arith, deep)))

pub adds_up : (more depth : ℕ) → above more depth ≡ depth + more
adds_up zero depth = omega arith
adds_up (suc more) depth = omega (arith, adds_up more depth)

pub no_less : (more depth : ℕ) → depth ≤ above more depth
no_less zero depth = omega arith
no_less (suc more) depth = omega (arith, no_less more depth)

pub decl_by_lowers : (more depth : ℕ) → most_set_levels ≤ depth → Lowers 0 (raised_by more depth) (SpellsDeclIn depth) (SpellsDeclIn (above more depth))
decl_by_lowers zero depth deep decl = finds_same (decl, refl) (λ toks h. h)
decl_by_lowers (suc more) depth deep decl = record {
  found = λ toks h w.
      let one = (decl_in_lowers (above more depth) (omega (arith, deep, no_less more depth)) decl).found toks h w in
      let rest = (decl_by_lowers more depth deep one.0.0).found toks one.1 w in
      ((rest.0.0, ap (raised_decl (above more depth)) rest.0.1 ∙ one.0.1), rest.1);
}

pub file_by_lowers : (more depth : ℕ) → most_set_levels ≤ depth → Lowers 0 (map (raised_by more depth)) (SpellsFile depth) (SpellsFile (above more depth))
file_by_lowers more depth deep = many_lowers (raised_by more depth) (SpellsDeclIn depth) (SpellsDeclIn (above more depth)) (decl_in_even (above more depth)) (decl_by_lowers more depth deep)

pub files_are_lowered : (more depth : ℕ) (toks front behind : List Tok) (decls : List (DeclIn (above more depth))) → most_set_levels ≤ depth → NonePasses (is_too_deep_at toks) → toks ≡ front ++ behind
    → SpellsFile (above more depth) decls front → (low : List (DeclIn depth)) × SpellsFile depth low front × (map (raised_by more depth) low ≡ decls)
files_are_lowered more depth toks front behind decls deep none e h =
    let parts = part_within (file_even (above more depth) decls) 0 toks front behind h e (none_too_deep toks none) in
    let r = (file_by_lowers more depth deep decls).found front h parts.0 in
    (r.0.0, r.1, r.0.1)

pub decls_are_lowered : (more depth other : ℕ) (toks before front behind : List Tok) (earlier : List (DeclIn other)) (decl : DeclIn (above more depth)) → most_set_levels ≤ depth → NonePasses (is_too_deep_at toks)
    → toks ≡ before ++ (front ++ behind) → SpellsFile other earlier before → SpellsDeclIn (above more depth) decl front → (low : DeclIn depth) × SpellsDeclIn depth low front × (raised_by more depth low ≡ decl)
decls_are_lowered more depth other toks before front behind earlier decl deep none e g h =
    let parts = part_within (file_even other earlier) 0 toks before (front ++ behind) g e (none_too_deep toks none) in
    let own = part_within (decl_in_even (above more depth) decl) 0 (front ++ behind) front behind h refl parts.1 in
    let r = (decl_by_lowers more depth deep decl).found front h own.0 in
    (r.0.0, r.1, r.0.1)
