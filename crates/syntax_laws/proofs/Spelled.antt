-- The names and the hardware of what is in the grammar are words.
use Rattle.std.proofs.Common.{◌≡◌, ◌∙◌, ℕ, ◌+◌, Bool, true, false, not, ◌&&◌, ◌||◌, List, [], ◌∷◌, ◌++◌, length, map, Option, Some, None, Ok, refl, sym, ap, subst, append_assoc}
use Rattle.std.specs.Prelude.{◌==◌, nat_le, codes, flat_map}
use Rattle.std.specs.List.{AllByRecursion, list_all}
use Rattle.std.proofs.lemmas.Bool.{and_parts}
use Rattle.std.proofs.lemmas.List.Folds.{list_all-append}
use Rattle.std.proofs.lemmas.List.Elements.{recursion_from_All}
use Rattle.spoc_base.specs.Spelling.{is_word_byte, is_spelled}
use Rattle.spoc_lexer.specs.Tokens.{Tok, tokens_of}
use Rattle.spoc_lexer.specs.Bytes.{is_word}
use Rattle.spoc_lexer.specs.declared.token.TokenKind.TheVariants as kinds
use Rattle.spoc_lexer.specs.Grammar.{Piece, Blank, Comment, Word, Sign, Text, StandsBefore, Stand, tokens_from}
use Rattle.spoc_lexer.proofs.Dividing.{has_tokens}
use Rattle.spoc_parser.specs.declared.forms.Form.TheVariants.{Any}
use Rattle.spoc_parser.specs.Trees as trees
use Rattle.spoc_parser.specs.Trees.{NetItem, net_ip, net_host, net_nat, net_idle, IfaceItem, iface_ip, iface_hardware, iface_bind_nat, iface_virtual, iface_idle, RouterItem, router_managed, router_model, router_routing, router_iface, router_idle, DeclOf, network_decl, router_decl, group_decl, area_decl, aggregate_decl, protocol_decl, protogroup_decl, restriction_decl, service_decl, DeclIn}
use Rattle.spoc_parser.specs.Texts.{is_empty, is_name_byte, is_name}
use Rattle.spoc_parser.specs.Phrases.{Phrase, a_word, named}
use Rattle.spoc_parser.specs.Files.{run_of}
use Rattle.spoc_parser.specs.Grammar.{SpellsNetItem, SpellsIfaceItem, SpellsRouterItem, SpellsSetIn, SpellsDecl, SpellsFile}
use Rattle.grammar_laws.proofs.Runs.{file_sound}
use Rattle.spoc_ast.specs.Written.{Lexeme, SetText}
use Rattle.policy_decls.specs.Names.{Mention, names_in_net_part, names_in_rout_part}
use Rattle.policy_decls.specs.Lookup.{is_managed_router, ifaces_in_part, hardware_in}
use Rattle.policy_decls.specs.Lookup as look
use Rattle.policy_decls.specs.Spelled.{is_spelled_decl, are_spelled}
use Rattle.syntax_laws.specs.Said.{lexeme_said, net_item_said, iface_item_said, router_item_said, decl_of_said, set_said, decl_said, decls_said}
use Rattle.syntax_laws.proofs.Numbers.{passes_both}
use Rattle.syntax_laws.proofs.Phrases.{Gives, halves, left, right, each, setting_gives, always, then_so, either, none_gives, many_gives, body_gives, parts_give}

-- ---- bytes

-- a word's token has bytes of words
abbrev IsOfWord : Tok → Type 0
IsOfWord tok = tok.kind ≡ kinds.Word → is_spelled tok.text ≡ true

widened : (a b d e f x y z : Bool) → (a || (b || (d || (e || f)))) ≡ true → (a || (b || (d || (e || (x || (y || (z || f))))))) ≡ true
widened true b d e f x y z h = refl
widened false true d e f x y z h = refl
widened false false true e f x y z h = refl
widened false false false true f x y z h = refl
widened false false false false f true y z h = refl
widened false false false false f false true z h = refl
widened false false false false f false false true h = refl
widened false false false false f false false false h = h

name_spelled : (text : List ℕ) → list_all is_name_byte text ≡ true → is_spelled text ≡ true
name_spelled [] h = refl
name_spelled (b ∷ bs) h =
    let w = and_parts (is_name_byte b) (list_all is_name_byte bs) h in
    passes_both (is_word_byte b) (is_spelled bs) (widened (nat_le 65 b && nat_le b 90) (nat_le 97 b && nat_le b 122) (nat_le 48 b && nat_le b 57) (b == 95) (b == 45) (b == 46) (b == 58) (b == 47) w.0) (name_spelled bs w.1)

-- ---- tokens

abbrev IsOfBytes : Piece → Type 0
IsOfBytes (Blank byte) = Unit {0}
IsOfBytes (Comment line) = Unit {0}
IsOfBytes (Word own) = is_spelled own ≡ true
IsOfBytes (Sign byte) = Unit {0}
IsOfBytes (Text line) = Unit {0}

each_passes : (test : ℕ → Bool) (xs : List ℕ) → AllByRecursion (λ x. test x ≡ true) xs → list_all test xs ≡ true
each_passes test [] h = refl
each_passes test (x ∷ xs) h = passes_both (test x) (list_all test xs) h.0 (each_passes test xs h.1)

piece_spelled : (piece : Piece) (bytes : List ℕ) → StandsBefore piece bytes → IsOfBytes piece
piece_spelled (Blank byte) bytes h = tt
piece_spelled (Comment line) bytes h = tt
piece_spelled (Word own) bytes h = each_passes is_word_byte own (recursion_from_All (λ b. is_word b ≡ true) own h.1)
piece_spelled (Sign byte) bytes h = tt
piece_spelled (Text line) bytes h = tt

pieces_spelled : (pieces before rest : List Piece) → Stand pieces [] → pieces ≡ before ++ rest → AllByRecursion IsOfBytes rest
pieces_spelled pieces before [] s e = tt
pieces_spelled pieces before (piece ∷ rest) s e =
    (piece_spelled piece _ (s.each before rest piece e), pieces_spelled pieces (before ++ piece ∷ []) rest s (e ∙ sym (append_assoc before (piece ∷ []) rest)))

tokens_spelled : (at : ℕ) (pieces : List Piece) → AllByRecursion IsOfBytes pieces → AllByRecursion IsOfWord (tokens_from at pieces)
tokens_spelled at [] h = tt
tokens_spelled at (Blank byte ∷ pieces) h = tokens_spelled (at + 1) pieces h.1
tokens_spelled at (Comment line ∷ pieces) h = tokens_spelled (at + length (35 ∷ line)) pieces h.1
tokens_spelled at (Word own ∷ pieces) h = (λ kind. h.0, tokens_spelled (at + length own) pieces h.1)
tokens_spelled at (Sign byte ∷ pieces) h = (λ kind. cc, tokens_spelled (at + 1) pieces h.1)
tokens_spelled at (Text line ∷ pieces) h = (λ kind. cc, tokens_spelled (at + length line) pieces h.1)

all_spelled : (text : List ℕ) (toks : List Tok) → tokens_of text ≡ Ok toks → AllByRecursion IsOfWord toks
all_spelled text toks h =
    let found = has_tokens text toks h in
    subst (AllByRecursion IsOfWord) found.2 (tokens_spelled 0 found.0 (pieces_spelled found.0 [] found.0 found.1.0 refl))

-- ---- names and hardware

abbrev spells_name : Mention → Bool
spells_name m = is_spelled m.text

abbrev spells_word : Lexeme → Bool
spells_word w = is_spelled w.text

named_gives : (kind : List ℕ) (name : trees.Lexeme) → Gives IsOfWord (named kind name) (is_spelled name.text ≡ true)
named_gives kind name = record { gives = λ toks all p. name_spelled name.text (and_parts (not (is_empty name.text)) (list_all is_name_byte name.text) p.1).1 }

hardware_gives : (word : trees.Lexeme) → Gives IsOfWord (a_word Any word) (is_spelled word.text ≡ true)
hardware_gives word = record { gives = λ toks all p. (subst (AllByRecursion IsOfWord) p.1 all).0 refl }

one_name : (name : List ℕ) → is_spelled name ≡ true → (is_spelled name && true) ≡ true
one_name name h = passes_both (is_spelled name) true h refl

flat_all : {A B C : Type 0} (test : C → Bool) (f : B → List C) (g : A → B) (xs : List A) → AllByRecursion (λ x. list_all test (f (g x)) ≡ true) xs → list_all test (flat_map f (map g xs)) ≡ true
flat_all test f g [] h = refl
flat_all test f g (x ∷ xs) h = list_all-append test (f (g x)) (flat_map f (map g xs)) ∙ passes_both (list_all test (f (g x))) _ h.0 (flat_all test f g xs h.1)

flat_append : {A B : Type 0} (f : A → List B) (xs ys : List A) → flat_map f (xs ++ ys) ≡ flat_map f xs ++ flat_map f ys
flat_append f [] ys = refl
flat_append f (x ∷ xs) ys = ap (λ l. f x ++ l) (flat_append f xs ys) ∙ sym (append_assoc (f x) (flat_map f xs) (flat_map f ys))

twice_all : {A B C D : Type 0} (test : D → Bool) (h : C → List D) (f : B → List C) (g : A → B) (xs : List A) → AllByRecursion (λ x. list_all test (flat_map h (f (g x))) ≡ true) xs →
    list_all test (flat_map h (flat_map f (map g xs))) ≡ true
twice_all test h f g [] k = refl
twice_all test h f g (x ∷ xs) k =
    ap (list_all test) (flat_append h (f (g x)) (flat_map f (map g xs))) ∙ list_all-append test (flat_map h (f (g x))) (flat_map h (flat_map f (map g xs)))
    ∙ passes_both (list_all test (flat_map h (f (g x)))) _ k.0 (twice_all test h f g xs k.1)

firsts : {A : Type 0} (P Q : A → Type 0) (xs : List A) → AllByRecursion (λ x. P x × Q x) xs → AllByRecursion P xs
firsts P Q [] h = tt
firsts P Q (x ∷ xs) h = (h.0.0, firsts P Q xs h.1)

seconds : {A : Type 0} (P Q : A → Type 0) (xs : List A) → AllByRecursion (λ x. P x × Q x) xs → AllByRecursion Q xs
seconds P Q [] h = tt
seconds P Q (x ∷ xs) h = (h.0.1, seconds P Q xs h.1)

net_item : (file : ℕ) (net : Lexeme) (item : NetItem) → Gives IsOfWord (SpellsNetItem item) (list_all spells_name (names_in_net_part net (net_item_said file item)) ≡ true)
net_item file net (net_ip prefix) = always refl
net_item file net (net_host name parts) = left (then_so (one_name name.text) (named_gives (codes "host:") name))
net_item file net (net_nat tag parts) = left (then_so (one_name tag.text) (named_gives (codes "nat:") tag))
net_item file net (net_idle idle) = always refl

iface_item : (file : ℕ) (item : IfaceItem) → Gives IsOfWord (SpellsIfaceItem item) (list_all spells_word (hardware_in (iface_item_said file item)) ≡ true)
iface_item file (iface_ip address) = always refl
iface_item file (iface_hardware word) = setting_gives (codes "hardware") Any word (then_so (one_name word.text) (hardware_gives word))
iface_item file (iface_bind_nat tags) = always refl
iface_item file (iface_virtual parts) = always refl
iface_item file (iface_idle idle) = always refl

abbrev ItemSpelled : ℕ → Lexeme → Bool → RouterItem → Type 0
ItemSpelled file router managed item =
    (list_all spells_name (names_in_rout_part router (router_item_said file item)) ≡ true)
    × (list_all spells_word (flat_map look.iface_hardware (ifaces_in_part router managed (router_item_said file item))) ≡ true)

router_item : (file : ℕ) (router : Lexeme) (managed : Bool) (item : RouterItem) → Gives IsOfWord (SpellsRouterItem item) (ItemSpelled file router managed item)
router_item file router managed (router_managed filter) = always (refl, refl)
router_item file router managed (router_model word) = always (refl, refl)
router_item file router managed (router_routing word) = always (refl, refl)
router_item file router managed (router_iface net parts) =
    each {Q = is_spelled net.text ≡ true} {R = list_all spells_word (flat_map hardware_in (map (iface_item_said file) parts)) ≡ true}
    (λ p q. (one_name net.text p, list_all-append spells_word (flat_map hardware_in (map (iface_item_said file) parts)) [] ∙ passes_both _ true q refl))
    (named_gives (codes "interface:") net)
    (either (left (none_gives parts (λ is. subst (λ (l : List IfaceItem). list_all spells_word (flat_map hardware_in (map (iface_item_said file) l)) ≡ true) (sym is) refl)))
    (then_so (flat_all spells_word hardware_in (iface_item_said file) parts) (body_gives (iface_item file) parts)))
router_item file router managed (router_idle idle) = always (refl, refl)

-- ---- declarations

lone : {S : Type 0} (file : ℕ) (says : S → SetText) (name : List ℕ) → is_spelled name ≡ true → ((is_spelled name && true) && true) ≡ true
lone file says name h = passes_both (is_spelled name && true) true (one_name name h) refl

decl_of : {S : Type 0} (file : ℕ) (spells in_rules : S → Phrase) (says : S → SetText) (decl : DeclOf S) → Gives IsOfWord (SpellsDecl spells in_rules decl) (is_spelled_decl (decl_of_said file says decl) ≡ true)
decl_of file spells in_rules says (network_decl name desc parts) =
    each {Q = is_spelled name.text ≡ true} {R = AllByRecursion (λ item. list_all spells_name (names_in_net_part (lexeme_said file name) (net_item_said file item)) ≡ true) parts}
    (λ p q. passes_both _ true (passes_both (is_spelled name.text) _ p (flat_all spells_name (names_in_net_part (lexeme_said file name)) (net_item_said file) parts q)) refl)
    (named_gives (codes "network:") name) (parts_give desc (net_item file (lexeme_said file name)) parts)
decl_of file spells in_rules says (router_decl name desc parts) =
    let managed = is_managed_router (map (router_item_said file) parts) in
    let own = lexeme_said file name in
    each {Q = is_spelled name.text ≡ true} {R = AllByRecursion (ItemSpelled file own managed) parts}
    (λ p q. passes_both _ _ (passes_both (is_spelled name.text) _ p (flat_all spells_name (names_in_rout_part own) (router_item_said file) parts (firsts _ _ parts q)))
    (twice_all spells_word look.iface_hardware (ifaces_in_part own managed) (router_item_said file) parts (seconds _ _ parts q)))
    (named_gives (codes "router:") name) (parts_give desc (router_item file own managed) parts)
decl_of file spells in_rules says (group_decl name desc objects) = left (then_so (lone file says name.text) (named_gives (codes "group:") name))
decl_of file spells in_rules says (area_decl name desc parts) = left (then_so (lone file says name.text) (named_gives (codes "area:") name))
decl_of file spells in_rules says (aggregate_decl name desc parts) = left (then_so (lone file says name.text) (named_gives (codes "any:") name))
decl_of file spells in_rules says (protocol_decl name proto notes) = left (then_so (lone file says name.text) (named_gives (codes "protocol:") name))
decl_of file spells in_rules says (protogroup_decl name prts) = left (then_so (lone file says name.text) (named_gives (codes "protocolgroup:") name))
decl_of file spells in_rules says (restriction_decl name desc ports) = left (then_so (lone file says name.text) (named_gives (codes "pathrestriction:") name))
decl_of file spells in_rules says (service_decl name desc idle users rules) = left (then_so (lone file says name.text) (named_gives (codes "service:") name))

all_decls : (file depth : ℕ) (decls : List (DeclIn depth)) → AllByRecursion (λ decl. is_spelled_decl (decl_said file depth decl) ≡ true) decls → are_spelled (decls_said file depth decls) ≡ true
all_decls file depth [] h = refl
all_decls file depth (d ∷ ds) h = passes_both (is_spelled_decl (decl_said file depth d)) _ h.0 (all_decls file depth ds h.1)

file_spelled : (file depth : ℕ) (decls : List (DeclIn depth)) → Gives IsOfWord (SpellsFile depth decls) (are_spelled (decls_said file depth decls) ≡ true)
file_spelled file depth decls = then_so (all_decls file depth decls) (many_gives (decl_of file (SpellsSetIn false depth false) (SpellsSetIn true depth false) (set_said file depth)) decls)

pub run_spelled : (file depth : ℕ) (text : List ℕ) (toks rest : List Tok) (decls : List (DeclIn depth)) → tokens_of text ≡ Ok toks → run_of depth toks ≡ Some (decls, rest) → are_spelled (decls_said file depth decls) ≡ true
run_spelled file depth text toks rest decls h run =
    let found = (file_sound depth (length toks)).fronts toks rest decls run in
    let all = subst (AllByRecursion IsOfWord) found.2 (all_spelled text toks h) in
    (file_spelled file depth decls).gives found.0 (halves IsOfWord found.0 rest all).0 found.1
