-- Each row of the grammar spells what is well formed.
use Rattle.std.proofs.Common.{◌≡◌, ◌≢◌, ℕ, zero, suc, Bool, true, false, not, List, [], ◌∷◌, ◌++◌, map, Option, Some, None, refl, sym, ap, subst}
use Rattle.std.specs.Prelude.{codes, option_map, is_some, IfSome}
use Rattle.std.specs.List.{All, list_all, AllByRecursion}
use Rattle.std.proofs.lemmas.List.Elements.{recursion_from_All}
use Rattle.spoc_lexer.specs.Tokens.{Tok}
use Rattle.spoc_parser.specs.declared.forms.Form.{Form}
use Rattle.spoc_parser.specs.declared.forms.Form.TheVariants.{Any, Address, Prefix, Number, Range, Ports, Icmp}
use Rattle.spoc_parser.specs.Trees as trees
use Rattle.spoc_parser.specs.Trees.{PortItem, IdleItem, TermOf, network, host, port, group, aggregate, area, user, nets, hosts, anys, InterOf, SetOf, SetIn, HostItem, host_ip, host_range, host_idle, NatItem, nat_ip, nat_hidden, NetItem, net_ip, net_host, net_nat, net_idle, VirtItem, virt_ip, virt_kind, virt_id, IfaceItem, iface_ip, iface_hardware, iface_bind_nat, iface_virtual, iface_idle, RouterItem, router_managed, router_model, router_routing, router_iface, router_idle, AreaItem, area_anchor, area_border, area_idle, AnyItem, any_link, any_ip, any_idle, Proto, proto_ip, proto_tcp, proto_udp, proto_icmp, proto_number, ProtoItem, one_proto, a_protocol, a_protogroup, RuleOf, DeclOf, network_decl, router_decl, group_decl, area_decl, aggregate_decl, protocol_decl, protogroup_decl, restriction_decl, service_decl, DeclIn}
use Rattle.spoc_parser.specs.Texts.{fits, joined}
use Rattle.spoc_parser.specs.Phrases.{Phrase, a_word, spread, listed, at_port}
use Rattle.spoc_parser.specs.Grammar.{SpellsHostItem, SpellsNatItem, SpellsNetItem, SpellsVirtItem, SpellsIfaceItem, SpellsRouterItem, SpellsAnyItem, spread_or_none, SpellsProto, SpellsProtoItem, SpellsTermOf, SpellsInter, SpellsSet, SpellsSetIn, SpellsRule, SpellsDecl, SpellsDeclIn, SpellsFile, SpellsAreaItem}
use Rattle.spoc_ast.specs.Written.{SetText}
use Rattle.spoc_ast.specs.Seen.{narrowing}
use Rattle.spoc_ast.specs.Seen as ast
use Rattle.policy_model.specs.Lists.{is_nothing}
use Rattle.policy_decls.specs.Numbers.{address_of, prefix_of, range_of, port_pair_of, icmp_of, number_of}
use Rattle.policy_decls.specs.Numbers as numbers
use Rattle.policy_decls.specs.Formed.{asks_prefix, is_formed_set, is_formed_host, is_formed_nat, is_formed_net, is_formed_virtual, is_formed_iface, is_formed_router, is_formed_any, is_formed_simple, is_formed_prt, is_formed_rule, is_formed_objects, is_formed, are_formed, is_formed_area}
use Rattle.syntax_laws.specs.Said.{lexeme_said, lexemes_said, term_said, further_said, inter_said, parts_said, set_said, host_item_said, nat_item_said, net_item_said, virt_item_said, iface_item_said, router_item_said, any_item_said, proto_said, proto_item_said, rule_said, decl_of_said, decl_said, decls_said, area_item_said, port_said}
use Rattle.syntax_laws.specs.Words.{IsWritten}
use Rattle.syntax_laws.proofs.Numbers.{Has, passes_both, number_has, address_has, prefix_has, range_has, ports_have, icmp_has}
use Rattle.syntax_laws.proofs.Phrases.{Gives, left, right, each, setting_gives, always, then_so, either, none_gives, perhaps_gives, many_gives, some_gives, listed_open_gives, body_gives, parts_give}

-- a phrase spells what passes the test, where words have bytes
abbrev Passes : Phrase → Bool → Type 0
Passes phrase b = Gives IsWritten phrase (b ≡ true)

-- ---- lists

all_pass : {A B : Type 0} (test : B → Bool) (f : A → B) (xs : List A) → AllByRecursion (λ x. test (f x) ≡ true) xs → list_all test (map f xs) ≡ true
all_pass test f [] h = refl
all_pass test f (x ∷ xs) h = passes_both (test (f x)) _ h.0 (all_pass test f xs h.1)

spread_is : (file : ℕ) (words : List trees.Lexeme) → joined (map (λ word. word.text) words) ≡ numbers.spread (lexemes_said file words)
spread_is file [] = refl
spread_is file (w ∷ ws) = ap (λ l. w.text ++ l) (spread_is file ws)

-- ---- words

has_some : {A : Type 0} (o : Option A) → Has o → is_some o ≡ true
has_some o h = ap (λ v. is_some v) h.1

word_gives : {Q : Type 0} (form : Form) (word : trees.Lexeme) → (fits form word.text ≡ true → Q) → Gives IsWritten (a_word form word) Q
word_gives form word f = record { gives = λ toks all p. f p.0 }

prefix_passes : (word : trees.Lexeme) → Passes (a_word Prefix word) (is_some (prefix_of word.text))
prefix_passes word = word_gives Prefix word (λ h. has_some (prefix_of word.text) (prefix_has word.text h))

address_passes : (word : trees.Lexeme) → Passes (a_word Address word) (is_some (address_of word.text))
address_passes word = word_gives Address word (λ h. has_some (address_of word.text) (address_has word.text h))

number_passes : (word : trees.Lexeme) → Passes (a_word Number word) (is_some (number_of word.text))
number_passes word = word_gives Number word (λ h. has_some (number_of word.text) (_, number_has word.text h))

-- a word has bytes
filled_passes : (word : trees.Lexeme) → Passes (a_word Any word) (not (is_nothing word.text))
filled_passes word = record { gives = λ toks all p. by word.text ((subst (AllByRecursion IsWritten) p.1 all).0 refl) }
  where
    by : (text : List ℕ) → text ≢ [] → not (is_nothing text) ≡ true
    by [] h = absurd (h refl)
    by (b ∷ bs) h = refl

-- a spread text says what a test asks for, where each text of the form does
spread_passes : (file : ℕ) (form : Form) (test : List ℕ → Bool) (words : List trees.Lexeme) → ((text : List ℕ) → fits form text ≡ true → test text ≡ true) → Passes (spread form words) (test (numbers.spread (lexemes_said file words)))
spread_passes file form test words f = record { gives = λ toks all p. subst (λ text. test text ≡ true) (spread_is file words) (f (joined (map (λ word. word.text) words)) p.1) }

none_or_spread_passes : (file : ℕ) (form : Form) (test : List ℕ → Bool) (words : List trees.Lexeme) → test [] ≡ true → ((text : List ℕ) → fits form text ≡ true → test text ≡ true) → Passes (spread_or_none form words) (test (numbers.spread (lexemes_said file words)))
none_or_spread_passes file form test words e f = either (none_gives words (λ is. subst (λ (ws : List trees.Lexeme). test (numbers.spread (lexemes_said file ws)) ≡ true) (sym is) e)) (spread_passes file form test words f)

-- ---- parts of declarations

host_item_formed : (file : ℕ) (item : HostItem) → Passes (SpellsHostItem item) (is_formed_host (host_item_said file item))
host_item_formed file (host_ip address) = setting_gives (codes "ip") Address address (address_passes address)
host_item_formed file (host_range words) = right (right (left (spread_passes file Range (λ text. is_some (range_of text)) words (λ text h. has_some (range_of text) (range_has text h)))))
host_item_formed file (host_idle idle) = always refl

nat_item_formed : (file : ℕ) (item : NatItem) → Passes (SpellsNatItem item) (is_formed_nat (nat_item_said file item))
nat_item_formed file (nat_ip prefix) = setting_gives (codes "ip") Prefix prefix (prefix_passes prefix)
nat_item_formed file nat_hidden = always refl

net_item_formed : (file : ℕ) (item : NetItem) → Passes (SpellsNetItem item) (is_formed_net (net_item_said file item))
net_item_formed file (net_ip prefix) = setting_gives (codes "ip") Prefix prefix (prefix_passes prefix)
net_item_formed file (net_host name parts) = right (then_so (all_pass is_formed_host (host_item_said file) parts) (body_gives (host_item_formed file) parts))
net_item_formed file (net_nat tag parts) = right (then_so (all_pass is_formed_nat (nat_item_said file) parts) (body_gives (nat_item_formed file) parts))
net_item_formed file (net_idle idle) = always refl

virt_item_formed : (file : ℕ) (item : VirtItem) → Passes (SpellsVirtItem item) (is_formed_virtual (virt_item_said file item))
virt_item_formed file (virt_ip address) = setting_gives (codes "ip") Address address (address_passes address)
virt_item_formed file (virt_kind word) = always refl
virt_item_formed file (virt_id number) = setting_gives (codes "id") Number number (number_passes number)

iface_item_formed : (file : ℕ) (item : IfaceItem) → Passes (SpellsIfaceItem item) (is_formed_iface (iface_item_said file item))
iface_item_formed file (iface_ip address) = setting_gives (codes "ip") Address address (address_passes address)
iface_item_formed file (iface_hardware word) = setting_gives (codes "hardware") Any word (filled_passes word)
iface_item_formed file (iface_bind_nat tags) = always refl
iface_item_formed file (iface_virtual parts) = right (then_so (all_pass is_formed_virtual (virt_item_said file) parts) (body_gives (virt_item_formed file) parts))
iface_item_formed file (iface_idle idle) = always refl

router_item_formed : (file : ℕ) (item : RouterItem) → Passes (SpellsRouterItem item) (is_formed_router (router_item_said file item))
router_item_formed file (router_managed filter) = always refl
router_item_formed file (router_model word) = always refl
router_item_formed file (router_routing word) = always refl
router_item_formed file (router_iface net parts) =
    let pass = all_pass is_formed_iface (iface_item_said file) parts in
    right (either (left (none_gives parts (λ is. subst (λ (l : List IfaceItem). list_all is_formed_iface (map (iface_item_said file) l) ≡ true) (sym is) refl))) (then_so pass (body_gives (iface_item_formed file) parts)))
router_item_formed file (router_idle idle) = always refl

-- a list names something
listed_some : (file : ℕ) (ports : List PortItem) → Passes (listed at_port ports) (not (is_nothing (map (port_said file) ports)))
listed_some file [] = record { gives = λ toks all p. absurd p }
listed_some file (p ∷ ports) = always refl

area_item_formed : (file : ℕ) (item : AreaItem) → Passes (SpellsAreaItem item) (is_formed_area (area_item_said file item))
area_item_formed file (area_anchor net) = always refl
area_item_formed file (area_border ports) = right (right (left (listed_some file ports)))
area_item_formed file (area_idle idle) = always refl

any_item_formed : (file : ℕ) (item : AnyItem) → Passes (SpellsAnyItem item) (is_formed_any (any_item_said file item))
any_item_formed file (any_link net) = always refl
any_item_formed file (any_ip prefix) = setting_gives (codes "ip") Prefix prefix (prefix_passes prefix)
any_item_formed file (any_idle idle) = always refl

-- ---- protocols

ports_pass : (file : ℕ) (words : List trees.Lexeme) → Passes (spread_or_none Ports words) (is_some (port_pair_of (numbers.spread (lexemes_said file words))))
ports_pass file words = none_or_spread_passes file Ports (λ text. is_some (port_pair_of text)) words refl (λ text h. has_some (port_pair_of text) (ports_have text h))

icmp_passes : (file : ℕ) (words : List trees.Lexeme) → Passes (spread_or_none Icmp words) (is_some (icmp_of (numbers.spread (lexemes_said file words))))
icmp_passes file words = none_or_spread_passes file Icmp (λ text. is_some (icmp_of text)) words refl (λ text h. has_some (icmp_of text) (icmp_has text h))

proto_formed : (file : ℕ) (proto : Proto) → Passes (SpellsProto proto) (is_formed_simple (proto_said file proto))
proto_formed file proto_ip = always refl
proto_formed file (proto_tcp ports) = right (ports_pass file ports)
proto_formed file (proto_udp ports) = right (ports_pass file ports)
proto_formed file (proto_icmp kind) = right (icmp_passes file kind)
proto_formed file (proto_number number) = right (number_passes number)

proto_item_formed : (file : ℕ) (item : ProtoItem) → Passes (SpellsProtoItem item) (is_formed_prt (proto_item_said file item))
proto_item_formed file (one_proto proto) = proto_formed file proto
proto_item_formed file (a_protocol name) = always refl
proto_item_formed file (a_protogroup name) = always refl

-- ---- sets

narrowing_formed : (with_user bracket without : Bool) (e f : SetText) → is_formed_set with_user bracket e ≡ true → is_formed_set with_user bracket f ≡ true → is_formed_set with_user bracket (narrowing without e f) ≡ true
narrowing_formed with_user bracket true e f p q = passes_both (is_formed_set with_user bracket e) _ p q
narrowing_formed with_user bracket false e f p q = passes_both (is_formed_set with_user bracket e) _ p q

further_formed : {T : Type 0} (with_user bracket : Bool) (says : T → SetText) (e : SetText) (fs : List (Bool × T)) → is_formed_set with_user bracket e ≡ true → AllByRecursion (λ f. is_formed_set with_user bracket (says f.1) ≡ true) fs → is_formed_set with_user bracket (further_said says e fs) ≡ true
further_formed with_user bracket says e [] p h = p
further_formed with_user bracket says e (f ∷ fs) p h = further_formed with_user bracket says (narrowing f.0 e (says f.1)) fs (narrowing_formed with_user bracket f.0 e (says f.1) p h.0) h.1

joined_formed : (with_user bracket : Bool) {A : Type 0} (f : A → SetText) (xs : List A) → AllByRecursion (λ x. is_formed_set with_user bracket (f x) ≡ true) xs → is_formed_set with_user bracket (ast.joined (map f xs)) ≡ true
joined_formed with_user bracket f [] h = refl
joined_formed with_user bracket f (x ∷ xs) h = passes_both (is_formed_set with_user bracket (f x)) _ h.0 (joined_formed with_user bracket f xs h.1)

-- a thing is spelled only as a well formed set
abbrev Formed : {X : Type 0} → Bool → Bool → (X → Phrase) → (X → SetText) → Type 0
Formed {X} with_user bracket spells says = (x : X) → Passes (spells x) (is_formed_set with_user bracket (says x))

term_formed : {S : Type 0} (file : ℕ) (with_user bracket : Bool) {spells : S → Phrase} (says : S → SetText) → Formed with_user true spells says → Formed with_user bracket (SpellsTermOf with_user bracket spells) (term_said file says)
term_formed file with_user bracket says s (network name) = always refl
term_formed file with_user bracket says s (host name) = always refl
term_formed file with_user bracket says s (port place) = always refl
term_formed file with_user bracket says s (group name) = always refl
term_formed file with_user bracket says s (aggregate name) = always refl
term_formed file with_user bracket says s (area name) = record { gives = λ toks all p. p.0 }
term_formed file with_user bracket says s user = record { gives = λ toks all p. p.0 }
term_formed file with_user bracket says s (nets set) = right (right (left (s set)))
term_formed file with_user bracket says s (hosts set) = right (right (left (s set)))
term_formed file with_user bracket says s (anys inside set) =
    right (right (each (λ p q. passes_both (asks_prefix (option_map (lexeme_said file) inside)) (is_formed_set with_user true (says set)) (asked inside p) q) (perhaps_gives (λ prefix. right (right (left (prefix_passes prefix)))) inside) (left (s set))))
  where
    asked : (o : Option trees.Lexeme) → IfSome o (λ w. is_some (prefix_of w.text) ≡ true) → asks_prefix (option_map (lexeme_said file) o) ≡ true
    asked None h = refl
    asked (Some w) h = h

inter_formed : {T : Type 0} (with_user bracket : Bool) {spells : T → Phrase} (says : T → SetText) → Formed with_user bracket spells says → Formed with_user bracket (SpellsInter spells) (inter_said says)
inter_formed with_user bracket says s i = each (further_formed with_user bracket says (says i.0) i.1) (s i.0) (many_gives (λ f. right (right (s f.1))) i.1)

parts_formed : {T : Type 0} (with_user bracket : Bool) {spells : T → Phrase} (says : T → SetText) → Formed with_user bracket spells says → Formed with_user bracket (SpellsSet spells) (parts_said says)
parts_formed with_user bracket says s set = then_so (joined_formed with_user bracket (inter_said says) set) (listed_open_gives (inter_formed with_user bracket says s) set)

set_formed : (file : ℕ) (with_user : Bool) (depth : ℕ) (bracket : Bool) → Formed with_user bracket (SpellsSetIn with_user depth bracket) (set_said file depth)
set_formed file with_user zero bracket set = absurd set
set_formed file with_user (suc depth) bracket set = parts_formed with_user bracket (term_said file (set_said file depth)) (term_formed file with_user bracket (set_said file depth) (set_formed file with_user depth true)) set

-- ---- declarations

rule_formed : {S : Type 0} (file : ℕ) {spells : S → Phrase} (says : S → SetText) → Formed true false spells says → (rule : RuleOf S) → Passes (SpellsRule spells rule) (is_formed_rule (rule_said file says rule))
rule_formed file says s rule =
    right (right (right (each {R = (is_formed_set true false (says rule.dst) ≡ true) × AllByRecursion (λ item. is_formed_prt (proto_item_said file item) ≡ true) rule.prts} (λ p q. passes_both _ _ (passes_both (is_formed_set true false (says rule.src)) (is_formed_set true false (says rule.dst)) p q.0) (all_pass is_formed_prt (proto_item_said file) rule.prts q.1)) (s rule.src)
    (right (right (right (each (λ p q. (p, q)) (s rule.dst) (right (right (right (left (listed_open_gives (proto_item_formed file) rule.prts))))))))))))

decl_of_formed : {S : Type 0} (file : ℕ) {spells in_rules : S → Phrase} (says : S → SetText) → Formed false false spells says → Formed true false in_rules says → (decl : DeclOf S) → Passes (SpellsDecl spells in_rules decl) (is_formed (decl_of_said file says decl))
decl_of_formed file says s t (network_decl name desc parts) = right (then_so (all_pass is_formed_net (net_item_said file) parts) (parts_give desc (net_item_formed file) parts))
decl_of_formed file says s t (router_decl name desc parts) = right (then_so (all_pass is_formed_router (router_item_said file) parts) (parts_give desc (router_item_formed file) parts))
decl_of_formed file says s t (group_decl name desc objects) = right (right (right (left (then_so (formed objects) (perhaps_gives s objects)))))
  where
    formed : (o : Option _) → IfSome o (λ x. is_formed_set false false (says x) ≡ true) → is_formed_objects (option_map says o) ≡ true
    formed None h = refl
    formed (Some x) h = h
decl_of_formed file says s t (area_decl name desc parts) = right (then_so (all_pass is_formed_area (area_item_said file) parts) (parts_give desc (area_item_formed file) parts))
decl_of_formed file says s t (aggregate_decl name desc parts) = right (then_so (all_pass is_formed_any (any_item_said file) parts) (parts_give desc (any_item_formed file) parts))
decl_of_formed file says s t (protocol_decl name proto notes) = right (right (left (proto_formed file proto)))
decl_of_formed file says s t (protogroup_decl name prts) = right (right (left (then_so (all_pass is_formed_prt (proto_item_said file) prts) (listed_open_gives (proto_item_formed file) prts))))
decl_of_formed file says s t (restriction_decl name desc ports) = always refl
decl_of_formed file says s t (service_decl name desc idle users rules) =
    right (right (right (right (right (right (right (each (λ p q. passes_both (is_formed_set false false (says users)) _ p (all_pass is_formed_rule (rule_said file says) rules q)) (s users) (right (left (some_gives (rule_formed file says t) rules))))))))))

decl_formed : (file depth : ℕ) (decl : DeclIn depth) → Passes (SpellsDeclIn depth decl) (is_formed (decl_said file depth decl))
decl_formed file depth decl = decl_of_formed file (set_said file depth) (set_formed file false depth false) (set_formed file true depth false) decl

file_formed : (file depth : ℕ) (decls : List (DeclIn depth)) → Passes (SpellsFile depth decls) (are_formed (decls_said file depth decls))
file_formed file depth decls = then_so (all_pass is_formed (decl_said file depth) decls) (many_gives (decl_formed file depth) decls)

pub decl_is_formed : (file depth : ℕ) (decl : DeclIn depth) (front : List Tok) → All IsWritten front → SpellsDeclIn depth decl front → is_formed (decl_said file depth decl) ≡ true
decl_is_formed file depth decl front all p = (decl_formed file depth decl).gives front (recursion_from_All IsWritten front all) p

pub file_is_formed : (file depth : ℕ) (decls : List (DeclIn depth)) (front : List Tok) → All IsWritten front → SpellsFile depth decls front → are_formed (decls_said file depth decls) ≡ true
file_is_formed file depth decls front all p = (file_formed file depth decls).gives front (recursion_from_All IsWritten front all) p
