-- Each row of the grammar: what is spelled so is what its reader reads.
use Rattle.std.proofs.Common.{◌≡◌, ℕ, zero, suc, Bool, true, false, not, ◌&&◌, ◌||◌, List, [], ◌∷◌, ◌++◌, Option, Some, None, map, get_or, cond, true≢false, refl, sym, ap, ◌∙◌, append_assoc}
use Rattle.std.specs.Prelude.{codes}
use Rattle.std.specs.Str.{bytes_eq}
use Rattle.spoc_lexer.specs.Tokens.{Tok}
use Rattle.spoc_parser.specs.declared.forms.Form.{Form}
use Rattle.spoc_parser.specs.declared.forms.Form.TheVariants.{Any, Name, Address, Prefix, Number, Range, Ports, Icmp, Filter, Routing, Note, ListKey, ValueKey, Flag}
use Rattle.spoc_parser.specs.Trees.{Lexeme, PortItem, IdleItem, TermOf, network, host, port, group, aggregate, area, user, nets, hosts, anys, InterOf, SetOf, SetIn, HostItem, host_ip, host_range, host_idle, NatItem, nat_ip, nat_hidden, NetItem, net_ip, net_host, net_nat, net_idle, VirtItem, virt_ip, virt_kind, virt_id, IfaceItem, iface_ip, iface_hardware, iface_bind_nat, iface_virtual, iface_idle, RouterItem, router_managed, router_model, router_routing, router_iface, router_idle, AreaItem, area_anchor, area_border, area_idle, AnyItem, any_link, any_ip, any_idle, Proto, proto_ip, proto_tcp, proto_udp, proto_icmp, proto_number, ProtoItem, one_proto, a_protocol, a_protogroup, RuleOf, DeclOf, network_decl, router_decl, group_decl, area_decl, aggregate_decl, protocol_decl, protogroup_decl, restriction_decl, service_decl, DeclIn}
use Rattle.spoc_parser.specs.Texts.{is_name, is_list_key, is_value_key, is_flag}
use Rattle.spoc_parser.specs.Phrases.{Phrase, ◌then◌, ◌or◌, sign, key, a_word, named, at_port, where_true, perhaps, many, some, single, listed, none_of}
use Rattle.spoc_parser.specs.Grammar.{SpellsDesc, SpellsIdle, setting, body, body_with, SpellsHostItem, SpellsNatItem, SpellsNetItem, SpellsVirtItem, SpellsIfaceItem, SpellsRouterItem, SpellsAreaItem, SpellsAnyItem, SpellsProto, SpellsProtoItem, SpellsTermOf, mark, SpellsFurther, SpellsInter, SpellsSet, SpellsSetIn, action, SpellsRule, SpellsDecl, SpellsDeclIn}
use Rattle.spoc_parser.specs.Readers.{Reader, then_read, ◌>>=◌, done, past, at_sign, at_key, at_kind, at_form, at_word, is_word, is_sign, read_named, list_ends}
use Rattle.spoc_parser.specs.Reading.{read_desc, no_desc, read_desc_part, idle_of, read_list_idle, read_value_idle, read_flag_idle, read_idle, read_setting, read_at_network, read_parts, read_body, read_opening, read_host_item, read_nat_item, read_net_item, read_virt_item, read_iface_item, read_iface_body, no_value, read_filter, read_router_item, read_area_item, read_any_item, read_proto, read_proto_item, read_bracket, no_prefix, read_inside, read_anys, read_named_term, read_term_of, read_signed, read_other, no_other, read_others, read_inter, read_set, read_set_in, read_side, read_prts, read_action, read_rule, read_rules, no_idle, read_group, read_protocol, read_protogroup, read_restriction, read_service, read_decl, read_decl_in}
use Rattle.grammar_laws.proofs.Found.{same_bytes, and_true, kind_word}
use Rattle.grammar_laws.proofs.Spelled.{side, to_items}
use Rattle.grammar_laws.proofs.Only.{Takes, Always, Where, Tells, then_tells, or_tells, where_tells, many_tells, perhaps_tells, listed_tells, word_at, by_key, by_sign, by_name, key_tells, sign_tells, word_tells, named_tells, port_tells, follow_takes, then_takes, last_takes, less_takes, absent_takes, or_takes, yes_takes, no_takes, same_text, sign_takes, key_takes, text_takes, word_takes, named_takes, port_takes, spread_takes, spread_or_none_takes, unless_takes, has_token, until_takes, further_takes, listed_takes, listed_open_takes}

-- ---- phrases taken apart

ungroup : (P Q R : Phrase) (toks : List Tok) → (P then Q then R) toks → ((P then Q) then R) toks
ungroup P Q R toks p = (p.0 ++ p.3.0, p.3.1, (p.0, p.3.0, p.2, p.3.2, refl), p.3.3, p.4 ∙ ap (λ l. p.0 ++ l) p.3.4 ∙ sym (append_assoc p.0 p.3.0 p.3.1))

ungroup_3 : (P Q R S : Phrase) (toks : List Tok) → (P then Q then R then S) toks → ((P then Q then R) then S) toks
ungroup_3 P Q R S toks p = let q = ungroup Q R S p.1 p.3 in (p.0 ++ q.0, q.1, (p.0, q.0, p.2, q.2, refl), q.3, p.4 ∙ ap (λ l. p.0 ++ l) q.4 ∙ sym (append_assoc p.0 q.0 q.1))

ungroup_4 : (P Q R S X : Phrase) (toks : List Tok) → (P then Q then R then S then X) toks → ((P then Q then R then S) then X) toks
ungroup_4 P Q R S X toks p = let q = ungroup_3 Q R S X p.1 p.3 in (p.0 ++ q.0, q.1, (p.0, q.0, p.2, q.2, refl), q.3, p.4 ∙ ap (λ l. p.0 ++ l) q.4 ∙ sym (append_assoc p.0 q.0 q.1))

-- ---- what items begin with

-- a word other than `description`
abbrev plain : List Tok → Bool
plain [] = false
plain (t ∷ toks) = is_word t.kind && not (bytes_eq t.text (codes "description"))

-- a word other than `description` and `ip`
abbrev opens : List Tok → Bool
opens [] = false
opens (t ∷ toks) = is_word t.kind && (not (bytes_eq t.text (codes "description")) && not (bytes_eq t.text (codes "ip")))

tells_more : {P : Phrase} {test : List Tok → Bool} {b : Bool} (other : List Tok → Bool) {c : Bool} → ((toks : List Tok) → test toks ≡ b → other toks ≡ c) → Tells P test b → Tells P other c
tells_more other f t = record { tells = λ front rest p. f (front ++ rest) (t.tells front rest p) }

word_no_sign : (t : Tok) (text : List ℕ) → is_word t.kind ≡ true → (is_sign t.kind && bytes_eq t.text text) ≡ false
word_no_sign t text h = ap (λ k. is_sign k && bytes_eq t.text text) (kind_word t.kind h)

plain_no_sign : (text : List ℕ) (toks : List Tok) → plain toks ≡ true → at_sign text toks ≡ false
plain_no_sign text [] h = absurd (true≢false (sym h))
plain_no_sign text (t ∷ toks) h = word_no_sign t text (and_true (is_word t.kind) _ h).0

plain_token : (toks : List Tok) → plain toks ≡ true → has_token toks ≡ true
plain_token [] h = h
plain_token (t ∷ toks) h = refl

plain_no_desc : (toks : List Tok) → plain toks ≡ true → no_desc toks ≡ true
plain_no_desc [] h = refl
plain_no_desc (t ∷ toks) h = let both = and_true (is_word t.kind) (not (bytes_eq t.text (codes "description"))) h in ap (λ b. not (b && bytes_eq t.text (codes "description"))) both.0 ∙ both.1

opens_plain : (toks : List Tok) → opens toks ≡ true → plain toks ≡ true
opens_plain [] h = h
opens_plain (t ∷ toks) h =
    let both = and_true (is_word t.kind) (not (bytes_eq t.text (codes "description")) && not (bytes_eq t.text (codes "ip"))) h in
    let more = and_true (not (bytes_eq t.text (codes "description"))) (not (bytes_eq t.text (codes "ip"))) both.1 in
    λ i. both.0 i && more.0 i

opens_no_prefix : (toks : List Tok) → opens toks ≡ true → no_prefix toks ≡ true
opens_no_prefix [] h = refl
opens_no_prefix (t ∷ toks) h =
    let both = and_true (is_word t.kind) (not (bytes_eq t.text (codes "description")) && not (bytes_eq t.text (codes "ip"))) h in
    let more = and_true (not (bytes_eq t.text (codes "description"))) (not (bytes_eq t.text (codes "ip"))) both.1 in
    ap (λ b. not (b && bytes_eq t.text (codes "ip"))) both.0 ∙ more.1

opens_no_end : (toks : List Tok) → opens toks ≡ true → list_ends toks ≡ false
opens_no_end toks h = ap (λ b. cond b true (at_sign (codes "]") toks)) (plain_no_sign (codes ";") toks (opens_plain toks h)) ∙ plain_no_sign (codes "]") toks (opens_plain toks h)

-- ---- descriptions and parts without effect

desc_takes : (text : Lexeme) → Takes (SpellsDesc text) Always read_desc text
desc_takes text = then_takes _ (key_takes (codes "description")) (then_takes _ (sign_takes (codes "=")) (text_takes text))

desc_part_takes : (desc : Option Lexeme) → Takes (perhaps SpellsDesc desc) (Where no_desc true) read_desc_part desc
desc_part_takes = unless_takes no_desc desc_takes (λ x. by_key (λ start rest. refl)) (λ rest h. tt)

or_case : {C : Type 0} (a b : Bool) → (a || b) ≡ true → (a ≡ true → C) → (b ≡ true → C) → C
or_case true b h yes_a yes_b = yes_a refl
or_case false b h yes_a yes_b = yes_b h

-- the first words of parts without effect, by how many words stand behind them
abbrev list_words : List (List ℕ)
list_words = codes "owner" ∷ codes "overlaps" ∷ []

abbrev flag_words : List (List ℕ)
flag_words = codes "has_subnets" ∷ codes "multi_owner" ∷ codes "unknown_owner" ∷ codes "has_unenforceable" ∷ codes "no_check_supernet_rules" ∷ []

abbrev idle_words : List (List ℕ)
idle_words = codes "subnet_of" ∷ list_words ++ flag_words

-- the test gives this at each of the words
abbrev Each : (List ℕ → Bool) → Bool → List (List ℕ) → Type 0
Each F b words = map F words ≡ map (λ w. b) words

list_key_is : (F : List ℕ → Bool) (b : Bool) → Each F b list_words → (text : List ℕ) → is_list_key text ≡ true → F text ≡ b
list_key_is F b each text h = or_case (bytes_eq text (codes "owner")) (bytes_eq text (codes "overlaps")) h
    (λ e. ap F (same_bytes text (codes "owner") e) ∙ ap (λ l. get_or l 0 b) each)
    (λ e. ap F (same_bytes text (codes "overlaps") e) ∙ ap (λ l. get_or l 1 b) each)

flag_is : (F : List ℕ → Bool) (b : Bool) → Each F b flag_words → (text : List ℕ) → is_flag text ≡ true → F text ≡ b
flag_is F b each text h =
    or_case (bytes_eq text (codes "has_subnets")) _ h (λ e. ap F (same_bytes text (codes "has_subnets") e) ∙ ap (λ l. get_or l 0 b) each)
    λ h. or_case (bytes_eq text (codes "multi_owner")) _ h (λ e. ap F (same_bytes text (codes "multi_owner") e) ∙ ap (λ l. get_or l 1 b) each)
    λ h. or_case (bytes_eq text (codes "unknown_owner")) _ h (λ e. ap F (same_bytes text (codes "unknown_owner") e) ∙ ap (λ l. get_or l 2 b) each)
    λ h. or_case (bytes_eq text (codes "has_unenforceable")) _ h (λ e. ap F (same_bytes text (codes "has_unenforceable") e) ∙ ap (λ l. get_or l 3 b) each)
    λ e. ap F (same_bytes text (codes "no_check_supernet_rules") e) ∙ ap (λ l. get_or l 4 b) each

idle_tells : {test : List Tok → Bool} {b : Bool} → ((start : ℕ) (rest : List Tok) → Each (λ w. test (word_at start w ∷ rest)) b idle_words) → (idle : IdleItem) → Tells (SpellsIdle idle) test b
idle_tells {test} {b} each idle =
    or_tells (then_tells (word_tells ListKey idle.key (λ text start rest h. list_key_is (λ w. test (word_at start w ∷ rest)) b (λ i. lists (each start rest i)) text h)))
    (or_tells (then_tells (word_tells ValueKey idle.key (λ text start rest h. ap (λ w. test (word_at start w ∷ rest)) (same_bytes text (codes "subnet_of") h) ∙ ap (λ l. get_or l 0 b) (each start rest))))
    (then_tells (word_tells Flag idle.key (λ text start rest h. flag_is (λ w. test (word_at start w ∷ rest)) b (λ i. flags (each start rest i)) text h))))
  where
    lists : List Bool → List Bool
    lists l = get_or l 1 b ∷ get_or l 2 b ∷ []

    flags : List Bool → List Bool
    flags l = get_or l 3 b ∷ get_or l 4 b ∷ get_or l 5 b ∷ get_or l 6 b ∷ get_or l 7 b ∷ []

list_idle_takes : (word : Lexeme) (words : List Lexeme) → Takes (a_word ListKey word then sign (codes "=") then listed (a_word Any) words then sign (codes ";")) Always read_list_idle (idle_of word words)
list_idle_takes word words = then_takes _ (word_takes ListKey word) (then_takes _ (sign_takes (codes "=")) (follow_takes _ (listed_takes (a_word Any) _ (word_takes Any) words) (sign_tells (λ start rest. refl)) (last_takes _ (sign_takes (codes ";")) (λ toks. refl))))

value_idle_takes : (word : Lexeme) (words : List Lexeme) → Takes (a_word ValueKey word then sign (codes "=") then single (a_word Any) words then sign (codes ";")) Always read_value_idle (idle_of word words)
value_idle_takes word [] = absent_takes (λ front p. p.3.3.2)
value_idle_takes word (value ∷ []) = then_takes _ (word_takes ValueKey word) (then_takes _ (sign_takes (codes "=")) (then_takes _ (word_takes Any value) (last_takes _ (sign_takes (codes ";")) (λ toks. refl))))
value_idle_takes word (value ∷ next ∷ words) = absent_takes (λ front p. p.3.3.2)

flag_idle_takes : (word : Lexeme) (words : List Lexeme) → Takes (a_word Flag word then none_of words then sign (codes ";")) Always read_flag_idle (idle_of word words)
flag_idle_takes word [] = less_takes (then_takes _ (word_takes Flag word) (last_takes _ (sign_takes (codes ";")) (λ toks. refl))) (λ front p. (p.0, p.3.1, p.2, p.3.3, p.4 ∙ ap (λ l. p.0 ++ l) (p.3.4 ∙ ap (λ l. l ++ p.3.1) p.3.2))) (λ rest f. f)
flag_idle_takes word (value ∷ words) = absent_takes (λ front p. p.3.2)

idle_takes : (idle : IdleItem) → Takes (SpellsIdle idle) Always read_idle idle
idle_takes idle = or_takes
    (yes_takes (at_form ListKey) _ (then_tells (word_tells ListKey idle.key (λ text start rest h. h))) (list_idle_takes idle.key idle.values))
    (or_takes
    (no_takes (at_form ListKey) _ (then_tells (word_tells ValueKey idle.key (λ text start rest h. ap is_list_key (same_bytes text (codes "subnet_of") h)))) (yes_takes (at_form ValueKey) _ (then_tells (word_tells ValueKey idle.key (λ text start rest h. h))) (value_idle_takes idle.key idle.values)))
    (no_takes (at_form ListKey) _ (then_tells (word_tells Flag idle.key (λ text start rest h. flag_is is_list_key false refl text h))) (no_takes (at_form ValueKey) _ (then_tells (word_tells Flag idle.key (λ text start rest h. flag_is is_value_key false refl text h))) (flag_idle_takes idle.key idle.values))))

-- ---- settings and bodies

setting_takes : (name : List ℕ) (form : Form) (word : Lexeme) → Takes (setting name form word) Always (read_setting name form) word
setting_takes name form word = then_takes _ (key_takes name) (then_takes _ (sign_takes (codes "=")) (then_takes _ (word_takes form word) (last_takes _ (sign_takes (codes ";")) (λ toks. refl))))

at_network_takes : (name : List ℕ) (net : Lexeme) → Takes (key name then sign (codes "=") then named (codes "network:") net then sign (codes ";")) Always (read_at_network name) net
at_network_takes name net = then_takes _ (key_takes name) (then_takes _ (sign_takes (codes "=")) (then_takes _ (named_takes (codes "network:") net) (last_takes _ (sign_takes (codes ";")) (λ toks. refl))))

parts_takes : {A : Type 0} (spells : A → Phrase) (read : Reader A) → ((x : A) → Takes (spells x) Always read x) → ((x : A) → Tells (spells x) plain true) → (xs : List A) → Takes (many spells xs then sign (codes "}")) Always (read_parts read) xs
parts_takes spells read reads first xs =
    follow_takes _ (until_takes spells (at_sign (codes "}")) read reads (λ x. tells_more _ (plain_no_sign (codes "}")) (first x)) (λ x. tells_more _ plain_token (first x)) xs) (sign_tells (λ start rest. refl)) (last_takes _ (sign_takes (codes "}")) (λ toks. refl))

body_takes : {A : Type 0} (spells : A → Phrase) (read : Reader A) → ((x : A) → Takes (spells x) Always read x) → ((x : A) → Tells (spells x) plain true) → (xs : List A) → Takes (body spells xs) Always (read_body read) xs
body_takes spells read reads first xs = then_takes _ (sign_takes (codes "=")) (then_takes _ (sign_takes (codes "{")) (parts_takes spells read reads first xs))

opening_takes : (desc : Option Lexeme) → Takes (sign (codes "=") then sign (codes "{") then perhaps SpellsDesc desc) (Where no_desc true) read_opening desc
opening_takes desc = then_takes _ (sign_takes (codes "=")) (then_takes _ (sign_takes (codes "{")) (desc_part_takes desc))

-- ---- hosts and networks

host_item_takes : (item : HostItem) → Takes (SpellsHostItem item) Always read_host_item item
host_item_takes (host_ip address) = yes_takes (at_key (codes "ip")) _ (by_key (λ start rest. refl)) (last_takes _ (setting_takes (codes "ip") Address address) (λ toks. refl))
host_item_takes (host_range words) = no_takes (at_key (codes "ip")) _ (by_key (λ start rest. refl)) (yes_takes (at_key (codes "range")) _ (by_key (λ start rest. refl)) (then_takes _ (key_takes (codes "range")) (then_takes _ (sign_takes (codes "=")) (follow_takes _ (spread_takes Range words) (sign_tells (λ start rest. refl)) (last_takes _ (sign_takes (codes ";")) (λ toks. refl))))))
host_item_takes (host_idle idle) = no_takes (at_key (codes "ip")) _ (idle_tells (λ start rest. refl) idle) (no_takes (at_key (codes "range")) _ (idle_tells (λ start rest. refl) idle) (last_takes _ (idle_takes idle) (λ toks. refl)))

host_item_plain : (item : HostItem) → Tells (SpellsHostItem item) plain true
host_item_plain (host_ip address) = by_key (λ start rest. refl)
host_item_plain (host_range words) = by_key (λ start rest. refl)
host_item_plain (host_idle idle) = idle_tells (λ start rest. refl) idle

nat_item_takes : (item : NatItem) → Takes (SpellsNatItem item) Always read_nat_item item
nat_item_takes (nat_ip prefix) = no_takes (at_key (codes "hidden")) _ (by_key (λ start rest. refl)) (last_takes _ (setting_takes (codes "ip") Prefix prefix) (λ toks. refl))
nat_item_takes nat_hidden = yes_takes (at_key (codes "hidden")) _ (by_key (λ start rest. refl)) (then_takes _ (key_takes (codes "hidden")) (last_takes _ (sign_takes (codes ";")) (λ toks. refl)))

nat_item_plain : (item : NatItem) → Tells (SpellsNatItem item) plain true
nat_item_plain (nat_ip prefix) = by_key (λ start rest. refl)
nat_item_plain nat_hidden = by_key (λ start rest. refl)

net_item_takes : (item : NetItem) → Takes (SpellsNetItem item) Always read_net_item item
net_item_takes (net_ip prefix) = yes_takes (at_key (codes "ip")) _ (by_key (λ start rest. refl)) (last_takes _ (setting_takes (codes "ip") Prefix prefix) (λ toks. refl))
net_item_takes (net_host name parts) = no_takes (at_key (codes "ip")) _ (by_name (codes "host:") name (λ text start rest h. refl)) (yes_takes (at_kind (codes "host:")) _ (by_name (codes "host:") name (λ text start rest h. refl)) (then_takes _ (named_takes (codes "host:") name) (last_takes _ (body_takes SpellsHostItem read_host_item host_item_takes host_item_plain parts) (λ toks. refl))))
net_item_takes (net_nat tag parts) = no_takes (at_key (codes "ip")) _ (by_name (codes "nat:") tag (λ text start rest h. refl)) (no_takes (at_kind (codes "host:")) _ (by_name (codes "nat:") tag (λ text start rest h. refl)) (yes_takes (at_kind (codes "nat:")) _ (by_name (codes "nat:") tag (λ text start rest h. refl)) (then_takes _ (named_takes (codes "nat:") tag) (last_takes _ (body_takes SpellsNatItem read_nat_item nat_item_takes nat_item_plain parts) (λ toks. refl)))))
net_item_takes (net_idle idle) = no_takes (at_key (codes "ip")) _ (idle_tells (λ start rest. refl) idle) (no_takes (at_kind (codes "host:")) _ (idle_tells (λ start rest. refl) idle) (no_takes (at_kind (codes "nat:")) _ (idle_tells (λ start rest. refl) idle) (last_takes _ (idle_takes idle) (λ toks. refl))))

net_item_plain : (item : NetItem) → Tells (SpellsNetItem item) plain true
net_item_plain (net_ip prefix) = by_key (λ start rest. refl)
net_item_plain (net_host name parts) = by_name (codes "host:") name (λ text start rest h. refl)
net_item_plain (net_nat tag parts) = by_name (codes "nat:") tag (λ text start rest h. refl)
net_item_plain (net_idle idle) = idle_tells (λ start rest. refl) idle

-- ---- routers

virt_item_takes : (item : VirtItem) → Takes (SpellsVirtItem item) Always read_virt_item item
virt_item_takes (virt_ip address) = yes_takes (at_key (codes "ip")) _ (by_key (λ start rest. refl)) (last_takes _ (setting_takes (codes "ip") Address address) (λ toks. refl))
virt_item_takes (virt_kind word) = no_takes (at_key (codes "ip")) _ (by_key (λ start rest. refl)) (yes_takes (at_key (codes "type")) _ (by_key (λ start rest. refl)) (last_takes _ (setting_takes (codes "type") Any word) (λ toks. refl)))
virt_item_takes (virt_id number) = no_takes (at_key (codes "ip")) _ (by_key (λ start rest. refl)) (no_takes (at_key (codes "type")) _ (by_key (λ start rest. refl)) (last_takes _ (setting_takes (codes "id") Number number) (λ toks. refl)))

virt_item_plain : (item : VirtItem) → Tells (SpellsVirtItem item) plain true
virt_item_plain (virt_ip address) = by_key (λ start rest. refl)
virt_item_plain (virt_kind word) = by_key (λ start rest. refl)
virt_item_plain (virt_id number) = by_key (λ start rest. refl)

iface_item_takes : (item : IfaceItem) → Takes (SpellsIfaceItem item) Always read_iface_item item
iface_item_takes (iface_ip address) = yes_takes (at_key (codes "ip")) _ (by_key (λ start rest. refl)) (last_takes _ (setting_takes (codes "ip") Address address) (λ toks. refl))
iface_item_takes (iface_hardware word) = no_takes (at_key (codes "ip")) _ (by_key (λ start rest. refl)) (yes_takes (at_key (codes "hardware")) _ (by_key (λ start rest. refl)) (last_takes _ (setting_takes (codes "hardware") Any word) (λ toks. refl)))
iface_item_takes (iface_bind_nat tags) = no_takes (at_key (codes "ip")) _ (by_key (λ start rest. refl)) (no_takes (at_key (codes "hardware")) _ (by_key (λ start rest. refl)) (yes_takes (at_key (codes "bind_nat")) _ (by_key (λ start rest. refl)) (then_takes _ (key_takes (codes "bind_nat")) (then_takes _ (sign_takes (codes "=")) (follow_takes _ (listed_takes (a_word Name) _ (word_takes Name) tags) (sign_tells (λ start rest. refl)) (last_takes _ (sign_takes (codes ";")) (λ toks. refl)))))))
iface_item_takes (iface_virtual parts) = no_takes (at_key (codes "ip")) _ (by_key (λ start rest. refl)) (no_takes (at_key (codes "hardware")) _ (by_key (λ start rest. refl)) (no_takes (at_key (codes "bind_nat")) _ (by_key (λ start rest. refl)) (yes_takes (at_key (codes "virtual")) _ (by_key (λ start rest. refl)) (then_takes _ (key_takes (codes "virtual")) (last_takes _ (body_takes SpellsVirtItem read_virt_item virt_item_takes virt_item_plain parts) (λ toks. refl))))))
iface_item_takes (iface_idle idle) = no_takes (at_key (codes "ip")) _ (idle_tells (λ start rest. refl) idle) (no_takes (at_key (codes "hardware")) _ (idle_tells (λ start rest. refl) idle) (no_takes (at_key (codes "bind_nat")) _ (idle_tells (λ start rest. refl) idle) (no_takes (at_key (codes "virtual")) _ (idle_tells (λ start rest. refl) idle) (last_takes _ (idle_takes idle) (λ toks. refl)))))

iface_item_plain : (item : IfaceItem) → Tells (SpellsIfaceItem item) plain true
iface_item_plain (iface_ip address) = by_key (λ start rest. refl)
iface_item_plain (iface_hardware word) = by_key (λ start rest. refl)
iface_item_plain (iface_bind_nat tags) = by_key (λ start rest. refl)
iface_item_plain (iface_virtual parts) = by_key (λ start rest. refl)
iface_item_plain (iface_idle idle) = idle_tells (λ start rest. refl) idle

-- `;` alone
bare_takes : (xs : List IfaceItem) → Takes (none_of xs then sign (codes ";")) Always read_iface_body xs
bare_takes [] = record { takes = λ front rest p f. ap (λ l. read_iface_body (l ++ rest)) (p.4 ∙ λ i. p.2 i ++ p.3.1 i) }
bare_takes (x ∷ xs) = absent_takes (λ front p. p.2)

iface_body_takes : (xs : List IfaceItem) → Takes ((none_of xs then sign (codes ";")) or body SpellsIfaceItem xs) Always read_iface_body xs
iface_body_takes xs = or_takes (bare_takes xs) (no_takes (at_sign (codes ";")) _ (by_sign (λ start rest. refl)) (body_takes SpellsIfaceItem read_iface_item iface_item_takes iface_item_plain xs))

filter_takes : (word : Lexeme) → Takes (sign (codes "=") then a_word Filter word) Always read_filter word
filter_takes word = then_takes _ (sign_takes (codes "=")) (word_takes Filter word)

router_item_takes : (item : RouterItem) → Takes (SpellsRouterItem item) Always read_router_item item
router_item_takes (router_managed filter) = yes_takes (at_key (codes "managed")) _ (by_key (λ start rest. refl)) (then_takes _ (key_takes (codes "managed")) (follow_takes _ (unless_takes no_value filter_takes (λ word. by_sign (λ start rest. refl)) (λ rest h. tt) filter) (sign_tells (λ start rest. refl)) (last_takes _ (sign_takes (codes ";")) (λ toks. refl))))
router_item_takes (router_model word) = no_takes (at_key (codes "managed")) _ (by_key (λ start rest. refl)) (yes_takes (at_key (codes "model")) _ (by_key (λ start rest. refl)) (last_takes _ (setting_takes (codes "model") Any word) (λ toks. refl)))
router_item_takes (router_routing word) = no_takes (at_key (codes "managed")) _ (by_key (λ start rest. refl)) (no_takes (at_key (codes "model")) _ (by_key (λ start rest. refl)) (yes_takes (at_key (codes "routing")) _ (by_key (λ start rest. refl)) (last_takes _ (setting_takes (codes "routing") Routing word) (λ toks. refl))))
router_item_takes (router_iface net parts) = no_takes (at_key (codes "managed")) _ (by_name (codes "interface:") net (λ text start rest h. refl)) (no_takes (at_key (codes "model")) _ (by_name (codes "interface:") net (λ text start rest h. refl)) (no_takes (at_key (codes "routing")) _ (by_name (codes "interface:") net (λ text start rest h. refl)) (yes_takes (at_kind (codes "interface:")) _ (by_name (codes "interface:") net (λ text start rest h. refl)) (then_takes _ (named_takes (codes "interface:") net) (last_takes _ (iface_body_takes parts) (λ toks. refl))))))
router_item_takes (router_idle idle) = no_takes (at_key (codes "managed")) _ (idle_tells (λ start rest. refl) idle) (no_takes (at_key (codes "model")) _ (idle_tells (λ start rest. refl) idle) (no_takes (at_key (codes "routing")) _ (idle_tells (λ start rest. refl) idle) (no_takes (at_kind (codes "interface:")) _ (idle_tells (λ start rest. refl) idle) (last_takes _ (idle_takes idle) (λ toks. refl)))))

router_item_plain : (item : RouterItem) → Tells (SpellsRouterItem item) plain true
router_item_plain (router_managed filter) = by_key (λ start rest. refl)
router_item_plain (router_model word) = by_key (λ start rest. refl)
router_item_plain (router_routing word) = by_key (λ start rest. refl)
router_item_plain (router_iface net parts) = by_name (codes "interface:") net (λ text start rest h. refl)
router_item_plain (router_idle idle) = idle_tells (λ start rest. refl) idle

-- ---- areas and aggregates

area_item_takes : (item : AreaItem) → Takes (SpellsAreaItem item) Always read_area_item item
area_item_takes (area_anchor net) = yes_takes (at_key (codes "anchor")) _ (by_key (λ start rest. refl)) (last_takes _ (at_network_takes (codes "anchor") net) (λ toks. refl))
area_item_takes (area_border ports) = no_takes (at_key (codes "anchor")) _ (by_key (λ start rest. refl)) (yes_takes (at_key (codes "border")) _ (by_key (λ start rest. refl)) (then_takes _ (key_takes (codes "border")) (then_takes _ (sign_takes (codes "=")) (follow_takes _ (listed_takes at_port _ port_takes ports) (sign_tells (λ start rest. refl)) (last_takes _ (sign_takes (codes ";")) (λ toks. refl))))))
area_item_takes (area_idle idle) = no_takes (at_key (codes "anchor")) _ (idle_tells (λ start rest. refl) idle) (no_takes (at_key (codes "border")) _ (idle_tells (λ start rest. refl) idle) (last_takes _ (idle_takes idle) (λ toks. refl)))

area_item_plain : (item : AreaItem) → Tells (SpellsAreaItem item) plain true
area_item_plain (area_anchor net) = by_key (λ start rest. refl)
area_item_plain (area_border ports) = by_key (λ start rest. refl)
area_item_plain (area_idle idle) = idle_tells (λ start rest. refl) idle

any_item_takes : (item : AnyItem) → Takes (SpellsAnyItem item) Always read_any_item item
any_item_takes (any_link net) = yes_takes (at_key (codes "link")) _ (by_key (λ start rest. refl)) (last_takes _ (at_network_takes (codes "link") net) (λ toks. refl))
any_item_takes (any_ip prefix) = no_takes (at_key (codes "link")) _ (by_key (λ start rest. refl)) (yes_takes (at_key (codes "ip")) _ (by_key (λ start rest. refl)) (last_takes _ (setting_takes (codes "ip") Prefix prefix) (λ toks. refl)))
any_item_takes (any_idle idle) = no_takes (at_key (codes "link")) _ (idle_tells (λ start rest. refl) idle) (no_takes (at_key (codes "ip")) _ (idle_tells (λ start rest. refl) idle) (last_takes _ (idle_takes idle) (λ toks. refl)))

any_item_plain : (item : AnyItem) → Tells (SpellsAnyItem item) plain true
any_item_plain (any_link net) = by_key (λ start rest. refl)
any_item_plain (any_ip prefix) = by_key (λ start rest. refl)
any_item_plain (any_idle idle) = idle_tells (λ start rest. refl) idle

-- ---- protocols

proto_takes : (proto : Proto) → Takes (SpellsProto proto) (Where at_word false) read_proto proto
proto_takes proto_ip = record { takes = λ front rest p f. ap (λ l. read_proto (l ++ rest)) p.1 }
proto_takes (proto_tcp ports) = no_takes (at_key (codes "ip")) _ (by_key (λ start rest. refl)) (yes_takes (at_key (codes "tcp")) _ (by_key (λ start rest. refl)) (then_takes _ (key_takes (codes "tcp")) (last_takes _ (spread_or_none_takes Ports refl ports) (λ toks. refl))))
proto_takes (proto_udp ports) = no_takes (at_key (codes "ip")) _ (by_key (λ start rest. refl)) (no_takes (at_key (codes "tcp")) _ (by_key (λ start rest. refl)) (yes_takes (at_key (codes "udp")) _ (by_key (λ start rest. refl)) (then_takes _ (key_takes (codes "udp")) (last_takes _ (spread_or_none_takes Ports refl ports) (λ toks. refl)))))
proto_takes (proto_icmp kind) = no_takes (at_key (codes "ip")) _ (by_key (λ start rest. refl)) (no_takes (at_key (codes "tcp")) _ (by_key (λ start rest. refl)) (no_takes (at_key (codes "udp")) _ (by_key (λ start rest. refl)) (yes_takes (at_key (codes "icmp")) _ (by_key (λ start rest. refl)) (then_takes _ (key_takes (codes "icmp")) (last_takes _ (spread_or_none_takes Icmp refl kind) (λ toks. refl))))))
proto_takes (proto_number number) = no_takes (at_key (codes "ip")) _ (by_key (λ start rest. refl)) (no_takes (at_key (codes "tcp")) _ (by_key (λ start rest. refl)) (no_takes (at_key (codes "udp")) _ (by_key (λ start rest. refl)) (no_takes (at_key (codes "icmp")) _ (by_key (λ start rest. refl)) (then_takes _ (key_takes (codes "proto")) (last_takes _ (less_takes (word_takes Number number) (λ front p. p) (λ rest f. tt)) (λ toks. refl))))))

proto_tells : {test : List Tok → Bool} {b : Bool} → ((start : ℕ) (rest : List Tok) → Each (λ w. test (word_at start w ∷ rest)) b (codes "ip" ∷ codes "tcp" ∷ codes "udp" ∷ codes "icmp" ∷ codes "proto" ∷ [])) → (proto : Proto) → Tells (SpellsProto proto) test b
proto_tells {b = b} each proto_ip = key_tells (λ start rest. ap (λ l. get_or l 0 b) (each start rest))
proto_tells {b = b} each (proto_tcp ports) = then_tells (key_tells (λ start rest. ap (λ l. get_or l 1 b) (each start rest)))
proto_tells {b = b} each (proto_udp ports) = then_tells (key_tells (λ start rest. ap (λ l. get_or l 2 b) (each start rest)))
proto_tells {b = b} each (proto_icmp kind) = then_tells (key_tells (λ start rest. ap (λ l. get_or l 3 b) (each start rest)))
proto_tells {b = b} each (proto_number number) = then_tells (key_tells (λ start rest. ap (λ l. get_or l 4 b) (each start rest)))

proto_item_takes : (item : ProtoItem) → Takes (SpellsProtoItem item) (Where at_word false) read_proto_item item
proto_item_takes (one_proto proto) = no_takes (at_kind (codes "protocol:")) _ (proto_tells (λ start rest. refl) proto) (no_takes (at_kind (codes "protocolgroup:")) _ (proto_tells (λ start rest. refl) proto) (last_takes _ (proto_takes proto) (λ toks. refl)))
proto_item_takes (a_protocol name) = yes_takes (at_kind (codes "protocol:")) _ (named_tells (codes "protocol:") name (λ text start rest h. refl)) (last_takes _ (less_takes (named_takes (codes "protocol:") name) (λ front p. p) (λ rest f. tt)) (λ toks. refl))
proto_item_takes (a_protogroup name) = no_takes (at_kind (codes "protocol:")) _ (named_tells (codes "protocolgroup:") name (λ text start rest h. refl)) (yes_takes (at_kind (codes "protocolgroup:")) _ (named_tells (codes "protocolgroup:") name (λ text start rest h. refl)) (last_takes _ (less_takes (named_takes (codes "protocolgroup:") name) (λ front p. p) (λ rest f. tt)) (λ toks. refl)))

proto_item_goes : (item : ProtoItem) → Tells (SpellsProtoItem item) list_ends false
proto_item_goes (one_proto proto) = proto_tells (λ start rest. refl) proto
proto_item_goes (a_protocol name) = named_tells (codes "protocol:") name (λ text start rest h. refl)
proto_item_goes (a_protogroup name) = named_tells (codes "protocolgroup:") name (λ text start rest h. refl)

prts_takes : (prts : List ProtoItem) → Takes (to_items prts) Always read_prts prts
prts_takes prts = then_takes _ (sign_takes (codes "=")) (follow_takes _ (listed_open_takes SpellsProtoItem at_word false _ proto_item_takes proto_item_goes (λ start rest. refl) (λ start rest. refl) (λ start rest. refl) prts) (sign_tells (λ start rest. refl)) (last_takes _ (sign_takes (codes ";")) (λ toks. refl)))

-- ---- terms

-- a name is not empty
name_some : (text : List ℕ) → is_name text ≡ true → bytes_eq text [] ≡ false
name_some [] h = absurd (true≢false (sym h))
name_some (c ∷ cs) h = refl

-- the first word of a term, where its kind is followed by this text
abbrev term_words : List ℕ → List (List ℕ)
term_words text = (codes "network:" ++ text) ∷ (codes "host:" ++ text) ∷ (codes "interface:" ++ text) ∷ (codes "group:" ++ text) ∷ (codes "any:" ++ text) ∷ (codes "area:" ++ text) ∷ codes "user" ∷ []

term_tells : {S : Type 0} (spells : S → Phrase) (user_stands area_stands : Bool) {test : List Tok → Bool} {b : Bool} → ((text : List ℕ) (start : ℕ) (rest : List Tok) → Each (λ w. test (word_at start w ∷ rest)) b (term_words text)) → (term : TermOf S) → Tells (SpellsTermOf user_stands area_stands spells term) test b
term_tells spells user_stands area_stands {b = b} each (network name) = named_tells (codes "network:") name (λ text start rest h. ap (λ l. get_or l 0 b) (each text start rest))
term_tells spells user_stands area_stands {b = b} each (host name) = named_tells (codes "host:") name (λ text start rest h. ap (λ l. get_or l 1 b) (each text start rest))
term_tells spells user_stands area_stands {b = b} each (port place) = port_tells place (λ text start rest. ap (λ l. get_or l 2 b) (each text start rest))
term_tells spells user_stands area_stands {b = b} each (group name) = named_tells (codes "group:") name (λ text start rest h. ap (λ l. get_or l 3 b) (each text start rest))
term_tells spells user_stands area_stands {b = b} each (aggregate name) = named_tells (codes "any:") name (λ text start rest h. ap (λ l. get_or l 4 b) (each text start rest))
term_tells spells user_stands area_stands {b = b} each (area name) = where_tells area_stands (named_tells (codes "area:") name (λ text start rest h. ap (λ l. get_or l 5 b) (each text start rest)))
term_tells spells user_stands area_stands {b = b} each user = where_tells user_stands (key_tells (λ start rest. ap (λ l. get_or l 6 b) (each [] start rest)))
term_tells spells user_stands area_stands {b = b} each (nets set) = then_tells (key_tells (λ start rest. ap (λ l. get_or l 0 b) (each [] start rest)))
term_tells spells user_stands area_stands {b = b} each (hosts set) = then_tells (key_tells (λ start rest. ap (λ l. get_or l 1 b) (each [] start rest)))
term_tells spells user_stands area_stands {b = b} each (anys inside set) = then_tells (key_tells (λ start rest. ap (λ l. get_or l 4 b) (each [] start rest)))

term_opens : {S : Type 0} (spells : S → Phrase) (user_stands area_stands : Bool) (term : TermOf S) → Tells (SpellsTermOf user_stands area_stands spells term) opens true
term_opens spells user_stands area_stands = term_tells spells user_stands area_stands (λ text start rest. refl)

-- what is read behind the word
past_takes : {A : Type 0} {P : Phrase} {F : List Tok → Type 0} (text : List ℕ) (read : Reader A) (other : Reader A) {x : A} → Takes P F read x → Takes (key text then P) F (λ toks. cond (at_key text toks) (read (past toks)) (other toks)) x
past_takes {P = P} text read other t = record {
  takes = λ front rest p f.
      ap (λ l. cond (at_key text (l ++ rest)) (read (past (l ++ rest))) (other (l ++ rest))) (p.4 ∙ ap (λ l. l ++ p.1) p.2.1)
      ∙ ap (λ b. cond b (read (p.1 ++ rest)) (other (word_at p.2.0 text ∷ p.1 ++ rest))) (same_text text)
      ∙ t.takes p.1 rest p.3 f;
}

inside_takes : (prefix : Lexeme) → Takes (key (codes "ip") then sign (codes "=") then a_word Prefix prefix then sign (codes "&")) Always read_inside prefix
inside_takes prefix = then_takes _ (key_takes (codes "ip")) (then_takes _ (sign_takes (codes "=")) (then_takes _ (word_takes Prefix prefix) (last_takes _ (sign_takes (codes "&")) (λ toks. refl))))

module _ {S : Type 0} (spells : S → Phrase) (read : Reader S) (reads : (set : S) → Takes (spells set) (Where list_ends true) read set) (set_opens : (set : S) → Tells (spells set) opens true) (user_stands area_stands : Bool) where
  bracket_takes : (set : S) → Takes (sign (codes "[") then spells set then sign (codes "]")) Always (read_bracket read) set
  bracket_takes set = then_takes _ (sign_takes (codes "[")) (follow_takes _ (reads set) (sign_tells (λ start rest. refl)) (last_takes _ (sign_takes (codes "]")) (λ toks. refl)))

  anys_takes : (inside : Option Lexeme) (set : S) → Takes (sign (codes "[") then perhaps (λ prefix. key (codes "ip") then sign (codes "=") then a_word Prefix prefix then sign (codes "&")) inside then spells set then sign (codes "]")) Always (read_anys read) (anys inside set)
  anys_takes inside set = then_takes _ (sign_takes (codes "["))
      (follow_takes _ (unless_takes no_prefix inside_takes (λ word. by_key (λ start rest. refl)) (λ rest h. tt) inside) (then_tells (tells_more no_prefix opens_no_prefix (set_opens set)))
      (follow_takes _ (reads set) (sign_tells (λ start rest. refl)) (last_takes _ (sign_takes (codes "]")) (λ toks. refl))))

  -- a word that is a kind and a name opens no bracket and is not `user`
  named_term_takes : (term : TermOf S) → Tells (SpellsTermOf user_stands area_stands spells term) (at_key (codes "user")) false → Tells (SpellsTermOf user_stands area_stands spells term) (at_key (codes "network:")) false
      → Tells (SpellsTermOf user_stands area_stands spells term) (at_key (codes "host:")) false → Tells (SpellsTermOf user_stands area_stands spells term) (at_key (codes "any:")) false
      → Takes (SpellsTermOf user_stands area_stands spells term) Always (read_named_term area_stands) term → Takes (SpellsTermOf user_stands area_stands spells term) Always (read_term_of user_stands area_stands read) term
  named_term_takes term a b c d t = no_takes (at_key (codes "user")) _ a (no_takes (at_key (codes "network:")) _ b (no_takes (at_key (codes "host:")) _ c (no_takes (at_key (codes "any:")) _ d t)))

  area_takes : (name : Lexeme) → Takes (where_true area_stands (named (codes "area:") name)) Always (λ toks. cond {A = Option (TermOf S × List Tok)} area_stands (then_read (read_named (codes "area:") toks) (λ name. done (area name))) None) (area name)
  area_takes name = record {
    takes = λ front rest p f.
        ap (λ b. cond {A = Option (TermOf S × List Tok)} b (then_read (read_named (codes "area:") (front ++ rest)) (λ name. done (area name))) None) p.0
        ∙ ap (λ o. then_read o (λ name. done (area name))) ((named_takes (codes "area:") name).takes front rest p.1 tt);
  }

  term_takes : (term : TermOf S) → Takes (SpellsTermOf user_stands area_stands spells term) Always (read_term_of user_stands area_stands read) term
  term_takes (network name) = named_term_takes (network name) (named_tells (codes "network:") name (λ text start rest h. refl)) (named_tells (codes "network:") name (λ text start rest h. name_some text h)) (named_tells (codes "network:") name (λ text start rest h. refl)) (named_tells (codes "network:") name (λ text start rest h. refl))
      (yes_takes (at_kind (codes "network:")) _ (named_tells (codes "network:") name (λ text start rest h. refl)) (last_takes _ (named_takes (codes "network:") name) (λ toks. refl)))
  term_takes (host name) = named_term_takes (host name) (named_tells (codes "host:") name (λ text start rest h. refl)) (named_tells (codes "host:") name (λ text start rest h. refl)) (named_tells (codes "host:") name (λ text start rest h. name_some text h)) (named_tells (codes "host:") name (λ text start rest h. refl))
      (no_takes (at_kind (codes "network:")) _ (named_tells (codes "host:") name (λ text start rest h. refl)) (yes_takes (at_kind (codes "host:")) _ (named_tells (codes "host:") name (λ text start rest h. refl)) (last_takes _ (named_takes (codes "host:") name) (λ toks. refl))))
  term_takes (port place) = named_term_takes (port place) (port_tells place (λ text start rest. refl)) (port_tells place (λ text start rest. refl)) (port_tells place (λ text start rest. refl)) (port_tells place (λ text start rest. refl))
      (no_takes (at_kind (codes "network:")) _ (port_tells place (λ text start rest. refl)) (no_takes (at_kind (codes "host:")) _ (port_tells place (λ text start rest. refl)) (yes_takes (at_kind (codes "interface:")) _ (port_tells place (λ text start rest. refl)) (last_takes _ (port_takes place) (λ toks. refl)))))
  term_takes (group name) = named_term_takes (group name) (named_tells (codes "group:") name (λ text start rest h. refl)) (named_tells (codes "group:") name (λ text start rest h. refl)) (named_tells (codes "group:") name (λ text start rest h. refl)) (named_tells (codes "group:") name (λ text start rest h. refl))
      (no_takes (at_kind (codes "network:")) _ (named_tells (codes "group:") name (λ text start rest h. refl)) (no_takes (at_kind (codes "host:")) _ (named_tells (codes "group:") name (λ text start rest h. refl)) (no_takes (at_kind (codes "interface:")) _ (named_tells (codes "group:") name (λ text start rest h. refl)) (yes_takes (at_kind (codes "group:")) _ (named_tells (codes "group:") name (λ text start rest h. refl)) (last_takes _ (named_takes (codes "group:") name) (λ toks. refl))))))
  term_takes (aggregate name) = named_term_takes (aggregate name) (named_tells (codes "any:") name (λ text start rest h. refl)) (named_tells (codes "any:") name (λ text start rest h. refl)) (named_tells (codes "any:") name (λ text start rest h. refl)) (named_tells (codes "any:") name (λ text start rest h. name_some text h))
      (no_takes (at_kind (codes "network:")) _ (named_tells (codes "any:") name (λ text start rest h. refl)) (no_takes (at_kind (codes "host:")) _ (named_tells (codes "any:") name (λ text start rest h. refl)) (no_takes (at_kind (codes "interface:")) _ (named_tells (codes "any:") name (λ text start rest h. refl)) (no_takes (at_kind (codes "group:")) _ (named_tells (codes "any:") name (λ text start rest h. refl)) (yes_takes (at_kind (codes "any:")) _ (named_tells (codes "any:") name (λ text start rest h. refl)) (last_takes _ (named_takes (codes "any:") name) (λ toks. refl)))))))
  term_takes (area name) = named_term_takes (area name) (where_tells area_stands (named_tells (codes "area:") name (λ text start rest h. refl))) (where_tells area_stands (named_tells (codes "area:") name (λ text start rest h. refl))) (where_tells area_stands (named_tells (codes "area:") name (λ text start rest h. refl))) (where_tells area_stands (named_tells (codes "area:") name (λ text start rest h. refl)))
      (no_takes (at_kind (codes "network:")) _ (where_tells area_stands (named_tells (codes "area:") name (λ text start rest h. refl))) (no_takes (at_kind (codes "host:")) _ (where_tells area_stands (named_tells (codes "area:") name (λ text start rest h. refl))) (no_takes (at_kind (codes "interface:")) _ (where_tells area_stands (named_tells (codes "area:") name (λ text start rest h. refl))) (no_takes (at_kind (codes "group:")) _ (where_tells area_stands (named_tells (codes "area:") name (λ text start rest h. refl))) (no_takes (at_kind (codes "any:")) _ (where_tells area_stands (named_tells (codes "area:") name (λ text start rest h. refl))) (area_takes name))))))
  term_takes user = record { takes = λ front rest p f. ap (λ l. read_term_of user_stands area_stands read (l ++ rest)) p.1.1 ∙ ap (λ b. cond {A = Option (TermOf S × List Tok)} b (Some (user, rest)) None) p.0 }
  term_takes (nets set) = no_takes (at_key (codes "user")) _ (by_key (λ start rest. refl))
      (past_takes (codes "network:") (read_bracket read >>= λ set. done (nets set)) _ (last_takes _ (bracket_takes set) (λ toks. refl)))
  term_takes (hosts set) = no_takes (at_key (codes "user")) _ (by_key (λ start rest. refl)) (no_takes (at_key (codes "network:")) _ (by_key (λ start rest. refl))
      (past_takes (codes "host:") (read_bracket read >>= λ set. done (hosts set)) _ (last_takes _ (bracket_takes set) (λ toks. refl))))
  term_takes (anys inside set) = no_takes (at_key (codes "user")) _ (by_key (λ start rest. refl)) (no_takes (at_key (codes "network:")) _ (by_key (λ start rest. refl)) (no_takes (at_key (codes "host:")) _ (by_key (λ start rest. refl))
      (past_takes (codes "any:") (read_anys read) _ (anys_takes inside set))))

-- ---- sets

module _ {T : Type 0} (spells : T → Phrase) (read : Reader T) (reads : (t : T) → Takes (spells t) Always read t) (item_opens : (t : T) → Tells (spells t) opens true) where
  signed_takes : (f : Bool × T) → Takes (mark f.0 then spells f.1) Always (read_signed read) f
  signed_takes (true, t) = record {
    takes = λ front rest p f.
        ap (λ l. read_signed read (l ++ rest)) (p.4 ∙ ap (λ l. l ++ p.1) p.2.1) ∙ ap (λ o. then_read o (λ t rest. Some ((true, t), rest))) ((reads t).takes p.1 rest p.3 tt);
  }
  signed_takes (false, t) = record {
    takes = λ front rest p f.
        ap (λ l. read_signed read (l ++ rest)) (p.4 ∙ ap (λ l. l ++ p.1) p.2)
        ∙ ap (λ b. then_read (read (cond b (past (p.1 ++ rest)) (p.1 ++ rest))) (λ t rest. Some ((b, t), rest))) (plain_no_sign (codes "!") (p.1 ++ rest) (opens_plain (p.1 ++ rest) ((item_opens t).tells p.1 rest p.3)))
        ∙ ap (λ o. then_read o (λ t rest. Some ((false, t), rest))) ((reads t).takes p.1 rest p.3 tt);
  }

  others_takes : (fs : List (Bool × T)) → Takes (many (SpellsFurther spells) fs) (Where no_other true) (read_others read) fs
  others_takes = until_takes (SpellsFurther spells) no_other (read_other read) (λ f. then_takes _ (sign_takes (codes "&")) (signed_takes f)) (λ f. by_sign (λ start rest. refl)) (λ f. by_sign (λ start rest. refl))

  inter_takes : (i : InterOf T) → Takes (SpellsInter spells i) (Where no_other true) (read_inter read) i
  inter_takes i = then_takes _ (reads i.0) (last_takes _ (others_takes i.1) (λ toks. refl))

  set_takes : (set : SetOf T) → Takes (SpellsSet spells set) (Where list_ends true) (read_set read) set
  set_takes = listed_open_takes (SpellsInter spells) no_other true (read_inter read) inter_takes (λ i. then_tells (tells_more list_ends opens_no_end (item_opens i.0))) (λ start rest. refl) (λ start rest. refl) (λ start rest. refl)

set_in_opens : (user_stands : Bool) (depth : ℕ) (area_stands : Bool) (set : SetIn depth) → Tells (SpellsSetIn user_stands depth area_stands set) opens true
set_in_opens user_stands zero area_stands = λ set. absurd set
set_in_opens user_stands (suc depth) area_stands = λ set. then_tells (listed_tells (λ i. then_tells (term_opens (SpellsSetIn user_stands depth true) user_stands area_stands i.0)) set)

set_in_takes : (user_stands : Bool) (depth : ℕ) (area_stands : Bool) (set : SetIn depth) → Takes (SpellsSetIn user_stands depth area_stands set) (Where list_ends true) (read_set_in user_stands depth area_stands) set
set_in_takes user_stands zero area_stands = λ set. absurd set
set_in_takes user_stands (suc depth) area_stands =
    set_takes (SpellsTermOf user_stands area_stands (SpellsSetIn user_stands depth true)) (read_term_of user_stands area_stands (read_set_in user_stands depth true))
    (term_takes (SpellsSetIn user_stands depth true) (read_set_in user_stands depth true) (set_in_takes user_stands depth true) (set_in_opens user_stands depth true) user_stands area_stands)
    (term_opens (SpellsSetIn user_stands depth true) user_stands area_stands)

-- ---- rules

action_takes : (deny : Bool) → Takes (key (action deny)) Always read_action deny
action_takes true = record { takes = λ front rest p f. ap (λ l. read_action (l ++ rest)) p.1 }
action_takes false = record { takes = λ front rest p f. ap (λ l. read_action (l ++ rest)) p.1 }

action_plain : (deny : Bool) {P : Phrase} → Tells (key (action deny) then P) plain true
action_plain true = by_key (λ start rest. refl)
action_plain false = by_key (λ start rest. refl)

module _ {S : Type 0} (spells : S → Phrase) (read : Reader S) (reads : (set : S) → Takes (spells set) (Where list_ends true) read set) where
  side_takes : (name : List ℕ) (set : S) → Takes (side name spells set) Always (read_side name read) set
  side_takes name set = then_takes _ (key_takes name) (then_takes _ (sign_takes (codes "=")) (follow_takes _ (reads set) (sign_tells (λ start rest. refl)) (last_takes _ (sign_takes (codes ";")) (λ toks. refl))))

  rule_takes : (rule : RuleOf S) → Takes (SpellsRule spells rule) Always (read_rule read) rule
  rule_takes rule = then_takes _ (action_takes rule.deny)
      (less_takes (then_takes _ (side_takes (codes "src") rule.src)
      (less_takes (then_takes _ (side_takes (codes "dst") rule.dst) (then_takes _ (key_takes (codes "prt")) (last_takes _ (prts_takes rule.prts) (λ toks. refl)))) (ungroup_4 _ _ _ _ _) (λ rest f. f)))
      (ungroup_4 _ _ _ _ _) (λ rest f. f))

  rules_takes : (rules : List (RuleOf S)) → Takes (some (SpellsRule spells) rules then sign (codes "}")) Always (read_rules read) rules
  rules_takes [] = absent_takes (λ front p. p.2)
  rules_takes (rule ∷ rules) = no_takes (at_sign (codes "}")) _ (then_tells (then_tells (by_key (λ start rest. refl)))) (parts_takes (SpellsRule spells) (read_rule read) rule_takes (λ r. action_plain r.deny) (rule ∷ rules))

-- ---- declarations

opened_takes : {B : Type 0} {F : List Tok → Type 0} {P : Phrase} (desc : Option Lexeme) (f : Option Lexeme → Reader B) {y : B} → Tells P no_desc true → Takes P F (f desc) y → Takes (sign (codes "=") then sign (codes "{") then perhaps SpellsDesc desc then P) F (read_opening >>= f) y
opened_takes desc f first t = less_takes (follow_takes f (opening_takes desc) first t) (ungroup_3 _ _ _ _) (λ rest g. g)

idle_no_desc : (idle : IdleItem) → Tells (SpellsIdle idle) no_desc true
idle_no_desc = idle_tells (λ start rest. refl)

idle_goes : (idle : IdleItem) → Tells (SpellsIdle idle) no_idle false
idle_goes = idle_tells (λ start rest. refl)

idle_sizes : (idle : IdleItem) → Tells (SpellsIdle idle) has_token true
idle_sizes = idle_tells (λ start rest. refl)

with_parts : {S A : Type 0} (kind : List ℕ) (decl : Lexeme → Option Lexeme → List A → DeclOf S) (items : A → Phrase) (read_item : Reader A) → ((x : A) → Takes (items x) Always read_item x) → ((x : A) → Tells (items x) plain true)
    → (name : Lexeme) (desc : Option Lexeme) (xs : List A) → Takes (named kind name then body_with desc items xs) Always (read_named kind >>= λ name. read_opening >>= λ desc. read_parts read_item >>= λ xs. done (decl name desc xs)) (decl name desc xs)
with_parts kind decl items read_item reads first name desc xs =
    then_takes _ (named_takes kind name)
    (opened_takes desc _ (many_tells (λ x. tells_more no_desc plain_no_desc (first x)) (sign_tells (λ start rest. refl)) xs)
    (last_takes _ (parts_takes items read_item reads first xs) (λ toks. refl)))

module _ {S : Type 0} (spells in_rules : S → Phrase) (read read_in_rules : Reader S) (reads : (set : S) → Takes (spells set) (Where list_ends true) read set) (set_opens : (set : S) → Tells (spells set) opens true)
    (reads_in_rules : (set : S) → Takes (in_rules set) (Where list_ends true) read_in_rules set) where
  group_takes : (name : Lexeme) (desc : Option Lexeme) (objects : Option S) → Takes (SpellsDecl spells in_rules (group_decl name desc objects)) Always (read_group read) (group_decl name desc objects)
  group_takes name desc objects =
      then_takes _ (named_takes (codes "group:") name) (then_takes _ (sign_takes (codes "="))
      (follow_takes _ (desc_part_takes desc) (perhaps_tells (λ set. tells_more no_desc plain_no_desc (tells_more plain opens_plain (set_opens set))) (sign_tells (λ start rest. refl)) objects)
      (follow_takes _ (unless_takes (at_sign (codes ";")) reads (λ set. tells_more (at_sign (codes ";")) (plain_no_sign (codes ";")) (tells_more plain opens_plain (set_opens set))) (λ rest h. ap (λ b. cond b true (at_sign (codes "]") rest)) h) objects) (sign_tells (λ start rest. refl))
      (last_takes _ (sign_takes (codes ";")) (λ toks. refl)))))

  protocol_takes : (name : Lexeme) (proto : Proto) (notes : List Lexeme) → Takes (SpellsDecl spells in_rules (protocol_decl name proto notes)) Always (read_protocol {S = S}) (protocol_decl name proto notes)
  protocol_takes name proto notes =
      then_takes _ (named_takes (codes "protocol:") name) (then_takes _ (sign_takes (codes "="))
      (follow_takes _ (proto_takes proto) (many_tells (λ x. by_sign (λ start rest. refl)) (sign_tells (λ start rest. refl)) notes)
      (follow_takes _ (further_takes (a_word Note) _ (word_takes Note) notes) (sign_tells (λ start rest. refl))
      (last_takes _ (sign_takes (codes ";")) (λ toks. refl)))))

  protogroup_takes : (name : Lexeme) (prts : List ProtoItem) → Takes (SpellsDecl spells in_rules (protogroup_decl name prts)) Always (read_protogroup {S = S}) (protogroup_decl name prts)
  protogroup_takes name prts = then_takes _ (named_takes (codes "protocolgroup:") name) (last_takes _ (prts_takes prts) (λ toks. refl))

  restriction_takes : (name : Lexeme) (desc : Option Lexeme) (ports : List PortItem) → Takes (SpellsDecl spells in_rules (restriction_decl name desc ports)) Always (read_restriction {S = S}) (restriction_decl name desc ports)
  restriction_takes name desc ports =
      then_takes _ (named_takes (codes "pathrestriction:") name) (then_takes _ (sign_takes (codes "="))
      (follow_takes _ (desc_part_takes desc) (then_tells (then_tells (listed_tells (λ place. port_tells place (λ text start rest. refl)) ports)))
      (follow_takes _ (listed_open_takes at_port (λ toks. true) true _ (λ place. less_takes (port_takes place) (λ front p. p) (λ rest f. tt)) (λ place. port_tells place (λ text start rest. refl)) (λ start rest. refl) (λ start rest. refl) (λ start rest. refl) ports) (sign_tells (λ start rest. refl))
      (last_takes _ (sign_takes (codes ";")) (λ toks. refl)))))

  service_takes : (name : Lexeme) (desc : Option Lexeme) (idle : List IdleItem) (users : S) (rules : List (RuleOf S)) → Takes (SpellsDecl spells in_rules (service_decl name desc idle users rules)) Always (read_service read read_in_rules) (service_decl name desc idle users rules)
  service_takes name desc idle users rules =
      then_takes _ (named_takes (codes "service:") name)
      (opened_takes desc _ (many_tells idle_no_desc (by_key (λ start rest. refl)) idle)
      (follow_takes _ (until_takes SpellsIdle no_idle read_idle idle_takes idle_goes idle_sizes idle) (by_key (λ start rest. refl))
      (less_takes (then_takes _ (side_takes spells read reads (codes "user") users) (last_takes _ (rules_takes in_rules read_in_rules reads_in_rules rules) (λ toks. refl))) (ungroup_4 _ _ _ _ _) (λ rest f. f))))

  decl_takes : (decl : DeclOf S) → Takes (SpellsDecl spells in_rules decl) Always (read_decl read read_in_rules) decl
  decl_takes (network_decl name desc parts) =
      (yes_takes (at_kind (codes "network:")) _ (by_name (codes "network:") name (λ text start rest h. refl)) (with_parts (codes "network:") network_decl SpellsNetItem read_net_item net_item_takes net_item_plain name desc parts))
  decl_takes (router_decl name desc parts) =
      (no_takes (at_kind (codes "network:")) _ (by_name (codes "router:") name (λ text start rest h. refl)) (yes_takes (at_kind (codes "router:")) _ (by_name (codes "router:") name (λ text start rest h. refl)) (with_parts (codes "router:") router_decl SpellsRouterItem read_router_item router_item_takes router_item_plain name desc parts)))
  decl_takes (group_decl name desc objects) =
      (no_takes (at_kind (codes "network:")) _ (by_name (codes "group:") name (λ text start rest h. refl)) (no_takes (at_kind (codes "router:")) _ (by_name (codes "group:") name (λ text start rest h. refl)) (yes_takes (at_kind (codes "group:")) _ (by_name (codes "group:") name (λ text start rest h. refl)) (group_takes name desc objects))))
  decl_takes (area_decl name desc parts) =
      (no_takes (at_kind (codes "network:")) _ (by_name (codes "area:") name (λ text start rest h. refl)) (no_takes (at_kind (codes "router:")) _ (by_name (codes "area:") name (λ text start rest h. refl)) (no_takes (at_kind (codes "group:")) _ (by_name (codes "area:") name (λ text start rest h. refl)) (yes_takes (at_kind (codes "area:")) _ (by_name (codes "area:") name (λ text start rest h. refl)) (with_parts (codes "area:") area_decl SpellsAreaItem read_area_item area_item_takes area_item_plain name desc parts)))))
  decl_takes (aggregate_decl name desc parts) =
      (no_takes (at_kind (codes "network:")) _ (by_name (codes "any:") name (λ text start rest h. refl)) (no_takes (at_kind (codes "router:")) _ (by_name (codes "any:") name (λ text start rest h. refl)) (no_takes (at_kind (codes "group:")) _ (by_name (codes "any:") name (λ text start rest h. refl)) (no_takes (at_kind (codes "area:")) _ (by_name (codes "any:") name (λ text start rest h. refl)) (yes_takes (at_kind (codes "any:")) _ (by_name (codes "any:") name (λ text start rest h. refl)) (with_parts (codes "any:") aggregate_decl SpellsAnyItem read_any_item any_item_takes any_item_plain name desc parts))))))
  decl_takes (protocol_decl name proto notes) =
      (no_takes (at_kind (codes "network:")) _ (by_name (codes "protocol:") name (λ text start rest h. refl)) (no_takes (at_kind (codes "router:")) _ (by_name (codes "protocol:") name (λ text start rest h. refl)) (no_takes (at_kind (codes "group:")) _ (by_name (codes "protocol:") name (λ text start rest h. refl)) (no_takes (at_kind (codes "area:")) _ (by_name (codes "protocol:") name (λ text start rest h. refl)) (no_takes (at_kind (codes "any:")) _ (by_name (codes "protocol:") name (λ text start rest h. refl)) (yes_takes (at_kind (codes "protocol:")) _ (by_name (codes "protocol:") name (λ text start rest h. refl)) (protocol_takes name proto notes)))))))
  decl_takes (protogroup_decl name prts) =
      (no_takes (at_kind (codes "network:")) _ (by_name (codes "protocolgroup:") name (λ text start rest h. refl)) (no_takes (at_kind (codes "router:")) _ (by_name (codes "protocolgroup:") name (λ text start rest h. refl)) (no_takes (at_kind (codes "group:")) _ (by_name (codes "protocolgroup:") name (λ text start rest h. refl)) (no_takes (at_kind (codes "area:")) _ (by_name (codes "protocolgroup:") name (λ text start rest h. refl)) (no_takes (at_kind (codes "any:")) _ (by_name (codes "protocolgroup:") name (λ text start rest h. refl)) (no_takes (at_kind (codes "protocol:")) _ (by_name (codes "protocolgroup:") name (λ text start rest h. refl)) (yes_takes (at_kind (codes "protocolgroup:")) _ (by_name (codes "protocolgroup:") name (λ text start rest h. refl)) (protogroup_takes name prts))))))))
  decl_takes (restriction_decl name desc ports) =
      (no_takes (at_kind (codes "network:")) _ (by_name (codes "pathrestriction:") name (λ text start rest h. refl)) (no_takes (at_kind (codes "router:")) _ (by_name (codes "pathrestriction:") name (λ text start rest h. refl)) (no_takes (at_kind (codes "group:")) _ (by_name (codes "pathrestriction:") name (λ text start rest h. refl)) (no_takes (at_kind (codes "area:")) _ (by_name (codes "pathrestriction:") name (λ text start rest h. refl)) (no_takes (at_kind (codes "any:")) _ (by_name (codes "pathrestriction:") name (λ text start rest h. refl)) (no_takes (at_kind (codes "protocol:")) _ (by_name (codes "pathrestriction:") name (λ text start rest h. refl)) (no_takes (at_kind (codes "protocolgroup:")) _ (by_name (codes "pathrestriction:") name (λ text start rest h. refl)) (yes_takes (at_kind (codes "pathrestriction:")) _ (by_name (codes "pathrestriction:") name (λ text start rest h. refl)) (restriction_takes name desc ports)))))))))
  decl_takes (service_decl name desc idle users rules) =
      (no_takes (at_kind (codes "network:")) _ (by_name (codes "service:") name (λ text start rest h. refl)) (no_takes (at_kind (codes "router:")) _ (by_name (codes "service:") name (λ text start rest h. refl)) (no_takes (at_kind (codes "group:")) _ (by_name (codes "service:") name (λ text start rest h. refl)) (no_takes (at_kind (codes "area:")) _ (by_name (codes "service:") name (λ text start rest h. refl)) (no_takes (at_kind (codes "any:")) _ (by_name (codes "service:") name (λ text start rest h. refl)) (no_takes (at_kind (codes "protocol:")) _ (by_name (codes "service:") name (λ text start rest h. refl)) (no_takes (at_kind (codes "protocolgroup:")) _ (by_name (codes "service:") name (λ text start rest h. refl)) (no_takes (at_kind (codes "pathrestriction:")) _ (by_name (codes "service:") name (λ text start rest h. refl)) (service_takes name desc idle users rules)))))))))

pub decl_in_takes : (depth : ℕ) (decl : DeclIn depth) → Takes (SpellsDeclIn depth decl) Always (read_decl_in depth) decl
decl_in_takes depth = decl_takes (SpellsSetIn false depth false) (SpellsSetIn true depth false) (read_set_in false depth false) (read_set_in true depth false) (set_in_takes false depth false) (set_in_opens false depth false) (set_in_takes true depth false)

-- a declaration has a token
decl_some : {S : Type 0} (spells in_rules : S → Phrase) (decl : DeclOf S) → Tells (SpellsDecl spells in_rules decl) has_token true
decl_some spells in_rules (network_decl name desc parts) = by_name (codes "network:") name (λ text start rest h. refl)
decl_some spells in_rules (router_decl name desc parts) = by_name (codes "router:") name (λ text start rest h. refl)
decl_some spells in_rules (group_decl name desc objects) = by_name (codes "group:") name (λ text start rest h. refl)
decl_some spells in_rules (area_decl name desc parts) = by_name (codes "area:") name (λ text start rest h. refl)
decl_some spells in_rules (aggregate_decl name desc parts) = by_name (codes "any:") name (λ text start rest h. refl)
decl_some spells in_rules (protocol_decl name proto notes) = by_name (codes "protocol:") name (λ text start rest h. refl)
decl_some spells in_rules (protogroup_decl name prts) = by_name (codes "protocolgroup:") name (λ text start rest h. refl)
decl_some spells in_rules (restriction_decl name desc ports) = by_name (codes "pathrestriction:") name (λ text start rest h. refl)
decl_some spells in_rules (service_decl name desc idle users rules) = by_name (codes "service:") name (λ text start rest h. refl)

pub decl_in_some : (depth : ℕ) (decl : DeclIn depth) → Tells (SpellsDeclIn depth decl) has_token true
decl_in_some depth = decl_some (SpellsSetIn false depth false) (SpellsSetIn true depth false)
