-- Each phrase of the grammar closes the brackets that it opens: the level behind it is the level in front of it.
use Rattle.std.proofs.Common.{◌≡◌, ℕ, zero, suc, ◌+◌, ◌-◌, Bool, true, false, List, [], ◌∷◌, Option, Some, None, map, refl, ap, ◌∙◌, inl, inr, arith}
use Rattle.std.proofs.lemmas.List.Sums.{fold-append}
use Rattle.std.specs.Prelude.{codes}
use Rattle.spoc_lexer.specs.Tokens.{Tok}
use Rattle.spoc_lexer.specs.declared.token.TokenKind.TheVariants.{Sign}
use Rattle.spoc_parser.specs.declared.forms.Form.{Form}
use Rattle.spoc_parser.specs.declared.forms.Form.TheVariants.{Any, Name, Address, Prefix, Number, Range, Ports, Icmp, Filter, Routing, Note, ListKey, ValueKey, Flag}
use Rattle.token_checks.specs.Nesting.{level_behind}
use Rattle.grammar_laws.specs.Levels.{level_past}
use Rattle.spoc_parser.specs.Trees.{Lexeme, network, host, port, group, aggregate, area, user, nets, hosts, anys, host_ip, host_range, host_idle, nat_ip, nat_hidden, net_ip, net_host, net_nat, net_idle, virt_ip, virt_kind, virt_id, iface_ip, iface_hardware, iface_bind_nat, iface_virtual, iface_idle, router_managed, router_model, router_routing, router_iface, router_idle, area_anchor, area_border, area_idle, any_link, any_ip, any_idle, proto_ip, proto_tcp, proto_udp, proto_icmp, proto_number, one_proto, a_protocol, a_protogroup, network_decl, router_decl, group_decl, area_decl, aggregate_decl, protocol_decl, protogroup_decl, restriction_decl, service_decl}
use Rattle.spoc_parser.specs.Phrases.{Phrase, ◌then◌, ◌or◌, nothing, never, where_true, word_token, sign, key, a_word, named, at_port, a_text, spread, perhaps, many, some, further, listed, listed_open, single, none_of}
use Rattle.spoc_parser.specs.Grammar.{SpellsDesc, SpellsIdle, setting, body, body_with, SpellsHostItem, SpellsNatItem, SpellsNetItem, SpellsVirtItem, SpellsIfaceItem, SpellsRouterItem, SpellsAreaItem, SpellsAnyItem, spread_or_none, SpellsProto, SpellsProtoItem, SpellsTermOf, mark, SpellsFurther, SpellsInter, SpellsSet, SpellsNone, SpellsSetIn, action, SpellsRule, SpellsDecl, SpellsDeclIn, SpellsFile}

-- the level behind the phrase is the level in front of it
pub record IsEven (P : Phrase) : Type 0 where
  pub holds : (level : ℕ) (toks : List Tok) → P toks → level_past level toks ≡ level

-- the phrase closes one bracket more than it opens
pub record Falls (P : Phrase) : Type 0 where
  pub holds : (level : ℕ) (toks : List Tok) → P toks → level_past (level + 1) toks ≡ level

-- each phrase of the family
abbrev pub AreEven : {A : Type 0} → (A → Phrase) → Type 0
AreEven {A} spells = (x : A) → IsEven (spells x)

abbrev pub sign_token : List ℕ → ℕ → Tok
sign_token text start = record { kind = Sign; text = text; start = start }

-- the sign is no bracket
abbrev pub IsFlat : List ℕ → Type 0
IsFlat text = (level start : ℕ) → level_behind level (sign_token text start) ≡ level

-- the sign is an opening bracket
abbrev pub IsOpening : List ℕ → Type 0
IsOpening text = (level start : ℕ) → level_behind level (sign_token text start) ≡ level + 1

-- the sign is a closing bracket
abbrev pub IsClosing : List ℕ → Type 0
IsClosing text = (level start : ℕ) → level_behind level (sign_token text start) ≡ level - 1

back : (level : ℕ) → level + 1 - 1 ≡ level
back level = omega arith

pub nothing_even : IsEven nothing
nothing_even = record { holds = λ level toks h. ap (level_past level) h }

pub never_even : IsEven never
never_even = record { holds = λ level toks h. absurd h }

pub then_even : {P Q : Phrase} → IsEven P → IsEven Q → IsEven (P then Q)
then_even p q = record { holds = λ level toks h. ap (level_past level) h.4 ∙ fold-append level_behind level h.0 h.1 ∙ ap (λ n. level_past n h.1) (p.holds level h.0 h.2) ∙ q.holds level h.1 h.3 }

pub then_falls : {P Q : Phrase} → IsEven P → Falls Q → Falls (P then Q)
then_falls p q = record { holds = λ level toks h. ap (level_past (level + 1)) h.4 ∙ fold-append level_behind (level + 1) h.0 h.1 ∙ ap (λ n. level_past n h.1) (p.holds (level + 1) h.0 h.2) ∙ q.holds level h.1 h.3 }

pub opens_even : {Q : Phrase} (text : List ℕ) → IsOpening text → Falls Q → IsEven (sign text then Q)
opens_even text opening q = record { holds = λ level toks h. ap (level_past level) h.4 ∙ fold-append level_behind level h.0 h.1 ∙ ap (λ n. level_past n h.1) (ap (level_past level) h.2.1 ∙ opening level h.2.0) ∙ q.holds level h.1 h.3 }

pub closes : (text : List ℕ) → IsClosing text → Falls (sign text)
closes text closing = record { holds = λ level toks h. ap (level_past (level + 1)) h.1 ∙ closing (level + 1) h.0 ∙ back level }

pub or_even : {P Q : Phrase} → IsEven P → IsEven Q → IsEven (P or Q)
or_even {P} {Q} p q = record { holds = λ level toks h. elim h as (λ _. level_past level toks ≡ level) [ inl a ↦ p.holds level toks a | inr b ↦ q.holds level toks b ] }

pub where_even : {P : Phrase} (holds : Bool) → IsEven P → IsEven (where_true holds P)
where_even b p = record { holds = λ level toks h. p.holds level toks h.1 }

pub sign_even : (text : List ℕ) → IsFlat text → IsEven (sign text)
sign_even text flat = record { holds = λ level toks h. ap (level_past level) h.1 ∙ flat level h.0 }

pub key_even : (text : List ℕ) → IsEven (key text)
key_even text = record { holds = λ level toks h. ap (level_past level) h.1 }

pub a_word_even : (form : Form) → AreEven (a_word form)
a_word_even form word = record { holds = λ level toks h. ap (level_past level) h.1 }

pub named_even : (kind : List ℕ) → AreEven (named kind)
named_even kind name = record { holds = λ level toks h. ap (level_past level) h.3 }

pub at_port_even : AreEven at_port
at_port_even place = record { holds = λ level toks h. ap (level_past level) h.5 }

pub a_text_even : AreEven a_text
a_text_even text = record { holds = λ level toks h. ap (level_past level) h }

words_flat : (words : List Lexeme) (level : ℕ) → level_past level (map word_token words) ≡ level
words_flat [] level = refl
words_flat (word ∷ words) level = words_flat words level

pub spread_even : (form : Form) → AreEven (spread form)
spread_even form words = record { holds = λ level toks h. ap (level_past level) h.2 ∙ words_flat words level }

pub perhaps_even : {A : Type 0} (spells : A → Phrase) → AreEven spells → AreEven (perhaps spells)
perhaps_even spells even None = nothing_even
perhaps_even spells even (Some x) = even x

pub many_even : {A : Type 0} (spells : A → Phrase) → AreEven spells → AreEven (many spells)
many_even spells even [] = nothing_even
many_even spells even (x ∷ xs) = then_even (even x) (many_even spells even xs)

pub some_even : {A : Type 0} (spells : A → Phrase) → AreEven spells → AreEven (some spells)
some_even spells even [] = never_even
some_even spells even (x ∷ xs) = then_even (even x) (many_even spells even xs)

pub comma_even : {A : Type 0} (spells : A → Phrase) → AreEven spells → AreEven (λ x. sign (codes ",") then spells x)
comma_even spells even x = then_even (sign_even (codes ",") (λ level start. refl)) (even x)

pub further_even : {A : Type 0} (spells : A → Phrase) → AreEven spells → AreEven (further spells)
further_even spells even = many_even (λ x. sign (codes ",") then spells x) (comma_even spells even)

pub listed_even : {A : Type 0} (spells : A → Phrase) → AreEven spells → AreEven (listed spells)
listed_even spells even [] = never_even
listed_even spells even (x ∷ xs) = then_even (even x) (further_even spells even xs)

pub last_comma_even : IsEven (nothing or sign (codes ","))
last_comma_even = or_even nothing_even (sign_even (codes ",") (λ level start. refl))

pub listed_open_even : {A : Type 0} (spells : A → Phrase) → AreEven spells → AreEven (listed_open spells)
listed_open_even spells even xs = then_even (listed_even spells even xs) last_comma_even

pub single_even : {A : Type 0} (spells : A → Phrase) → AreEven spells → AreEven (single spells)
single_even spells even [] = never_even
single_even spells even (x ∷ []) = even x
single_even spells even (x ∷ y ∷ ys) = never_even

pub none_of_even : {A : Type 0} → AreEven (none_of {A = A})
none_of_even [] = nothing_even
none_of_even (x ∷ xs) = never_even

equals_even : IsEven (sign (codes "="))
equals_even = sign_even (codes "=") (λ level start. refl)

end_even : IsEven (sign (codes ";"))
end_even = sign_even (codes ";") (λ level start. refl)

brace_closes : Falls (sign (codes "}"))
brace_closes = closes (codes "}") (λ level start. refl)

bracket_closes : Falls (sign (codes "]"))
bracket_closes = closes (codes "]") (λ level start. refl)

in_braces : {P : Phrase} → Falls P → IsEven (sign (codes "{") then P)
in_braces p = opens_even (codes "{") (λ level start. refl) p

in_brackets : {P : Phrase} → Falls P → IsEven (sign (codes "[") then P)
in_brackets p = opens_even (codes "[") (λ level start. refl) p

-- a word that is set to what stands behind `=`
set_even : {P : Phrase} (name : List ℕ) → IsEven P → IsEven (key name then sign (codes "=") then P)
set_even name p = then_even (key_even name) (then_even equals_even p)

pub desc_even : AreEven SpellsDesc
desc_even text = set_even (codes "description") (a_text_even text)

pub desc_part_even : AreEven (perhaps SpellsDesc)
desc_part_even = perhaps_even SpellsDesc desc_even

pub idle_even : AreEven SpellsIdle
idle_even idle =
    or_even (then_even (a_word_even ListKey idle.key) (then_even equals_even (then_even (listed_even (a_word Any) (a_word_even Any) idle.values) end_even)))
    (or_even (then_even (a_word_even ValueKey idle.key) (then_even equals_even (then_even (single_even (a_word Any) (a_word_even Any) idle.values) end_even)))
    (then_even (a_word_even Flag idle.key) (then_even (none_of_even idle.values) end_even)))

setting_even : (name : List ℕ) (form : Form) → AreEven (setting name form)
setting_even name form word = set_even name (then_even (a_word_even form word) end_even)

body_even : {A : Type 0} (spells : A → Phrase) → AreEven spells → AreEven (body spells)
body_even spells even parts = then_even equals_even (in_braces (then_falls (many_even spells even parts) brace_closes))

body_with_even : {A : Type 0} (desc : Option Lexeme) (spells : A → Phrase) → AreEven spells → AreEven (body_with desc spells)
body_with_even desc spells even parts = then_even equals_even (in_braces (then_falls (desc_part_even desc) (then_falls (many_even spells even parts) brace_closes)))

host_item_even : AreEven SpellsHostItem
host_item_even (host_ip address) = setting_even (codes "ip") Address address
host_item_even (host_range words) = set_even (codes "range") (then_even (spread_even Range words) end_even)
host_item_even (host_idle idle) = idle_even idle

nat_item_even : AreEven SpellsNatItem
nat_item_even (nat_ip prefix) = setting_even (codes "ip") Prefix prefix
nat_item_even nat_hidden = then_even (key_even (codes "hidden")) end_even

net_item_even : AreEven SpellsNetItem
net_item_even (net_ip prefix) = setting_even (codes "ip") Prefix prefix
net_item_even (net_host name parts) = then_even (named_even (codes "host:") name) (body_even SpellsHostItem host_item_even parts)
net_item_even (net_nat tag parts) = then_even (named_even (codes "nat:") tag) (body_even SpellsNatItem nat_item_even parts)
net_item_even (net_idle idle) = idle_even idle

virt_item_even : AreEven SpellsVirtItem
virt_item_even (virt_ip address) = setting_even (codes "ip") Address address
virt_item_even (virt_kind word) = setting_even (codes "type") Any word
virt_item_even (virt_id number) = setting_even (codes "id") Number number

iface_item_even : AreEven SpellsIfaceItem
iface_item_even (iface_ip address) = setting_even (codes "ip") Address address
iface_item_even (iface_hardware word) = setting_even (codes "hardware") Any word
iface_item_even (iface_bind_nat tags) = set_even (codes "bind_nat") (then_even (listed_even (a_word Name) (a_word_even Name) tags) end_even)
iface_item_even (iface_virtual parts) = then_even (key_even (codes "virtual")) (body_even SpellsVirtItem virt_item_even parts)
iface_item_even (iface_idle idle) = idle_even idle

filter_even : AreEven (λ word. sign (codes "=") then a_word Filter word)
filter_even word = then_even equals_even (a_word_even Filter word)

router_item_even : AreEven SpellsRouterItem
router_item_even (router_managed filter) = then_even (key_even (codes "managed")) (then_even (perhaps_even (λ word. sign (codes "=") then a_word Filter word) filter_even filter) end_even)
router_item_even (router_model word) = setting_even (codes "model") Any word
router_item_even (router_routing word) = setting_even (codes "routing") Routing word
router_item_even (router_iface net parts) = then_even (named_even (codes "interface:") net) (or_even (then_even (none_of_even parts) end_even) (body_even SpellsIfaceItem iface_item_even parts))
router_item_even (router_idle idle) = idle_even idle

at_network_even : (name : List ℕ) (net : Lexeme) → IsEven (key name then sign (codes "=") then named (codes "network:") net then sign (codes ";"))
at_network_even name net = set_even name (then_even (named_even (codes "network:") net) end_even)

area_item_even : AreEven SpellsAreaItem
area_item_even (area_anchor net) = at_network_even (codes "anchor") net
area_item_even (area_border ports) = set_even (codes "border") (then_even (listed_even at_port at_port_even ports) end_even)
area_item_even (area_idle idle) = idle_even idle

any_item_even : AreEven SpellsAnyItem
any_item_even (any_link net) = at_network_even (codes "link") net
any_item_even (any_ip prefix) = setting_even (codes "ip") Prefix prefix
any_item_even (any_idle idle) = idle_even idle

spread_or_none_even : (form : Form) → AreEven (spread_or_none form)
spread_or_none_even form words = or_even (none_of_even words) (spread_even form words)

proto_even : AreEven SpellsProto
proto_even proto_ip = key_even (codes "ip")
proto_even (proto_tcp ports) = then_even (key_even (codes "tcp")) (spread_or_none_even Ports ports)
proto_even (proto_udp ports) = then_even (key_even (codes "udp")) (spread_or_none_even Ports ports)
proto_even (proto_icmp kind) = then_even (key_even (codes "icmp")) (spread_or_none_even Icmp kind)
proto_even (proto_number number) = then_even (key_even (codes "proto")) (a_word_even Number number)

proto_item_even : AreEven SpellsProtoItem
proto_item_even (one_proto proto) = proto_even proto
proto_item_even (a_protocol name) = named_even (codes "protocol:") name
proto_item_even (a_protogroup name) = named_even (codes "protocolgroup:") name

-- `ip = PREFIX &`
pub inside_even : AreEven (λ prefix. key (codes "ip") then sign (codes "=") then a_word Prefix prefix then sign (codes "&"))
inside_even prefix = set_even (codes "ip") (then_even (a_word_even Prefix prefix) (sign_even (codes "&") (λ level start. refl)))

pub inside_part_even : AreEven (perhaps (λ prefix. key (codes "ip") then sign (codes "=") then a_word Prefix prefix then sign (codes "&")))
inside_part_even = perhaps_even (λ prefix. key (codes "ip") then sign (codes "=") then a_word Prefix prefix then sign (codes "&")) inside_even

pub mark_even : AreEven mark
mark_even true = sign_even (codes "!") (λ level start. refl)
mark_even false = nothing_even

module _ {S : Type 0} (spells : S → Phrase) (even : AreEven spells) where
  bracket_even : (set : S) → IsEven (sign (codes "[") then spells set then sign (codes "]"))
  bracket_even set = in_brackets (then_falls (even set) bracket_closes)

  pub term_even : (user_stands area_stands : Bool) → AreEven (SpellsTermOf user_stands area_stands spells)
  term_even u a (network name) = named_even (codes "network:") name
  term_even u a (host name) = named_even (codes "host:") name
  term_even u a (port place) = at_port_even place
  term_even u a (group name) = named_even (codes "group:") name
  term_even u a (aggregate name) = named_even (codes "any:") name
  term_even u a (area name) = where_even a (named_even (codes "area:") name)
  term_even u a user = where_even u (key_even (codes "user"))
  term_even u a (nets set) = then_even (key_even (codes "network:")) (bracket_even set)
  term_even u a (hosts set) = then_even (key_even (codes "host:")) (bracket_even set)
  term_even u a (anys inside set) = then_even (key_even (codes "any:")) (in_brackets (then_falls (inside_part_even inside) (then_falls (even set) bracket_closes)))

module _ {T : Type 0} (spells : T → Phrase) (even : AreEven spells) where
  pub other_even : AreEven (SpellsFurther spells)
  other_even f = then_even (sign_even (codes "&") (λ level start. refl)) (then_even (mark_even f.0) (even f.1))

  pub inter_even : AreEven (SpellsInter spells)
  inter_even i = then_even (even i.0) (many_even (SpellsFurther spells) other_even i.1)

  pub set_of_even : AreEven (SpellsSet spells)
  set_of_even = listed_open_even (SpellsInter spells) inter_even

none_even : AreEven SpellsNone
none_even none = never_even

pub set_in_even : (user_stands : Bool) (depth : ℕ) (area_stands : Bool) → AreEven (SpellsSetIn user_stands depth area_stands)
set_in_even u zero a = none_even
set_in_even u (suc depth) a = set_of_even (SpellsTermOf u a (SpellsSetIn u depth true)) (term_even (SpellsSetIn u depth true) (set_in_even u depth true) u a)

module _ {S : Type 0} (spells : S → Phrase) (even : AreEven spells) where
  side_even : {P : Phrase} (name : List ℕ) (set : S) → IsEven P → IsEven (key name then sign (codes "=") then spells set then sign (codes ";") then P)
  side_even name set p = set_even name (then_even (even set) (then_even end_even p))

  pub rule_even : AreEven (SpellsRule spells)
  rule_even rule = then_even (key_even (action rule.deny)) (side_even (codes "src") rule.src (side_even (codes "dst") rule.dst (set_even (codes "prt") (then_even (listed_open_even SpellsProtoItem proto_item_even rule.prts) end_even))))

module _ {S : Type 0} (spells in_rules : S → Phrase) (even : AreEven spells) (even_in_rules : AreEven in_rules) where
  pub decl_even : AreEven (SpellsDecl spells in_rules)
  decl_even (network_decl name desc parts) = then_even (named_even (codes "network:") name) (body_with_even desc SpellsNetItem net_item_even parts)
  decl_even (router_decl name desc parts) = then_even (named_even (codes "router:") name) (body_with_even desc SpellsRouterItem router_item_even parts)
  decl_even (group_decl name desc objects) = then_even (named_even (codes "group:") name) (then_even equals_even (then_even (desc_part_even desc) (then_even (perhaps_even spells even objects) end_even)))
  decl_even (area_decl name desc parts) = then_even (named_even (codes "area:") name) (body_with_even desc SpellsAreaItem area_item_even parts)
  decl_even (aggregate_decl name desc parts) = then_even (named_even (codes "any:") name) (body_with_even desc SpellsAnyItem any_item_even parts)
  decl_even (protocol_decl name proto notes) = then_even (named_even (codes "protocol:") name) (then_even equals_even (then_even (proto_even proto) (then_even (further_even (a_word Note) (a_word_even Note) notes) end_even)))
  decl_even (protogroup_decl name prts) = then_even (named_even (codes "protocolgroup:") name) (then_even equals_even (then_even (listed_open_even SpellsProtoItem proto_item_even prts) end_even))
  decl_even (restriction_decl name desc ports) = then_even (named_even (codes "pathrestriction:") name) (then_even equals_even (then_even (desc_part_even desc) (then_even (listed_open_even at_port at_port_even ports) end_even)))
  decl_even (service_decl name desc idle users rules) =
      then_even (named_even (codes "service:") name) (then_even equals_even (in_braces (then_falls (desc_part_even desc) (then_falls (many_even SpellsIdle idle_even idle)
      (then_falls (key_even (codes "user")) (then_falls equals_even (then_falls (even users) (then_falls end_even (then_falls (some_even (SpellsRule in_rules) (rule_even in_rules even_in_rules) rules) brace_closes)))))))))

pub decl_in_even : (depth : ℕ) → AreEven (SpellsDeclIn depth)
decl_in_even depth = decl_even (SpellsSetIn false depth false) (SpellsSetIn true depth false) (set_in_even false depth false) (set_in_even true depth false)

pub file_even : (depth : ℕ) → AreEven (SpellsFile depth)
file_even depth = many_even (SpellsDeclIn depth) (decl_in_even depth)
