-- The grammar of policy files: which tokens spell which tree, row by row.
--     desc      = description '=' TEXT
--     idle      = owner '=' HW (',' HW)* ';' | overlaps '=' HW (',' HW)* ';' | subnet_of '=' HW ';' | has_subnets ';' | ..
--     union     = inter (',' inter)* ','?
--     inter     = term ('&' '!'? term)*
use Rattle.std.specs.Prelude.{ℕ, zero, suc, Bool, true, false, List, Option, codes}
use Rattle.spoc_parser.specs.declared.forms.Form.{Form}
use Rattle.spoc_parser.specs.declared.forms.Form.TheVariants.{Any, Name, Address, Prefix, Number, Range, Ports, Icmp, Filter, Routing, Note, ListKey, ValueKey, Flag}
use Rattle.spoc_parser.specs.Trees.{Lexeme, IdleItem, TermOf, network, host, port, group, aggregate, area, user, nets, hosts, anys, InterOf, SetOf, SetIn, TermIn, HostItem, host_ip, host_range, host_idle, NatItem, nat_ip, nat_hidden, NetItem, net_ip, net_host, net_nat, net_idle, VirtItem, virt_ip, virt_kind, virt_id, IfaceItem, iface_ip, iface_hardware, iface_bind_nat, iface_virtual, iface_idle, RouterItem, router_managed, router_model, router_routing, router_iface, router_idle, AreaItem, area_anchor, area_border, area_idle, AnyItem, any_link, any_ip, any_idle, Proto, proto_ip, proto_tcp, proto_udp, proto_icmp, proto_number, ProtoItem, one_proto, a_protocol, a_protogroup, RuleOf, DeclOf, network_decl, router_decl, group_decl, area_decl, aggregate_decl, protocol_decl, protogroup_decl, restriction_decl, service_decl, DeclIn}
use Rattle.spoc_parser.specs.Phrases.{Phrase, ◌then◌, ◌or◌, nothing, never, where_true, sign, key, a_word, named, at_port, a_text, spread, perhaps, many, some, further, listed, listed_open, single, none_of}

-- `description = TEXT`
abbrev pub SpellsDesc : Lexeme → Phrase
SpellsDesc text = key (codes "description") then sign (codes "=") then a_text text

-- a part without effect
abbrev pub SpellsIdle : IdleItem → Phrase
SpellsIdle idle =
    (a_word ListKey idle.key then sign (codes "=") then listed (a_word Any) idle.values then sign (codes ";"))
    or (a_word ValueKey idle.key then sign (codes "=") then single (a_word Any) idle.values then sign (codes ";"))
    or (a_word Flag idle.key then none_of idle.values then sign (codes ";"))

-- a word that is set to one word, as in `ip = 10.1.1.0/24;`
abbrev pub setting : List ℕ → Form → Lexeme → Phrase
setting name form word = key name then sign (codes "=") then a_word form word then sign (codes ";")

-- parts in braces behind `=`
abbrev pub body : {A : Type 0} → (A → Phrase) → List A → Phrase
body spells parts = sign (codes "=") then sign (codes "{") then many spells parts then sign (codes "}")

-- the same, with a description perhaps
abbrev pub body_with : {A : Type 0} → Option Lexeme → (A → Phrase) → List A → Phrase
body_with desc spells parts = sign (codes "=") then sign (codes "{") then perhaps SpellsDesc desc then many spells parts then sign (codes "}")

abbrev pub SpellsHostItem : HostItem → Phrase
SpellsHostItem (host_ip address) = setting (codes "ip") Address address
SpellsHostItem (host_range words) = key (codes "range") then sign (codes "=") then spread Range words then sign (codes ";")
SpellsHostItem (host_idle idle) = SpellsIdle idle

abbrev pub SpellsNatItem : NatItem → Phrase
SpellsNatItem (nat_ip prefix) = setting (codes "ip") Prefix prefix
SpellsNatItem nat_hidden = key (codes "hidden") then sign (codes ";")

abbrev pub SpellsNetItem : NetItem → Phrase
SpellsNetItem (net_ip prefix) = setting (codes "ip") Prefix prefix
SpellsNetItem (net_host name parts) = named (codes "host:") name then body SpellsHostItem parts
SpellsNetItem (net_nat tag parts) = named (codes "nat:") tag then body SpellsNatItem parts
SpellsNetItem (net_idle idle) = SpellsIdle idle

abbrev pub SpellsVirtItem : VirtItem → Phrase
SpellsVirtItem (virt_ip address) = setting (codes "ip") Address address
SpellsVirtItem (virt_kind word) = setting (codes "type") Any word
SpellsVirtItem (virt_id number) = setting (codes "id") Number number

abbrev pub SpellsIfaceItem : IfaceItem → Phrase
SpellsIfaceItem (iface_ip address) = setting (codes "ip") Address address
SpellsIfaceItem (iface_hardware word) = setting (codes "hardware") Any word
SpellsIfaceItem (iface_bind_nat tags) = key (codes "bind_nat") then sign (codes "=") then listed (a_word Name) tags then sign (codes ";")
SpellsIfaceItem (iface_virtual parts) = key (codes "virtual") then body SpellsVirtItem parts
SpellsIfaceItem (iface_idle idle) = SpellsIdle idle

abbrev pub SpellsRouterItem : RouterItem → Phrase
SpellsRouterItem (router_managed filter) = key (codes "managed") then perhaps (λ word. sign (codes "=") then a_word Filter word) filter then sign (codes ";")
SpellsRouterItem (router_model word) = setting (codes "model") Any word
SpellsRouterItem (router_routing word) = setting (codes "routing") Routing word
SpellsRouterItem (router_iface net parts) = named (codes "interface:") net then ((none_of parts then sign (codes ";")) or body SpellsIfaceItem parts)
SpellsRouterItem (router_idle idle) = SpellsIdle idle

abbrev pub SpellsAreaItem : AreaItem → Phrase
SpellsAreaItem (area_anchor net) = key (codes "anchor") then sign (codes "=") then named (codes "network:") net then sign (codes ";")
SpellsAreaItem (area_border ports) = key (codes "border") then sign (codes "=") then listed at_port ports then sign (codes ";")
SpellsAreaItem (area_idle idle) = SpellsIdle idle

abbrev pub SpellsAnyItem : AnyItem → Phrase
SpellsAnyItem (any_link net) = key (codes "link") then sign (codes "=") then named (codes "network:") net then sign (codes ";")
SpellsAnyItem (any_ip prefix) = setting (codes "ip") Prefix prefix
SpellsAnyItem (any_idle idle) = SpellsIdle idle

-- a text of this form, or nothing
abbrev pub spread_or_none : Form → List Lexeme → Phrase
spread_or_none form words = none_of words or spread form words

abbrev pub SpellsProto : Proto → Phrase
SpellsProto proto_ip = key (codes "ip")
SpellsProto (proto_tcp ports) = key (codes "tcp") then spread_or_none Ports ports
SpellsProto (proto_udp ports) = key (codes "udp") then spread_or_none Ports ports
SpellsProto (proto_icmp kind) = key (codes "icmp") then spread_or_none Icmp kind
SpellsProto (proto_number number) = key (codes "proto") then a_word Number number

abbrev pub SpellsProtoItem : ProtoItem → Phrase
SpellsProtoItem (one_proto proto) = SpellsProto proto
SpellsProtoItem (a_protocol name) = named (codes "protocol:") name
SpellsProtoItem (a_protogroup name) = named (codes "protocolgroup:") name

-- a term, where `user` and `area:N` may stand or not
abbrev pub SpellsTermOf : (user_stands area_stands : Bool) {S : Type 0} → (S → Phrase) → TermOf S → Phrase
SpellsTermOf user_stands area_stands spells (network name) = named (codes "network:") name
SpellsTermOf user_stands area_stands spells (host name) = named (codes "host:") name
SpellsTermOf user_stands area_stands spells (port place) = at_port place
SpellsTermOf user_stands area_stands spells (group name) = named (codes "group:") name
SpellsTermOf user_stands area_stands spells (aggregate name) = named (codes "any:") name
SpellsTermOf user_stands area_stands spells (area name) = where_true area_stands (named (codes "area:") name)
SpellsTermOf user_stands area_stands spells user = where_true user_stands (key (codes "user"))
SpellsTermOf user_stands area_stands spells (nets set) = key (codes "network:") then sign (codes "[") then spells set then sign (codes "]")
SpellsTermOf user_stands area_stands spells (hosts set) = key (codes "host:") then sign (codes "[") then spells set then sign (codes "]")
SpellsTermOf user_stands area_stands spells (anys inside set) =
    key (codes "any:") then sign (codes "[") then perhaps (λ prefix. key (codes "ip") then sign (codes "=") then a_word Prefix prefix then sign (codes "&")) inside then spells set then sign (codes "]")

-- `!` or nothing
abbrev pub mark : Bool → Phrase
mark true = sign (codes "!")
mark false = nothing

-- `&`, perhaps `!`, and a term
abbrev pub SpellsFurther : {T : Type 0} → (T → Phrase) → Bool × T → Phrase
SpellsFurther spells f = sign (codes "&") then mark f.0 then spells f.1

abbrev pub SpellsInter : {T : Type 0} → (T → Phrase) → InterOf T → Phrase
SpellsInter spells i = spells i.0 then many (SpellsFurther spells) i.1

abbrev pub SpellsSet : {T : Type 0} → (T → Phrase) → SetOf T → Phrase
SpellsSet spells set = listed_open (SpellsInter spells) set

abbrev pub SpellsNone : ⊥ → Phrase
SpellsNone none = never

-- a set of so many levels; inside brackets `area:N` may stand
abbrev pub SpellsSetIn : (user_stands : Bool) (depth : ℕ) (area_stands : Bool) → SetIn depth → Phrase
SpellsSetIn user_stands zero area_stands = SpellsNone
SpellsSetIn user_stands (suc depth) area_stands = SpellsSet (SpellsTermOf user_stands area_stands (SpellsSetIn user_stands depth true))

abbrev pub SpellsTerm : (user_stands : Bool) (depth : ℕ) (area_stands : Bool) → TermIn depth → Phrase
SpellsTerm user_stands depth area_stands = SpellsTermOf user_stands area_stands (SpellsSetIn user_stands depth true)

-- what a rule begins with: whether it denies
abbrev pub action : Bool → List ℕ
action true = codes "deny"
action false = codes "permit"

-- a rule, where a set is spelled so
abbrev pub SpellsRule : {S : Type 0} → (S → Phrase) → RuleOf S → Phrase
SpellsRule spells rule =
    key (action rule.deny) then key (codes "src") then sign (codes "=") then spells rule.src then sign (codes ";")
    then key (codes "dst") then sign (codes "=") then spells rule.dst then sign (codes ";")
    then key (codes "prt") then sign (codes "=") then listed_open SpellsProtoItem rule.prts then sign (codes ";")

-- a declaration, where a set outside rules is spelled in the first way and a set of a rule in the second
abbrev pub SpellsDecl : {S : Type 0} → (S → Phrase) → (S → Phrase) → DeclOf S → Phrase
SpellsDecl spells in_rules (network_decl name desc parts) = named (codes "network:") name then body_with desc SpellsNetItem parts
SpellsDecl spells in_rules (router_decl name desc parts) = named (codes "router:") name then body_with desc SpellsRouterItem parts
SpellsDecl spells in_rules (group_decl name desc objects) = named (codes "group:") name then sign (codes "=") then perhaps SpellsDesc desc then perhaps spells objects then sign (codes ";")
SpellsDecl spells in_rules (area_decl name desc parts) = named (codes "area:") name then body_with desc SpellsAreaItem parts
SpellsDecl spells in_rules (aggregate_decl name desc parts) = named (codes "any:") name then body_with desc SpellsAnyItem parts
SpellsDecl spells in_rules (protocol_decl name proto notes) = named (codes "protocol:") name then sign (codes "=") then SpellsProto proto then further (a_word Note) notes then sign (codes ";")
SpellsDecl spells in_rules (protogroup_decl name prts) = named (codes "protocolgroup:") name then sign (codes "=") then listed_open SpellsProtoItem prts then sign (codes ";")
SpellsDecl spells in_rules (restriction_decl name desc ports) = named (codes "pathrestriction:") name then sign (codes "=") then perhaps SpellsDesc desc then listed_open at_port ports then sign (codes ";")
SpellsDecl spells in_rules (service_decl name desc idle users rules) =
    named (codes "service:") name then sign (codes "=") then sign (codes "{") then perhaps SpellsDesc desc then many SpellsIdle idle
    then key (codes "user") then sign (codes "=") then spells users then sign (codes ";") then some (SpellsRule in_rules) rules then sign (codes "}")

-- a declaration in which sets have so many levels at most; `user` may stand in a rule alone, and `area:N` inside brackets alone
abbrev pub SpellsDeclIn : (depth : ℕ) → DeclIn depth → Phrase
SpellsDeclIn depth = SpellsDecl (SpellsSetIn false depth false) (SpellsSetIn true depth false)

-- a file: any number of declarations
abbrev pub SpellsFile : (depth : ℕ) → List (DeclIn depth) → Phrase
SpellsFile depth = many (SpellsDeclIn depth)
