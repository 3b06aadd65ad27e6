-- The grammar of policy files, read from the front: one reader for each row.
use Rattle.std.specs.Prelude.{ℕ, zero, suc, Bool, true, false, not, List, [], ◌∷◌, Option, Some, None, if◌then◌else◌, codes}
use Rattle.spoc_lexer.specs.Tokens.{Tok}
use Rattle.spoc_parser.specs.declared.forms.Form.{Form}
use Rattle.spoc_parser.specs.declared.forms.Form.TheVariants.{Any, Name, Address, Prefix, Number, Range, Ports, Icmp, Filter, Routing, Note, ListKey, ValueKey, Flag}
use Rattle.spoc_parser.specs.Trees.{Lexeme, IdleItem, TermOf, network, host, port, group, aggregate, area, user, nets, hosts, anys, InterOf, SetOf, SetIn, TermIn, HostItem, host_ip, host_range, host_idle, NatItem, nat_ip, nat_hidden, NetItem, net_ip, net_host, net_nat, net_idle, VirtItem, virt_ip, virt_kind, virt_id, IfaceItem, iface_ip, iface_hardware, iface_bind_nat, iface_virtual, iface_idle, RouterItem, router_managed, router_model, router_routing, router_iface, router_idle, AreaItem, area_anchor, area_border, area_idle, AnyItem, any_link, any_ip, any_idle, Proto, proto_ip, proto_tcp, proto_udp, proto_icmp, proto_number, ProtoItem, one_proto, a_protocol, a_protogroup, RuleOf, DeclOf, network_decl, router_decl, group_decl, area_decl, aggregate_decl, protocol_decl, protogroup_decl, restriction_decl, service_decl, DeclIn}
use Rattle.spoc_parser.specs.Readers.{Reader, then_read, ◌>>=◌, done, past, at_sign, at_key, at_kind, at_form, read_sign, read_key, read_word, read_text, read_named, read_port, read_spread, read_spread_or_none, read_unless, read_until, read_further, read_listed, never_ends, list_ends}

-- `description = TEXT`
abbrev pub read_desc : Reader Lexeme
read_desc = read_key (codes "description") >>= λ _. read_sign (codes "=") >>= λ _. read_text

abbrev pub no_desc : List Tok → Bool
no_desc toks = not (at_key (codes "description") toks)

-- a description, where there is one
abbrev pub read_desc_part : Reader (Option Lexeme)
read_desc_part = read_unless no_desc read_desc

-- the words behind `=` of an ignored part
abbrev pub read_values : Reader (List Lexeme)
read_values = read_sign (codes "=") >>= λ _. read_listed never_ends (read_word Any)

abbrev pub idle_of : Lexeme → List Lexeme → IdleItem
idle_of word words = record { key = word; values = words }

-- `owner = x, y;` and `overlaps = x, y;`
abbrev pub read_list_idle : Reader IdleItem
read_list_idle = read_word ListKey >>= λ word. read_sign (codes "=") >>= λ _. read_listed never_ends (read_word Any) >>= λ words. read_sign (codes ";") >>= λ _. done (idle_of word words)

-- `subnet_of = x;`
abbrev pub read_value_idle : Reader IdleItem
read_value_idle = read_word ValueKey >>= λ word. read_sign (codes "=") >>= λ _. read_word Any >>= λ value. read_sign (codes ";") >>= λ _. done (idle_of word (value ∷ []))

-- a word alone
abbrev pub read_flag_idle : Reader IdleItem
read_flag_idle = read_word Flag >>= λ word. read_sign (codes ";") >>= λ _. done (idle_of word [])

-- a part without effect
abbrev pub read_idle : Reader IdleItem
read_idle toks =
    if at_form ListKey toks then read_list_idle toks
    else if at_form ValueKey toks then read_value_idle toks
    else read_flag_idle toks

-- a part without effect begins here
abbrev pub at_idle : List Tok → Bool
at_idle toks = if at_form ListKey toks then true else (if at_form ValueKey toks then true else at_form Flag toks)

-- a word that is set to one word
abbrev pub read_setting : List ℕ → Form → Reader Lexeme
read_setting name form = read_key name >>= λ _. read_sign (codes "=") >>= λ _. read_word form >>= λ word. read_sign (codes ";") >>= λ _. done word

-- a word that is set to a network
abbrev pub read_at_network : List ℕ → Reader Lexeme
read_at_network name = read_key name >>= λ _. read_sign (codes "=") >>= λ _. read_named (codes "network:") >>= λ word. read_sign (codes ";") >>= λ _. done word

-- items, and `}` behind them
abbrev pub read_parts : {A : Type 0} → Reader A → Reader (List A)
read_parts read = read_until (at_sign (codes "}")) read >>= λ parts. read_sign (codes "}") >>= λ _. done parts

-- parts in braces behind `=`
abbrev pub read_body : {A : Type 0} → Reader A → Reader (List A)
read_body read = read_sign (codes "=") >>= λ _. read_sign (codes "{") >>= λ _. read_parts read

-- the same with a description perhaps
abbrev pub read_opening : Reader (Option Lexeme)
read_opening = read_sign (codes "=") >>= λ _. read_sign (codes "{") >>= λ _. read_desc_part

abbrev pub read_host_ip : Reader HostItem
read_host_ip = read_setting (codes "ip") Address >>= λ word. done (host_ip word)

abbrev pub read_host_range : Reader HostItem
read_host_range = read_key (codes "range") >>= λ _. read_sign (codes "=") >>= λ _. read_spread Range >>= λ words. read_sign (codes ";") >>= λ _. done (host_range words)

abbrev pub read_host_item : Reader HostItem
read_host_item toks =
    if at_key (codes "ip") toks then read_host_ip toks
    else if at_key (codes "range") toks then read_host_range toks
    else then_read (read_idle toks) (λ idle. done (host_idle idle))

abbrev pub read_nat_ip : Reader NatItem
read_nat_ip = read_setting (codes "ip") Prefix >>= λ word. done (nat_ip word)

abbrev pub read_hidden : Reader NatItem
read_hidden = read_key (codes "hidden") >>= λ _. read_sign (codes ";") >>= λ _. done nat_hidden

abbrev pub read_nat_item : Reader NatItem
read_nat_item toks = if at_key (codes "hidden") toks then read_hidden toks else read_nat_ip toks

abbrev pub read_net_ip : Reader NetItem
read_net_ip = read_setting (codes "ip") Prefix >>= λ word. done (net_ip word)

abbrev pub read_host : Reader NetItem
read_host = read_named (codes "host:") >>= λ name. read_body read_host_item >>= λ parts. done (net_host name parts)

abbrev pub read_nat : Reader NetItem
read_nat = read_named (codes "nat:") >>= λ tag. read_body read_nat_item >>= λ parts. done (net_nat tag parts)

abbrev pub read_net_item : Reader NetItem
read_net_item toks =
    if at_key (codes "ip") toks then read_net_ip toks
    else if at_kind (codes "host:") toks then read_host toks
    else if at_kind (codes "nat:") toks then read_nat toks
    else then_read (read_idle toks) (λ idle. done (net_idle idle))

abbrev pub read_virt_ip : Reader VirtItem
read_virt_ip = read_setting (codes "ip") Address >>= λ word. done (virt_ip word)

abbrev pub read_virt_kind : Reader VirtItem
read_virt_kind = read_setting (codes "type") Any >>= λ word. done (virt_kind word)

abbrev pub read_virt_id : Reader VirtItem
read_virt_id = read_setting (codes "id") Number >>= λ word. done (virt_id word)

abbrev pub read_virt_item : Reader VirtItem
read_virt_item toks =
    if at_key (codes "ip") toks then read_virt_ip toks
    else if at_key (codes "type") toks then read_virt_kind toks
    else read_virt_id toks

abbrev pub read_iface_ip : Reader IfaceItem
read_iface_ip = read_setting (codes "ip") Address >>= λ word. done (iface_ip word)

abbrev pub read_hardware : Reader IfaceItem
read_hardware = read_setting (codes "hardware") Any >>= λ word. done (iface_hardware word)

abbrev pub read_bind_nat : Reader IfaceItem
read_bind_nat = read_key (codes "bind_nat") >>= λ _. read_sign (codes "=") >>= λ _. read_listed never_ends (read_word Name) >>= λ tags. read_sign (codes ";") >>= λ _. done (iface_bind_nat tags)

abbrev pub read_virtual : Reader IfaceItem
read_virtual = read_key (codes "virtual") >>= λ _. read_body read_virt_item >>= λ parts. done (iface_virtual parts)

abbrev pub read_iface_item : Reader IfaceItem
read_iface_item toks =
    if at_key (codes "ip") toks then read_iface_ip toks
    else if at_key (codes "hardware") toks then read_hardware toks
    else if at_key (codes "bind_nat") toks then read_bind_nat toks
    else if at_key (codes "virtual") toks then read_virtual toks
    else then_read (read_idle toks) (λ idle. done (iface_idle idle))

-- the parts of an interface, where `;` says that there are none
abbrev pub read_iface_body : Reader (List IfaceItem)
read_iface_body toks = if at_sign (codes ";") toks then Some ([], past toks) else read_body read_iface_item toks

abbrev pub read_iface : Reader RouterItem
read_iface = read_named (codes "interface:") >>= λ net. read_iface_body >>= λ parts. done (router_iface net parts)

-- `=` and what the router is managed as, where there is a `=`
abbrev pub no_value : List Tok → Bool
no_value toks = not (at_sign (codes "=") toks)

abbrev pub read_filter : Reader Lexeme
read_filter = read_sign (codes "=") >>= λ _. read_word Filter

abbrev pub read_managed : Reader RouterItem
read_managed = read_key (codes "managed") >>= λ _. read_unless no_value read_filter >>= λ filter. read_sign (codes ";") >>= λ _. done (router_managed filter)

abbrev pub read_model : Reader RouterItem
read_model = read_setting (codes "model") Any >>= λ word. done (router_model word)

abbrev pub read_routing : Reader RouterItem
read_routing = read_setting (codes "routing") Routing >>= λ word. done (router_routing word)

abbrev pub read_router_item : Reader RouterItem
read_router_item toks =
    if at_key (codes "managed") toks then read_managed toks
    else if at_key (codes "model") toks then read_model toks
    else if at_key (codes "routing") toks then read_routing toks
    else if at_kind (codes "interface:") toks then read_iface toks
    else then_read (read_idle toks) (λ idle. done (router_idle idle))

abbrev pub read_anchor : Reader AreaItem
read_anchor = read_at_network (codes "anchor") >>= λ net. done (area_anchor net)

abbrev pub read_border : Reader AreaItem
read_border = read_key (codes "border") >>= λ _. read_sign (codes "=") >>= λ _. read_listed never_ends read_port >>= λ ports. read_sign (codes ";") >>= λ _. done (area_border ports)

abbrev pub read_area_item : Reader AreaItem
read_area_item toks =
    if at_key (codes "anchor") toks then read_anchor toks
    else if at_key (codes "border") toks then read_border toks
    else then_read (read_idle toks) (λ idle. done (area_idle idle))

abbrev pub read_link : Reader AnyItem
read_link = read_at_network (codes "link") >>= λ net. done (any_link net)

abbrev pub read_any_ip : Reader AnyItem
read_any_ip = read_setting (codes "ip") Prefix >>= λ word. done (any_ip word)

abbrev pub read_any_item : Reader AnyItem
read_any_item toks =
    if at_key (codes "link") toks then read_link toks
    else if at_key (codes "ip") toks then read_any_ip toks
    else then_read (read_idle toks) (λ idle. done (any_idle idle))

abbrev pub read_tcp : Reader Proto
read_tcp = read_key (codes "tcp") >>= λ _. read_spread_or_none Ports >>= λ words. done (proto_tcp words)

abbrev pub read_udp : Reader Proto
read_udp = read_key (codes "udp") >>= λ _. read_spread_or_none Ports >>= λ words. done (proto_udp words)

abbrev pub read_icmp : Reader Proto
read_icmp = read_key (codes "icmp") >>= λ _. read_spread_or_none Icmp >>= λ words. done (proto_icmp words)

abbrev pub read_number : Reader Proto
read_number = read_key (codes "proto") >>= λ _. read_word Number >>= λ word. done (proto_number word)

abbrev pub read_proto : Reader Proto
read_proto toks =
    if at_key (codes "ip") toks then Some (proto_ip, past toks)
    else if at_key (codes "tcp") toks then read_tcp toks
    else if at_key (codes "udp") toks then read_udp toks
    else if at_key (codes "icmp") toks then read_icmp toks
    else read_number toks

abbrev pub read_proto_item : Reader ProtoItem
read_proto_item toks =
    if at_kind (codes "protocol:") toks then then_read (read_named (codes "protocol:") toks) (λ name. done (a_protocol name))
    else if at_kind (codes "protocolgroup:") toks then then_read (read_named (codes "protocolgroup:") toks) (λ name. done (a_protogroup name))
    else then_read (read_proto toks) (λ proto. done (one_proto proto))

-- a set in brackets
abbrev pub read_bracket : {S : Type 0} → Reader S → Reader S
read_bracket read = read_sign (codes "[") >>= λ _. read >>= λ set. read_sign (codes "]") >>= λ _. done set

abbrev pub no_prefix : List Tok → Bool
no_prefix toks = not (at_key (codes "ip") toks)

-- `ip = PREFIX &`
abbrev pub read_inside : Reader Lexeme
read_inside = read_key (codes "ip") >>= λ _. read_sign (codes "=") >>= λ _. read_word Prefix >>= λ word. read_sign (codes "&") >>= λ _. done word

-- a set in brackets, perhaps behind a prefix
abbrev pub read_anys : {S : Type 0} → Reader S → Reader (TermOf S)
read_anys read = read_sign (codes "[") >>= λ _. read_unless no_prefix read_inside >>= λ inside. read >>= λ set. read_sign (codes "]") >>= λ _. done (anys inside set)

-- a term that is a kind and a name
abbrev pub read_named_term : (area_stands : Bool) {S : Type 0} → Reader (TermOf S)
read_named_term area_stands toks =
    if at_kind (codes "network:") toks then then_read (read_named (codes "network:") toks) (λ name. done (network name))
    else if at_kind (codes "host:") toks then then_read (read_named (codes "host:") toks) (λ name. done (host name))
    else if at_kind (codes "interface:") toks then then_read (read_port toks) (λ place. done (port place))
    else if at_kind (codes "group:") toks then then_read (read_named (codes "group:") toks) (λ name. done (group name))
    else if at_kind (codes "any:") toks then then_read (read_named (codes "any:") toks) (λ name. done (aggregate name))
    else if area_stands then then_read (read_named (codes "area:") toks) (λ name. done (area name))
    else None

-- a term, where `user` and `area:N` may stand or not
abbrev pub read_term_of : (user_stands area_stands : Bool) {S : Type 0} → Reader S → Reader (TermOf S)
read_term_of user_stands area_stands read toks =
    if at_key (codes "user") toks then (if user_stands then Some (user, past toks) else None)
    else if at_key (codes "network:") toks then then_read (read_bracket read (past toks)) (λ set. done (nets set))
    else if at_key (codes "host:") toks then then_read (read_bracket read (past toks)) (λ set. done (hosts set))
    else if at_key (codes "any:") toks then read_anys read (past toks)
    else read_named_term area_stands toks

-- past `!`, where it comes first
abbrev pub past_mark : List Tok → List Tok
past_mark toks = if at_sign (codes "!") toks then past toks else toks

-- a term, perhaps behind `!`
abbrev pub read_signed : {T : Type 0} → Reader T → Reader (Bool × T)
read_signed read toks = then_read (read (past_mark toks)) (λ t rest. Some ((at_sign (codes "!") toks, t), rest))

-- `&`, perhaps `!`, and a term
abbrev pub read_other : {T : Type 0} → Reader T → Reader (Bool × T)
read_other read = read_sign (codes "&") >>= λ _. read_signed read

abbrev pub no_other : List Tok → Bool
no_other toks = not (at_sign (codes "&") toks)

-- the further terms of a part
abbrev pub read_others : {T : Type 0} → Reader T → Reader (List (Bool × T))
read_others read = read_until no_other (read_other read)

abbrev pub read_inter : {T : Type 0} → Reader T → Reader (InterOf T)
read_inter read = read >>= λ t. read_others read >>= λ others. done (t, others)

abbrev pub read_set : {T : Type 0} → Reader T → Reader (SetOf T)
read_set read = read_listed list_ends (read_inter read)

abbrev pub read_none : Reader ⊥
read_none toks = None

-- a set of so many levels; inside brackets `area:N` may stand
abbrev pub read_set_in : (user_stands : Bool) (depth : ℕ) (area_stands : Bool) → Reader (SetIn depth)
read_set_in user_stands zero area_stands = read_none
read_set_in user_stands (suc depth) area_stands = read_set (read_term_of user_stands area_stands (read_set_in user_stands depth true))

abbrev pub read_term : (user_stands : Bool) (depth : ℕ) (area_stands : Bool) → Reader (TermIn depth)
read_term user_stands depth area_stands = read_term_of user_stands area_stands (read_set_in user_stands depth true)

-- a word that is set to a set
abbrev pub read_side : {S : Type 0} → List ℕ → Reader S → Reader S
read_side name read = read_key name >>= λ _. read_sign (codes "=") >>= λ _. read >>= λ set. read_sign (codes ";") >>= λ _. done set

-- protocols with commas between them and perhaps one behind them, and `;`
abbrev pub read_prts : Reader (List ProtoItem)
read_prts = read_sign (codes "=") >>= λ _. read_listed list_ends read_proto_item >>= λ prts. read_sign (codes ";") >>= λ _. done prts

abbrev pub rule_of : {S : Type 0} → Bool → S → S → List ProtoItem → RuleOf S
rule_of deny src dst prts = record { deny = deny; src = src; dst = dst; prts = prts }

-- `deny` or `permit`: whether the rule denies
abbrev pub read_action : Reader Bool
read_action toks = if at_key (codes "deny") toks then Some (true, past toks) else then_read (read_key (codes "permit") toks) (λ _. done false)

abbrev pub read_rule : {S : Type 0} → Reader S → Reader (RuleOf S)
read_rule read = read_action >>= λ deny. read_side (codes "src") read >>= λ src. read_side (codes "dst") read >>= λ dst. read_key (codes "prt") >>= λ _. read_prts >>= λ prts. done (rule_of deny src dst prts)

-- one or more rules up to `}`
abbrev pub read_rules : {S : Type 0} → Reader S → Reader (List (RuleOf S))
read_rules read toks = if at_sign (codes "}") toks then None else read_parts (read_rule read) toks

abbrev pub no_idle : List Tok → Bool
no_idle toks = not (at_idle toks)

abbrev pub read_network : {S : Type 0} → Reader (DeclOf S)
read_network = read_named (codes "network:") >>= λ name. read_opening >>= λ desc. read_parts read_net_item >>= λ parts. done (network_decl name desc parts)

abbrev pub read_router : {S : Type 0} → Reader (DeclOf S)
read_router = read_named (codes "router:") >>= λ name. read_opening >>= λ desc. read_parts read_router_item >>= λ parts. done (router_decl name desc parts)

abbrev pub read_area : {S : Type 0} → Reader (DeclOf S)
read_area = read_named (codes "area:") >>= λ name. read_opening >>= λ desc. read_parts read_area_item >>= λ parts. done (area_decl name desc parts)

abbrev pub read_aggregate : {S : Type 0} → Reader (DeclOf S)
read_aggregate = read_named (codes "any:") >>= λ name. read_opening >>= λ desc. read_parts read_any_item >>= λ parts. done (aggregate_decl name desc parts)

abbrev pub read_group : {S : Type 0} → Reader S → Reader (DeclOf S)
read_group read =
    read_named (codes "group:") >>= λ name. read_sign (codes "=") >>= λ _. read_desc_part >>= λ desc. read_unless (at_sign (codes ";")) read >>= λ objects. read_sign (codes ";") >>= λ _. done (group_decl name desc objects)

abbrev pub read_protocol : {S : Type 0} → Reader (DeclOf S)
read_protocol =
    read_named (codes "protocol:") >>= λ name. read_sign (codes "=") >>= λ _. read_proto >>= λ proto. read_further never_ends (read_word Note) >>= λ notes. read_sign (codes ";") >>= λ _. done (protocol_decl name proto notes)

abbrev pub read_protogroup : {S : Type 0} → Reader (DeclOf S)
read_protogroup = read_named (codes "protocolgroup:") >>= λ name. read_prts >>= λ prts. done (protogroup_decl name prts)

abbrev pub read_restriction : {S : Type 0} → Reader (DeclOf S)
read_restriction =
    read_named (codes "pathrestriction:") >>= λ name. read_sign (codes "=") >>= λ _. read_desc_part >>= λ desc. read_listed list_ends read_port >>= λ ports. read_sign (codes ";") >>= λ _. done (restriction_decl name desc ports)

abbrev pub read_service : {S : Type 0} → Reader S → Reader S → Reader (DeclOf S)
read_service read in_rules =
    read_named (codes "service:") >>= λ name. read_opening >>= λ desc. read_until no_idle read_idle >>= λ idle. read_side (codes "user") read >>= λ users. read_rules in_rules >>= λ rules. done (service_decl name desc idle users rules)

-- a declaration, where a set outside rules is read in the first way and a set of a rule in the second
abbrev pub read_decl : {S : Type 0} → Reader S → Reader S → Reader (DeclOf S)
read_decl read in_rules toks =
    if at_kind (codes "network:") toks then read_network toks
    else if at_kind (codes "router:") toks then read_router toks
    else if at_kind (codes "group:") toks then read_group read toks
    else if at_kind (codes "area:") toks then read_area toks
    else if at_kind (codes "any:") toks then read_aggregate toks
    else if at_kind (codes "protocol:") toks then read_protocol toks
    else if at_kind (codes "protocolgroup:") toks then read_protogroup toks
    else if at_kind (codes "pathrestriction:") toks then read_restriction toks
    else read_service read in_rules toks

-- a declaration in which sets have so many levels at most
abbrev pub read_decl_in : (depth : ℕ) → Reader (DeclIn depth)
read_decl_in depth = read_decl (read_set_in false depth false) (read_set_in true depth false)
