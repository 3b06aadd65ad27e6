-- Each row of the grammar: what its reader reads is spelled by the tokens that it takes.
use Rattle.std.proofs.Common.{◌≡◌, ℕ, zero, suc, Bool, true, false, List, [], ◌∷◌, ◌++◌, Option, Some, None, cond, true≢false, refl, sym, ap, subst, ◌∙◌, append_assoc, inl, inr}
use Rattle.std.specs.Prelude.{codes}
use Rattle.spoc_lexer.specs.Tokens.{Tok}
use Rattle.spoc_parser.specs.declared.forms.Form.{Form}
use Rattle.spoc_parser.specs.declared.forms.Form.TheVariants.{Any, Name, Address, Prefix, Number, Range, Ports, Icmp, Filter, Routing, Note, ListKey, ValueKey, Flag}
use Rattle.spoc_parser.specs.Trees.{Lexeme, TermOf, network, host, port, group, aggregate, area, user, nets, hosts, anys, host_ip, host_range, host_idle, nat_ip, nat_hidden, net_ip, net_host, net_nat, net_idle, virt_ip, virt_kind, virt_id, iface_ip, iface_hardware, iface_bind_nat, iface_virtual, iface_idle, router_managed, router_model, router_routing, router_iface, router_idle, area_anchor, area_border, area_idle, any_link, any_ip, any_idle, proto_ip, proto_tcp, proto_udp, proto_icmp, proto_number, ProtoItem, one_proto, a_protocol, a_protogroup, RuleOf, DeclOf, network_decl, router_decl, group_decl, area_decl, aggregate_decl, protocol_decl, protogroup_decl, restriction_decl, service_decl}
use Rattle.spoc_parser.specs.Phrases.{Phrase, ◌then◌, ◌or◌, sign, key, a_word, named, perhaps, many, some, listed_open, none_of}
use Rattle.spoc_parser.specs.Grammar.{SpellsDesc, SpellsIdle, setting, body, body_with, SpellsHostItem, SpellsNatItem, SpellsNetItem, SpellsVirtItem, SpellsIfaceItem, SpellsRouterItem, SpellsAreaItem, SpellsAnyItem, SpellsProto, SpellsProtoItem, SpellsTermOf, mark, SpellsFurther, SpellsInter, SpellsSetIn, action, SpellsRule, SpellsDecl, SpellsDeclIn}
use Rattle.spoc_parser.specs.Readers.{Reader, then_read, ◌>>=◌, done, past, at_sign, read_named}
use Rattle.spoc_parser.specs.Reading.{read_desc, no_desc, read_desc_part, idle_of, read_list_idle, read_value_idle, read_flag_idle, read_idle, read_setting, read_at_network, read_parts, read_body, read_opening, read_host_ip, read_host_range, read_host_item, read_hidden, read_nat_ip, read_nat_item, read_net_ip, read_host, read_nat, read_net_item, read_virt_ip, read_virt_kind, read_virt_id, read_virt_item, read_iface_ip, read_hardware, read_bind_nat, read_virtual, read_iface_item, read_iface_body, read_iface, no_value, read_filter, read_managed, read_model, read_routing, read_router_item, read_anchor, read_border, read_area_item, read_link, read_any_ip, read_any_item, read_tcp, read_udp, read_icmp, read_number, read_proto, read_proto_item, read_bracket, no_prefix, read_inside, read_anys, read_named_term, read_term_of, read_signed, read_other, no_other, read_inter, read_set_in, read_side, read_prts, rule_of, read_action, read_rule, read_rules, no_idle, read_group, read_protocol, read_protogroup, read_restriction, read_service, read_decl, read_decl_in}
use Rattle.grammar_laws.proofs.Found.{Fronts, Sound, Behind, then_some, parts, in_turn, bind_sound, last_sound, more_sound, if_sound, past_sound, done_sound, refuse_sound, sign_shape, key_shape, sign_sound, key_sound, text_sound, word_sound, named_sound, port_sound, spread_sound, spread_or_none_sound, unless_sound, until_sound, listed_sound, listed_open_sound, further_sound}

-- ---- phrases put together

pub regroup : (P Q R : Phrase) (f g : List Tok) → (P then Q) f → R g → (P then Q then R) (f ++ g)
regroup P Q R f g p r = (p.0, p.1 ++ g, p.2, (p.1, g, p.3, r, refl), ap (λ l. l ++ g) p.4 ∙ append_assoc p.0 p.1 g)

pub regroup_3 : (P Q R S : Phrase) (f g : List Tok) → (P then Q then R) f → S g → (P then Q then R then S) (f ++ g)
regroup_3 P Q R S f g p s = (p.0, p.1 ++ g, p.2, regroup Q R S p.1 g p.3 s, ap (λ l. l ++ g) p.4 ∙ append_assoc p.0 p.1 g)

pub regroup_4 : (P Q R S X : Phrase) (f g : List Tok) → (P then Q then R then S) f → X g → (P then Q then R then S then X) (f ++ g)
regroup_4 P Q R S X f g p x = (p.0, p.1 ++ g, p.2, regroup_3 Q R S X p.1 g p.3 x, ap (λ l. l ++ g) p.4 ∙ append_assoc p.0 p.1 g)

-- ---- descriptions, parts without effect, settings and bodies

pub desc_sound : Sound SpellsDesc read_desc
desc_sound = bind_sound (key_sound (codes "description")) λ _. bind_sound (sign_sound (codes "=")) λ _. more_sound text_sound (λ x f3 p3 f2 p2 f1 p1. (f1, _, p1, (f2, f3, p2, p3, refl), refl))

pub desc_part_sound : Sound (perhaps SpellsDesc) read_desc_part
desc_part_sound = unless_sound no_desc desc_sound

list_idle_sound : Sound SpellsIdle read_list_idle
list_idle_sound = bind_sound (word_sound ListKey) λ word. bind_sound (sign_sound (codes "=")) λ _. bind_sound (listed_sound (word_sound Any)) λ words. last_sound (λ _. idle_of word words) (sign_sound (codes ";"))
    (λ _ f4 p4 f3 p3 f2 p2 f1 p1. inl (f1, _, p1, (f2, _, p2, (f3, f4, p3, p4, refl), refl), refl))

value_idle_sound : Sound SpellsIdle read_value_idle
value_idle_sound = bind_sound (word_sound ValueKey) λ word. bind_sound (sign_sound (codes "=")) λ _. bind_sound (word_sound Any) λ value. last_sound (λ _. idle_of word (value ∷ [])) (sign_sound (codes ";"))
    (λ _ f4 p4 f3 p3 f2 p2 f1 p1. inr (inl (f1, _, p1, (f2, _, p2, (f3, f4, p3, p4, refl), refl), refl)))

flag_idle_sound : Sound SpellsIdle read_flag_idle
flag_idle_sound = bind_sound (word_sound Flag) λ word. last_sound (λ _. idle_of word []) (sign_sound (codes ";")) (λ _ f2 p2 f1 p1. inr (inr (f1, f2, p1, ([], f2, refl, p2, refl), refl)))

pub idle_sound : Sound SpellsIdle read_idle
idle_sound = if_sound _ list_idle_sound (if_sound _ value_idle_sound flag_idle_sound)

pub setting_sound : (name : List ℕ) (form : Form) → Sound (setting name form) (read_setting name form)
setting_sound name form = bind_sound (key_sound name) λ _. bind_sound (sign_sound (codes "=")) λ _. bind_sound (word_sound form) λ word. last_sound (λ _. word) (sign_sound (codes ";"))
    (λ _ f4 p4 f3 p3 f2 p2 f1 p1. (f1, _, p1, (f2, _, p2, (f3, f4, p3, p4, refl), refl), refl))

pub at_network_sound : (name : List ℕ) → Sound (λ net. key name then sign (codes "=") then named (codes "network:") net then sign (codes ";")) (read_at_network name)
at_network_sound name = bind_sound (key_sound name) λ _. bind_sound (sign_sound (codes "=")) λ _. bind_sound (named_sound (codes "network:")) λ net. last_sound (λ _. net) (sign_sound (codes ";"))
    (λ _ f4 p4 f3 p3 f2 p2 f1 p1. (f1, _, p1, (f2, _, p2, (f3, f4, p3, p4, refl), refl), refl))

pub parts_sound : {A : Type 0} {spells : A → Phrase} {read : Reader A} → Sound spells read → Sound (λ xs. many spells xs then sign (codes "}")) (read_parts read)
parts_sound s = bind_sound (until_sound (at_sign (codes "}")) s) λ xs. last_sound (λ _. xs) (sign_sound (codes "}")) (λ _ f2 p2 f1 p1. (f1, f2, p1, p2, refl))

pub body_sound : {A : Type 0} {spells : A → Phrase} {read : Reader A} → Sound spells read → Sound (body spells) (read_body read)
body_sound s = bind_sound (sign_sound (codes "=")) λ _. bind_sound (sign_sound (codes "{")) λ _. more_sound (parts_sound s) (λ x f3 p3 f2 p2 f1 p1. (f1, _, p1, (f2, f3, p2, p3, refl), refl))

abbrev opening : Option Lexeme → Phrase
opening desc = sign (codes "=") then sign (codes "{") then perhaps SpellsDesc desc

opening_sound : Sound opening read_opening
opening_sound = bind_sound (sign_sound (codes "=")) λ _. bind_sound (sign_sound (codes "{")) λ _. more_sound desc_part_sound (λ x f3 p3 f2 p2 f1 p1. (f1, _, p1, (f2, f3, p2, p3, refl), refl))

opened : (desc : Option Lexeme) (P : Phrase) (f g : List Tok) → opening desc f → P g → (sign (codes "=") then sign (codes "{") then perhaps SpellsDesc desc then P) (f ++ g)
opened desc P = regroup_3 (sign (codes "=")) (sign (codes "{")) (perhaps SpellsDesc desc) P

-- ---- hosts and networks

host_item_sound : Sound SpellsHostItem read_host_item
host_item_sound = if_sound _ ip (if_sound _ range (last_sound host_idle idle_sound (λ x f p. p)))
  where
    ip : Sound SpellsHostItem read_host_ip
    ip = last_sound host_ip (setting_sound (codes "ip") Address) (λ x f p. p)

    range : Sound SpellsHostItem read_host_range
    range = bind_sound (key_sound (codes "range")) λ _. bind_sound (sign_sound (codes "=")) λ _. bind_sound (spread_sound Range) λ words. last_sound (λ _. host_range words) (sign_sound (codes ";"))
        (λ _ f4 p4 f3 p3 f2 p2 f1 p1. (f1, _, p1, (f2, _, p2, (f3, f4, p3, p4, refl), refl), refl))

nat_item_sound : Sound SpellsNatItem read_nat_item
nat_item_sound = if_sound _ hidden ip
  where
    hidden : Sound SpellsNatItem read_hidden
    hidden = bind_sound (key_sound (codes "hidden")) λ _. last_sound (λ _. nat_hidden) (sign_sound (codes ";")) (λ _ f2 p2 f1 p1. (f1, f2, p1, p2, refl))

    ip : Sound SpellsNatItem read_nat_ip
    ip = last_sound nat_ip (setting_sound (codes "ip") Prefix) (λ x f p. p)

net_item_sound : Sound SpellsNetItem read_net_item
net_item_sound = if_sound _ ip (if_sound _ host_part (if_sound _ nat_part (last_sound net_idle idle_sound (λ x f p. p))))
  where
    ip : Sound SpellsNetItem read_net_ip
    ip = last_sound net_ip (setting_sound (codes "ip") Prefix) (λ x f p. p)

    host_part : Sound SpellsNetItem read_host
    host_part = bind_sound (named_sound (codes "host:")) λ name. last_sound (net_host name) (body_sound host_item_sound) (λ x f2 p2 f1 p1. (f1, f2, p1, p2, refl))

    nat_part : Sound SpellsNetItem read_nat
    nat_part = bind_sound (named_sound (codes "nat:")) λ name. last_sound (net_nat name) (body_sound nat_item_sound) (λ x f2 p2 f1 p1. (f1, f2, p1, p2, refl))

-- ---- routers

virt_item_sound : Sound SpellsVirtItem read_virt_item
virt_item_sound = if_sound _ ip (if_sound _ kind id)
  where
    ip : Sound SpellsVirtItem read_virt_ip
    ip = last_sound virt_ip (setting_sound (codes "ip") Address) (λ x f p. p)

    kind : Sound SpellsVirtItem read_virt_kind
    kind = last_sound virt_kind (setting_sound (codes "type") Any) (λ x f p. p)

    id : Sound SpellsVirtItem read_virt_id
    id = last_sound virt_id (setting_sound (codes "id") Number) (λ x f p. p)

iface_item_sound : Sound SpellsIfaceItem read_iface_item
iface_item_sound = if_sound _ ip (if_sound _ hardware (if_sound _ bind_nat (if_sound _ shared (last_sound iface_idle idle_sound (λ x f p. p)))))
  where
    ip : Sound SpellsIfaceItem read_iface_ip
    ip = last_sound iface_ip (setting_sound (codes "ip") Address) (λ x f p. p)

    hardware : Sound SpellsIfaceItem read_hardware
    hardware = last_sound iface_hardware (setting_sound (codes "hardware") Any) (λ x f p. p)

    bind_nat : Sound SpellsIfaceItem read_bind_nat
    bind_nat = bind_sound (key_sound (codes "bind_nat")) λ _. bind_sound (sign_sound (codes "=")) λ _. bind_sound (listed_sound (word_sound Name)) λ tags. last_sound (λ _. iface_bind_nat tags) (sign_sound (codes ";"))
        (λ _ f4 p4 f3 p3 f2 p2 f1 p1. (f1, _, p1, (f2, _, p2, (f3, f4, p3, p4, refl), refl), refl))

    shared : Sound SpellsIfaceItem read_virtual
    shared = bind_sound (key_sound (codes "virtual")) λ _. last_sound iface_virtual (body_sound virt_item_sound) (λ x f2 p2 f1 p1. (f1, f2, p1, p2, refl))

iface_body_sound : Sound (λ xs. (none_of xs then sign (codes ";")) or body SpellsIfaceItem xs) read_iface_body
iface_body_sound = past_sound (done []) (sign_shape (codes ";")) (done_sound [] (λ f p. inl ([], f ++ [], refl, (p.0, ap (λ l. l ++ []) p.1), refl))) (more_sound (body_sound iface_item_sound) (λ x f p. inr p))

filter_sound : Sound (λ word. sign (codes "=") then a_word Filter word) read_filter
filter_sound = bind_sound (sign_sound (codes "=")) λ _. more_sound (word_sound Filter) (λ x f2 p2 f1 p1. (f1, f2, p1, p2, refl))

router_item_sound : Sound SpellsRouterItem read_router_item
router_item_sound = if_sound _ managed (if_sound _ model (if_sound _ routing (if_sound _ iface (last_sound router_idle idle_sound (λ x f p. p)))))
  where
    managed : Sound SpellsRouterItem read_managed
    managed = bind_sound (key_sound (codes "managed")) λ _. bind_sound (unless_sound no_value filter_sound) λ filter. last_sound (λ _. router_managed filter) (sign_sound (codes ";"))
        (λ _ f3 p3 f2 p2 f1 p1. (f1, _, p1, (f2, f3, p2, p3, refl), refl))

    model : Sound SpellsRouterItem read_model
    model = last_sound router_model (setting_sound (codes "model") Any) (λ x f p. p)

    routing : Sound SpellsRouterItem read_routing
    routing = last_sound router_routing (setting_sound (codes "routing") Routing) (λ x f p. p)

    iface : Sound SpellsRouterItem read_iface
    iface = bind_sound (named_sound (codes "interface:")) λ net. last_sound (router_iface net) iface_body_sound (λ x f2 p2 f1 p1. (f1, f2, p1, p2, refl))

-- ---- areas and aggregates

area_item_sound : Sound SpellsAreaItem read_area_item
area_item_sound = if_sound _ anchor (if_sound _ border (last_sound area_idle idle_sound (λ x f p. p)))
  where
    anchor : Sound SpellsAreaItem read_anchor
    anchor = last_sound area_anchor (at_network_sound (codes "anchor")) (λ x f p. p)

    border : Sound SpellsAreaItem read_border
    border = bind_sound (key_sound (codes "border")) λ _. bind_sound (sign_sound (codes "=")) λ _. bind_sound (listed_sound port_sound) λ ports. last_sound (λ _. area_border ports) (sign_sound (codes ";"))
        (λ _ f4 p4 f3 p3 f2 p2 f1 p1. (f1, _, p1, (f2, _, p2, (f3, f4, p3, p4, refl), refl), refl))

any_item_sound : Sound SpellsAnyItem read_any_item
any_item_sound = if_sound _ link (if_sound _ ip (last_sound any_idle idle_sound (λ x f p. p)))
  where
    link : Sound SpellsAnyItem read_link
    link = last_sound any_link (at_network_sound (codes "link")) (λ x f p. p)

    ip : Sound SpellsAnyItem read_any_ip
    ip = last_sound any_ip (setting_sound (codes "ip") Prefix) (λ x f p. p)

-- ---- protocols

proto_sound : Sound SpellsProto read_proto
proto_sound = past_sound (done proto_ip) (key_shape (codes "ip")) (done_sound proto_ip (λ f p. (p.0, ap (λ l. l ++ []) p.1))) (if_sound _ tcp (if_sound _ udp (if_sound _ icmp number)))
  where
    tcp : Sound SpellsProto read_tcp
    tcp = bind_sound (key_sound (codes "tcp")) λ _. last_sound proto_tcp (spread_or_none_sound Ports) (λ x f2 p2 f1 p1. (f1, f2, p1, p2, refl))

    udp : Sound SpellsProto read_udp
    udp = bind_sound (key_sound (codes "udp")) λ _. last_sound proto_udp (spread_or_none_sound Ports) (λ x f2 p2 f1 p1. (f1, f2, p1, p2, refl))

    icmp : Sound SpellsProto read_icmp
    icmp = bind_sound (key_sound (codes "icmp")) λ _. last_sound proto_icmp (spread_or_none_sound Icmp) (λ x f2 p2 f1 p1. (f1, f2, p1, p2, refl))

    number : Sound SpellsProto read_number
    number = bind_sound (key_sound (codes "proto")) λ _. last_sound proto_number (word_sound Number) (λ x f2 p2 f1 p1. (f1, f2, p1, p2, refl))

proto_item_sound : Sound SpellsProtoItem read_proto_item
proto_item_sound = if_sound _ (last_sound a_protocol (named_sound (codes "protocol:")) (λ x f p. p)) (if_sound _ (last_sound a_protogroup (named_sound (codes "protocolgroup:")) (λ x f p. p)) (last_sound one_proto proto_sound (λ x f p. p)))

-- ---- sets

bracket_sound : {S : Type 0} {spells : S → Phrase} {read : Reader S} → Sound spells read → Sound (λ set. sign (codes "[") then spells set then sign (codes "]")) (read_bracket read)
bracket_sound s = bind_sound (sign_sound (codes "[")) λ _. bind_sound s λ set. last_sound (λ _. set) (sign_sound (codes "]")) (λ _ f3 p3 f2 p2 f1 p1. (f1, _, p1, (f2, f3, p2, p3, refl), refl))

inside_sound : Sound (λ prefix. key (codes "ip") then sign (codes "=") then a_word Prefix prefix then sign (codes "&")) read_inside
inside_sound = bind_sound (key_sound (codes "ip")) λ _. bind_sound (sign_sound (codes "=")) λ _. bind_sound (word_sound Prefix) λ word. last_sound (λ _. word) (sign_sound (codes "&"))
    (λ _ f4 p4 f3 p3 f2 p2 f1 p1. (f1, _, p1, (f2, _, p2, (f3, f4, p3, p4, refl), refl), refl))

-- `user` where it may stand
user_sound : {S : Type 0} (spells : S → Phrase) (user_stands area_stands : Bool) → Sound (λ t. Behind (key (codes "user")) (SpellsTermOf user_stands area_stands spells t)) (λ toks. cond {A = Option (TermOf S × List Tok)} user_stands (Some (user, toks)) None)
user_sound spells true area_stands = done_sound user (λ f p. (refl, (p.0, ap (λ l. l ++ []) p.1)))
user_sound spells false area_stands = refuse_sound

-- `area:N` where it may stand
area_sound : {S : Type 0} (spells : S → Phrase) (user_stands area_stands : Bool) → Sound (SpellsTermOf user_stands area_stands spells) (λ toks. cond {A = Option (TermOf S × List Tok)} area_stands (then_read (read_named (codes "area:") toks) (λ name. done (area name))) None)
area_sound spells user_stands true = last_sound area (named_sound (codes "area:")) (λ x f p. (refl, p))
area_sound spells user_stands false = refuse_sound

named_term_sound : {S : Type 0} (spells : S → Phrase) (user_stands area_stands : Bool) → Sound (SpellsTermOf user_stands area_stands spells) (read_named_term area_stands)
named_term_sound spells user_stands area_stands =
    if_sound _ (last_sound network (named_sound (codes "network:")) (λ x f p. p))
    (if_sound _ (last_sound host (named_sound (codes "host:")) (λ x f p. p))
    (if_sound _ (last_sound port port_sound (λ x f p. p))
    (if_sound _ (last_sound group (named_sound (codes "group:")) (λ x f p. p))
    (if_sound _ (last_sound aggregate (named_sound (codes "any:")) (λ x f p. p))
    (area_sound spells user_stands area_stands)))))

anys_sound : {S : Type 0} (spells : S → Phrase) (read : Reader S) (user_stands area_stands : Bool) → Sound spells read → Sound (λ t. Behind (key (codes "any:")) (SpellsTermOf user_stands area_stands spells t)) (read_anys read)
anys_sound spells read user_stands area_stands s =
    bind_sound (sign_sound (codes "[")) λ _. bind_sound (unless_sound no_prefix inside_sound) λ inside. bind_sound s λ set. last_sound (λ _. anys inside set) (sign_sound (codes "]"))
    (λ _ f5 p5 f4 p4 f3 p3 f2 p2 f1 p1. (f1, _, p1, (f2, _, p2, (f3, _, p3, (f4, f5, p4, p5, refl), refl), refl), refl))

term_sound : {S : Type 0} (spells : S → Phrase) (read : Reader S) (user_stands area_stands : Bool) → Sound spells read → Sound (SpellsTermOf user_stands area_stands spells) (read_term_of user_stands area_stands read)
term_sound spells read user_stands area_stands s =
    past_sound (λ toks. cond user_stands (Some (user, toks)) None) (key_shape (codes "user")) (user_sound spells user_stands area_stands)
    (past_sound (read_bracket read >>= λ set. done (nets set)) (key_shape (codes "network:")) (last_sound nets (bracket_sound s) (λ x f2 p2 f1 p1. (f1, f2, p1, p2, refl)))
    (past_sound (read_bracket read >>= λ set. done (hosts set)) (key_shape (codes "host:")) (last_sound hosts (bracket_sound s) (λ x f2 p2 f1 p1. (f1, f2, p1, p2, refl)))
    (past_sound (read_anys read) (key_shape (codes "any:")) (anys_sound spells read user_stands area_stands s)
    (named_term_sound spells user_stands area_stands))))

signed_sound : {T : Type 0} {spells : T → Phrase} {read : Reader T} → Sound spells read → Sound (λ f. mark f.0 then spells f.1) (read_signed read)
signed_sound {T} {spells} {read} s = record { fronts = λ toks rest f h. by toks rest f (at_sign (codes "!") toks) refl h }
  where
    by : (toks rest : List Tok) (f : Bool × T) (b : Bool) → at_sign (codes "!") toks ≡ b → then_read (read (cond b (past toks) toks)) (λ t rest. Some ((b, t), rest)) ≡ Some (f, rest) → Fronts (mark f.0 then spells f.1) toks rest
    by toks rest f true is h =
        let inside = then_some (read (past toks)) _ (f, rest) h in
        let value = parts (true, inside.0.0) f inside.0.1 rest inside.2 in
        let sign = sign_shape (codes "!") toks is in
        let own = s.fronts (past toks) inside.0.1 inside.0.0 inside.1 in (
          sign.0 ++ own.0,
          subst (λ g. (mark g.0 then spells g.1) (sign.0 ++ own.0)) value.0 (sign.0, own.0, sign.1, own.1, refl),
          in_turn toks sign.0 (past toks) own.0 inside.0.1 rest sign.2 own.2 value.1,
        )
    by toks rest f false is h =
        let inside = then_some (read toks) _ (f, rest) h in
        let value = parts (false, inside.0.0) f inside.0.1 rest inside.2 in
        let own = s.fronts toks inside.0.1 inside.0.0 inside.1 in
        (own.0, subst (λ g. (mark g.0 then spells g.1) own.0) value.0 ([], own.0, refl, own.1, refl), own.2 ∙ ap (λ l. own.0 ++ l) value.1)

inter_sound : {T : Type 0} {spells : T → Phrase} {read : Reader T} → Sound spells read → Sound (SpellsInter spells) (read_inter read)
inter_sound {T} {spells} {read} s = bind_sound s λ t. last_sound (λ others. (t, others)) (until_sound no_other other) (λ x f2 p2 f1 p1. (f1, f2, p1, p2, refl))
  where
    other : Sound (SpellsFurther spells) (read_other read)
    other = bind_sound (sign_sound (codes "&")) λ _. more_sound (signed_sound s) (λ f f2 p2 f1 p1. (f1, f2, p1, p2, refl))

pub set_in_sound : (user_stands : Bool) (depth : ℕ) (area_stands : Bool) → Sound (SpellsSetIn user_stands depth area_stands) (read_set_in user_stands depth area_stands)
set_in_sound user_stands zero area_stands = refuse_sound
set_in_sound user_stands (suc depth) area_stands =
    listed_open_sound (inter_sound (term_sound (SpellsSetIn user_stands depth true) (read_set_in user_stands depth true) user_stands area_stands (set_in_sound user_stands depth true)))

-- ---- rules

abbrev pub side : {S : Type 0} → List ℕ → (S → Phrase) → S → Phrase
side name spells set = key name then sign (codes "=") then spells set then sign (codes ";")

side_sound : {S : Type 0} {spells : S → Phrase} {read : Reader S} (name : List ℕ) → Sound spells read → Sound (side name spells) (read_side name read)
side_sound name s = bind_sound (key_sound name) λ _. bind_sound (sign_sound (codes "=")) λ _. bind_sound s λ set. last_sound (λ _. set) (sign_sound (codes ";"))
    (λ _ f4 p4 f3 p3 f2 p2 f1 p1. (f1, _, p1, (f2, _, p2, (f3, f4, p3, p4, refl), refl), refl))

pub behind_side : {S : Type 0} (name : List ℕ) (spells : S → Phrase) (set : S) (P : Phrase) (f g : List Tok) → side name spells set f → P g → (key name then sign (codes "=") then spells set then sign (codes ";") then P) (f ++ g)
behind_side name spells set P = regroup_4 (key name) (sign (codes "=")) (spells set) (sign (codes ";")) P

abbrev pub to_items : List ProtoItem → Phrase
to_items prts = sign (codes "=") then listed_open SpellsProtoItem prts then sign (codes ";")

prts_sound : Sound to_items read_prts
prts_sound = bind_sound (sign_sound (codes "=")) λ _. bind_sound (listed_open_sound proto_item_sound) λ prts. last_sound (λ _. prts) (sign_sound (codes ";"))
    (λ _ f3 p3 f2 p2 f1 p1. (f1, _, p1, (f2, f3, p2, p3, refl), refl))

action_sound : Sound (λ deny. key (action deny)) read_action
action_sound = past_sound (done true) (key_shape (codes "deny")) (done_sound true (λ f p. (p.0, ap (λ l. l ++ []) p.1))) (last_sound (λ _. false) (key_sound (codes "permit")) (λ x f p. p))

rule_sound : {S : Type 0} {spells : S → Phrase} {read : Reader S} → Sound spells read → Sound (SpellsRule spells) (read_rule read)
rule_sound {spells = spells} s =
    bind_sound action_sound λ deny. bind_sound (side_sound (codes "src") s) λ src. bind_sound (side_sound (codes "dst") s) λ dst. bind_sound (key_sound (codes "prt")) λ _. last_sound (rule_of deny src dst) prts_sound
    (λ prts f5 p5 f4 p4 f3 p3 f2 p2 f1 p1. (f1, _, p1, behind_side (codes "src") spells src _ f2 _ p2 (behind_side (codes "dst") spells dst (key (codes "prt") then to_items prts) f3 _ p3 (f4, f5, p4, p5, refl)), refl))

rules_sound : {S : Type 0} {spells : S → Phrase} {read : Reader S} → Sound spells read → Sound (λ rules. some (SpellsRule spells) rules then sign (codes "}")) (read_rules read)
rules_sound {S} {spells} {read} s = record { fronts = λ toks rest rules h. by toks rest rules (at_sign (codes "}") toks) refl h }
  where
    closed : (toks rest : List Tok) (front : List Tok) → (many (SpellsRule spells) [] then sign (codes "}")) front → toks ≡ front ++ rest → at_sign (codes "}") toks ≡ true
    closed toks rest front p e = ap (at_sign (codes "}")) (e ∙ λ i. (p.4 i) ++ rest) ∙ λ i. at_sign (codes "}") ((p.2 i ++ p.3.1 i) ++ rest)

    several : (toks rest : List Tok) (rules : List (RuleOf S)) → at_sign (codes "}") toks ≡ false → Fronts (many (SpellsRule spells) rules then sign (codes "}")) toks rest → Fronts (some (SpellsRule spells) rules then sign (codes "}")) toks rest
    several toks rest [] is f = absurd (true≢false (sym (closed toks rest f.0 f.1 f.2) ∙ is))
    several toks rest (rule ∷ rules) is f = f

    by : (toks rest : List Tok) (rules : List (RuleOf S)) (b : Bool) → at_sign (codes "}") toks ≡ b → cond b None (read_parts (read_rule read) toks) ≡ Some (rules, rest) → Fronts (some (SpellsRule spells) rules then sign (codes "}")) toks rest
    by toks rest rules true is h = cc
    by toks rest rules false is h = several toks rest rules is ((parts_sound (rule_sound s)).fronts toks rest rules h)

-- ---- declarations

module _ {S : Type 0} (spells in_rules : S → Phrase) (read read_in_rules : Reader S) (s : Sound spells read) (r : Sound in_rules read_in_rules) where
  with_parts : {A : Type 0} {items : A → Phrase} {read_item : Reader A} (kind : List ℕ) (decl : Lexeme → Option Lexeme → List A → DeclOf S)
      → ((name : Lexeme) (desc : Option Lexeme) (xs : List A) (front : List Tok) → (named kind name then body_with desc items xs) front → SpellsDecl spells in_rules (decl name desc xs) front)
      → Sound items read_item → Sound (SpellsDecl spells in_rules) (read_named kind >>= λ name. read_opening >>= λ desc. read_parts read_item >>= λ xs. done (decl name desc xs))
  with_parts {items = items} kind decl is t = bind_sound (named_sound kind) λ name. bind_sound opening_sound λ desc. last_sound (decl name desc) (parts_sound t)
      (λ xs f3 p3 f2 p2 f1 p1. is name desc xs _ (f1, _, p1, opened desc (many items xs then sign (codes "}")) f2 f3 p2 p3, refl))

  group_sound : Sound (SpellsDecl spells in_rules) (read_group read)
  group_sound = bind_sound (named_sound (codes "group:")) λ name. bind_sound (sign_sound (codes "=")) λ _. bind_sound desc_part_sound λ desc. bind_sound (unless_sound (at_sign (codes ";")) s) λ objects. last_sound (λ _. group_decl name desc objects) (sign_sound (codes ";"))
      (λ _ f5 p5 f4 p4 f3 p3 f2 p2 f1 p1. (f1, _, p1, (f2, _, p2, (f3, _, p3, (f4, f5, p4, p5, refl), refl), refl), refl))

  protocol_sound : Sound (SpellsDecl spells in_rules) read_protocol
  protocol_sound = bind_sound (named_sound (codes "protocol:")) λ name. bind_sound (sign_sound (codes "=")) λ _. bind_sound proto_sound λ proto. bind_sound (further_sound (word_sound Note)) λ notes. last_sound (λ _. protocol_decl name proto notes) (sign_sound (codes ";"))
      (λ _ f5 p5 f4 p4 f3 p3 f2 p2 f1 p1. (f1, _, p1, (f2, _, p2, (f3, _, p3, (f4, f5, p4, p5, refl), refl), refl), refl))

  protogroup_sound : Sound (SpellsDecl spells in_rules) read_protogroup
  protogroup_sound = bind_sound (named_sound (codes "protocolgroup:")) λ name. last_sound (protogroup_decl name) prts_sound (λ x f2 p2 f1 p1. (f1, f2, p1, p2, refl))

  restriction_sound : Sound (SpellsDecl spells in_rules) read_restriction
  restriction_sound = bind_sound (named_sound (codes "pathrestriction:")) λ name. bind_sound (sign_sound (codes "=")) λ _. bind_sound desc_part_sound λ desc. bind_sound (listed_open_sound port_sound) λ ports. last_sound (λ _. restriction_decl name desc ports) (sign_sound (codes ";"))
      (λ _ f5 p5 f4 p4 f3 p3 f2 p2 f1 p1. (f1, _, p1, (f2, _, p2, (f3, _, p3, (f4, f5, p4, p5, refl), refl), refl), refl))

  service_sound : Sound (SpellsDecl spells in_rules) (read_service read read_in_rules)
  service_sound = bind_sound (named_sound (codes "service:")) λ name. bind_sound opening_sound λ desc. bind_sound (until_sound no_idle idle_sound) λ idle. bind_sound (side_sound (codes "user") s) λ users. last_sound (service_decl name desc idle users) (rules_sound r)
      (λ rules f5 p5 f4 p4 f3 p3 f2 p2 f1 p1. (f1, _, p1, opened desc _ f2 _ p2 (f3, _, p3, behind_side (codes "user") spells users (some (SpellsRule in_rules) rules then sign (codes "}")) f4 f5 p4 p5, refl), refl))

  pub decl_sound : Sound (SpellsDecl spells in_rules) (read_decl read read_in_rules)
  decl_sound =
      if_sound _ (with_parts (codes "network:") network_decl (λ name desc xs f p. p) net_item_sound)
      (if_sound _ (with_parts (codes "router:") router_decl (λ name desc xs f p. p) router_item_sound)
      (if_sound _ group_sound
      (if_sound _ (with_parts (codes "area:") area_decl (λ name desc xs f p. p) area_item_sound)
      (if_sound _ (with_parts (codes "any:") aggregate_decl (λ name desc xs f p. p) any_item_sound)
      (if_sound _ protocol_sound
      (if_sound _ protogroup_sound
      (if_sound _ restriction_sound service_sound)))))))

-- what is read of a declaration in which sets have so many levels at most
pub decl_in_sound : (depth : ℕ) → Sound (SpellsDeclIn depth) (read_decl_in depth)
decl_in_sound depth = decl_sound (SpellsSetIn false depth false) (SpellsSetIn true depth false) (read_set_in false depth false) (read_set_in true depth false) (set_in_sound false depth false) (set_in_sound true depth false)
