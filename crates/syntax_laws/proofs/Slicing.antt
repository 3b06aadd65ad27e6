-- Each row of the grammar spells words that are parts of the text.
use Rattle.std.proofs.Common.{◌≡◌, ℕ, zero, suc, ◌+◌, ◌-◌, Bool, true, false, List, [], ◌∷◌, ◌++◌, length, take, drop, map, Option, Some, None, Ok, refl, sym, ap, subst, ◌∙◌, arith, append_assoc, append-nil, length-append}
use Rattle.std.proofs.Math.Seq.{take-append_seam, drop-append_seam}
use Rattle.std.specs.Prelude.{codes, option_map, IfSome, flat_map}
use Rattle.std.specs.List.{All, AllByRecursion}
use Rattle.std.proofs.lemmas.List.Elements.{All-from_recursion, recursion_from_All}
use Rattle.spoc_lexer.specs.Tokens.{Tok, tokens_of, IsPart}
use Rattle.spoc_lexer.specs.declared.token.TokenKind.{TokenKind}
use Rattle.spoc_lexer.specs.declared.token.TokenKind.TheVariants.{Word, Description}
use Rattle.spoc_lexer.proofs.Slices.{tokens_are_parts}
use Rattle.spoc_parser.specs.declared.forms.Form.{Form}
use Rattle.spoc_parser.specs.declared.forms.Form.TheVariants.{Any, Name, Address, Prefix, Number, Range, Ports, Icmp, Filter, Routing, Note, ListKey, ValueKey, Flag}
use Rattle.spoc_parser.specs.Trees as trees
use Rattle.spoc_parser.specs.Trees.{PortItem, IdleItem, TermOf, network, host, port, group, aggregate, area, user, nets, hosts, anys, InterOf, SetOf, SetIn, HostItem, host_ip, host_range, host_idle, NatItem, nat_ip, nat_hidden, NetItem, net_ip, net_host, net_nat, net_idle, VirtItem, virt_ip, virt_kind, virt_id, IfaceItem, iface_ip, iface_hardware, iface_bind_nat, iface_virtual, iface_idle, RouterItem, router_managed, router_model, router_routing, router_iface, router_idle, AreaItem, area_anchor, area_border, area_idle, AnyItem, any_link, any_ip, any_idle, Proto, proto_ip, proto_tcp, proto_udp, proto_icmp, proto_number, ProtoItem, one_proto, a_protocol, a_protogroup, RuleOf, DeclOf, network_decl, router_decl, group_decl, area_decl, aggregate_decl, protocol_decl, protogroup_decl, restriction_decl, service_decl, DeclIn}
use Rattle.spoc_parser.specs.Phrases.{Phrase, ◌then◌, a_word, named, at_port, a_text, spread, single, none_of, listed, word_token, perhaps}
use Rattle.spoc_parser.specs.Grammar.{SpellsDesc, SpellsIdle, setting, body_with, SpellsHostItem, SpellsNatItem, SpellsNetItem, SpellsVirtItem, SpellsIfaceItem, SpellsRouterItem, SpellsAreaItem, SpellsAnyItem, spread_or_none, SpellsProto, SpellsProtoItem, SpellsTermOf, SpellsInter, SpellsSet, SpellsSetIn, SpellsRule, SpellsDecl, SpellsDeclIn, SpellsFile}
use Rattle.spoc_ast.specs.Written.{Lexeme, SetText}
use Rattle.spoc_ast.specs.Seen.{narrowing, joined}
use Rattle.syntax_laws.specs.Said.{lexeme_said, lexemes_said, port_said, term_said, further_said, inter_said, parts_said, set_said, idle_said, host_item_said, nat_item_said, net_item_said, virt_item_said, iface_item_said, router_item_said, area_item_said, any_item_said, proto_said, proto_item_said, rule_said, decl_of_said, decl_said, decls_said}
use Rattle.syntax_laws.specs.WordsIn.{IsSlice, perhaps_in, word_in, port_words, set_words, idle_words, host_words, nat_words, net_words, virt_words, iface_words, router_words, area_words, any_words, simple_words, prt_words, rule_words, headed, words_in}
use Rattle.syntax_laws.proofs.Phrases.{Gives, halves, left, right, each, setting_gives, always, then_so, either, where_gives, none_gives, perhaps_gives, many_gives, some_gives, further_gives, listed_gives, listed_open_gives, body_gives}

-- ---- lists of words

module _ (S : Lexeme → Type 0) where
  appended : (xs ys : List Lexeme) → AllByRecursion S xs → AllByRecursion S ys → AllByRecursion S (xs ++ ys)
  appended [] ys p q = q
  appended (x ∷ xs) ys p q = (p.0, appended xs ys p.1 q)

  mapped : {A : Type 0} (f : A → Lexeme) (xs : List A) → AllByRecursion (λ x. S (f x)) xs → AllByRecursion S (map f xs)
  mapped f [] h = tt
  mapped f (x ∷ xs) h = (h.0, mapped f xs h.1)

  flat : {A B : Type 0} (words : B → List Lexeme) (f : A → B) (xs : List A) → AllByRecursion (λ x. AllByRecursion S (words (f x))) xs → AllByRecursion S (flat_map words (map f xs))
  flat words f [] h = tt
  flat words f (x ∷ xs) h = appended (words (f x)) _ h.0 (flat words f xs h.1)

  perhaps_one : {A B : Type 0} (words : B → List Lexeme) (f : A → B) (o : Option A) → IfSome o (λ x. AllByRecursion S (words (f x))) → AllByRecursion S (perhaps_in words (option_map f o))
  perhaps_one words f None h = tt
  perhaps_one words f (Some x) h = h

  narrowed_words : (without : Bool) (e f : SetText) → AllByRecursion S (set_words e) → AllByRecursion S (set_words f) → AllByRecursion S (set_words (narrowing without e f))
  narrowed_words true e f p q = appended (set_words e) (set_words f) p q
  narrowed_words false e f p q = appended (set_words e) (set_words f) p q

  further_words : {T : Type 0} (says : T → SetText) (e : SetText) (fs : List (Bool × T)) → AllByRecursion S (set_words e) → AllByRecursion (λ f. AllByRecursion S (set_words (says f.1))) fs → AllByRecursion S (set_words (further_said says e fs))
  further_words says e [] p h = p
  further_words says e (f ∷ fs) p h = further_words says (narrowing f.0 e (says f.1)) fs (narrowed_words f.0 e (says f.1) p h.0) h.1

  joined_words : {A : Type 0} (f : A → SetText) (xs : List A) → AllByRecursion (λ x. AllByRecursion S (set_words (f x))) xs → AllByRecursion S (set_words (joined (map f xs)))
  joined_words f [] h = tt
  joined_words f (x ∷ xs) h = appended (set_words (f x)) _ h.0 (joined_words f xs h.1)

-- ---- parts of the text

module _ (file : ℕ) (text : List ℕ) where
  slice : (before own after : List ℕ) (start : ℕ) → text ≡ before ++ (own ++ after) → start ≡ length before → IsSlice file text (lexeme_said file (record { start = start; text = own }))
  slice before own after start e at =
      let long : length text ≡ length before + (length own + length after) = ap length e ∙ length-append before (own ++ after) ∙ ap (λ n. length before + n) (length-append own after) in
      record {
        source = refl;
        order = omega arith;
        within = omega arith;
        bytes = ap (λ n. take n (drop start text)) long_enough ∙ ap (take (length own)) there ∙ take-append_seam own after;
      }
    where
      long_enough : start + length own - start ≡ length own
      long_enough = omega arith

      there : drop start text ≡ own ++ after
      there = ap (λ n. drop n text) at ∙ ap (drop (length before)) e ∙ drop-append_seam before (own ++ after)

  -- a word inside a token
  inner : (tok : Tok) → IsPart text tok → (before own after : List ℕ) (start : ℕ) → tok.text ≡ before ++ (own ++ after) → start ≡ tok.start + length before → IsSlice file text (lexeme_said file (record { start = start; text = own }))
  inner tok part before own after start e at =
      slice (part.0 ++ before) own (after ++ part.1) start
      (part.2 ∙ ap (λ l. part.0 ++ (l ++ part.1)) e ∙ ap (λ l. part.0 ++ l) (append_assoc before (own ++ after) part.1 ∙ ap (λ l. before ++ l) (append_assoc own after part.1)) ∙ sym (append_assoc part.0 before (own ++ (after ++ part.1))))
      (at ∙ ap (λ n. n + length before) (sym part.3) ∙ sym (length-append part.0 before))

  -- the fact of a word, and of all words that a phrase spells
  abbrev Own : trees.Lexeme → Type 0
  Own word = IsSlice file text (lexeme_said file word)

  abbrev All_of : List Lexeme → Type 0
  All_of words = AllByRecursion (IsSlice file text) words

  abbrev Sliced : Phrase → List Lexeme → Type 0
  Sliced phrase words = Gives (IsPart text) phrase (All_of words)

  -- ---- words

  abbrev token : TokenKind → List ℕ → ℕ → Tok
  token kind own start = record { kind = kind; text = own; start = start }

  abbrev at_interface : PortItem → ℕ → Tok
  at_interface place start = token Word (codes "interface:" ++ (place.router.text ++ 46 ∷ place.net.text)) start

  whole_token : (tok : Tok) → IsPart text tok → IsSlice file text (lexeme_said file (record { start = tok.start; text = tok.text }))
  whole_token tok part = inner tok part [] tok.text [] tok.start (sym (append-nil tok.text)) (omega arith)

  word_sliced : (form : Form) (word : trees.Lexeme) → Gives (IsPart text) (a_word form word) (Own word)
  word_sliced form word = record { gives = λ toks all p. whole_token (word_token word) (subst (AllByRecursion (IsPart text)) p.1 all).0 }

  text_sliced : (word : trees.Lexeme) → Gives (IsPart text) (a_text word) (Own word)
  text_sliced word = record { gives = λ toks all p. whole_token (token Description word.text word.start) (subst (AllByRecursion (IsPart text)) p all).0 }

  named_sliced : (kind : List ℕ) (name : trees.Lexeme) → Gives (IsPart text) (named kind name) (Own name)
  named_sliced kind name = record {
    gives = λ toks all p. inner (token Word (kind ++ name.text) p.0) (subst (AllByRecursion (IsPart text)) p.3 all).0 kind name.text [] name.start (ap (λ l. kind ++ l) (sym (append-nil name.text))) p.2;
  }

  port_sliced : (place : PortItem) → Sliced (at_port place) (port_words (port_said file place))
  port_sliced place = record { gives = λ toks all p. (first toks all p, (second toks all p, tt)) }
    where
      first : (toks : List Tok) → AllByRecursion (IsPart text) toks → at_port place toks → Own place.router
      first toks all p = inner (at_interface place p.0) (subst (AllByRecursion (IsPart text)) p.5 all).0 (codes "interface:") place.router.text (46 ∷ place.net.text) place.router.start refl p.3

      second : (toks : List Tok) → AllByRecursion (IsPart text) toks → at_port place toks → Own place.net
      second toks all p =
          let long : length (codes "interface:" ++ (place.router.text ++ 46 ∷ [])) ≡ 10 + (length place.router.text + 1) = omega (arith, length-append place.router.text (46 ∷ [])) in
          inner (at_interface place p.0) (subst (AllByRecursion (IsPart text)) p.5 all).0 (codes "interface:" ++ (place.router.text ++ 46 ∷ [])) place.net.text [] place.net.start
          (ap (λ l. codes "interface:" ++ l) (ap (λ l. place.router.text ++ 46 ∷ l) (sym (append-nil place.net.text)) ∙ sym (append_assoc place.router.text (46 ∷ []) (place.net.text ++ []))))
          (p.4 ∙ omega arith)

  one : {phrase : Phrase} {word : trees.Lexeme} → Gives (IsPart text) phrase (Own word) → Sliced phrase (lexeme_said file word ∷ [])
  one g = then_so (λ s. (s, tt)) g

  spread_sliced : (form : Form) (words : List trees.Lexeme) → Sliced (spread form words) (lexemes_said file words)
  spread_sliced form words = record { gives = λ toks all p. each_word words (subst (AllByRecursion (IsPart text)) p.2 all) }
    where
      each_word : (ws : List trees.Lexeme) → AllByRecursion (IsPart text) (map word_token ws) → All_of (lexemes_said file ws)
      each_word [] h = tt
      each_word (w ∷ ws) h = (whole_token (word_token w) h.0, each_word ws h.1)

  none_sliced : (words : List trees.Lexeme) → Sliced (none_of words) (lexemes_said file words)
  none_sliced words = none_gives words (λ is. subst (λ (ws : List trees.Lexeme). All_of (lexemes_said file ws)) (sym is) tt)

  none_or_spread : (form : Form) (words : List trees.Lexeme) → Sliced (spread_or_none form words) (lexemes_said file words)
  none_or_spread form words = either (none_sliced words) (spread_sliced form words)

  desc_sliced : (desc : Option trees.Lexeme) → Sliced (perhaps SpellsDesc desc) (perhaps_in word_in (option_map (lexeme_said file) desc))
  desc_sliced desc = then_so (perhaps_one (IsSlice file text) word_in (lexeme_said file) desc) (perhaps_gives (λ word. right (right (one {word = word} (text_sliced word)))) desc)

  listed_words : (form : Form) (words : List trees.Lexeme) → Sliced (listed (a_word form) words) (lexemes_said file words)
  listed_words form words = then_so (mapped (IsSlice file text) (lexeme_said file) words) (listed_gives (word_sliced form) words)

  -- ---- parts of declarations

  idle_sliced : (idle : IdleItem) → Sliced (SpellsIdle idle) (idle_words (idle_said file idle))
  idle_sliced idle =
      either (each (λ k vs. (k, vs)) (word_sliced ListKey idle.key) (right (left (listed_words Any idle.values))))
      (either (each (λ k vs. (k, vs)) (word_sliced ValueKey idle.key) (right (left (single_sliced idle.values))))
      (each (λ k vs. (k, vs)) (word_sliced Flag idle.key) (left (none_sliced idle.values))))
    where
      single_sliced : (words : List trees.Lexeme) → Sliced (single (a_word Any) words) (lexemes_said file words)
      single_sliced [] = always tt
      single_sliced (w ∷ []) = one {word = w} (word_sliced Any w)
      single_sliced (w ∷ v ∷ ws) = record { gives = λ toks all p. absurd p }

  -- a word that is set
  set_to : (name : List ℕ) (form : Form) (word : trees.Lexeme) → Sliced (setting name form word) (lexeme_said file word ∷ [])
  set_to name form word = setting_gives name form word (one {word = word} (word_sliced form word))

  host_item_sliced : (item : HostItem) → Sliced (SpellsHostItem item) (host_words (host_item_said file item))
  host_item_sliced (host_ip address) = set_to (codes "ip") Address address
  host_item_sliced (host_range words) = right (right (left (spread_sliced Range words)))
  host_item_sliced (host_idle idle) = idle_sliced idle

  nat_item_sliced : (item : NatItem) → Sliced (SpellsNatItem item) (nat_words (nat_item_said file item))
  nat_item_sliced (nat_ip prefix) = set_to (codes "ip") Prefix prefix
  nat_item_sliced nat_hidden = always tt

  -- a name, and the words of the parts behind it
  with_name : {phrase : Phrase} {Q : Type 0} (kind : List ℕ) (name : trees.Lexeme) → Gives (IsPart text) phrase Q → Gives (IsPart text) (named kind name then phrase) (Own name × Q)
  with_name kind name g = each (λ s ss. (s, ss)) (named_sliced kind name) g

  net_item_sliced : (item : NetItem) → Sliced (SpellsNetItem item) (net_words (net_item_said file item))
  net_item_sliced (net_ip prefix) = set_to (codes "ip") Prefix prefix
  net_item_sliced (net_host name parts) = with_name (codes "host:") name (then_so (flat (IsSlice file text) host_words (host_item_said file) parts) (body_gives host_item_sliced parts))
  net_item_sliced (net_nat tag parts) = with_name (codes "nat:") tag (then_so (flat (IsSlice file text) nat_words (nat_item_said file) parts) (body_gives nat_item_sliced parts))
  net_item_sliced (net_idle idle) = idle_sliced idle

  virt_item_sliced : (item : VirtItem) → Sliced (SpellsVirtItem item) (virt_words (virt_item_said file item))
  virt_item_sliced (virt_ip address) = set_to (codes "ip") Address address
  virt_item_sliced (virt_kind word) = set_to (codes "type") Any word
  virt_item_sliced (virt_id number) = set_to (codes "id") Number number

  iface_item_sliced : (item : IfaceItem) → Sliced (SpellsIfaceItem item) (iface_words (iface_item_said file item))
  iface_item_sliced (iface_ip address) = set_to (codes "ip") Address address
  iface_item_sliced (iface_hardware word) = set_to (codes "hardware") Any word
  iface_item_sliced (iface_bind_nat tags) = right (right (left (listed_words Name tags)))
  iface_item_sliced (iface_virtual parts) = right (then_so (flat (IsSlice file text) virt_words (virt_item_said file) parts) (body_gives virt_item_sliced parts))
  iface_item_sliced (iface_idle idle) = idle_sliced idle

  router_item_sliced : (item : RouterItem) → Sliced (SpellsRouterItem item) (router_words (router_item_said file item))
  router_item_sliced (router_managed filter) =
      right (left (then_so (perhaps_one (IsSlice file text) word_in (lexeme_said file) filter) (perhaps_gives (λ word. right (one {word = word} (word_sliced Filter word))) filter)))
  router_item_sliced (router_model word) = set_to (codes "model") Any word
  router_item_sliced (router_routing word) = set_to (codes "routing") Routing word
  router_item_sliced (router_iface net parts) =
      with_name (codes "interface:") net (either
      (left (none_gives parts (λ is. subst (λ (l : List IfaceItem). All_of (flat_map iface_words (map (iface_item_said file) l))) (sym is) tt)))
      (then_so (flat (IsSlice file text) iface_words (iface_item_said file) parts) (body_gives iface_item_sliced parts)))
  router_item_sliced (router_idle idle) = idle_sliced idle

  area_item_sliced : (item : AreaItem) → Sliced (SpellsAreaItem item) (area_words (area_item_said file item))
  area_item_sliced (area_anchor net) = right (right (left (one {word = net} (named_sliced (codes "network:") net))))
  area_item_sliced (area_border ports) = right (right (left (then_so (flat (IsSlice file text) port_words (port_said file) ports) (listed_gives port_sliced ports))))
  area_item_sliced (area_idle idle) = idle_sliced idle

  any_item_sliced : (item : AnyItem) → Sliced (SpellsAnyItem item) (any_words (any_item_said file item))
  any_item_sliced (any_link net) = right (right (left (one {word = net} (named_sliced (codes "network:") net))))
  any_item_sliced (any_ip prefix) = set_to (codes "ip") Prefix prefix
  any_item_sliced (any_idle idle) = idle_sliced idle

  proto_sliced : (proto : Proto) → Sliced (SpellsProto proto) (simple_words (proto_said file proto))
  proto_sliced proto_ip = always tt
  proto_sliced (proto_tcp ports) = right (none_or_spread Ports ports)
  proto_sliced (proto_udp ports) = right (none_or_spread Ports ports)
  proto_sliced (proto_icmp kind) = right (none_or_spread Icmp kind)
  proto_sliced (proto_number number) = right (one {word = number} (word_sliced Number number))

  proto_item_sliced : (item : ProtoItem) → Sliced (SpellsProtoItem item) (prt_words (proto_item_said file item))
  proto_item_sliced (one_proto proto) = proto_sliced proto
  proto_item_sliced (a_protocol name) = one {word = name} (named_sliced (codes "protocol:") name)
  proto_item_sliced (a_protogroup name) = one {word = name} (named_sliced (codes "protocolgroup:") name)

  -- ---- sets

  term_sliced : {S : Type 0} (with_user bracket : Bool) {spells : S → Phrase} (says : S → SetText) → ((set : S) → Sliced (spells set) (set_words (says set))) → (term : TermOf S) → Sliced (SpellsTermOf with_user bracket spells term) (set_words (term_said file says term))
  term_sliced with_user bracket says s (network name) = one {word = name} (named_sliced (codes "network:") name)
  term_sliced with_user bracket says s (host name) = one {word = name} (named_sliced (codes "host:") name)
  term_sliced with_user bracket says s (port place) = port_sliced place
  term_sliced with_user bracket says s (group name) = one {word = name} (named_sliced (codes "group:") name)
  term_sliced with_user bracket says s (aggregate name) = one {word = name} (named_sliced (codes "any:") name)
  term_sliced with_user bracket says s (area name) = where_gives bracket (one {word = name} (named_sliced (codes "area:") name))
  term_sliced with_user bracket says s user = always tt
  term_sliced with_user bracket says s (nets set) = right (right (left (s set)))
  term_sliced with_user bracket says s (hosts set) = right (right (left (s set)))
  term_sliced with_user bracket says s (anys inside set) =
      right (right (each (appended (IsSlice file text) (perhaps_in word_in (option_map (lexeme_said file) inside)) (set_words (says set)))
      (then_so (perhaps_one (IsSlice file text) word_in (lexeme_said file) inside) (perhaps_gives (λ prefix. right (right (left (one {word = prefix} (word_sliced Prefix prefix))))) inside))
      (left (s set))))

  inter_sliced : {T : Type 0} {spells : T → Phrase} (says : T → SetText) → ((term : T) → Sliced (spells term) (set_words (says term))) → (i : InterOf T) → Sliced (SpellsInter spells i) (set_words (inter_said says i))
  inter_sliced says s i = each (further_words (IsSlice file text) says (says i.0) i.1) (s i.0) (many_gives (λ f. right (right (s f.1))) i.1)

  parts_sliced : {T : Type 0} {spells : T → Phrase} (says : T → SetText) → ((term : T) → Sliced (spells term) (set_words (says term))) → (set : SetOf T) → Sliced (SpellsSet spells set) (set_words (parts_said says set))
  parts_sliced says s set = then_so (joined_words (IsSlice file text) (inter_said says) set) (listed_open_gives (inter_sliced says s) set)

  set_sliced : (with_user : Bool) (depth : ℕ) (bracket : Bool) (set : SetIn depth) → Sliced (SpellsSetIn with_user depth bracket set) (set_words (set_said file depth set))
  set_sliced with_user zero bracket set = absurd set
  set_sliced with_user (suc depth) bracket set = parts_sliced (term_said file (set_said file depth)) (term_sliced with_user bracket (set_said file depth) (set_sliced with_user depth true)) set

  -- ---- declarations

  rule_sliced : {S : Type 0} {spells : S → Phrase} (says : S → SetText) → ((set : S) → Sliced (spells set) (set_words (says set))) → (rule : RuleOf S) → Sliced (SpellsRule spells rule) (rule_words (rule_said file says rule))
  rule_sliced says s rule =
      right (right (right (each (appended (IsSlice file text) (set_words (says rule.src)) _) (s rule.src)
      (right (right (right (each (appended (IsSlice file text) (set_words (says rule.dst)) (flat_map prt_words (map (proto_item_said file) rule.prts))) (s rule.dst)
      (right (right (right (left (then_so (flat (IsSlice file text) prt_words (proto_item_said file) rule.prts) (listed_open_gives proto_item_sliced rule.prts)))))))))))))

  -- a description, and the words of what is behind it
  described : (desc : Option trees.Lexeme) {phrase : Phrase} (words : List Lexeme) → Sliced phrase words → Sliced (perhaps SpellsDesc desc then phrase) (perhaps_in word_in (option_map (lexeme_said file) desc) ++ words)
  described desc words g = each (appended (IsSlice file text) (perhaps_in word_in (option_map (lexeme_said file) desc)) words) (desc_sliced desc) g

  with_parts : {A B : Type 0} (kind : List ℕ) (name : trees.Lexeme) (desc : Option trees.Lexeme) {spells : A → Phrase} (words : B → List Lexeme) (f : A → B) → ((x : A) → Sliced (spells x) (words (f x))) → (xs : List A) → Sliced (named kind name then body_with desc spells xs) (headed (lexeme_said file name) (option_map (lexeme_said file) desc) (flat_map words (map f xs)))
  with_parts kind name desc words f s xs = with_name kind name (right (right (described desc (flat_map words (map f xs)) (left (then_so (flat (IsSlice file text) words f xs) (many_gives s xs))))))

  decl_of_sliced : {S : Type 0} {spells in_rules : S → Phrase} (says : S → SetText) → ((set : S) → Sliced (spells set) (set_words (says set))) → ((set : S) → Sliced (in_rules set) (set_words (says set))) → (decl : DeclOf S) → Sliced (SpellsDecl spells in_rules decl) (words_in (decl_of_said file says decl))
  decl_of_sliced says s t (network_decl name desc parts) = with_parts (codes "network:") name desc net_words (net_item_said file) net_item_sliced parts
  decl_of_sliced says s t (router_decl name desc parts) = with_parts (codes "router:") name desc router_words (router_item_said file) router_item_sliced parts
  decl_of_sliced says s t (group_decl name desc objects) = with_name (codes "group:") name (right (described desc (perhaps_in set_words (option_map says objects)) (left (then_so (perhaps_one (IsSlice file text) set_words says objects) (perhaps_gives s objects)))))
  decl_of_sliced says s t (area_decl name desc parts) = with_parts (codes "area:") name desc area_words (area_item_said file) area_item_sliced parts
  decl_of_sliced says s t (aggregate_decl name desc parts) = with_parts (codes "any:") name desc any_words (any_item_said file) any_item_sliced parts
  decl_of_sliced says s t (protocol_decl name proto notes) =
      with_name (codes "protocol:") name (right (each (appended (IsSlice file text) (simple_words (proto_said file proto)) (lexemes_said file notes)) (proto_sliced proto)
      (left (then_so (mapped (IsSlice file text) (lexeme_said file) notes) (further_gives (word_sliced Note) notes)))))
  decl_of_sliced says s t (protogroup_decl name prts) = with_name (codes "protocolgroup:") name (right (left (then_so (flat (IsSlice file text) prt_words (proto_item_said file) prts) (listed_open_gives proto_item_sliced prts))))
  decl_of_sliced says s t (restriction_decl name desc ports) = with_name (codes "pathrestriction:") name (right (described desc (flat_map port_words (map (port_said file) ports)) (left (then_so (flat (IsSlice file text) port_words (port_said file) ports) (listed_open_gives port_sliced ports)))))
  decl_of_sliced says s t (service_decl name desc idle users rules) =
      with_name (codes "service:") name (right (right (described desc _
      (each (appended (IsSlice file text) (flat_map idle_words (map (idle_said file) idle)) _) (then_so (flat (IsSlice file text) idle_words (idle_said file) idle) (many_gives idle_sliced idle))
      (right (right (each (appended (IsSlice file text) (set_words (says users)) (flat_map rule_words (map (rule_said file says) rules))) (s users)
      (right (left (then_so (flat (IsSlice file text) rule_words (rule_said file says) rules) (some_gives (rule_sliced says t) rules)))))))))))

  decl_sliced : (depth : ℕ) (decl : DeclIn depth) → Sliced (SpellsDeclIn depth decl) (words_in (decl_said file depth decl))
  decl_sliced depth decl = decl_of_sliced (set_said file depth) (set_sliced false depth false) (set_sliced true depth false) decl

  file_sliced : (depth : ℕ) (decls : List (DeclIn depth)) → Sliced (SpellsFile depth decls) (flat_map words_in (decls_said file depth decls))
  file_sliced depth decls = then_so (flat (IsSlice file text) words_in (decl_said file depth) decls) (many_gives (decl_sliced depth) decls)

  -- the tokens in the middle
  middle : (toks before front behind : List Tok) → tokens_of text ≡ Ok toks → toks ≡ before ++ (front ++ behind) → AllByRecursion (IsPart text) front
  middle toks before front behind h e =
      let whole = subst (AllByRecursion (IsPart text)) e (recursion_from_All (IsPart text) toks (tokens_are_parts text toks h)) in
      (halves (IsPart text) front behind (halves (IsPart text) before (front ++ behind) whole).1).0

  pub decl_in_text : (toks before front behind : List Tok) (depth : ℕ) (decl : DeclIn depth) → tokens_of text ≡ Ok toks → toks ≡ before ++ (front ++ behind) → SpellsDeclIn depth decl front → All (IsSlice file text) (words_in (decl_said file depth decl))
  decl_in_text toks before front behind depth decl h e p =
      All-from_recursion (IsSlice file text) (words_in (decl_said file depth decl)) ((decl_sliced depth decl).gives front (middle toks before front behind h e) p)

  pub file_in_text : (toks before front behind : List Tok) (depth : ℕ) (decls : List (DeclIn depth)) → tokens_of text ≡ Ok toks → toks ≡ before ++ (front ++ behind) → SpellsFile depth decls front → All (IsSlice file text) (flat_map words_in (decls_said file depth decls))
  file_in_text toks before front behind depth decls h e p =
      All-from_recursion (IsSlice file text) (flat_map words_in (decls_said file depth decls)) ((file_sliced depth decls).gives front (middle toks before front behind h e) p)
