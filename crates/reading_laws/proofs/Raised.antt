-- A tree that may have more levels says what it said.
use Rattle.std.proofs.Common.{◌≡◌, ℕ, zero, suc, Bool, List, [], ◌∷◌, Some, None, map, option_map, refl, ap, ◌∙◌}
use Rattle.spoc_ast.specs.Written.{SetText, NetworksIn, HostsIn, ZonesIn, GroupDecl, ServiceDecl}
use Rattle.spoc_ast.specs.Seen.{narrowing, joined}
use Rattle.spoc_parser.specs.Trees.{network, host, port, group, aggregate, area, user, nets, hosts, anys, network_decl, router_decl, group_decl, area_decl, aggregate_decl, protocol_decl, protogroup_decl, restriction_decl, service_decl}
use Rattle.grammar_laws.specs.Levels.{term_with, further_with, inter_with, set_with, raised, rule_with, decl_with, raised_decl, above, raised_by}
use Rattle.syntax_laws.specs.Said.{lexeme_said, idle_said, proto_item_said, term_said, further_said, inter_said, parts_said, set_said, rule_said, decl_of_said, decl_said, decls_said}

-- what f makes of a tree says what the tree says
abbrev pub SaysTheSame : {A B C : Type 0} → (A → B) → (A → C) → (B → C) → Type 0
SaysTheSame {A} f says then_says = (a : A) → then_says (f a) ≡ says a

module _ {A B C : Type 0} (f : A → B) (says : A → C) (then_says : B → C) (same : SaysTheSame f says then_says) where
  map_same : SaysTheSame (map f) (map says) (map then_says)
  map_same [] = refl
  map_same (a ∷ as') = λ i. same a i ∷ map_same as' i

  option_same : SaysTheSame (option_map f) (option_map says) (option_map then_says)
  option_same None = refl
  option_same (Some a) = ap Some (same a)

module _ {S T : Type 0} (file : ℕ) (f : S → T) (says : S → SetText) (then_says : T → SetText) (same : SaysTheSame f says then_says) where
  term_same : SaysTheSame (term_with f) (term_said file says) (term_said file then_says)
  term_same (network name) = refl
  term_same (host name) = refl
  term_same (port place) = refl
  term_same (group name) = refl
  term_same (aggregate name) = refl
  term_same (area name) = refl
  term_same user = refl
  term_same (nets set) = ap NetworksIn (same set)
  term_same (hosts set) = ap HostsIn (same set)
  term_same (anys inside set) = ap (ZonesIn (option_map (lexeme_said file) inside)) (same set)

  rule_same : SaysTheSame (rule_with f) (rule_said file says) (rule_said file then_says)
  rule_same rule = λ i. record { deny = rule.deny; src = same rule.src i; dst = same rule.dst i; prts = map (proto_item_said file) rule.prts }

module _ {T U : Type 0} (f : T → U) (says : T → SetText) (then_says : U → SetText) (same : SaysTheSame f says then_says) where
  further_same : (e : SetText) (fs : List (Bool × T)) → further_said then_says e (map (further_with f) fs) ≡ further_said says e fs
  further_same e [] = refl
  further_same e (x ∷ fs) =
      further_same (narrowing x.0 e (then_says (f x.1))) fs ∙ ap (λ s. further_said says (narrowing x.0 e s) fs) (same x.1)

  inter_same : SaysTheSame (inter_with f) (inter_said says) (inter_said then_says)
  inter_same t = further_same (then_says (f t.0)) t.1 ∙ ap (λ s. further_said says s t.1) (same t.0)

  parts_same : SaysTheSame (set_with f) (parts_said says) (parts_said then_says)
  parts_same set = ap joined (map_same (inter_with f) (inter_said says) (inter_said then_says) inter_same set)

set_same : (file depth : ℕ) → SaysTheSame (raised depth) (set_said file depth) (set_said file (suc depth))
set_same file zero = λ none. absurd none
set_same file (suc depth) =
    parts_same (term_with (raised depth)) (term_said file (set_said file depth)) (term_said file (set_said file (suc depth)))
    (term_same file (raised depth) (set_said file depth) (set_said file (suc depth)) (set_same file depth))

module _ {S T : Type 0} (file : ℕ) (f : S → T) (says : S → SetText) (then_says : T → SetText) (same : SaysTheSame f says then_says) where
  decl_of_same : SaysTheSame (decl_with f) (decl_of_said file says) (decl_of_said file then_says)
  decl_of_same (network_decl name desc parts) = refl
  decl_of_same (router_decl name desc parts) = refl
  decl_of_same (group_decl name desc objects) = ap (GroupDecl (lexeme_said file name) (option_map (lexeme_said file) desc)) (option_same f says then_says same objects)
  decl_of_same (area_decl name desc parts) = refl
  decl_of_same (aggregate_decl name desc parts) = refl
  decl_of_same (protocol_decl name proto notes) = refl
  decl_of_same (protogroup_decl name prts) = refl
  decl_of_same (restriction_decl name desc ports) = refl
  decl_of_same (service_decl name desc idle users rules) =
      λ i. ServiceDecl (lexeme_said file name) (option_map (lexeme_said file) desc) (map (idle_said file) idle) (same users i)
      (map_same (rule_with f) (rule_said file says) (rule_said file then_says) (rule_same file f says then_says same) rules i)

decl_same : (file depth : ℕ) → SaysTheSame (raised_decl depth) (decl_said file depth) (decl_said file (suc depth))
decl_same file depth = decl_of_same file (raised depth) (set_said file depth) (set_said file (suc depth)) (set_same file depth)

by_same : (file more depth : ℕ) → SaysTheSame (raised_by more depth) (decl_said file depth) (decl_said file (above more depth))
by_same file zero depth decl = refl
by_same file (suc more) depth decl = decl_same file (above more depth) (raised_by more depth decl) ∙ by_same file more depth decl

pub decls_same : (file more depth : ℕ) → SaysTheSame (map (raised_by more depth)) (decls_said file depth) (decls_said file (above more depth))
decls_same file more depth = map_same (raised_by more depth) (decl_said file depth) (decl_said file (above more depth)) (by_same file more depth)
