-- Trees of so many levels, as trees of more levels.
use Rattle.std.specs.Prelude.{ℕ, zero, suc, ◌+◌, Bool, List, map, Option, option_map, Some, None}
use Rattle.spoc_lexer.specs.Tokens.{Tok}
use Rattle.std.specs.List.{fold}
use Rattle.token_checks.specs.Nesting.{most_levels, level_behind}
use Rattle.spoc_parser.specs.Trees.{TermOf, network, host, port, group, aggregate, area, user, nets, hosts, anys, InterOf, SetOf, SetIn, RuleOf, DeclOf, network_decl, router_decl, group_decl, area_decl, aggregate_decl, protocol_decl, protogroup_decl, restriction_decl, service_decl, DeclIn}

-- the most levels of a set: itself, and one for each bracket that may be open in it
abbrev pub most_set_levels : ℕ
most_set_levels = most_levels + 1

-- the level behind tokens, from the level in front of them
abbrev pub level_past : ℕ → List Tok → ℕ
level_past level toks = fold level_behind level toks

-- the same term, with each set inside brackets changed
abbrev pub term_with : {S T : Type 0} → (S → T) → TermOf S → TermOf T
term_with f (network name) = network name
term_with f (host name) = host name
term_with f (port place) = port place
term_with f (group name) = group name
term_with f (aggregate name) = aggregate name
term_with f (area name) = area name
term_with f user = user
term_with f (nets set) = nets (f set)
term_with f (hosts set) = hosts (f set)
term_with f (anys inside set) = anys inside (f set)

-- the same further term, with the term changed
abbrev pub further_with : {T U : Type 0} → (T → U) → Bool × T → Bool × U
further_with f t = (t.0, f t.1)

-- the same part of a set, with each term changed
abbrev pub inter_with : {T U : Type 0} → (T → U) → InterOf T → InterOf U
inter_with f i = (f i.0, map (further_with f) i.1)

-- the same set, with each term changed
abbrev pub set_with : {T U : Type 0} → (T → U) → SetOf T → SetOf U
set_with f set = map (inter_with f) set

-- there is no set without a level
abbrev pub no_set : SetIn zero → SetIn (suc zero)
no_set none = absurd none

-- the same set, as one that may have a level more
abbrev pub raised : (depth : ℕ) → SetIn depth → SetIn (suc depth)
raised zero = no_set
raised (suc depth) = set_with (term_with (raised depth))

-- the same rule, with its sets changed
abbrev pub rule_with : {S T : Type 0} → (S → T) → RuleOf S → RuleOf T
rule_with f rule = record { deny = rule.deny; src = f rule.src; dst = f rule.dst; prts = rule.prts }

-- the same declaration, with its sets changed
abbrev pub decl_with : {S T : Type 0} → (S → T) → DeclOf S → DeclOf T
decl_with f (network_decl name desc parts) = network_decl name desc parts
decl_with f (router_decl name desc parts) = router_decl name desc parts
decl_with f (group_decl name desc objects) = group_decl name desc (option_map f objects)
decl_with f (area_decl name desc parts) = area_decl name desc parts
decl_with f (aggregate_decl name desc parts) = aggregate_decl name desc parts
decl_with f (protocol_decl name proto notes) = protocol_decl name proto notes
decl_with f (protogroup_decl name prts) = protogroup_decl name prts
decl_with f (restriction_decl name desc ports) = restriction_decl name desc ports
decl_with f (service_decl name desc idle users rules) = service_decl name desc idle (f users) (map (rule_with f) rules)

-- the same declaration, as one whose sets may have a level more
abbrev pub raised_decl : (depth : ℕ) → DeclIn depth → DeclIn (suc depth)
raised_decl depth decl = decl_with (raised depth) decl

-- so many levels more
abbrev pub above : ℕ → ℕ → ℕ
above zero depth = depth
above (suc more) depth = suc (above more depth)

-- the same declaration, as one whose sets may have so many levels more
abbrev pub raised_by : (more depth : ℕ) → DeclIn depth → DeclIn (above more depth)
raised_by zero depth decl = decl
raised_by (suc more) depth decl = raised_decl (above more depth) (raised_by more depth decl)

-- what was read, with its value changed
abbrev pub read_with : {A B : Type 0} → (A → B) → Option (A × List Tok) → Option (B × List Tok)
read_with f None = None
read_with f (Some r) = Some (f r.0, r.1)
