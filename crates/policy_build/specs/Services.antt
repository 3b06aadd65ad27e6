-- The services, where protocol groups nest so deep at most and so many protocols of a rule are kept at most.
use Rattle.std.specs.Prelude.{ℕ, List, [], ◌∷◌, map, flat_map, take}
use Rattle.policy_model.specs.Policy as plain
use Rattle.spoc_ast.specs.Written.{RuleText, DeclText, NetworkDecl, RouterDecl, GroupDecl, AreaDecl, AggregateDecl, ProtocolDecl, ProtocolGroupDecl, RestrictionDecl, ServiceDecl}
use Rattle.policy_decls.specs.Said.{expr_in, boxes_in}

abbrev pub rule_at : List DeclText → ℕ → ℕ → RuleText → plain.Rule
rule_at decls depth most rule = record { deny = rule.deny; src = expr_in decls rule.src; dst = expr_in decls rule.dst; boxes = take most (flat_map (boxes_in decls depth) rule.prts) }

abbrev pub services_at : List DeclText → ℕ → ℕ → DeclText → List plain.Service
services_at decls depth most (NetworkDecl name desc parts) = []
services_at decls depth most (RouterDecl name desc parts) = []
services_at decls depth most (GroupDecl name desc objects) = []
services_at decls depth most (AreaDecl name desc parts) = []
services_at decls depth most (AggregateDecl name desc parts) = []
services_at decls depth most (ProtocolDecl name protocol notes) = []
services_at decls depth most (ProtocolGroupDecl name prts) = []
services_at decls depth most (RestrictionDecl name desc ports) = []
services_at decls depth most (ServiceDecl name desc idle user rules) = record { name = name.text; user = expr_in decls user; rules = map (rule_at decls depth most) rules } ∷ []
