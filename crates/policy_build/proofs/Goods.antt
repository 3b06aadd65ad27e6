-- What is good of all declarations, of each of them.
use Rattle.std.proofs.Common.{◌≡◌, sym, subst, ℕ, ◌<◌, List, length, map, get_or}
use Rattle.std.specs.List.{All}
use Rattle.std.proofs.lemmas.List.{length-map, get_or-map}
use Rattle.spoc_base.specs.declared.place.Source.{Source}
use Rattle.spoc_ast.specs.declared.decl.Decl.{Decl}
use Rattle.spoc_ast.specs.declared.decl.NetPart.{NetPart}
use Rattle.spoc_ast.specs.declared.decl.RoutPart.{RoutPart}
use Rattle.spoc_ast.specs.Seen.{decl_seen, net_part_seen, rout_part_seen, rule_seen}
use Rattle.spoc_ast.specs.declared.decl.RuleTree.{RuleTree}
use Rattle.spoc_ast.specs.Written.{DeclText}
use Rattle.policy_build.specs.Ifaces.{IsPartPlaced, IsPlaced}
use Rattle.policy_build.specs.Good.{IsGood, IsGoodNetPart, IsGoodRoutPart, IsGoodRule}

module _ {A B : Type 0} (f : A → B) (P : B → Type 0) where
  pub unmapped : (xs : List A) (i : ℕ) (d : A) → i < length xs → All P (map f xs) → P (f (get_or xs i d))
  unmapped xs i d h all = let l : i < length (map f xs) = subst (λ n. i < n) (sym (length-map xs f)) h in subst P (get_or-map f xs i d (f d) h) (all i (f d) l)

pub decl_good : (sources : List Source) (decls : List Decl) (i : ℕ) (d : Decl) → i < length decls → All (IsGood sources) (map decl_seen decls) → IsGood sources (decl_seen (get_or decls i d))
decl_good sources decls i d h all = unmapped decl_seen (IsGood sources) decls i d h all

pub net_part_good : (sources : List Source) (parts : List NetPart) (i : ℕ) (d : NetPart) → i < length parts → All (IsGoodNetPart sources) (map net_part_seen parts) → IsGoodNetPart sources (net_part_seen (get_or parts i d))
net_part_good sources parts i d h all = unmapped net_part_seen (IsGoodNetPart sources) parts i d h all

pub decl_good_at : (sources : List Source) (decls : List Decl) (i : ℕ) (d : Decl) → d ≡ get_or decls i d → i < length decls → All (IsGood sources) (map decl_seen decls) → IsGood sources (decl_seen d)
decl_good_at sources decls i d e h all = subst (λ x. IsGood sources (decl_seen x)) (sym e) (decl_good sources decls i d h all)

pub rout_part_good : (sources : List Source) (parts : List RoutPart) (i : ℕ) (d : RoutPart) → i < length parts → All (IsGoodRoutPart sources) (map rout_part_seen parts) → IsGoodRoutPart sources (rout_part_seen (get_or parts i d))
rout_part_good sources parts i d h all = unmapped rout_part_seen (IsGoodRoutPart sources) parts i d h all

pub rule_good : (rules : List RuleTree) (i : ℕ) (d : RuleTree) → i < length rules → All IsGoodRule (map rule_seen rules) → IsGoodRule (rule_seen (get_or rules i d))
rule_good rules i d h all = unmapped rule_seen IsGoodRule rules i d h all

pub decl_placed_at : (all : List DeclText) (decls : List Decl) (i : ℕ) (d : Decl) → d ≡ get_or decls i d → i < length decls → All (IsPlaced all) (map decl_seen decls) → IsPlaced all (decl_seen d)
decl_placed_at all decls i d e h each = subst (λ x. IsPlaced all (decl_seen x)) (sym e) (unmapped decl_seen (IsPlaced all) decls i d h each)

pub rout_part_placed : (all : List DeclText) (parts : List RoutPart) (i : ℕ) (d : RoutPart) → i < length parts → All (IsPartPlaced all) (map rout_part_seen parts) → IsPartPlaced all (rout_part_seen (get_or parts i d))
rout_part_placed all parts i d h each = unmapped rout_part_seen (IsPartPlaced all) parts i d h each
