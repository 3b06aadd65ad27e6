-- Unions that sets say.
use Rattle.std.proofs.Common.{◌≡◌, ◌∙◌, refl, sym, ap, Bool, true, false, ◌&&◌, List, [], ◌∷◌, map, not, cond, Option, Some, None, option_and_then}
use Rattle.spoc_base.specs.Address.{Cidr}
use Rattle.spoc_ast.specs.Written.{Lexeme, SetText, NoParts, NetworkNamed, HostNamed, PortNamed, GroupNamed, AggregateNamed, AreaNamed, UserNamed, NetworksIn, HostsIn, ZonesIn, Joining, Keeping, Leaving, DeclText}
use Rattle.spoc_ast.specs.declared.set.SetTree.{SetTree, out-SetTree}
use Rattle.spoc_ast.specs.declared.set.InterTree.{InterTree, out-InterTree}
use Rattle.spoc_ast.specs.declared.set.FurtherTree.{FurtherTree}
use Rattle.spoc_ast.specs.Seen as ast
use Rattle.spoc_ast.proofs.Rows as ast_rows
use Rattle.policy_model.specs.Policy.{ObjectExpr, NoObjects, NetsOf, HostsOf, ZonesOf, Joined, Common, Without}
use Rattle.policy_decls.specs.Said.{expr_in}
use Rattle.policy_decls.specs.Numbers.{prefix_of, holds_of}
use Rattle.policy_decls.specs.Lookup.{has_host_bit}
use Rattle.policy_decls.specs.Shapes.{is_unaligned}
use Rattle.topology.specs.Expressions.{expr_of, part_of, term_of, kept}
use Rattle.topology.specs.declared.sets.Union.{Union, Union-F, out-Union, roll-Union, out-roll-Union}
use Rattle.topology.specs.declared.sets.Inter.{Inter, Inter-F, out-Inter, roll-Inter, out-roll-Inter}
use Rattle.topology.specs.declared.sets.Further.{Further}
use Rattle.topology.specs.declared.sets.Term.{Term}
use Rattle.policy_build.proofs.Rows.{joined_all, narrowed_by, further_of, union_row, part_row}
use Rattle.policy_build.specs.Aligned.{if_aligned, aligned_prefix, is_aligned_word, asks_aligned, aligned_expr}

module _ (decls : List DeclText) where
  abbrev pub part_in : InterTree → ObjectExpr
  part_in part = aligned_expr decls (ast.inter_seen part)

  abbrev pub further_in : FurtherTree → Bool × ObjectExpr
  further_in f = (f.without, aligned_expr decls (ast.term_seen f.term))

  joined_in : (parts : List InterTree) → aligned_expr decls (ast.joined (map ast.inter_seen parts)) ≡ joined_all (map part_in parts)
  joined_in [] = refl
  joined_in (p ∷ ps) = ap (λ e. Joined (part_in p) e) (joined_in ps)

  kept_in : (b : Bool) (e f : SetText) → aligned_expr decls (ast.narrowing b e f) ≡ kept b (aligned_expr decls e) (aligned_expr decls f)
  kept_in true e f = refl
  kept_in false e f = refl

  narrowed_in : (e : SetText) (fs : List FurtherTree) → aligned_expr decls (ast.narrowed e fs) ≡ narrowed_by (aligned_expr decls e) (map further_in fs)
  narrowed_in e [] = refl
  narrowed_in e (f ∷ fs) =
      narrowed_in (ast.narrowing f.without e (ast.term_seen f.term)) fs ∙ ap (λ x. narrowed_by x (map further_in fs)) (kept_in f.without e (ast.term_seen f.term))

  pub set_said : (u : Union) (set : SetTree) → map part_of (out-Union u).parts.now ≡ map part_in (out-SetTree set).inters.now → expr_of u ≡ aligned_expr decls (ast.set_seen set)
  set_said u set e = union_row u ∙ ap joined_all e ∙ sym (ap (aligned_expr decls) (ast_rows.sets set) ∙ joined_in (out-SetTree set).inters.now)

  pub part_said : (p : Inter) (part : InterTree) → term_of (out-Inter p).first ≡ aligned_expr decls (ast.term_seen (out-InterTree part).first)
      → map further_of (out-Inter p).rest.now ≡ map further_in (out-InterTree part).rest.now → part_of p ≡ aligned_expr decls (ast.inter_seen part)
  part_said p part e f =
      part_row p ∙ ap (λ x. narrowed_by x (map further_of (out-Inter p).rest.now)) e ∙ ap (narrowed_by (aligned_expr decls (ast.term_seen (out-InterTree part).first))) f
      ∙ sym (ap (aligned_expr decls) (ast_rows.parts part) ∙ narrowed_in (ast.term_seen (out-InterTree part).first) (out-InterTree part).rest.now)

  pub roll_set : (u : Union-F Term Further Inter Union) (set : SetTree) → map part_of u.parts.now ≡ map part_in (out-SetTree set).inters.now → expr_of (roll-Union u) ≡ aligned_expr decls (ast.set_seen set)
  roll_set u set e = set_said (roll-Union u) set (ap (λ x. map part_of x.parts.now) (out-roll-Union u) ∙ e)

  pub roll_part : (p : Inter-F Term Further Inter Union) (part : InterTree) → term_of p.first ≡ aligned_expr decls (ast.term_seen (out-InterTree part).first)
      → map further_of p.rest.now ≡ map further_in (out-InterTree part).rest.now → part_of (roll-Inter p) ≡ aligned_expr decls (ast.inter_seen part)
  roll_part p part e f = part_said (roll-Inter p) part (ap (λ x. term_of x.first) (out-roll-Inter p) ∙ e) (ap (λ x. map further_of x.rest.now) (out-roll-Inter p) ∙ f)

pub no_parts : (u : Union-F Term Further Inter Union) → u.parts.now ≡ [] → expr_of (roll-Union u) ≡ NoObjects
no_parts u e = union_row (roll-Union u) ∙ ap (λ x. joined_all (map part_of x.parts.now)) (out-roll-Union u) ∙ ap (λ l. joined_all (map part_of l)) e

-- ---- where no prefix that is asked for has a host bit, nothing changes

and_first : (a b : Bool) → (a && b) ≡ true → a ≡ true
and_first true b e = refl
and_first false b e = e

and_second : (a b : Bool) → (a && b) ≡ true → b ≡ true
and_second true b e = e
and_second false b e = absurd (cc)

if_no_bit : (p : Cidr) (b : Bool) → not b ≡ true → cond b None (Some p) ≡ Some p
if_no_bit p true e = absurd (cc)
if_no_bit p false e = refl

pub where_aligned : (o : Option Cidr) → not (holds_of has_host_bit o) ≡ true → option_and_then if_aligned o ≡ o
where_aligned None e = refl
where_aligned (Some p) e = if_no_bit p (has_host_bit p) e

pub aligned_word : (w : Lexeme) → not (is_unaligned w) ≡ true → aligned_prefix w ≡ prefix_of w.text
aligned_word w e = where_aligned (prefix_of w.text) e

asked_word : (only : Option Lexeme) → is_aligned_word only ≡ true → option_and_then aligned_prefix only ≡ option_and_then (λ w. prefix_of w.text) only
asked_word None e = refl
asked_word (Some w) e = aligned_word w e

module _ (decls : List DeclText) where
  two : (F : ObjectExpr → ObjectExpr → ObjectExpr) (e f : SetText) → (asks_aligned e ≡ true → aligned_expr decls e ≡ expr_in decls e) → (asks_aligned f ≡ true → aligned_expr decls f ≡ expr_in decls f)
      → (asks_aligned e && asks_aligned f) ≡ true → F (aligned_expr decls e) (aligned_expr decls f) ≡ F (expr_in decls e) (expr_in decls f)
  two F e f p q h =
      ap (λ x. F x (aligned_expr decls f)) (p (and_first (asks_aligned e) (asks_aligned f) h)) ∙ ap (F (expr_in decls e)) (q (and_second (asks_aligned e) (asks_aligned f) h))

  pub expr_aligned : (set : SetText) → asks_aligned set ≡ true → aligned_expr decls set ≡ expr_in decls set
  expr_aligned NoParts h = refl
  expr_aligned (NetworkNamed name) h = refl
  expr_aligned (HostNamed name) h = refl
  expr_aligned (PortNamed port) h = refl
  expr_aligned (GroupNamed name) h = refl
  expr_aligned (AggregateNamed name) h = refl
  expr_aligned (AreaNamed name) h = refl
  expr_aligned UserNamed h = refl
  expr_aligned (NetworksIn e) h = ap NetsOf (expr_aligned e h)
  expr_aligned (HostsIn e) h = ap HostsOf (expr_aligned e h)
  expr_aligned (ZonesIn only e) h =
      ap (λ p. ZonesOf p (aligned_expr decls e)) (asked_word only (and_first (is_aligned_word only) (asks_aligned e) h))
      ∙ ap (ZonesOf (option_and_then (λ w. prefix_of w.text) only)) (expr_aligned e (and_second (is_aligned_word only) (asks_aligned e) h))
  expr_aligned (Joining e f) h = two Joined e f (expr_aligned e) (expr_aligned f) h
  expr_aligned (Keeping e f) h = two Common e f (expr_aligned e) (expr_aligned f) h
  expr_aligned (Leaving e f) h = two Without e f (expr_aligned e) (expr_aligned f) h
