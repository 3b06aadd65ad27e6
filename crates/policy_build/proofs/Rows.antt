-- Rows of parts of a union, as lists.
use Rattle.std.proofs.Common.{◌≡◌, ◌∙◌, refl, sym, ap, Bool, List, [], ◌∷◌, map}
use Rattle.policy_model.specs.Policy.{ObjectExpr, NoObjects, Joined}
use Rattle.topology.specs.declared.sets.Union.{Union, Union', out-Union, outs-Union', Row_of-Inter, end_of-Inter, more_of-Inter, items-the_row-Inter, items_shown-the_row-Inter-1}
use Rattle.topology.specs.declared.sets.Inter.{Inter, Inter', out-Inter, outs-Inter', Row_of-Further, end_of-Further, more_of-Further, items-the_row-Further, items_shown-the_row-Further-0}
use Rattle.topology.specs.declared.sets.Further.{Further}
use Rattle.topology.specs.Expressions.{expr_of, joined_parts, part_of, narrowed, term_of, kept}

-- expressions joined, from the last one on
abbrev pub joined_all : List ObjectExpr → ObjectExpr
joined_all [] = NoObjects
joined_all (e ∷ es) = Joined e (joined_all es)

-- an expression narrowed by others, each in turn
abbrev pub narrowed_by : ObjectExpr → List (Bool × ObjectExpr) → ObjectExpr
narrowed_by e [] = e
narrowed_by e (f ∷ fs) = narrowed_by (kept f.0 e f.1) fs

abbrev pub further_of : Further → Bool × ObjectExpr
further_of f = (f.without, term_of f.term)

rows : {n : _} (row : Row_of-Inter n) → joined_parts row ≡ joined_all (map part_of (items-the_row-Inter n row))
rows end_of-Inter = refl
rows (more_of-Inter part parts) = ap (λ e. Joined (part_of part) e) (rows parts)

pub union_row : (u : Union) → expr_of u ≡ joined_all (map part_of (out-Union u).parts.now)
union_row (Union' p shape parts) =
    rows parts ∙ sym (ap (λ x. joined_all (map part_of x.parts.now)) (outs-Union' p shape parts) ∙ ap (λ l. joined_all (map part_of l)) (items_shown-the_row-Inter-1 shape parts))

further : {n : _} (row : Row_of-Further n) (e : ObjectExpr) → narrowed e row ≡ narrowed_by e (map further_of (items-the_row-Further n row))
further end_of-Further e = refl
further (more_of-Further without term rest) e = further rest (kept without e (term_of term))

pub part_row : (part : Inter) → part_of part ≡ narrowed_by (term_of (out-Inter part).first) (map further_of (out-Inter part).rest.now)
part_row (Inter' first p shape rest) =
    further rest (term_of first) ∙ sym (ap (λ x. narrowed_by (term_of x.first) (map further_of x.rest.now)) (outs-Inter' first p shape rest) ∙ ap (λ l. narrowed_by (term_of first) (map further_of l)) (items_shown-the_row-Further-0 shape rest))
