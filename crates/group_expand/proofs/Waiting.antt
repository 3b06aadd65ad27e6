-- Whether an expression names a group that isn't done, by its parts.
use Rattle.std.proofs.Common.{◌≡◌, ◌∙◌, refl, ap, Bool, true, false, not, ◌||◌, ℕ, List, [], ◌∷◌, map}
use Rattle.std.specs.List.{list_any}
use Rattle.std.proofs.lemmas.List.Folds.{list_any-append}
use Rattle.policy_model.specs.Policy.{ObjectExpr, OfGroup, Joined}
use Rattle.topology.specs.declared.sets.Union.{Union, out-Union}
use Rattle.topology.specs.declared.sets.Inter.{Inter, out-Inter}
use Rattle.topology.specs.declared.sets.Further.{Further}
use Rattle.topology.specs.Expressions.{expr_of, part_of, term_of, kept}
use Rattle.topology.specs.Sound.{groups_in}
use Rattle.group_expand.specs.Spread.{marked}
use Rattle.group_expand.specs.Groups.{waits}
use Rattle.group_expand.proofs.UnionRows.{joined_all, narrowed_all, union_row, part_row}

module _ (done : List Bool) where
  abbrev missing : ℕ → Bool
  missing g = not (marked done g)

  both : (e f : ObjectExpr) → waits done (Joined e f) ≡ (waits done e || waits done f)
  both e f = list_any-append missing (groups_in e) (groups_in f)

  joined : (parts : List Inter) → waits done (joined_all (map part_of parts)) ≡ list_any (λ part. waits done (part_of part)) parts
  joined [] = refl
  joined (p ∷ ps) = both (part_of p) (joined_all (map part_of ps)) ∙ ap (λ (b : Bool). waits done (part_of p) || b) (joined ps)

  or_assoc : (a b c : Bool) → ((a || b) || c) ≡ (a || (b || c))
  or_assoc true b c = refl
  or_assoc false b c = refl

  or_false : (a : Bool) → a ≡ (a || false)
  or_false true = refl
  or_false false = refl

  narrows : (without : Bool) (e f : ObjectExpr) → waits done (kept without e f) ≡ (waits done e || waits done f)
  narrows true e f = both e f
  narrows false e f = both e f

  narrowed : (e : ObjectExpr) (fs : List Further) → waits done (narrowed_all e fs) ≡ (waits done e || list_any (λ f. waits done (term_of f.term)) fs)
  narrowed e [] = or_false (waits done e)
  narrowed e (f ∷ fs) =
      narrowed (kept f.without e (term_of f.term)) fs ∙ (ap (λ (b : Bool). b || list_any (λ f. waits done (term_of f.term)) fs) (narrows f.without e (term_of f.term))
      ∙ or_assoc (waits done e) (waits done (term_of f.term)) (list_any (λ f. waits done (term_of f.term)) fs))

pub waits_set : (done : List Bool) (set : Union) → waits done (expr_of set) ≡ list_any (λ part. waits done (part_of part)) (out-Union set).parts.now
waits_set done set = ap (waits done) (union_row set) ∙ joined done (out-Union set).parts.now

pub waits_part : (done : List Bool) (part : Inter) → waits done (part_of part) ≡ (waits done (term_of (out-Inter part).first) || list_any (λ f. waits done (term_of f.term)) (out-Inter part).rest.now)
waits_part done part = ap (waits done) (part_row part) ∙ narrowed done (term_of (out-Inter part).first) (out-Inter part).rest.now

pub waits_group : (done : List Bool) (g : ℕ) → waits done (OfGroup g) ≡ not (marked done g)
waits_group done g = by (not (marked done g))
  where
    by : (b : Bool) → (b || false) ≡ b
    by true = refl
    by false = refl
