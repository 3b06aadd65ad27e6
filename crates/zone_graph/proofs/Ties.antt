-- What a new pointer keeps of a forest.
use Rattle.std.proofs.Common.{◌≡◌, ◌≢◌, ℕ, ◌<◌, ◌≤◌, List, length, slice_index, slice_set, sym, subst, ◌∙◌, ⊎_elim, arith}
use Rattle.std.proofs.lemmas.Bool.{cases_eq}
use Rattle.std.proofs.lemmas.List.{length-set, get_or-set_same, get_or-set_other}
use Rattle.policy_model.specs.Policy.{Policy}
use Rattle.policy_model.specs.Zones.{AreJoined}
use Rattle.zone_graph.specs.Forest.{IsForest, KeepsTies, IsRoot}
use Rattle.zone_graph.proofs.Joining.{joined_on, joined_back}

-- a network points to a lower one with which it is joined
pub points_lower : (p : Policy) (parents : List ℕ) (k q : ℕ) → IsForest p parents → k < length parents → q ≤ k → AreJoined p k q → IsForest p (slice_set parents k q)
points_lower p parents k q forest there low joined =
    let same : length (slice_set parents k q) ≡ length parents = length-set parents k q in
    record {
      each = same ∙ forest.each;
      down = λ n h. ⊎_elim
          (λ e. subst (λ (x : ℕ). slice_index (slice_set parents k q) x ≤ x) (sym e) (subst (λ (y : ℕ). y ≤ k) (sym (get_or-set_same parents k q 0 there)) low))
          (λ ne. subst (λ (y : ℕ). y ≤ n) (sym (get_or-set_other parents k n q 0 ne)) (forest.down n (subst (λ (x : ℕ). n < x) same h)))
          (cases_eq n k);
      joined = λ n h. ⊎_elim
          (λ e. subst (λ (x : ℕ). AreJoined p x (slice_index (slice_set parents k q) x)) (sym e) (subst (λ (y : ℕ). AreJoined p k y) (sym (get_or-set_same parents k q 0 there)) joined))
          (λ ne. subst (λ (y : ℕ). AreJoined p n y) (sym (get_or-set_other parents k n q 0 ne)) (forest.joined n (subst (λ (x : ℕ). n < x) same h)))
          (cases_eq n k);
    }

-- where a network's parent points, with that it is joined
pub joined_twice : (p : Policy) (parents : List ℕ) (k : ℕ) → IsForest p parents → k < length parents → AreJoined p k (slice_index parents (slice_index parents k))
joined_twice p parents k forest there =
    let up = slice_index parents k in
    let low = forest.down k there in
    joined_on p k up (slice_index parents up) (forest.joined k there) (forest.joined up (omega (arith, low, there)))

pub low_twice : (p : Policy) (parents : List ℕ) (k : ℕ) → IsForest p parents → k < length parents → slice_index parents (slice_index parents k) ≤ k
low_twice p parents k forest there =
    let low = forest.down k there in
    let lower = forest.down (slice_index parents k) (omega (arith, low, there)) in omega (arith, low, lower)

-- two networks that are joined with two that are joined
pub joined_between : (p : Policy) (a b x y : ℕ) → AreJoined p a b → AreJoined p a x → AreJoined p b y → AreJoined p x y
joined_between p a b x y ab ax by_ = joined_on p x a y (joined_back p a x ax) (joined_on p a b y ab by_)

-- a new pointer of one that was no root leaves all roots
pub roots_stay : (parents : List ℕ) (k q : ℕ) → (slice_index parents k ≡ k → ⊥) → (n : ℕ) → IsRoot parents n → IsRoot (slice_set parents k q) n
roots_stay parents k q no_root n root =
    let other : n ≢ k = λ e. no_root (subst (λ (x : ℕ). slice_index parents x ≡ x) e root.itself) in
    record {
      there = subst (λ (x : ℕ). n < x) (sym (length-set parents k q)) root.there;
      itself = get_or-set_other parents k n q 0 other ∙ root.itself;
    }

-- what two steps keep
pub ties_on : (first second third : List ℕ) → KeepsTies first second → KeepsTies second third → KeepsTies first third
ties_on first second third f g label h = f label (g label h)
