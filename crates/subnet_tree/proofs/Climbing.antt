-- Going up from an entry to the last one that holds an address.
use Rattle.std.proofs.Common.{◌≡◌, ℕ, zero, suc, ◌<◌, ◌≤◌, Bool, true, false, cond, List, length, map, refl, sym, ap, subst, ◌∙◌, ⊎_elim, arith}
use Rattle.std.specs.Prelude.{Option, Some, None, slice_index_or}
use Rattle.std.proofs.lemmas.List.{get_or-map, length-map}
use Rattle.std.proofs.lemmas.Bool.{cases_lt, both_ways, false_from_ne_true}
use Rattle.spoc_base.specs.Address.{Cidr, prefix_holds}
use Rattle.list_laws.proofs.Nesting.{holds_parts, holds_from}
use Rattle.spoc_base.specs.Shown.{cidr_of}
use Rattle.subnet_tree.specs.Knots.{Knot, no_knot, knot_at, last_below, last_holding, AreKnots}
use Rattle.subnet_tree.specs.Shown.{knot_of}
use Rattle.subnet_tree.specs.declared.nodes.Node.{Node}

-- ---- the last number that passes

pub record IsLast (test : ℕ → Bool) (n i : ℕ) : Type 0 where
  pub below : i < n
  pub passes : test i ≡ true
  pub last : (k : ℕ) → i < k → k < n → test k ≡ false

found_step : (test : ℕ → Bool) (n i : ℕ) (b : Bool) → test n ≡ b → (last_below test n ≡ Some i → IsLast test n i) → cond b (Some n) (last_below test n) ≡ Some i → IsLast test (suc n) i
found_step test n i true t later e =
    let is : n ≡ i = cc in
    subst (IsLast test (suc n)) is (record { below = omega arith; passes = t; last = λ k low high. absurd (let z : ⊥ = omega arith in z) })
found_step test n i false t later e =
    let w = later e in
    let below = w.below in
    record { below = omega (arith, below); passes = w.passes; last = λ k low high. ⊎_elim (λ (lt : k < n). w.last k low lt) (λ (le : n ≤ k). let is : n ≡ k = omega arith in ap test (sym is) ∙ t) (cases_lt k n) }

pub last_found : (test : ℕ → Bool) (n i : ℕ) → last_below test n ≡ Some i → IsLast test n i
last_found test zero i e = absurd (let z : ⊥ = cc in z)
last_found test (suc n) i e = found_step test n i (test n) refl (last_found test n i) e

none_step : (test : ℕ → Bool) (n : ℕ) (b : Bool) → test n ≡ b → (last_below test n ≡ None → (k : ℕ) → k < n → test k ≡ false) → cond b (Some n) (last_below test n) ≡ None → (k : ℕ) → k < suc n → test k ≡ false
none_step test n true t later e k below = absurd (let z : ⊥ = cc in z)
none_step test n false t later e k below = ⊎_elim (λ (lt : k < n). later e k lt) (λ (le : n ≤ k). let is : n ≡ k = omega arith in ap test (sym is) ∙ t) (cases_lt k n)

pub last_none : (test : ℕ → Bool) (n : ℕ) → last_below test n ≡ None → (k : ℕ) → k < n → test k ≡ false
last_none test zero e = λ k below. absurd (let z : ⊥ = omega arith in z)
last_none test (suc n) e = none_step test n (test n) refl (last_none test n) e

pub skipped : (test : ℕ → Bool) (m n : ℕ) → m ≤ n → ((k : ℕ) → m ≤ k → k < n → test k ≡ false) → last_below test n ≡ last_below test m
skipped test m zero le none = let e : m ≡ 0 = omega arith in ap (last_below test) (sym e)
skipped test m (suc n) le none =
    ⊎_elim
    (λ (lt : m < suc n). ap (λ b. cond b (Some n) (last_below test n)) (none n (omega arith) (omega arith)) ∙ skipped test m n (omega arith) (λ k low high. none k low (omega arith)))
    (λ (ge : suc n ≤ m). let e : m ≡ suc n = omega arith in ap (last_below test) (sym e))
    (cases_lt m (suc n))

pub last_is : (test : ℕ → Bool) (n i : ℕ) → IsLast test n i → last_below test n ≡ Some i
last_is test n i h =
    skipped test (suc i) n h.below (λ k low high. h.last k low high) ∙ ap (λ b. cond b (Some i) (last_below test i)) h.passes

pub none_is : (test : ℕ → Bool) (n : ℕ) → ((k : ℕ) → k < n → test k ≡ false) → last_below test n ≡ None
none_is test n none = skipped test 0 n (omega arith) (λ k low high. none k high)

pub last_same : (test other : ℕ → Bool) (n : ℕ) → ((k : ℕ) → k < n → test k ≡ other k) → last_below test n ≡ last_below other n
last_same test other zero same = refl
last_same test other (suc n) same = ap (λ b. cond b (Some n) (last_below test n)) (same n (omega arith)) ∙ ap (λ o. cond (other n) (Some n) o) (last_same test other n (λ k below. same k (omega arith)))

-- ---- knots

pub at_node : (nodes : List Node) (i : ℕ) (node : Node) → i < length nodes → node ≡ slice_index_or nodes i node → knot_at (map knot_of nodes) i ≡ knot_of node
at_node nodes i node below is = get_or-map knot_of nodes i node no_knot below ∙ ap knot_of (sym is)

-- what holds an address above the entry's own holds that too
held_lower : (p : Cidr) (a b : ℕ) → p.net ≤ a → a ≤ b → prefix_holds p b ≡ true → prefix_holds p a ≡ true
held_lower p a b low le h = let w = holds_parts p b h in let x = w.high in holds_from p a low (omega (arith, le, x))

-- further up, where the last entry that holds the address is the same
pub record Above (ks : List Knot) (a i j : ℕ) : Type 0 where
  pub lower : j < i
  pub low_too : (knot_at ks j).prefix.net ≤ a
  pub same_last : last_holding ks a (suc i) ≡ last_holding ks a (suc j)

module _ (ks : List Knot) (tree : AreKnots ks) (a i : ℕ) (below : i < length ks) (low : (knot_at ks i).prefix.net ≤ a) (not_here : prefix_holds (knot_at ks i).prefix a ≡ false) where
  abbrev own : ℕ
  own = (knot_at ks i).prefix.net

  holds_own : (k : ℕ) → k < i → prefix_holds (knot_at ks k).prefix a ≡ true → prefix_holds (knot_at ks k).prefix own ≡ true
  holds_own k lt h = held_lower (knot_at ks k).prefix own a (tree.ascending k i lt below) low h

  past_here : last_holding ks a (suc i) ≡ last_holding ks a i
  unfolding last_holding
  past_here = ap (λ b. cond b (Some i) (last_holding ks a i)) not_here

  pub none_above : (knot_at ks i).above ≡ None → last_holding ks a (suc i) ≡ None
  unfolding last_holding
  none_above e =
      let none = last_none (λ k. prefix_holds (knot_at ks k).prefix own) i (sym (tree.linked i below) ∙ e) in
      past_here ∙ none_is (λ k. prefix_holds (knot_at ks k).prefix a) i (λ k lt. false_from_ne_true (prefix_holds (knot_at ks k).prefix a) (λ h. both_ways (prefix_holds (knot_at ks k).prefix own) (none k lt) (holds_own k lt h)))

  pub one_above : (j : ℕ) → (knot_at ks i).above ≡ Some j → Above ks a i j
  unfolding last_holding
  one_above j e =
      let w = last_found (λ k. prefix_holds (knot_at ks k).prefix own) i j (sym (tree.linked i below) ∙ e) in
      let lt = w.below in
      let x = (holds_parts (knot_at ks j).prefix own w.passes).low in
      record {
        lower = lt;
        low_too = omega (arith, x, low);
        same_last = past_here ∙ skipped (λ k. prefix_holds (knot_at ks k).prefix a) (suc j) i lt
            (λ k after before. false_from_ne_true (prefix_holds (knot_at ks k).prefix a) (λ h. both_ways (prefix_holds (knot_at ks k).prefix own) (w.last k after before) (holds_own k before h)));
      }

-- ---- for the loop

pub found_here : (nodes : List Node) (a i : ℕ) (node : Node) → i < length nodes → node ≡ slice_index_or nodes i node → prefix_holds (cidr_of node.prefix) a ≡ true → last_holding (map knot_of nodes) a (suc i) ≡ Some i
unfolding last_holding
found_here nodes a i node below is h = ap (λ b. cond b (Some i) (last_holding (map knot_of nodes) a i)) (ap (λ k. prefix_holds k.prefix a) (at_node nodes i node below is) ∙ h)

module _ (nodes : List Node) (tree : AreKnots (map knot_of nodes)) (a i : ℕ) (node : Node) (below : i < length nodes) (is : node ≡ slice_index_or nodes i node)
    (low : (knot_at (map knot_of nodes) i).prefix.net ≤ a) (not_here : prefix_holds (cidr_of node.prefix) a ≡ false) where
  abbrev knots : List Knot
  knots = map knot_of nodes

  below_too : i < length knots
  below_too = subst (λ n. i < n) (sym (length-map nodes knot_of)) below

  not_here_too : prefix_holds (knot_at knots i).prefix a ≡ false
  not_here_too = ap (λ k. prefix_holds k.prefix a) (at_node nodes i node below is) ∙ not_here

  link : (o : Option ℕ) → node.above ≡ o → (knot_at knots i).above ≡ o
  link o e = ap (λ k. k.above) (at_node nodes i node below is) ∙ e

  pub top : node.above ≡ None → last_holding knots a (suc i) ≡ None
  top e = none_above knots tree a i below_too low not_here_too (link None e)

  pub up : (j : ℕ) → node.above ≡ Some j → Above knots a i j
  up j e = one_above knots tree a i below_too low not_here_too j (link (Some j) e)
