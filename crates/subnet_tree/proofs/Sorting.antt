-- Items that are sorted by their keys are in order.
use Rattle.std.proofs.Common.{◌≡◌, ℕ, zero, suc, ◌+◌, ◌-◌, ◌<◌, ◌≤◌, false, cond, List, [], ◌∷◌, length, map, sym, ap, subst, ◌∙◌, ⊎_elim, arith, is_lt, nat_cmp}
use Rattle.std.specs.Prelude.{nat_lt, ◌==◌, slice_index_or}
use Rattle.std.specs.Ordering.{ordering_then}
use Rattle.std.specs.declared.cmp.Ordering.{Ordering}
use Rattle.std.specs.declared.cmp.Ordering.TheVariants.{Less, Equal, Greater}
use Rattle.std.proofs.lemmas.List.{get_or-map, length-map}
use Rattle.std.proofs.lemmas.Bool.{cases_lt, lt-ltb, eq-eqb, ltb-true, false_from_ne_true, false≢true}
use Rattle.spoc_base.specs.Address.{Cidr}
use Rattle.spoc_base.specs.declared.address.Prefix.{Prefix}
use Rattle.spoc_base.specs.declared.ids.NetId.{NetId}
use Rattle.subnet_tree.specs.Entries.{Entry, Precedes, AreInOrder}
use Rattle.subnet_tree.specs.Shown.{entry_of}

-- ---- keys

abbrev pub key_of : NetId × Prefix → ℕ × ℕ × ℕ
key_of item = (item.1.net.0, item.1.len, item.0.0)

abbrev compared : (a b c x y z : ℕ) → Ordering
compared a b c x y z = ordering_then (ordering_then (nat_cmp x a) (nat_cmp y b)) (nat_cmp z c)

cmp_less : (m n : ℕ) → m < n → nat_cmp m n ≡ Less
cmp_less m n lt = ap (λ b. cond b Less (cond (m == n) Equal Greater)) (lt-ltb m n lt)

cmp_equal : (m n : ℕ) → m ≡ n → nat_cmp m n ≡ Equal
cmp_equal m n e =
    ap (λ b. cond b Less (cond (m == n) Equal Greater)) (false_from_ne_true (nat_lt m n) (λ t. let x = ltb-true m n t in let z : ⊥ = omega (arith, x, e) in z))
    ∙ ap (λ b. cond b Equal Greater) (eq-eqb m n e)

never_less : (o : Ordering) → is_lt o ≡ false → o ≡ Less → ⊥
never_less o e f = false≢true (sym e ∙ ap is_lt f)

-- the second is not less than the first, part after part
record NotLess (a b c x y z : ℕ) : Type 0 where
  one : a ≤ x
  two : a ≡ x → b ≤ y
  three : a ≡ x → b ≡ y → c ≤ z

not_less : (a b c x y z : ℕ) → is_lt (compared a b c x y z) ≡ false → NotLess a b c x y z
not_less a b c x y z h = record {
  one = ⊎_elim (λ (lt : x < a). absurd (never_less (compared a b c x y z) h (ap (λ o. ordering_then (ordering_then o (nat_cmp y b)) (nat_cmp z c)) (cmp_less x a lt)))) (λ le. le) (cases_lt x a);
  two = λ e. ⊎_elim
      (λ (lt : y < b). absurd (never_less (compared a b c x y z) h
      (ap (λ o. ordering_then (ordering_then o (nat_cmp y b)) (nat_cmp z c)) (cmp_equal x a (sym e)) ∙ ap (λ o. ordering_then o (nat_cmp z c)) (cmp_less y b lt))))
      (λ le. le) (cases_lt y b);
  three = λ e f. ⊎_elim
      (λ (lt : z < c). absurd (never_less (compared a b c x y z) h
      (ap (λ o. ordering_then (ordering_then o (nat_cmp y b)) (nat_cmp z c)) (cmp_equal x a (sym e)) ∙ (ap (λ o. ordering_then o (nat_cmp z c)) (cmp_equal y b (sym f)) ∙ cmp_less z c lt))))
      (λ le. le) (cases_lt z c);
}

-- ---- order

pub cidr_equal : (p q : Cidr) → p.net ≡ q.net → p.len ≡ q.len → p ≡ q
cidr_equal p q e f = ap (λ n. let c : Cidr = record { net = n; len = p.len } in c) e ∙ ap (λ n. let c : Cidr = record { net = q.net; len = n } in c) f

item_precedes : (x y : NetId × Prefix) → is_lt (compared x.1.net.0 x.1.len x.0.0 y.1.net.0 y.1.len y.0.0) ≡ false → Precedes (entry_of x) (entry_of y)
item_precedes x y h =
    let w = not_less x.1.net.0 x.1.len x.0.0 y.1.net.0 y.1.len y.0.0 h in
    record { nets = w.one; lengths = w.two; numbers = λ e. w.three (ap (λ p. p.net) e) (ap (λ p. p.len) e) }

precedes_trans : (e f g : Entry) → Precedes e f → Precedes f g → Precedes e g
precedes_trans e f g h k =
    let hn = h.nets in
    let kn = k.nets in
    record {
      nets = omega (arith, hn, kn);
      lengths = λ same. let x = h.lengths (omega (arith, hn, kn, same)) in let y = k.lengths (omega (arith, hn, kn, same)) in omega (arith, x, y);
      numbers = λ same.
          let n = ap (λ p. p.net) same in
          let l = ap (λ p. p.len) same in
          let en : e.prefix.net ≡ f.prefix.net = omega (arith, hn, kn, n) in
          let fn : f.prefix.net ≡ g.prefix.net = omega (arith, hn, kn, n) in
          let x = h.lengths en in
          let y = k.lengths fn in
          let a = h.numbers (cidr_equal e.prefix f.prefix en (omega (arith, x, y, l))) in
          let b = k.numbers (cidr_equal f.prefix g.prefix fn (omega (arith, x, y, l))) in
          omega (arith, a, b);
    }

module _ (es : List Entry) (d : Entry) (next : (k : ℕ) → k + 1 < length es → Precedes (slice_index_or es k d) (slice_index_or es (k + 1) d)) where
  far : (m i : ℕ) → i + suc m < length es → Precedes (slice_index_or es i d) (slice_index_or es (i + suc m) d)
  far zero i below = let e : i + 1 ≡ i + suc zero = omega arith in subst (λ j. Precedes (slice_index_or es i d) (slice_index_or es j d)) e (next i (omega (arith, below)))
  far (suc m) i below =
      let e : (i + suc m) + 1 ≡ i + suc (suc m) = omega arith in
      precedes_trans (slice_index_or es i d) (slice_index_or es (i + suc m) d) (slice_index_or es (i + suc (suc m)) d) (far m i (omega (arith, below)))
      (subst (λ j. Precedes (slice_index_or es (i + suc m) d) (slice_index_or es j d)) e (next (i + suc m) (omega (arith, below))))

  each_pair : (i j : ℕ) → i < j → j < length es → Precedes (slice_index_or es i d) (slice_index_or es j d)
  each_pair i j lt below =
      let e : i + suc (j - suc i) ≡ j = omega arith in
      subst (λ k. Precedes (slice_index_or es i d) (slice_index_or es k d)) e (far (j - suc i) i (omega (arith, e, below)))

abbrev pub AreSortedByKey : List (NetId × Prefix) → Type 0
AreSortedByKey xs = (k : ℕ) (d : NetId × Prefix) → 0 ≤ k → k + 1 < length xs →
    is_lt (compared (key_of (slice_index_or xs k d)).0 (key_of (slice_index_or xs k d)).1 (key_of (slice_index_or xs k d)).2
    (key_of (slice_index_or xs (k + 1) d)).0 (key_of (slice_index_or xs (k + 1) d)).1 (key_of (slice_index_or xs (k + 1) d)).2) ≡ false

sorted_from : (xs : List (NetId × Prefix)) (x : NetId × Prefix) → AreSortedByKey xs → AreInOrder (map entry_of xs)
sorted_from xs x sorted = λ i j d lt below.
    let n = length-map xs entry_of in
    each_pair (map entry_of xs) d
    (λ k under.
    let small : k + 1 < length xs = omega (arith, under, n) in
    subst (λ e. Precedes e (slice_index_or (map entry_of xs) (k + 1) d)) (sym (get_or-map entry_of xs k x d (omega (arith, small))))
    (subst (λ e. Precedes (entry_of (slice_index_or xs k x)) e) (sym (get_or-map entry_of xs (k + 1) x d small))
    (item_precedes (slice_index_or xs k x) (slice_index_or xs (k + 1) x) (sorted k x (omega arith) small))))
    i j lt below

pub sorted_in_order : (xs : List (NetId × Prefix)) → AreSortedByKey xs → AreInOrder (map entry_of xs)
sorted_in_order [] sorted = λ i j d lt below. absurd (let z : ⊥ = omega arith in z)
sorted_in_order (x ∷ xs) sorted = sorted_from (x ∷ xs) x sorted
