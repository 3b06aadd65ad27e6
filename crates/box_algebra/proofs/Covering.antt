-- The loop that takes the largest block at the beginning of what is left of a range.
use Rattle.std.proofs.Common.{◌≡◌, ℕ, suc, ◌+◌, ◌%◌, ◌^◌, ◌≤◌, List, [], ◌∷◌, ◌++◌, append_assoc, append-nil, map, sym, ap, subst, ◌∙◌, arith}
use Rattle.spoc_base.specs.Address.{Cidr, Interval, block_at, cover_of}
use Rattle.std.proofs.lemmas.List.{map-append}
use Rattle.spoc_base.specs.Shown.{cidr_of}
use Rattle.spoc_base.specs.declared.address.Prefix.{Prefix}
use Rattle.list_laws.specs.Covers.{IsFewest}
use Rattle.list_laws.proofs.Ranges.{cover_is_fewest}
use Rattle.list_laws.proofs.CoveringSteps.{IsLargest, cover_of-step, cover_of-end}
use Rattle.box_algebra.specs.Blocks.{IsLargestBlock}

abbrev pub from_to : ℕ → ℕ → Interval
from_to first last = record { first = first; last = last }

suc_is : (b : ℕ) → suc b ≡ b + 1
suc_is b = omega arith

largest_is : (first last end bits : ℕ) → end ≡ last + 1 → end ≤ 4294967296 → IsLargestBlock first end bits → IsLargest (from_to first last) bits
largest_is first last end bits e small k =
    let f = k.fits in
    let s = suc_is bits in
    let p : 2 ^ suc bits ≡ 2 ^ (bits + 1) = ap (λ n. 2 ^ n) s in
    record {
      block = record { short = k.short; aligned = k.aligned; fits = omega arith };
      inside = omega (arith, e, f);
      largest = λ bigger inside. let x = bigger.short in
          k.largest (omega (arith, x)) (ap (λ n. first % n) (sym p) ∙ bigger.aligned) (omega (arith, inside, p, e));
    }

pub next_block : (first last end bits : ℕ) (old new all : List Cidr) → end ≡ last + 1 → end ≤ 4294967296 → IsLargestBlock first end bits → new ≡ old ++ block_at first bits ∷ [] →
    old ++ cover_of (from_to first last) ≡ all → new ++ cover_of (from_to (first + 2 ^ bits) last) ≡ all
next_block first last end bits old new all e small k made so_far =
    let rest = cover_of (from_to (first + 2 ^ bits) last) in
    ap (λ xs. xs ++ rest) made ∙ (append_assoc old (block_at first bits ∷ []) rest
    ∙ (ap (λ xs. old ++ xs) (sym (cover_of-step (from_to first last) bits (largest_is first last end bits e small k))) ∙ so_far))

pub nothing_left : (first last end : ℕ) (made all : List Cidr) → end ≡ last + 1 → end ≤ first → made ++ cover_of (from_to first last) ≡ all → made ≡ all
nothing_left first last end made all e done so_far =
    sym (append-nil made) ∙ (ap (λ xs. made ++ xs) (sym (cover_of-end (from_to first last) (omega (arith, e, done)))) ∙ so_far)

pub made_is_fewest : (r : Interval) (made : List Cidr) → made ≡ cover_of r → IsFewest r made
made_is_fewest r made e = subst (IsFewest r) (sym e) (cover_is_fewest r)

pub pushed : (cover : List Prefix) (p : Prefix) (new : List Prefix) (first bits : ℕ) → new ≡ cover ++ p ∷ [] → cidr_of p ≡ block_at first bits → map cidr_of new ≡ map cidr_of cover ++ block_at first bits ∷ []
pushed cover p new first bits e f = ap (map cidr_of) e ∙ (map-append cidr_of cover (p ∷ []) ∙ ap (λ q. map cidr_of cover ++ q ∷ []) f)

pub next : (first last end bits step : ℕ) (old : List Prefix) (p : Prefix) (new : List Prefix) (all : List Cidr) → end ≡ last + 1 → end ≤ 4294967296 → IsLargestBlock first end bits → step ≡ 2 ^ bits →
    new ≡ old ++ p ∷ [] → cidr_of p ≡ block_at first bits → map cidr_of old ++ cover_of (from_to first last) ≡ all →
    (first + step ≤ end) × (map cidr_of new ++ cover_of (from_to (first + step) last) ≡ all)
next first last end bits step old p new all e small k s made is so_far =
    let f = k.fits in
    (omega (arith, s, f), ap (λ n. map cidr_of new ++ cover_of (from_to (first + n) last)) s ∙ next_block first last end bits (map cidr_of old) (map cidr_of new) all e small k (pushed old p new first bits made is) so_far)
