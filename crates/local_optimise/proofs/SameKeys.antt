-- Equal keys, and places that are chained by keys.
use Rattle.std.proofs.Common.{◌≡◌, ℕ, suc, ◌<◌, ◌≤◌, Bool, true, false, cond, ◌&&◌, List, [], ◌∷◌, ◌++◌, length, get_or, refl, sym, ap, ◌∙◌, ⊎_elim, arith}
use Rattle.std.specs.Prelude.{◌==◌, Option, Some, None}
use Rattle.std.proofs.Math.ListN.{get_or-append}
use Rattle.std.proofs.Math.Seq.{get_or-append_seam}
use Rattle.std.proofs.lemmas.Bool.{and_parts, and_from, eqb-true, eq-eqb, false≢true, cases_lt}
use Rattle.list_laws.proofs.Members.{same_truth}
use Rattle.local_optimise.specs.declared.keys.Mask.{Mask}
use Rattle.local_optimise.specs.declared.keys.Key.{Key}
use Rattle.std.specs.Bool.{beq}
use Rattle.local_optimise.specs.Chained.{same_mask, same_key, last_with}
use Rattle.local_optimise.proofs.Places.{greatest_same}

same_flag_is : (a b : Bool) → beq a b ≡ true → a ≡ b
same_flag_is true true e = refl
same_flag_is true false e = absurd (false≢true e)
same_flag_is false true e = absurd (false≢true e)
same_flag_is false false e = refl

same_flag_self : (a : Bool) → beq a a ≡ true
same_flag_self true = refl
same_flag_self false = refl

mask_made : (m n : Mask) → m.permit ≡ n.permit → m.src ≡ n.src → m.dst ≡ n.dst → m.protocol ≡ n.protocol → m.first ≡ n.first → m.second ≡ n.second → m ≡ n
mask_made m n a b c d e f = λ i. record { permit = a i; src = b i; dst = c i; protocol = d i; first = e i; second = f i }

pub key_made : (k q : Key) → k.mask ≡ q.mask → k.src ≡ q.src → k.dst ≡ q.dst → k.protocol ≡ q.protocol → k.first ≡ q.first → k.second ≡ q.second → k ≡ q
key_made k q a b c d e f = λ i. record { mask = a i; src = b i; dst = c i; protocol = d i; first = e i; second = f i }

pub same_mask_is : (m n : Mask) → same_mask m n ≡ true → m ≡ n
same_mask_is m n h =
    let v = and_parts (beq m.permit n.permit) ((m.src == n.src) && ((m.dst == n.dst) && (beq m.protocol n.protocol && (beq m.first n.first && beq m.second n.second)))) h in
    let w = and_parts (m.src == n.src) ((m.dst == n.dst) && (beq m.protocol n.protocol && (beq m.first n.first && beq m.second n.second))) v.1 in
    let x = and_parts (m.dst == n.dst) (beq m.protocol n.protocol && (beq m.first n.first && beq m.second n.second)) w.1 in
    let y = and_parts (beq m.protocol n.protocol) (beq m.first n.first && beq m.second n.second) x.1 in
    let z = and_parts (beq m.first n.first) (beq m.second n.second) y.1 in
    mask_made m n (same_flag_is m.permit n.permit v.0) (eqb-true m.src n.src w.0) (eqb-true m.dst n.dst x.0) (same_flag_is m.protocol n.protocol y.0)
    (same_flag_is m.first n.first z.0) (same_flag_is m.second n.second z.1)

pub same_mask_self : (m : Mask) → same_mask m m ≡ true
same_mask_self m =
    and_from (beq m.permit m.permit) ((m.src == m.src) && ((m.dst == m.dst) && (beq m.protocol m.protocol && (beq m.first m.first && beq m.second m.second)))) (same_flag_self m.permit)
    (and_from (m.src == m.src) ((m.dst == m.dst) && (beq m.protocol m.protocol && (beq m.first m.first && beq m.second m.second))) (eq-eqb m.src m.src refl)
    (and_from (m.dst == m.dst) (beq m.protocol m.protocol && (beq m.first m.first && beq m.second m.second)) (eq-eqb m.dst m.dst refl)
    (and_from (beq m.protocol m.protocol) (beq m.first m.first && beq m.second m.second) (same_flag_self m.protocol)
    (and_from (beq m.first m.first) (beq m.second m.second) (same_flag_self m.first) (same_flag_self m.second)))))

pub same_key_is : (k q : Key) → same_key k q ≡ true → k ≡ q
same_key_is k q h =
    let v = and_parts (same_mask k.mask q.mask) ((k.src == q.src) && ((k.dst == q.dst) && ((k.protocol == q.protocol) && ((k.first == q.first) && (k.second == q.second))))) h in
    let w = and_parts (k.src == q.src) ((k.dst == q.dst) && ((k.protocol == q.protocol) && ((k.first == q.first) && (k.second == q.second)))) v.1 in
    let x = and_parts (k.dst == q.dst) ((k.protocol == q.protocol) && ((k.first == q.first) && (k.second == q.second))) w.1 in
    let y = and_parts (k.protocol == q.protocol) ((k.first == q.first) && (k.second == q.second)) x.1 in
    let z = and_parts (k.first == q.first) (k.second == q.second) y.1 in
    key_made k q (same_mask_is k.mask q.mask v.0) (eqb-true k.src q.src w.0) (eqb-true k.dst q.dst x.0) (eqb-true k.protocol q.protocol y.0) (eqb-true k.first q.first z.0) (eqb-true k.second q.second z.1)

pub same_key_self : (k : Key) → same_key k k ≡ true
same_key_self k =
    and_from (same_mask k.mask k.mask) ((k.src == k.src) && ((k.dst == k.dst) && ((k.protocol == k.protocol) && ((k.first == k.first) && (k.second == k.second))))) (same_mask_self k.mask)
    (and_from (k.src == k.src) ((k.dst == k.dst) && ((k.protocol == k.protocol) && ((k.first == k.first) && (k.second == k.second)))) (eq-eqb k.src k.src refl)
    (and_from (k.dst == k.dst) ((k.protocol == k.protocol) && ((k.first == k.first) && (k.second == k.second))) (eq-eqb k.dst k.dst refl)
    (and_from (k.protocol == k.protocol) ((k.first == k.first) && (k.second == k.second)) (eq-eqb k.protocol k.protocol refl)
    (and_from (k.first == k.first) (k.second == k.second) (eq-eqb k.first k.first refl) (eq-eqb k.second k.second refl)))))

pub same_key_turned : (k q : Key) → same_key k q ≡ same_key q k
same_key_turned k q =
    same_truth (same_key k q) (same_key q k) (λ t. ap (λ x. same_key x k) (sym (same_key_is k q t)) ∙ same_key_self k) (λ t. ap (λ x. same_key x q) (sym (same_key_is q k t)) ∙ same_key_self q)

pub last_with_same : (old new : ℕ → Key) (k : Key) (m : ℕ) → ((j : ℕ) → j < m → new j ≡ old j) → last_with old k m ≡ last_with new k m
last_with_same old new k m s = greatest_same (λ j. same_key k (old j)) (λ j. same_key k (new j)) m (λ j l. ap (same_key k) (sym (s j l)))

-- with one place more, the new place is the last of its key, and that of each other key stays
pub one_place_more : (old new : ℕ → Key) (n : ℕ) (key k : Key) (head : Option ℕ) → ((i : ℕ) → i < n → new i ≡ old i) → new n ≡ key → head ≡ last_with old k n →
    cond (same_key key k) (Some n) head ≡ last_with new k (suc n)
one_place_more old new n key k head same is e =
    ap (λ b. cond b (Some n) head) (same_key_turned key k ∙ ap (same_key k) (sym is))
    ∙ ap (λ o. cond (same_key k (new n)) (Some n) o) (e ∙ greatest_same (λ i. same_key k (old i)) (λ i. same_key k (new i)) n (λ i lt. ap (same_key k) (sym (same i lt))))

-- the new place is linked to the last one before it with its key, and each other place stays linked
pub links_more : (old new : ℕ → Key) (n : ℕ) (key : Key) (items now : List (Option ℕ)) (before : Option ℕ) → length items ≡ n → ((i : ℕ) → i < n → new i ≡ old i) → new n ≡ key →
    ((i : ℕ) → i < n → get_or items i None ≡ last_with old (old i) i) → before ≡ last_with old key n → now ≡ items ++ before ∷ [] →
    (i : ℕ) → i < suc n → get_or now i None ≡ last_with new (new i) i
links_more old new n key items now before len same is linked e grown i lt = ⊎_elim
    (λ (lo : i < n). ap (λ l. get_or l i None) grown ∙ (get_or-append items (before ∷ []) None i (omega (arith, lo, len)) ∙ (linked i lo
    ∙ (ap (λ k. last_with old k i) (sym (same i lo)) ∙ last_with_same old new (new i) i (λ j l. same j (omega (arith, l, lo)))))))
    (λ (hi : n ≤ i). let at : i ≡ n = omega (arith, hi, lt) in
    ap (λ l. get_or l i None) grown ∙ (ap (λ k. get_or (items ++ before ∷ []) k None) (at ∙ sym len) ∙ (get_or-append_seam items before [] None
    ∙ (e ∙ (last_with_same old new key n same ∙ (ap (λ k. last_with new k n) (sym is) ∙ ap (λ j. last_with new (new j) j) (sym at)))))))
    (cases_lt i n)
