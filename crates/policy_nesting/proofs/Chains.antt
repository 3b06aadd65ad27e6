-- Nodes of which each names the next.
use Rattle.std.proofs.Common.{arith, ◌≡◌, ◌∙◌, refl, ap, ℕ, zero, suc, ◌+◌, ◌<◌, Bool, true, false, ◌||◌, eqb, nat_lt, List, [], length, map, replicate}
use Rattle.std.specs.List.{list_any}
use Rattle.std.proofs.lemmas.List.{length-map, get_or-map, length-replicate, get_or-replicate}
use Rattle.policy_nesting.specs.Graph.{row_at, leads, chains, AreNodes, flag_at, AreChains}
use Rattle.policy_nesting.proofs.Testing.{either, same_number, below, any_then, any_same}

module _ (rows : List (List ℕ)) where
  pub chains_less : (n a : ℕ) → chains rows (suc n) a ≡ true → chains rows n a ≡ true
  chains_less zero a e = refl
  chains_less (suc zero) a e = refl
  chains_less (suc (suc n)) a e = any_then (chains rows (suc (suc n))) (chains rows (suc n)) (λ k d. chains_less (suc n) k d) (row_at rows a) e

  -- a node that leads to the first of a chain begins one that is longer
  to_chain : (n m a b : ℕ) → leads rows n a b ≡ true → chains rows (suc m) b ≡ true → chains rows (suc (suc m)) a ≡ true
  to_chain zero m a b e h = absurd (cc)
  to_chain (suc n) m a b e h =
      any_then (λ k. eqb k b || leads rows n k b) (chains rows (suc m))
      (λ k d. either (eqb k b) (leads rows n k b) d (λ same. ap (chains rows (suc m)) (same_number k b same) ∙ h) (λ on. chains_less (suc m) k (to_chain n m k b on h))) (row_at rows a) e

  pub circle_chains : (n a : ℕ) → leads rows n a a ≡ true → (m : ℕ) → chains rows m a ≡ true
  circle_chains n a e zero = refl
  circle_chains n a e (suc zero) = refl
  circle_chains n a e (suc (suc m)) = to_chain n m a a e (circle_chains n a e (suc m))

  pub first_chains : AreChains rows 1 (replicate (length rows) true)
  first_chains = record { long = length-replicate (length rows) true; each = λ k l. get_or-replicate (length rows) k true false l }

  longer_by_one : (n : ℕ) (flags : List Bool) → AreNodes rows → AreChains rows (suc n) flags → AreChains rows (suc (suc n)) (map (list_any (flag_at flags)) rows)
  longer_by_one n flags nodes h =
      record {
        long = length-map rows (list_any (flag_at flags));
        each = λ k l.
            get_or-map (list_any (flag_at flags)) rows k [] false l
            ∙ any_same (flag_at flags) (chains rows (suc n)) (λ j. nat_lt j (length rows)) (λ j e. h.each j (below j (length rows) e)) (row_at rows k) (nodes k);
      }

  pub longer_chains : (n : ℕ) (flags next : List Bool) → AreNodes rows → 0 < n → AreChains rows n flags → next ≡ map (list_any (flag_at flags)) rows → AreChains rows (n + 1) next
  longer_chains zero flags next nodes l h e = absurd (omega arith)
  longer_chains (suc n) flags next nodes l h e = let same : suc n + 1 ≡ suc (suc n) = omega arith in rw (e, same) (longer_by_one n flags nodes h)
