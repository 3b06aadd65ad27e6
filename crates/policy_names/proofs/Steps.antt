-- A walk over names in memory, by what has been seen of them.
use Rattle.std.proofs.Common.{◌≡◌, ◌∙◌, refl, sym, ap, subst, ℕ, ◌+◌, ◌<◌, Bool, true, false, not, List, [], ◌∷◌, ◌++◌, length, map, take, get_or, Some, option_map, below_more}
use Rattle.std.specs.List.{list_any}
use Rattle.std.proofs.lemmas.List.{take_more, map-append, take-map, length-map}
use Rattle.std.proofs.lemmas.Option.{slice_get-map, slice_get-get_or}
use Rattle.policy_decls.specs.Names.{same_name, is_again}
use Rattle.policy_names.specs.declared.mention.Mention.{Mention}
use Rattle.policy_names.specs.Seen.{mention_seen}
use Rattle.policy_names.specs.Tables.{Key, AreTables, twice_among}
use Rattle.policy_names.proofs.Twice.{again_at, first_twice}

module _ (names : List Mention) (i : ℕ) (d : Mention) (within : i < length names) where
  again_here : is_again (map mention_seen names) i ≡ list_any (same_name (mention_seen (get_or names i d))) (map mention_seen (take i names))
  again_here =
      again_at (map mention_seen names) i (mention_seen (get_or names i d)) (slice_get-map mention_seen names i ∙ ap (option_map mention_seen) (slice_get-get_or names i d within))
      ∙ ap (list_any (same_name (mention_seen (get_or names i d)))) (take-map mention_seen i names)

  pub seen_more : map mention_seen (take i names) ++ mention_seen (get_or names i d) ∷ [] ≡ map mention_seen (take (i + 1) names)
  seen_more = sym (ap (map mention_seen) (take_more names i d within) ∙ map-append mention_seen (take i names) (get_or names i d ∷ []))

  module _ (new : Bool) (added : new ≡ not (list_any (same_name (mention_seen (get_or names i d))) (map mention_seen (take i names)))) where
    pub twice_here : new ≡ false → ((k : ℕ) → k < i → is_again (map mention_seen names) k ≡ false) → twice_among (map mention_seen names) ≡ Some (get_or names i d).shown
    twice_here e h =
        first_twice (map mention_seen names) i (mention_seen (get_or names i d)) (simp length-map within)
        (slice_get-map mention_seen names i ∙ ap (option_map mention_seen) (slice_get-get_or names i d within)) h (again_here ∙ flip (list_any (same_name (mention_seen (get_or names i d))) (map mention_seen (take i names))) (sym added ∙ e))
      where
        flip : (b : Bool) → not b ≡ false → b ≡ true
        flip true e = refl
        flip false e = sym e

    pub new_here : new ≡ true → ((k : ℕ) → k < i → is_again (map mention_seen names) k ≡ false) → (k : ℕ) → k < i + 1 → is_again (map mention_seen names) k ≡ false
    new_here e h = below_more (λ k. is_again (map mention_seen names) k ≡ false) i h (again_here ∙ flip (list_any (same_name (mention_seen (get_or names i d))) (map mention_seen (take i names))) (sym added ∙ e))
      where
        flip : (b : Bool) → not b ≡ true → b ≡ false
        flip true e = sym e
        flip false e = refl

  pub kept_here : (rows : List (List Key)) (texts : List Key) → AreTables (map mention_seen (take i names) ++ mention_seen (get_or names i d) ∷ []) rows texts → AreTables (map mention_seen (take (i + 1) names)) rows texts
  kept_here rows texts h = subst (λ l. AreTables l rows texts) seen_more h
