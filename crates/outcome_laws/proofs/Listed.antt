-- The lists that are written for interfaces of managed routers are the policy's own, shortened, and decide alike.
use Rattle.std.proofs.Common.{◌≡◌, ℕ, ◌<◌, inl, inr, true, cond, List, [], ◌∷◌, length, map, refl, ap, ◌∙◌, arith}
use Rattle.std.specs.Prelude.{slice_index_or}
use Rattle.std.proofs.lemmas.List.FromFn.{get_or-map-range_with_len}
use Rattle.policy_model.specs.Policy.{router_at, is_managed}
use Rattle.policy_model.specs.Tags.{ifaces_of}
use Rattle.policy_model.specs.Filters.{Line}
use Rattle.policy_model.specs.Blocks.{list_at, is_grouped_at}
use Rattle.policy_model.specs.Laws.{PassAlike}
use Rattle.policy_model.specs.Headline.{Meaning, permits_in}
use Rattle.policy_model.proofs.AllWalks.{IsIn}
use Rattle.policy_laws.specs.Secured.{AreSecured}
use Rattle.config_laws.proofs.Written.{lines_alike}
use Rattle.policy_laws.proofs.InnerViews.{of_router}
use Rattle.policy_outcome.specs.Files.{as_written, config_for}
use Rattle.policy_outcome.specs.Outcome.{list_for, lists_for}

mapped_alike : {A B : Type 0} (f g : A → B) (xs : List A) → ((x : A) → IsIn x xs → f x ≡ g x) → map f xs ≡ map g xs
mapped_alike f g [] alike = refl
mapped_alike f g (x ∷ xs) alike = ap (λ y. y ∷ map f xs) (alike x (inl refl)) ∙ ap (λ ys. g x ∷ ys) (mapped_alike f g xs (λ y h. alike y (inr h)))

module _ (m : Meaning) where
  -- the policy's own list at an interface
  abbrev pub own_list : ℕ → List Line
  own_list i = list_at m.site m.views (permits_in m) i

  pub list_written : (i : ℕ) → i < length m.site.policy.ifaces → is_managed m.site.policy (router_at m.site.policy i) ≡ true → slice_index_or (lists_for m) i [] ≡ own_list i
  list_written i below managed = get_or-map-range_with_len (list_for m) 0 (length m.site.policy.ifaces) i i [] below (omega arith) ∙ ap (λ b. cond b (own_list i) []) managed

  -- that list as it is written
  abbrev pub own_written : ℕ → List Line
  own_written i = as_written m.site.policy i (own_list i)

  pub lists_written : (r : ℕ) → is_managed m.site.policy r ≡ true → (config_for m.site.policy (lists_for m) r).lists ≡ map own_written (ifaces_of m.site.policy r)
  lists_written r managed =
      mapped_alike (λ i. as_written m.site.policy i (slice_index_or (lists_for m) i [])) own_written (ifaces_of m.site.policy r)
      (λ i there. let of = of_router m.site.policy r i there in ap (as_written m.site.policy i) (list_written i of.below (ap (is_managed m.site.policy) of.its ∙ managed)))

  -- it decides each header as the policy's own list does
  pub written_decide : AreSecured m.site m.views (permits_in m) → (i : ℕ) → i < length m.site.policy.ifaces → PassAlike (own_list i) (own_written i)
  written_decide ok i below = lines_alike m ok i below (is_grouped_at m.site.policy i)
