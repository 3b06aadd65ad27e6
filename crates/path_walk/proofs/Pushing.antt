-- The vectors of a search as the path and the branches that they show.
use Rattle.std.proofs.Common.{◌≡◌, ℕ, List, [], ◌∷◌, ◌++◌, length, map, take, reverse, sym, ap, ◌∙◌}
use Rattle.std.proofs.lemmas.List.{append_assoc, map-append, take-map, reverse-append}
use Rattle.policy_model.specs.Paths as plain
use Rattle.path_walk.specs.Search as search
use Rattle.path_walk.specs.Seen.{step_seen, path_seen}
use Rattle.path_walk.specs.Stack.{branch_seen, open_seen}
use Rattle.path_walk.specs.declared.step.Step.{Step}
use Rattle.path_walk.specs.declared.search.Branch.{Branch}

pub followed : (old cut new : List Step) (b : Branch) → cut ≡ take b.depth old → new ≡ cut ++ b.crossing ∷ [] → path_seen new ≡ search.branched (path_seen old) (branch_seen b)
followed old cut new b e f =
    ap path_seen (f ∙ ap (λ (l : List Step). l ++ b.crossing ∷ []) e) ∙ (map-append step_seen (take b.depth old) (b.crossing ∷ [])
    ∙ ap (λ (l : List plain.Crossing). l ++ step_seen b.crossing ∷ []) (sym (take-map step_seen b.depth old)))

pub pushed : (old new : List Branch) (b : Branch) → new ≡ old ++ b ∷ [] → open_seen new ≡ branch_seen b ∷ open_seen old
pushed old new b e = ap open_seen e ∙ (ap reverse (map-append branch_seen old (b ∷ [])) ∙ reverse-append (map branch_seen old) (branch_seen b ∷ []))

abbrev pub branch_at : ℕ → plain.Crossing → search.Branch
branch_at depth c = record { depth = depth; crossing = c }

-- crossings that are still to be opened, before the branches that are open
abbrev pub with_rest : ℕ → List Step → List Branch → List search.Branch
with_rest depth crossings branches = map (branch_at depth) (path_seen crossings) ++ open_seen branches

pub opened_one : (depth : ℕ) (crossings rest : List Step) (c : Step) (branches new : List Branch) → crossings ≡ rest ++ c ∷ [] → new ≡ branches ++ record { depth = depth; crossing = c } ∷ [] →
    with_rest depth rest new ≡ with_rest depth crossings branches
opened_one depth crossings rest c branches new e f =
    ap (λ l. map (branch_at depth) (path_seen rest) ++ l) (pushed branches new (record { depth = depth; crossing = c }) f)
    ∙ (sym (append_assoc (map (branch_at depth) (path_seen rest)) (branch_at depth (step_seen c) ∷ []) (open_seen branches))
    ∙ ap (λ l. l ++ open_seen branches) (sym (ap (λ l. map (branch_at depth) l) (ap path_seen e ∙ map-append step_seen rest (c ∷ [])) ∙ map-append (branch_at depth) (path_seen rest) (step_seen c ∷ []))))

pub record IsOpening (depth : ℕ) (old path : List Step) (all crossings : List Step) (open_before branches : List Branch) : Type 0 where
  pub same : path ≡ old
  pub deep : depth ≡ length old
  pub rest : with_rest depth crossings branches ≡ with_rest depth all open_before
