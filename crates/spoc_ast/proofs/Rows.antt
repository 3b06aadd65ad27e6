-- Rows of parts of a set, as lists.
use Rattle.std.specs.Prelude.{◌≡◌, refl, map}
use Rattle.std.proofs.Common.{ap, sym, ◌∙◌}
use Rattle.spoc_ast.specs.declared.set.SetTree.{SetTree, SetTree', out-SetTree, outs-SetTree', Row_of-InterTree, end_of-InterTree, more_of-InterTree, items-the_row-InterTree, items_shown-the_row-InterTree-1}
use Rattle.spoc_ast.specs.declared.set.InterTree.{InterTree, InterTree', out-InterTree, outs-InterTree', Row_of-FurtherTree, end_of-FurtherTree, more_of-FurtherTree, items-the_row-FurtherTree, items_shown-the_row-FurtherTree-0}
use Rattle.spoc_ast.specs.Written.{SetText, Joining}
use Rattle.spoc_ast.specs.Seen.{set_seen, inter_seen, term_seen, joined, joined_row, narrowed, narrowed_row, narrowing}

rows : {n : _} (row : Row_of-InterTree n) → joined_row row ≡ joined (map inter_seen (items-the_row-InterTree n row))
rows end_of-InterTree = refl
rows (more_of-InterTree inter inters) = ap (λ e. Joining (inter_seen inter) e) (rows inters)

pub sets : (set : SetTree) → set_seen set ≡ joined (map inter_seen (out-SetTree set).inters.now)
sets (SetTree' p shape inters) = rows inters ∙ sym (ap (λ x. joined (map inter_seen x.inters.now)) (outs-SetTree' p shape inters) ∙ ap (λ l. joined (map inter_seen l)) (items_shown-the_row-InterTree-1 shape inters))

further : {n : _} (row : Row_of-FurtherTree n) (e : SetText) → narrowed_row e row ≡ narrowed e (items-the_row-FurtherTree n row)
further end_of-FurtherTree e = refl
further (more_of-FurtherTree without term rest) e = further rest (narrowing without e (term_seen term))

pub parts : (part : InterTree) → inter_seen part ≡ narrowed (term_seen (out-InterTree part).first) (out-InterTree part).rest.now
parts (InterTree' first p shape rest) = further rest (term_seen first) ∙ sym (ap (λ x. narrowed (term_seen x.first) x.rest.now) (outs-InterTree' first p shape rest) ∙ ap (λ l. narrowed (term_seen first) l) (items_shown-the_row-FurtherTree-0 shape rest))
