-- The names in a set, by the slices of its nodes.
use Rattle.std.proofs.Common.{◌≡◌, ◌∙◌, refl, sym, ap, Bool, true, false, List, [], ◌∷◌, ◌++◌, map, flat_map, append_assoc, append-nil}
use Rattle.spoc_ast.specs.Written.{SetText}
use Rattle.spoc_ast.specs.declared.set.SetTree.{SetTree, out-SetTree}
use Rattle.spoc_ast.specs.declared.set.InterTree.{InterTree, out-InterTree}
use Rattle.spoc_ast.specs.declared.set.FurtherTree.{FurtherTree}
use Rattle.spoc_ast.specs.Seen.{set_seen, inter_seen, term_seen, joined, narrowed, narrowing}
use Rattle.spoc_ast.proofs.Rows.{sets, parts}
use Rattle.policy_decls.specs.Names.{Mention}
use Rattle.policy_decls.specs.Uses.{uses_in_set}

-- the names in further terms
abbrev pub uses_further : FurtherTree → List Mention
uses_further f = uses_in_set (term_seen f.term)

narrowing_uses : (without : Bool) (e f : SetText) → uses_in_set (narrowing without e f) ≡ uses_in_set e ++ uses_in_set f
narrowing_uses true e f = refl
narrowing_uses false e f = refl

narrowed_uses : (e : SetText) (fs : List FurtherTree) → uses_in_set (narrowed e fs) ≡ uses_in_set e ++ flat_map uses_further fs
narrowed_uses e [] = sym (append-nil (uses_in_set e))
narrowed_uses e (f ∷ fs) =
    narrowed_uses (narrowing f.without e (term_seen f.term)) fs ∙ ap (λ l. l ++ flat_map uses_further fs) (narrowing_uses f.without e (term_seen f.term))
    ∙ append_assoc (uses_in_set e) (uses_further f) (flat_map uses_further fs)

pub uses_of_set : (set : SetTree) → uses_in_set (set_seen set) ≡ uses_in_set (joined (map inter_seen (out-SetTree set).inters.now))
uses_of_set set = ap uses_in_set (sets set)

pub uses_of_part : (part : InterTree) → uses_in_set (inter_seen part) ≡ uses_in_set (term_seen (out-InterTree part).first) ++ flat_map uses_further (out-InterTree part).rest.now
uses_of_part part = ap uses_in_set (parts part) ∙ narrowed_uses (term_seen (out-InterTree part).first) (out-InterTree part).rest.now

-- a list that has grown by a part's first term, and the further ones to come
pub after_first : (old now : List Mention) (part : InterTree) → now ≡ old ++ uses_in_set (term_seen (out-InterTree part).first) → now ++ flat_map uses_further (out-InterTree part).rest.now ≡ old ++ uses_in_set (inter_seen part)
after_first old now part e =
    ap (λ l. l ++ flat_map uses_further (out-InterTree part).rest.now) e ∙ append_assoc old (uses_in_set (term_seen (out-InterTree part).first)) (flat_map uses_further (out-InterTree part).rest.now)
    ∙ ap (λ l. old ++ l) (sym (uses_of_part part))
