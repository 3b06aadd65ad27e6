-- What is asked of the names in a set, by the slices of its nodes.
use Rattle.std.proofs.Common.{◌≡◌, ◌∙◌, refl, sym, ap, Bool, true, false, ◌||◌, List, [], ◌∷◌, map, flat_map}
use Rattle.std.specs.List.{list_any}
use Rattle.std.proofs.lemmas.List.Folds.{list_any-append}
use Rattle.spoc_ast.specs.Written.{SetText, DeclText, Joining, Keeping, Leaving, NoParts}
use Rattle.spoc_ast.specs.declared.set.SetTree.{SetTree, out-SetTree}
use Rattle.spoc_ast.specs.declared.set.InterTree.{InterTree, out-InterTree}
use Rattle.spoc_ast.specs.declared.set.FurtherTree.{FurtherTree}
use Rattle.spoc_ast.specs.Seen.{set_seen, inter_seen, term_seen, joined, narrowed, narrowing}
use Rattle.spoc_ast.proofs.Rows.{sets, parts}
use Rattle.policy_decls.specs.Shapes.{is_unaligned, asked_in, says_user, is_bare_port, ports_in, ask_unaligned, name_bare_port}
use Rattle.policy_shapes.specs.Sets.{asks_unaligned, names_bare}

-- a test of sets that holds of a set where it holds of a part
module _ (test : SetText → Bool) (none : test NoParts ≡ false) (joining : (e f : SetText) → test (Joining e f) ≡ (test e || test f))
    (keeping : (e f : SetText) → test (Keeping e f) ≡ (test e || test f)) (leaving : (e f : SetText) → test (Leaving e f) ≡ (test e || test f)) where
  pub test_joined : (es : List SetText) → test (joined es) ≡ list_any test es
  test_joined [] = none
  test_joined (e ∷ es) = joining e (joined es) ∙ ap (λ b. test e || b) (test_joined es)

  test_narrowing : (without : Bool) (e f : SetText) → test (narrowing without e f) ≡ (test e || test f)
  test_narrowing true e f = leaving e f
  test_narrowing false e f = keeping e f

  or_assoc : (a b c : Bool) → ((a || b) || c) ≡ (a || (b || c))
  or_assoc true b c = refl
  or_assoc false b c = refl

  or_false : (a : Bool) → a ≡ (a || false)
  or_false true = refl
  or_false false = refl

  test_narrowed : (e : SetText) (fs : List FurtherTree) → test (narrowed e fs) ≡ (test e || list_any (λ f. test (term_seen f.term)) fs)
  test_narrowed e [] = or_false (test e)
  test_narrowed e (f ∷ fs) =
      test_narrowed (narrowing f.without e (term_seen f.term)) fs ∙ ap (λ b. b || list_any (λ f. test (term_seen f.term)) fs) (test_narrowing f.without e (term_seen f.term))
      ∙ or_assoc (test e) (test (term_seen f.term)) (list_any (λ f. test (term_seen f.term)) fs)

  pub test_set : (set : SetTree) → test (set_seen set) ≡ list_any test (map inter_seen (out-SetTree set).inters.now)
  test_set set = ap test (sets set) ∙ test_joined (map inter_seen (out-SetTree set).inters.now)

  pub test_part : (part : InterTree) → test (inter_seen part) ≡ (test (term_seen (out-InterTree part).first) || list_any (λ f. test (term_seen f.term)) (out-InterTree part).rest.now)
  test_part part = ap test (parts part) ∙ test_narrowed (term_seen (out-InterTree part).first) (out-InterTree part).rest.now

asks_both : (e f : SetText) → list_any is_unaligned (asked_in (Joining e f)) ≡ (asks_unaligned e || asks_unaligned f)
asks_both e f = list_any-append is_unaligned (asked_in e) (asked_in f)

pub asks_set : (set : SetTree) → asks_unaligned (set_seen set) ≡ list_any asks_unaligned (map inter_seen (out-SetTree set).inters.now)
asks_set set = test_set asks_unaligned refl asks_both asks_both asks_both set

pub asks_part : (part : InterTree) → asks_unaligned (inter_seen part) ≡ (asks_unaligned (term_seen (out-InterTree part).first) || list_any (λ f. asks_unaligned (term_seen f.term)) (out-InterTree part).rest.now)
asks_part part = test_part asks_unaligned refl asks_both asks_both asks_both part

pub users_set : (set : SetTree) → says_user (set_seen set) ≡ list_any says_user (map inter_seen (out-SetTree set).inters.now)
users_set set = test_set says_user refl (λ e f. refl) (λ e f. refl) (λ e f. refl) set

pub users_part : (part : InterTree) → says_user (inter_seen part) ≡ (says_user (term_seen (out-InterTree part).first) || list_any (λ f. says_user (term_seen f.term)) (out-InterTree part).rest.now)
users_part part = test_part says_user refl (λ e f. refl) (λ e f. refl) (λ e f. refl) part

bares_both : (decls : List DeclText) (e f : SetText) → list_any (is_bare_port decls) (ports_in (Joining e f)) ≡ (names_bare decls e || names_bare decls f)
bares_both decls e f = list_any-append (is_bare_port decls) (ports_in e) (ports_in f)

pub bares_set : (decls : List DeclText) (set : SetTree) → names_bare decls (set_seen set) ≡ list_any (names_bare decls) (map inter_seen (out-SetTree set).inters.now)
bares_set decls set = test_set (names_bare decls) refl (bares_both decls) (bares_both decls) (bares_both decls) set

pub bares_part : (decls : List DeclText) (part : InterTree) → names_bare decls (inter_seen part) ≡ (names_bare decls (term_seen (out-InterTree part).first) || list_any (λ f. names_bare decls (term_seen f.term)) (out-InterTree part).rest.now)
bares_part decls part = test_part (names_bare decls) refl (bares_both decls) (bares_both decls) (bares_both decls) part

-- ---- some sets together

any_flat : {A B : Type 0} (test : B → Bool) (f : A → List B) (xs : List A) → list_any test (flat_map f xs) ≡ list_any (λ x. list_any test (f x)) xs
any_flat test f [] = refl
any_flat test f (x ∷ xs) = list_any-append test (f x) (flat_map f xs) ∙ ap (λ b. list_any test (f x) || b) (any_flat test f xs)

pub ask_all : (sets : List SetText) → ask_unaligned sets ≡ list_any asks_unaligned sets
ask_all sets = any_flat is_unaligned asked_in sets

pub name_all : (decls : List DeclText) (sets : List SetText) → name_bare_port decls sets ≡ list_any (names_bare decls) sets
name_all decls sets = any_flat (is_bare_port decls) ports_in sets

pub ask_rest : (user : SetText) (sets : List SetText) (b rest : Bool) → b ≡ asks_unaligned user → b ≡ false → rest ≡ list_any asks_unaligned sets → rest ≡ ask_unaligned (user ∷ sets)
ask_rest user sets b rest e f r = r ∙ ap (λ x. x || list_any asks_unaligned sets) (sym f ∙ e) ∙ sym (ask_all (user ∷ sets))

pub name_rest : (decls : List DeclText) (user : SetText) (sets : List SetText) (b rest : Bool) → b ≡ names_bare decls user → b ≡ false → rest ≡ list_any (names_bare decls) sets → rest ≡ name_bare_port decls (user ∷ sets)
name_rest decls user sets b rest e f r = r ∙ ap (λ x. x || list_any (names_bare decls) sets) (sym f ∙ e) ∙ sym (name_all decls (user ∷ sets))
