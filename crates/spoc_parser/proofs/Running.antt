-- The run of declarations, as a loop gathers it.
use Rattle.std.proofs.Common.{◌≡◌, ◌+◌, arith, ℕ, zero, suc, List, [], ◌∷◌, ◌++◌, Option, Some, None, Ok, length, refl, sym, ap, subst, ◌∙◌}
use Rattle.std.specs.List.{AllZip}
use Rattle.std.proofs.lemmas.List.{length_push}
use Rattle.spoc_lexer.specs.Tokens.{Tok}
use Rattle.spoc_parser.specs.declared.fail.Stop.{Stop}
use Rattle.spoc_parser.specs.declared.fail.Stop.TheVariants.{Unread}
use Rattle.spoc_parser.specs.Readers.{Reader}
use Rattle.spoc_parser.specs.Reading.{read_decl_in}
use Rattle.spoc_parser.specs.Files.{read_run, goes_on}
use Rattle.spoc_parser.specs.Seen.{SoFar, Gives, FailsAs}
use Rattle.spoc_parser.specs.SeenFile.{Ran}
use Rattle.spoc_parser.proofs.Gathering.{one_more, at_end, given, zip_push}

run_stop : {A : Type 0} (read : Reader A) (n : ℕ) (left : List Tok) → read left ≡ None → read_run read n left ≡ Some ([], left)
run_stop read zero left e = refl
run_stop read (suc n) left e = rw e refl

ran : {A X V : Type 0} (R : A → X → Type 0) (items : V → List X) (v : V) (rest : List Tok) (o : Option (List A × List Tok)) → Gives (λ xs w. AllZip R xs (items w)) (Ok v) rest o → Ran R (items v) rest o
ran R items v rest None h = absurd h
ran R items v rest (Some r) h = h

-- a declaration more
pub run_more : {A X : Type 0} (read : Reader A) (R : A → X → Type 0) (found now : List X) (x : X) (all left rest : List Tok) → now ≡ found ++ x ∷ [] → Gives R (Ok x) rest (read left) → SoFar (AllZip R) (read_run read) found (length found) left all → SoFar (AllZip R) (read_run read) now (length now) rest all
run_more read R found now x all left rest pushed h so_far =
    let got = given R x rest (read left) h in
    let size : length now ≡ length found + 1 = ap length pushed ∙ length_push found x in
    one_more (AllZip R) (read_run read) found now (length found) (length now) left rest all got.0 size (λ n. ap (λ o. goes_on o (read_run read n) left) got.2) (λ xs held. subst (AllZip R (xs ++ got.0 ∷ [])) (sym pushed) (zip_push R xs found got.0 x held got.1)) so_far

-- the end, where no declaration is read
pub run_end : {A X V : Type 0} (read : Reader A) (R : A → X → Type 0) (found : List X) (v : V) (items : V → List X) (all left : List Tok) (n : ℕ) → items v ≡ found → read left ≡ None → n + length found ≡ length all → SoFar (AllZip R) (read_run read) found (length found) left all → Ran R (items v) left (read_run read (length all) all)
run_end read R found v items all left n is none count so_far =
    ran R items v left _ (at_end (AllZip R) items (read_run read) v (length found) n left left all count (run_stop read n left none) (subst (λ ys. SoFar (AllZip R) (read_run read) ys (length found) left all) (sym is) so_far))

pub fails_none : {A : Type 0} (e : Stop) (o : Option A) → e ≡ Unread → FailsAs e o → o ≡ None
fails_none {A = A} e o is h = by o (subst (λ x. FailsAs x o) is h)
  where
    by : (o : Option A) → FailsAs Unread o → o ≡ None
    by None h = refl
    by (Some r) h = absurd h

pub empty_none : (depth : ℕ) (left : List Tok) → length left ≡ 0 → read_decl_in depth left ≡ None
empty_none depth [] h = refl
empty_none depth (t ∷ left) h = absurd (omega (arith, h))
