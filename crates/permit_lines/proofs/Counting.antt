-- How many lines a permit has.
use Rattle.std.proofs.Common.{◌≡◌, ℕ, ◌+◌, ◌*◌, List, [], ◌∷◌, length, map, sym, ap, ◌∙◌, arith, length-append}
use Rattle.std.proofs.Math.Nat.{suc-mul, zero-mul}
use Rattle.std.proofs.lemmas.List.{length-map}
use Rattle.spoc_base.specs.Address.{Cidr}
use Rattle.spoc_base.specs.Shown.{cidr_of}
use Rattle.spoc_base.specs.declared.address.Prefix.{Prefix}
use Rattle.policy_model.specs.Lists.{pairs_of}
use Rattle.permit_lines.specs.Pieces.{permit_line, lines_of_cover}
use Rattle.permit_lines.specs.Seen.{cover_seen}
use Rattle.permit_lines.specs.declared.cover.PermitCover.{PermitCover}

exchanged : (a b : ℕ) → a + b ≡ b + a
exchanged a b = omega arith

length_pairs : {A B : Type 0} (xs : List A) (ys : List B) → length (pairs_of xs ys) ≡ length xs * length ys
length_pairs [] ys = sym (zero-mul (length ys))
length_pairs {A} {B} (x ∷ xs) ys =
    let row : List (A × B) = map (λ (y : B). (x, y)) ys in
    length-append row (pairs_of xs ys)
    ∙ (ap (λ n. n + length (pairs_of xs ys)) (length-map ys (λ (y : B). (x, y)))
    ∙ (ap (λ n. length ys + n) (length_pairs xs ys) ∙ (exchanged (length ys) (length xs * length ys) ∙ sym (suc-mul (length xs) (length ys)))))

-- one for each source and each destination
pub line_count : (c : PermitCover) (srcs dsts : List Prefix) → srcs ≡ c.srcs → dsts ≡ c.dsts → length srcs * length dsts ≡ length (lines_of_cover (cover_seen c))
line_count c srcs dsts e f =
    let all = pairs_of (map cidr_of c.srcs) (map cidr_of c.dsts) in
    (λ i. length (e i) * length (f i))
    ∙ ((λ i. sym (length-map c.srcs cidr_of) i * sym (length-map c.dsts cidr_of) i)
    ∙ (sym (length_pairs (map cidr_of c.srcs) (map cidr_of c.dsts)) ∙ sym (length-map all (λ (e : Cidr × Cidr). permit_line (cover_seen c).box e.0 e.1))))
