-- Whether lines reach in, from what is left of each; and tests of the lines of permits, end by end.
use Rattle.std.proofs.Common.{◌≡◌, Bool, true, false, cond, not, ◌&&◌, ◌||◌, List, [], ◌∷◌, refl, sym, ap, subst, ◌∙◌, map, Some, None}
use Rattle.std.specs.Prelude.{unwrap_or, is_some}
use Rattle.std.specs.List.{list_any}
use Rattle.std.proofs.lemmas.List.Folds.{list_any-append}
use Rattle.spoc_base.specs.Address.{Cidr, is_inside}
use Rattle.spoc_base.specs.Boxes.{box_covers}
use Rattle.spoc_base.specs.Shown.{cidr_of, box_of}
use Rattle.spoc_base.specs.declared.address.Prefix.{Prefix}
use Rattle.policy_model.specs.Lists.{pairs_of}
use Rattle.policy_model.specs.Filters.{Line, line_covers}
use Rattle.policy_model.specs.Blocks.{is_empty_line}
use Rattle.policy_model.proofs.Views.{list_any_map}
use Rattle.permit_lines.specs.Pieces.{Cover, permit_line, lines_of_cover}
use Rattle.permit_lines.specs.Seen.{cover_seen, lines_of_covers}
use Rattle.permit_lines.specs.declared.cover.PermitCover.{PermitCover}
use Rattle.closed_pairs.specs.Reaching.{Ends, limited_line, part_of, line_reaches}
use Rattle.closed_pairs.specs.Seen.{line_seen, has_line, permits_line}
use Rattle.closed_pairs.specs.declared.pairs.PermitLine.{PermitLine}

-- ---- what is left of a line

module _ (own : List Line) where
  abbrev covered : Line → Bool
  covered l = list_any (λ m. line_covers m l) own

  whole : (l m : Line) (b : Bool) → cond b None (Some l) ≡ Some m → (not b && not (covered l)) ≡ not (covered m)
  whole l m true e = absurd (subst (λ o. cond (is_some o) ⊥ Unit) e tt)
  whole l m false e = ap (λ o. not (covered (unwrap_or o l))) e

  nothing : (l : Line) (b : Bool) → cond b None (Some l) ≡ None → (not b && not (covered l)) ≡ false
  nothing l true e = refl
  nothing l false e = absurd (subst (λ o. cond (is_some o) Unit ⊥) e tt)

  pub reaches_whole : (ends : Ends) (l : Line) (m : PermitLine) (is : Bool) → Some (line_seen m) ≡ part_of (limited_line ends l) → is ≡ list_any (λ x. line_covers x (line_seen m)) own →
      not is ≡ line_reaches ends own l
  reaches_whole ends l m is e f =
      let part = limited_line ends l in
      ap (λ b. not b) f ∙ sym (whole part (line_seen m) (is_empty_line part) (sym e))

  pub reaches_nothing : (ends : Ends) (l : Line) → None ≡ part_of (limited_line ends l) → false ≡ line_reaches ends own l
  reaches_nothing ends l e = let part = limited_line ends l in sym (nothing part (is_empty_line part) (sym e))

-- ---- tests of lines

alike : {A : Type 0} (f g : A → Bool) → ((x : A) → f x ≡ g x) → (xs : List A) → list_any f xs ≡ list_any g xs
alike f g same [] = refl
alike f g same (x ∷ xs) = (λ i. same x i || alike f g same xs i)

any_pairs : {A B : Type 0} (f : A × B → Bool) (xs : List A) (ys : List B) → list_any f (pairs_of xs ys) ≡ list_any (λ x. list_any (λ y. f (x, y)) ys) xs
any_pairs f [] ys = refl
any_pairs {A} {B} f (x ∷ xs) ys =
    list_any-append f (map (λ (y : B). (x, y)) ys) (pairs_of xs ys)
    ∙ (λ i. list_any_map f (λ (y : B). (x, y)) ys i || any_pairs f xs ys i)

-- the lines of a permit, source by source
any_lines : (f : Line → Bool) (c : Cover) → list_any f (lines_of_cover c) ≡ list_any (λ src. list_any (λ dst. f (permit_line c.box src dst)) c.dsts) c.srcs
any_lines f c =
    list_any_map f (λ (e : Cidr × Cidr). permit_line c.box e.0 e.1) (pairs_of c.srcs c.dsts) ∙ any_pairs (λ (e : Cidr × Cidr). f (permit_line c.box e.0 e.1)) c.srcs c.dsts

any_cover : (f : Line → Bool) (c : PermitCover) → has_line f c ≡ list_any f (lines_of_cover (cover_seen c))
any_cover f c =
    sym
    (any_lines f (cover_seen c)
    ∙ (list_any_map (λ src. list_any (λ dst. f (permit_line (box_of c.t) src dst)) (map cidr_of c.dsts)) cidr_of c.srcs
    ∙ alike (λ (src : Prefix). list_any (λ dst. f (permit_line (box_of c.t) (cidr_of src) dst)) (map cidr_of c.dsts)) (λ (src : Prefix). list_any (λ dst. f (permit_line (box_of c.t) (cidr_of src) (cidr_of dst))) c.dsts)
    (λ src. list_any_map (λ dst. f (permit_line (box_of c.t) (cidr_of src) dst)) cidr_of c.dsts) c.srcs))

-- the lines of some permits, permit by permit
any_covers : (f : Line → Bool) (covers : List PermitCover) → list_any (λ c. list_any f (lines_of_cover (cover_seen c))) covers ≡ list_any f (lines_of_covers covers)
any_covers f [] = refl
any_covers f (c ∷ cs) = ap (λ b. list_any f (lines_of_cover (cover_seen c)) || b) (any_covers f cs) ∙ sym (list_any-append f (lines_of_cover (cover_seen c)) (lines_of_covers cs))

-- ---- lines that permit a part

single : (a b c : Bool) → ((((a || false) && true) && ((b || false) && true)) && c) ≡ (a && (b && c))
single true true c = refl
single true false c = refl
single false b c = refl

grouped : (a b c : Bool) → ((a && b) && c) ≡ (a && (b && c))
grouped true b c = refl
grouped false b c = refl

none_any : {A : Type 0} (xs : List A) → list_any (λ x. false) xs ≡ false
none_any [] = refl
none_any (x ∷ xs) = none_any xs

any_both : {A : Type 0} (f : A → Bool) (c : Bool) (xs : List A) → list_any (λ x. f x && c) xs ≡ (list_any f xs && c)
any_both f c [] = refl
any_both f c (x ∷ xs) = ap (λ b. (f x && c) || b) (any_both f c xs) ∙ by (f x) c (list_any f xs)
  where
    by : (a c b : Bool) → ((a && c) || (b && c)) ≡ ((a || b) && c)
    by true true b = refl
    by true false true = refl
    by true false false = refl
    by false c b = refl

any_each : {B : Type 0} (a : Bool) (g : B → Bool) (c : Bool) (ys : List B) → list_any (λ y. a && (g y && c)) ys ≡ (a && (list_any g ys && c))
any_each true g c ys = any_both g c ys
any_each false g c ys = none_any ys

-- an end each, and the transports
any_product : {A B : Type 0} (f : A → Bool) (g : B → Bool) (c : Bool) (xs : List A) (ys : List B) → list_any (λ x. list_any (λ y. f x && (g y && c)) ys) xs ≡ (list_any f xs && (list_any g ys && c))
any_product {A} {B} f g c xs ys =
    alike (λ (x : A). list_any (λ (y : B). f x && (g y && c)) ys) (λ (x : A). f x && (list_any g ys && c)) (λ x. any_each (f x) g c ys) xs ∙ any_both f (list_any g ys && c) xs

permits_part : (m : PermitLine) (c : PermitCover) → permits_line c m ≡ list_any (λ l. line_covers l (line_seen m)) (lines_of_cover (cover_seen c))
permits_part m c =
    let src : Prefix → Bool = λ (q : Prefix). is_inside (cidr_of m.src) (cidr_of q) in
    let dst : Prefix → Bool = λ (q : Prefix). is_inside (cidr_of m.dst) (cidr_of q) in
    let t = box_covers (box_of c.t) (box_of m.t) in
    let line : Prefix → Prefix → Bool = λ (p q : Prefix). line_covers (permit_line (box_of c.t) (cidr_of p) (cidr_of q)) (line_seen m) in
    grouped (list_any src c.srcs) (list_any dst c.dsts) t
    ∙ (sym (any_product src dst t c.srcs c.dsts)
    ∙ (alike (λ (p : Prefix). list_any (λ (q : Prefix). src p && (dst q && t)) c.dsts) (λ (p : Prefix). list_any (λ (q : Prefix). line p q) c.dsts)
    (λ p. alike (λ (q : Prefix). src p && (dst q && t)) (λ (q : Prefix). line p q) (λ q. sym (single (src p) (dst q) t)) c.dsts) c.srcs
    ∙ any_cover (λ l. line_covers l (line_seen m)) c))

-- one of the lines permits the part
pub one_permits : (m : PermitLine) (own : List PermitCover) → list_any (λ c. permits_line c m) own ≡ list_any (λ l. line_covers l (line_seen m)) (lines_of_covers own)
one_permits m own =
    alike (λ (c : PermitCover). permits_line c m) (λ (c : PermitCover). list_any (λ l. line_covers l (line_seen m)) (lines_of_cover (cover_seen c))) (permits_part m) own
    ∙ any_covers (λ l. line_covers l (line_seen m)) own

-- ---- by the ends of the pair and its own lines

pub reached : (is : Bool) (own : List Line) (lines : List PermitCover) (ends want : Ends) (owns : List Line) → is ≡ list_any (λ c. has_line (line_reaches ends own) c) lines → ends ≡ want → own ≡ owns →
    is ≡ list_any (line_reaches want owns) (lines_of_covers lines)
reached is own lines ends want owns e f g =
    e
    ∙ (alike (λ (c : PermitCover). has_line (line_reaches ends own) c) (λ (c : PermitCover). list_any (line_reaches ends own) (lines_of_cover (cover_seen c))) (any_cover (line_reaches ends own)) lines
    ∙ (any_covers (line_reaches ends own) lines ∙ (λ i. list_any (line_reaches (f i) (g i)) (lines_of_covers lines))))
