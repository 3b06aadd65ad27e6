-- The lines of a permit, source by source; and lines that are refused since the list would have too many.
use Rattle.std.proofs.Common.{◌≡◌, ℕ, ◌+◌, ◌-◌, ◌<◌, ◌≤◌, length, List, [], ◌∷◌, ◌++◌, map, drop, get_or, refl, sym, ap, subst, ◌∙◌, arith, drop-cons, add-one}
use Rattle.std.specs.Prelude.{flat_map, Result, Ok, Err, IfErr}
use Rattle.std.proofs.lemmas.List.{length-map, length-append}
use Rattle.spoc_base.specs.Address.{Cidr}
use Rattle.spoc_base.specs.Shown.{cidr_of, box_of}
use Rattle.spoc_base.specs.declared.address.Prefix.{Prefix}
use Rattle.spoc_base.specs.declared.fault.Refusal.{Refusal}
use Rattle.spoc_base.specs.declared.fault.Refusal.TheVariants as refusal
use Rattle.policy_model.specs.Lists.{pairs_of}
use Rattle.policy_model.specs.Filters as filters
use Rattle.dev_config.specs.Seen.{line_of}
use Rattle.dev_config.specs.declared.setup.Line.{Line}
use Rattle.permit_lines.specs.Pieces.{Cover, permit_line, lines_of_cover}
use Rattle.permit_lines.specs.Seen.{cover_seen}
use Rattle.permit_lines.specs.declared.cover.PermitCover.{PermitCover}
use Rattle.acl_build.specs.Pieces.{lines_from}
use Rattle.acl_build.specs.Seen.{GrowsBy}
use Rattle.acl_build.specs.Limit.{RefusesLines}

-- ---- lists in pieces

map_append : {A B : Type 0} (f : A → B) (xs ys : List A) → map f (xs ++ ys) ≡ map f xs ++ map f ys
map_append f [] ys = refl
map_append f (x ∷ xs) ys = ap (λ zs. f x ∷ zs) (map_append f xs ys)

map_row : {A B C : Type 0} (f : A × B → C) (x : A) (ys : List B) → map f (map (λ y. (x, y)) ys) ≡ map (λ y. f (x, y)) ys
map_row f x [] = refl
map_row f x (y ∷ ys) = ap (λ zs. f (x, y) ∷ zs) (map_row f x ys)

-- what a function makes of all pairs, row by row
map_pairs : {A B C : Type 0} (f : A × B → C) (xs : List A) (ys : List B) → map f (pairs_of xs ys) ≡ flat_map (λ x. map (λ y. f (x, y)) ys) xs
map_pairs f [] ys = refl
map_pairs {A} {B} f (x ∷ xs) ys =
    map_append f (map (λ (y : B). (x, y)) ys) (pairs_of xs ys)
    ∙ (ap (λ zs. zs ++ map f (pairs_of xs ys)) (map_row f x ys) ∙ ap (λ zs. map (λ (y : B). f (x, y)) ys ++ zs) (map_pairs f xs ys))

-- the lines of a permit, source by source
pub cover_rows : (c : Cover) → flat_map (lines_from c.box c.dsts) c.srcs ≡ lines_of_cover c
cover_rows c = sym (map_pairs (λ (e : Cidr × Cidr). permit_line c.box e.0 e.1) c.srcs c.dsts)

pub cover_grows : (c : PermitCover) (srcs dsts : List Prefix) (old new : List Line) → srcs ≡ c.srcs → dsts ≡ c.dsts → GrowsBy (flat_map (lines_from (box_of c.t) (map cidr_of dsts)) (map cidr_of srcs)) old new →
    GrowsBy (lines_of_cover (cover_seen c)) old new
cover_grows c srcs dsts old new e f g =
    subst (λ ls. GrowsBy ls old new) ((λ i. flat_map (lines_from (box_of c.t) (map cidr_of (f i))) (map cidr_of (e i))) ∙ cover_rows (cover_seen c)) g

-- ---- how many lines

pub grown_length : (added : List filters.Line) (before now : List Line) → GrowsBy added before now → length now ≡ length before + length added
grown_length added before now g =
    let a = length-map now line_of in
    let b = length-map before line_of in
    let e = ap length g in
    let f = length-append (map line_of before) added in
    omega (arith, a, b, e, f)

pub over_more : (most a b : ℕ) (r : Refusal) → RefusesLines most a r → a ≤ b → RefusesLines most b r
over_more most a b (refusal.Policy f) h le = let over = h.1 in (h.0, omega (arith, over, le))
over_more most a b refusal.Memory h le = tt

-- what is refused with the next item's lines is refused with those of all items
pub over_later : {A : Type 0} (F : A → List filters.Line) (most : ℕ) (items left rest : List A) (x : A) (old cur : List Line) (r : Refusal) →
    map line_of cur ++ flat_map F left ≡ map line_of old ++ flat_map F items → left ≡ x ∷ rest → RefusesLines most (length cur + length (F x)) r →
    RefusesLines most (length old + length (flat_map F items)) r
over_later {A} F most items left rest x old cur r so_far is h =
    let a = length-map cur line_of in
    let b = length-map old line_of in
    let e = ap length so_far in
    let f = length-append (map line_of cur) (flat_map F left) in
    let g = length-append (map line_of old) (flat_map F items) in
    let i = ap (λ (xs : List A). length (flat_map F xs)) is in
    let k = length-append (F x) (flat_map F rest) in
    over_more most (length cur + length (F x)) (length old + length (flat_map F items)) r h (omega (arith, a, b, e, f, g, i, k))

-- what is refused with the second lines is refused with the first and the second
pub over_second : (most : ℕ) (first second : List filters.Line) (old mid : List Line) (r : Refusal) → GrowsBy first old mid → RefusesLines most (length mid + length second) r →
    RefusesLines most (length old + length (first ++ second)) r
over_second most first second old mid r g h =
    let a = grown_length first old mid g in
    let b = length-append first second in
    over_more most (length mid + length second) (length old + length (first ++ second)) r h (omega (arith, a, b))

-- what is refused with the first lines is refused with the first and the second
pub over_first : (most : ℕ) (first second : List filters.Line) (old : List Line) (r : Refusal) → RefusesLines most (length old + length first) r → RefusesLines most (length old + length (first ++ second)) r
over_first most first second old r h =
    let b = length-append first second in
    over_more most (length old + length first) (length old + length (first ++ second)) r h (omega (arith, b))

-- ---- what is left

pub less_left : (lines : List Line) (whole : List filters.Line) (left : ℕ) → map line_of lines ≡ whole → length lines ≤ left → (left - length lines) + length whole ≡ left
less_left lines whole left is within = let a = length-map lines line_of in let e = ap length is in omega (arith, a, e, within)

-- the items from a place on are the one there and those behind it
pub items_from : {A : Type 0} (xs : List A) (i : ℕ) (d : A) → i < length xs → drop i xs ≡ get_or xs i d ∷ drop (i + 1) xs
items_from xs i d below = drop-cons xs i d below ∙ ap (λ j. get_or xs i d ∷ drop j xs) (sym (add-one i))

pub second_refused : {A : Type 0} (most : ℕ) (first second : List filters.Line) (old mid : List Line) (r : Result A Refusal) → GrowsBy first old mid → IfErr r (RefusesLines most (length mid + length second)) →
    IfErr r (RefusesLines most (length old + length (first ++ second)))
second_refused most first second old mid (Ok x) g h = tt
second_refused most first second old mid (Err r) g h = over_second most first second old mid r g h

-- ---- all blocks, and then the last line

pub over_whole : (most : ℕ) (all given : List filters.Line) (last : filters.Line) (old : List Line) (r : Refusal) → given ≡ all → old ≡ [] → RefusesLines most (length old + length given) r →
    RefusesLines most (length (all ++ last ∷ [])) r
over_whole most all given last old r same none h =
    let a = ap length same in
    let b = ap length none in
    let e = length-append all (last ∷ []) in
    over_more most (length old + length given) (length (all ++ last ∷ [])) r h (omega (arith, a, b, e))

pub over_last : (most : ℕ) (all given : List filters.Line) (last : filters.Line) (old mid : List Line) (r : Refusal) → given ≡ all → old ≡ [] → GrowsBy given old mid → RefusesLines most (length mid + 1) r →
    RefusesLines most (length (all ++ last ∷ [])) r
over_last most all given last old mid r same none grown h =
    let a = ap length same in
    let b = ap length none in
    let e = length-append all (last ∷ []) in
    let f = grown_length given old mid grown in
    over_more most (length mid + 1) (length (all ++ last ∷ [])) r h (omega (arith, a, b, e, f))
