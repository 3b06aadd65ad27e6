-- What denials leave of boxes, denial by denial and box by box.
use Rattle.std.proofs.Common.{◌≡◌, ◌∙◌, ℕ, zero, suc, ◌+◌, ◌<◌, ◌≤◌, length, take, drop, slice_index_or, Bool, true, false, cond, ◌&&◌, List, [], ◌∷◌, ◌++◌, map, flat_map, refl, sym, ap, append_assoc, append-nil, arith}
use Rattle.std.specs.Prelude.{◌==◌, filter, reverse, option_map, Option, Some, None}
use Rattle.std.specs.List.{sum_by}
use Rattle.std.proofs.lemmas.List.{map-append, drop-map, length-append, length-map, reverse-append, take_all, take-append-le, drop_all}
use Rattle.std.proofs.lemmas.List.Folds.{flat_map-map}
use Rattle.std.proofs.lemmas.List.Concat.{flat_map-append, flat_map_single}
use Rattle.std.proofs.lemmas.List.Sums.{sum_by-append, sum_by-cons}
use Rattle.spoc_base.specs.Pieces.{HeaderBox, header_box_meets, pieces_left, difference, listed}
use Rattle.policy_model.specs.Permits.{Permit, box_of_permit, permit_of_box, same_nets, left_by, pieces_left_by}
use Rattle.box_algebra.specs.Shown.{header_box_of}
use Rattle.box_algebra.specs.declared.boxes.Box4.{Box4}
use Rattle.permit_set.specs.declared.permit.Permit as code
use Rattle.permit_set.specs.Shown.{permit_of}
use Rattle.permit_pieces.specs.declared.pieces.Piece.{Piece}
use Rattle.permit_pieces.specs.Left.{Part, part_of, parts_of, left_of, work_of, left_from, work_from, boxes_between, left_between}

-- ---- one denial

from_place : {A : Type 0} (xs : List A) (k : ℕ) (d : A) → k < length xs → drop k xs ≡ slice_index_or xs k d ∷ drop (k + 1) xs
from_place [] k d h = absurd (omega (arith, h))
from_place (x ∷ xs) zero d h = refl
from_place (x ∷ xs) (suc k) d h =
    let e : suc k + 1 ≡ suc (k + 1) = omega arith in
    from_place xs k d (omega (arith, h)) ∙ ap (λ (m : ℕ). slice_index_or xs k d ∷ drop m (x ∷ xs)) (sym e)

-- the denial at a place
pub denial_at : (items : List Box4) (k : ℕ) (x : Box4) → k < length items → x ≡ slice_index_or items k x → drop k (map header_box_of items) ≡ header_box_of x ∷ drop (k + 1) (map header_box_of items)
denial_at items k x h is =
    drop-map header_box_of k items
    ∙ (ap (map header_box_of) (from_place items k x h ∙ ap (λ (y : Box4). y ∷ drop (k + 1) items) (sym is)) ∙ ap (λ (l : List HeaderBox). header_box_of x ∷ l) (sym (drop-map header_box_of (k + 1) items)))

-- no denial stands behind the last one
pub past_all : (items : List Box4) (k : ℕ) → length items ≤ k → drop k (map header_box_of items) ≡ []
past_all items k h = drop-map header_box_of k items ∙ ap (map header_box_of) (drop_all k items h)

left_next : (ds : List HeaderBox) (k : ℕ) (b d : HeaderBox) → drop k ds ≡ d ∷ drop (k + 1) ds → left_from ds (b, k) ≡ flat_map (λ x. left_from ds (x, k + 1)) (difference b d)
left_next ds k b d e = ap (λ (l : List HeaderBox). left_of l b) e

work_next : (ds : List HeaderBox) (k : ℕ) (b d : HeaderBox) → drop k ds ≡ d ∷ drop (k + 1) ds → work_from ds (b, k) ≡ suc (sum_by (λ x. work_from ds (x, k + 1)) (difference b d))
work_next ds k b d e = ap (λ (l : List HeaderBox). work_of l b) e

-- a denial that has nothing in common with a box leaves it whole
whole : (b d : HeaderBox) → header_box_meets b d ≡ false → difference b d ≡ b ∷ []
whole b d h = ap (λ (c : Bool). cond c (pieces_left b d) (b ∷ [])) h

pub skip_left : (ds : List HeaderBox) (k : ℕ) (b d : HeaderBox) → drop k ds ≡ d ∷ drop (k + 1) ds → header_box_meets b d ≡ false → left_from ds (b, k) ≡ left_from ds (b, k + 1)
skip_left ds k b d e apart =
    left_next ds k b d e ∙ (ap (flat_map (λ (x : HeaderBox). left_from ds (x, k + 1))) (whole b d apart) ∙ append-nil (left_from ds (b, k + 1)))

pub skip_work : (ds : List HeaderBox) (k : ℕ) (b d : HeaderBox) → drop k ds ≡ d ∷ drop (k + 1) ds → header_box_meets b d ≡ false → work_from ds (b, k + 1) ≤ work_from ds (b, k)
skip_work ds k b d e apart =
    let f = work_next ds k b d e ∙ ap (λ (l : List HeaderBox). suc (sum_by (λ (x : HeaderBox). work_from ds (x, k + 1)) l)) (whole b d apart) in
    let g = sum_by-cons (λ (x : HeaderBox). work_from ds (x, k + 1)) b [] in
    omega (arith, f, g)

-- ---- the pieces of one

sum_by-map : {A B : Type 0} (f : B → ℕ) (g : A → B) (xs : List A) → sum_by f (map g xs) ≡ sum_by (λ x. f (g x)) xs
sum_by-map f g [] = refl
sum_by-map f g (x ∷ xs) =
    let a = sum_by-cons f (g x) (map g xs) in
    let b = sum_by-cons (λ x. f (g x)) x xs in
    let c = sum_by-map f g xs in
    omega (arith, a, b, c)

abbrev pub placed : ℕ → List HeaderBox → List Part
placed k bs = map (λ b. (b, k)) bs

module _ (ds : List HeaderBox) (b : HeaderBox) (from k : ℕ) (old : List Part) where
  pub split_left : (d : HeaderBox) (pieces : List HeaderBox) (new : List Part) → left_from ds (b, from) ≡ left_from ds (b, k) → drop k ds ≡ d ∷ drop (k + 1) ds → pieces ≡ difference b d →
      new ≡ placed (k + 1) pieces ++ old → flat_map (left_from ds) new ≡ left_from ds (b, from) ++ flat_map (left_from ds) old
  split_left d pieces new same e is put =
      ap (flat_map (left_from ds)) put ∙ (flat_map-append (left_from ds) (placed (k + 1) pieces) old
      ∙ ap (λ (l : List HeaderBox). l ++ flat_map (left_from ds) old)
      (flat_map-map (left_from ds) (λ (x : HeaderBox). (x, k + 1)) pieces ∙ (ap (flat_map (λ (x : HeaderBox). left_from ds (x, k + 1))) is ∙ (sym (left_next ds k b d e) ∙ sym same))))

  pub split_work : (d : HeaderBox) (pieces : List HeaderBox) (new : List Part) → work_from ds (b, k) ≤ work_from ds (b, from) → drop k ds ≡ d ∷ drop (k + 1) ds → pieces ≡ difference b d →
      new ≡ placed (k + 1) pieces ++ old → sum_by (work_from ds) new < work_from ds (b, from) + sum_by (work_from ds) old
  split_work d pieces new less e is put =
      let f = ap (sum_by (work_from ds)) put in
      let g = sum_by-append (work_from ds) (placed (k + 1) pieces) old in
      let h = sum_by-map (work_from ds) (λ (x : HeaderBox). (x, k + 1)) pieces in
      let i = ap (sum_by (λ (x : HeaderBox). work_from ds (x, k + 1))) is in
      let j = work_next ds k b d e in
      omega (arith, less, f, g, h, i, j)

  -- no denial is left
  pub last_left : left_from ds (b, from) ≡ left_from ds (b, k) → drop k ds ≡ [] → b ∷ flat_map (left_from ds) old ≡ left_from ds (b, from) ++ flat_map (left_from ds) old
  last_left same none = ap (λ (l : List HeaderBox). l ++ flat_map (left_from ds) old) (sym (same ∙ ap (λ (l : List HeaderBox). left_of l b) none))

  pub last_work : work_from ds (b, k) ≤ work_from ds (b, from) → drop k ds ≡ [] → sum_by (work_from ds) old < work_from ds (b, from) + sum_by (work_from ds) old
  last_work less none =
      let e = ap (λ (l : List HeaderBox). work_of l b) none in
      omega (arith, less, e)

-- ---- parts that wait

pub last_first : (old new : List Piece) (x : Piece) → new ≡ old ++ x ∷ [] → parts_of new ≡ part_of x ∷ parts_of old
last_first old new x e = ap parts_of e ∙ (ap reverse (map-append part_of old (x ∷ [])) ∙ reverse-append (map part_of old) (part_of x ∷ []))

-- the last of the pieces goes before those that wait
pub put_on : (taken : ℕ) (x : Box4) (left before : List Box4) (old new : List Piece) (all : List Part) → before ≡ left ++ x ∷ [] → new ≡ old ++ record { part = x; taken = taken } ∷ [] →
    placed taken (map header_box_of before) ++ parts_of old ≡ all → placed taken (map header_box_of left) ++ parts_of new ≡ all
put_on taken x left before old new all e f so_far =
    ap (λ (l : List Part). placed taken (map header_box_of left) ++ l) (last_first old new (record { part = x; taken = taken }) f)
    ∙ (sym (append_assoc (placed taken (map header_box_of left)) ((header_box_of x, taken) ∷ []) (parts_of old))
    ∙ (ap (λ (l : List Part). l ++ parts_of old) (sym (ap (λ (l : List Box4). placed taken (map header_box_of l)) e
    ∙ (ap (placed taken) (map-append header_box_of left (x ∷ [])) ∙ map-append (λ (b : HeaderBox). (b, taken)) (map header_box_of left) (header_box_of x ∷ []))))
    ∙ so_far))

-- ---- the first of many

take_full : {A : Type 0} (most : ℕ) (xs ys : List A) → length xs ≤ most → most ≤ length xs → take most (xs ++ ys) ≡ xs
take_full most xs ys h g = take-append-le most xs ys g ∙ take_all most xs h

pub take_again : {A : Type 0} (most : ℕ) (xs ys : List A) → take most (take most xs ++ ys) ≡ take most (xs ++ ys)
take_again zero xs ys = refl
take_again (suc n) [] ys = refl
take_again {A} (suc n) (x ∷ xs) ys = ap (λ (l : List A). x ∷ l) (take_again n xs ys)

-- ---- permits from boxes

abbrev pub to_come : Permit → List HeaderBox → List Part → List Permit
to_come q ds parts = map (permit_of_box q) (flat_map (left_from ds) parts)

module _ (q : Permit) (ds : List HeaderBox) (most : ℕ) (all : List Permit) where
  pub begins : (found : List Permit) (b : HeaderBox) (waiting : List Piece) (x : Piece) → waiting ≡ [] ++ x ∷ [] → part_of x ≡ (b, 0) → take most (found ++ map (permit_of_box q) (left_of ds b)) ≡ all →
      take most (found ++ to_come q ds (parts_of waiting)) ≡ all
  begins found b waiting x e f so_far =
      ap (λ (l : List Piece). take most (found ++ to_come q ds (parts_of l))) e
      ∙ (ap (λ (p : Part). take most (found ++ to_come q ds (p ∷ []))) f ∙ (ap (λ (l : List HeaderBox). take most (found ++ map (permit_of_box q) l)) (append-nil (left_of ds b)) ∙ so_far))

  -- one waiting part is taken out, and of its pieces the others wait
  pub goes_on : (found found_new : List Permit) (before waiting new : List Piece) (x : Piece) (last : List HeaderBox) → before ≡ waiting ++ x ∷ [] →
      last ++ flat_map (left_from ds) (parts_of new) ≡ left_from ds (part_of x) ++ flat_map (left_from ds) (parts_of waiting) → found_new ≡ found ++ map (permit_of_box q) last →
      take most (found ++ to_come q ds (parts_of before)) ≡ all → take most (found_new ++ to_come q ds (parts_of new)) ≡ all
  goes_on found found_new before waiting new x last e split is so_far =
      ap (take most) (ap (λ (l : List Permit). l ++ to_come q ds (parts_of new)) is ∙ (append_assoc found (map (permit_of_box q) last) (to_come q ds (parts_of new))
      ∙ ap (λ (l : List Permit). found ++ l) (sym (map-append (permit_of_box q) last (flat_map (left_from ds) (parts_of new)))
      ∙ (ap (map (permit_of_box q)) split ∙ ap (to_come q ds) (sym (last_first waiting before x e))))))
      ∙ so_far

  pub ends : (found : List Permit) (waiting : List Piece) → waiting ≡ [] → length found ≤ most → take most (found ++ to_come q ds (parts_of waiting)) ≡ all → found ≡ all
  ends found waiting e fits so_far =
      sym (take_all most found fits)
      ∙ (ap (take most) (sym (append-nil found)) ∙ (ap (λ (l : List Piece). take most (found ++ to_come q ds (parts_of l))) (sym e) ∙ so_far))

  pub is_full : (found : List Permit) (waiting : List Piece) → length found ≤ most → most ≤ length found → take most (found ++ to_come q ds (parts_of waiting)) ≡ all → found ≡ all
  is_full found waiting fits full so_far = sym (take_full most found (to_come q ds (parts_of waiting)) fits full) ∙ so_far

-- ---- denials by their networks

flat_map-flat_map : {A B C : Type 0} (f : B → List C) (g : A → List B) (xs : List A) → flat_map f (flat_map g xs) ≡ flat_map (λ x. flat_map f (g x)) xs
flat_map-flat_map f g [] = refl
flat_map-flat_map {A} {B} {C} f g (x ∷ xs) = flat_map-append f (g x) (flat_map g xs) ∙ ap (λ (l : List C). flat_map f (g x) ++ l) (flat_map-flat_map f g xs)

each_itself : {A B : Type 0} (f : A → B) (xs : List A) → map f (flat_map (λ x. x ∷ []) xs) ≡ map f xs
each_itself f [] = refl
each_itself {A} {B} f (x ∷ xs) = ap (λ (l : List B). f x ∷ l) (each_itself f xs)

singly : {A : Type 0} (xs : List A) → flat_map (λ x. x ∷ []) xs ≡ xs
singly [] = refl
singly {A} (x ∷ xs) = ap (λ (l : List A). x ∷ l) (singly xs)

-- what one denial leaves of boxes between the permit's networks
one_denial : (d q : Permit) (bs : List HeaderBox) (same : Bool) → same_nets q d ≡ same →
    flat_map (left_by d) (map (permit_of_box q) bs) ≡ map (permit_of_box q) (flat_map (λ b. cond same (difference b (box_of_permit d)) (b ∷ [])) bs)
one_denial d q [] same e = refl
one_denial d q (b ∷ bs) same e =
    ap (λ (c : Bool). cond c (map (permit_of_box q) (difference b (box_of_permit d))) (permit_of_box q b ∷ []) ++ flat_map (left_by d) (map (permit_of_box q) bs)) e
    ∙ (ap (λ (l : List Permit). cond same (map (permit_of_box q) (difference b (box_of_permit d))) (permit_of_box q b ∷ []) ++ l) (one_denial d q bs same e)
    ∙ (ap (λ (l : List Permit). l ++ map (permit_of_box q) (flat_map (λ (x : HeaderBox). cond same (difference x (box_of_permit d)) (x ∷ [])) bs)) (by same)
    ∙ sym (map-append (permit_of_box q) (cond same (difference b (box_of_permit d)) (b ∷ [])) (flat_map (λ (x : HeaderBox). cond same (difference x (box_of_permit d)) (x ∷ [])) bs))))
  where
    by : (c : Bool) → cond c (map (permit_of_box q) (difference b (box_of_permit d))) (permit_of_box q b ∷ []) ≡ map (permit_of_box q) (cond c (difference b (box_of_permit d)) (b ∷ []))
    by true = refl
    by false = refl

pub pieces_are : (denials : List Permit) (q : Permit) (bs : List HeaderBox) →
    pieces_left_by denials (map (permit_of_box q) bs) ≡ map (permit_of_box q) (flat_map (left_of (boxes_between denials q.src.net q.dst.net)) bs)
pieces_are [] q bs = sym (each_itself (permit_of_box q) bs)
pieces_are (d ∷ denials) q bs = by (pieces_are denials q) (same_nets q d) refl
  where
    rest : List HeaderBox
    rest = boxes_between denials q.src.net q.dst.net

    by : ((cs : List HeaderBox) → pieces_left_by denials (map (permit_of_box q) cs) ≡ map (permit_of_box q) (flat_map (left_of rest) cs)) → (same : Bool) → same_nets q d ≡ same →
        pieces_left_by denials (flat_map (left_by d) (map (permit_of_box q) bs))
        ≡ map (permit_of_box q) (flat_map (left_of (map box_of_permit (cond same (d ∷ filter (λ e. (q.src.net == e.src.net) && (q.dst.net == e.dst.net)) denials) (filter (λ e. (q.src.net == e.src.net) && (q.dst.net == e.dst.net)) denials)))) bs)
    by others true e =
        ap (pieces_left_by denials) (one_denial d q bs true e)
        ∙ (others (flat_map (λ (b : HeaderBox). difference b (box_of_permit d)) bs)
        ∙ ap (map (permit_of_box q)) (flat_map-flat_map (left_of rest) (λ (b : HeaderBox). difference b (box_of_permit d)) bs))
    by others false e =
        ap (pieces_left_by denials) (one_denial d q bs false e ∙ each_itself (permit_of_box q) bs) ∙ others bs

pub left_is : (denials : List Permit) (table : ℕ → ℕ → List HeaderBox) → ((src dst : ℕ) → table src dst ≡ boxes_between denials src dst) → (q : Permit) →
    left_between table q ≡ pieces_left_by denials (q ∷ [])
left_is denials table is q =
    ap (λ (l : List HeaderBox). map (permit_of_box q) (left_of l (box_of_permit q))) (is q.src.net q.dst.net)
    ∙ (ap (map (permit_of_box q)) (sym (append-nil (left_of (boxes_between denials q.src.net q.dst.net) (box_of_permit q)))) ∙ sym (pieces_are denials q (box_of_permit q ∷ [])))

pub all_left : (denials : List Permit) (table : ℕ → ℕ → List HeaderBox) → ((src dst : ℕ) → table src dst ≡ boxes_between denials src dst) → (permits : List Permit) →
    flat_map (left_between table) permits ≡ flat_map (λ q. pieces_left_by denials (q ∷ [])) permits
all_left denials table is [] = refl
all_left denials table is (q ∷ permits) =
    ap (λ (l : List Permit). l ++ flat_map (left_between table) permits) (left_is denials table is q) ∙ ap (λ (l : List Permit). pieces_left_by denials (q ∷ []) ++ l) (all_left denials table is permits)

-- nothing is taken where nothing is denied
pub none_denied : (denials permits : List Permit) → denials ≡ [] → permits ≡ flat_map (λ q. pieces_left_by denials (q ∷ [])) permits
none_denied denials permits e = sym (ap (λ (l : List Permit). flat_map (λ (q : Permit). pieces_left_by l (q ∷ [])) permits) e ∙ singly permits)
