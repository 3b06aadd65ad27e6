-- What denials leave of permits.
use Rattle.std.proofs.Common.{◌≡◌, ◌⊎◌, inl, inr, Bool, true, false, not, cond, ◌&&◌, ◌||◌, List, [], ◌∷◌, ◌++◌, map, refl, sym, ap, subst, ◌∙◌, ⊎_elim}
use Rattle.std.specs.Prelude.{◌==◌, flat_map}
use Rattle.std.specs.List.{list_any}
use Rattle.std.proofs.lemmas.Bool.{and_parts, and_from, eqb-true, eq-eqb, both_ways}
use Rattle.spoc_base.specs.Address.{within}
use Rattle.spoc_base.specs.Boxes.{IsTransport, box_holds}
use Rattle.spoc_base.specs.Pieces.{HeaderBox, difference}
use Rattle.policy_model.specs.Packets.{Header}
use Rattle.policy_model.specs.Permits.{Permit, Packet, permit_holds, is_permitted, box_of_permit, permit_of_box, same_nets, left_by, pieces_left_by}
use Rattle.policy_model.proofs.AllWalks.{IsIn, from_map}
use Rattle.list_laws.proofs.Tables.{from_flat_map}
use Rattle.spoc_base.specs.PlainSets.{IsPlainSet}
use Rattle.piece_laws.specs.HeaderBoxes.{header_box_holds}
use Rattle.piece_laws.proofs.Counting.{any_is, each_in}
use Rattle.piece_laws.proofs.Differences.{IsAscending, IsBoxPart, difference_times, difference_parts, difference_plain}

-- ---- pieces

-- a piece is the permit, or a box of what is left of it
pub from_left : (d q r : Permit) → IsIn r (left_by d q) → (r ≡ q) ⊎ ((b : HeaderBox) × IsIn b (difference (box_of_permit q) (box_of_permit d)) × (r ≡ permit_of_box q b))
from_left d q r = go (same_nets q d)
  where
    go : (c : Bool) → IsIn r (cond c (map (permit_of_box q) (difference (box_of_permit q) (box_of_permit d))) (q ∷ [])) →
        (r ≡ q) ⊎ ((b : HeaderBox) × IsIn b (difference (box_of_permit q) (box_of_permit d)) × (r ≡ permit_of_box q b))
    go true h = inr (from_map (permit_of_box q) r (difference (box_of_permit q) (box_of_permit d)) h)
    go false (inl e) = inl e
    go false (inr g) = absurd g

-- What each denial keeps, all keep.
pub kept : (P : Permit → Type 0) (denials : List Permit) → ((d : Permit) → IsIn d denials → (q r : Permit) → P q → IsIn r (left_by d q) → P r) →
    (pieces : List Permit) → ((q : Permit) → IsIn q pieces → P q) → (r : Permit) → IsIn r (pieces_left_by denials pieces) → P r
kept P [] keeps pieces h r i = h r i
kept P (d ∷ denials) keeps pieces h r i =
    kept P denials (λ e j. keeps e (inr j)) (flat_map (left_by d) pieces)
    (λ q j. let w = from_flat_map (left_by d) q pieces j in keeps d (inl refl) w.0 q (h w.0 w.1) w.2) r i

-- ---- which networks

pub same_ends : (d q r : Permit) → IsIn r (left_by d q) → (r.src.net ≡ q.src.net) × (r.dst.net ≡ q.dst.net)
same_ends d q r i = ⊎_elim (λ e. (ap (λ (p : Permit). p.src.net) e, ap (λ (p : Permit). p.dst.net) e)) (λ w. (ap (λ (p : Permit). p.src.net) w.2, ap (λ (p : Permit). p.dst.net) w.2)) (from_left d q r i)

-- ---- which packets

shuffled : (a b c d e : Bool) → (((a && b) && (c && d)) && e) ≡ ((a && c) && ((b && d) && e))
shuffled true true c d e = go c d e
  where
    go : (c d e : Bool) → ((true && (c && d)) && e) ≡ (c && (d && e))
    go true d e = refl
    go false d e = refl
shuffled true false c d e = go c d e
  where
    go : (c d e : Bool) → (false && e) ≡ (c && ((false && d) && e))
    go true d e = refl
    go false d e = refl
shuffled false b c d e = refl

-- the packet goes between the permit's networks
abbrev joins : Permit → Packet → Bool
joins q x = (q.src.net == x.src.net) && (q.dst.net == x.dst.net)

abbrev header_of : Packet → Header
header_of x = record { src = x.src.addr; dst = x.dst.addr; transport = x.transport }

holds_by_box : (q : Permit) (x : Packet) → permit_holds q x ≡ (joins q x && header_box_holds (box_of_permit q) (header_of x))
holds_by_box q x = shuffled (q.src.net == x.src.net) (within q.src.range x.src.addr) (q.dst.net == x.dst.net) (within q.dst.range x.dst.addr) (box_holds q.box x.transport)

any_after : {A B : Type 0} (test : B → Bool) (f : A → B) (xs : List A) → list_any test (map f xs) ≡ list_any (λ x. test (f x)) xs
any_after test f [] = refl
any_after test f (x ∷ xs) = ap (λ c. test (f x) || c) (any_after test f xs)

any_same : {A : Type 0} (p q : A → Bool) (xs : List A) → ((x : A) → p x ≡ q x) → list_any p xs ≡ list_any q xs
any_same p q [] h = refl
any_same p q (x ∷ xs) h = ap (λ c. c || list_any p xs) (h x) ∙ ap (λ c. q x || c) (any_same p q xs h)

any_and : {A : Type 0} (c : Bool) (p : A → Bool) (xs : List A) → list_any (λ x. c && p x) xs ≡ (c && list_any p xs)
any_and true p xs = refl
any_and false p [] = refl
any_and false p (x ∷ xs) = any_and false p xs

any_append : {A : Type 0} (p : A → Bool) (xs ys : List A) → list_any p (xs ++ ys) ≡ (list_any p xs || list_any p ys)
any_append p [] ys = refl
any_append p (x ∷ xs) ys = ap (λ c. p x || c) (any_append p xs ys) ∙ grouped (p x) (list_any p xs) (list_any p ys)
  where
    grouped : (a b c : Bool) → (a || (b || c)) ≡ ((a || b) || c)
    grouped true b c = refl
    grouped false b c = refl

-- of permits and of denials: plain sets, and of denials ranges that ascend
pub record IsPlainPermit (q : Permit) : Type 0 where
  pub set : IsPlainSet q.box
  pub up : IsAscending (box_of_permit q)

module _ (x : Packet) (proper : IsTransport x.transport) where
  taken : (n a b : Bool) → (n && (a && not b)) ≡ ((n && a) && not (n && b))
  taken true a b = refl
  taken false a b = refl

  apart : (p q : Bool) → (p ≡ true → q ≡ true → ⊥) → (p || false) ≡ (p && not q)
  apart true true f = absurd (f refl refl)
  apart true false f = refl
  apart false q f = refl

  pub left_holds : (d q : Permit) → IsPlainPermit d → IsPlainPermit q → is_permitted (left_by d q) x ≡ (permit_holds q x && not (permit_holds d x))
  left_holds d q hd hq = go (same_nets q d) refl
    where
      rest : List HeaderBox
      rest = difference (box_of_permit q) (box_of_permit d)

      same_joins : same_nets q d ≡ true → joins q x ≡ joins d x
      same_joins e =
          let w = and_parts (q.src.net == d.src.net) (q.dst.net == d.dst.net) e in
          ap (λ n. (n == x.src.net) && (q.dst.net == x.dst.net)) (eqb-true q.src.net d.src.net w.0)
          ∙ ap (λ n. (d.src.net == x.src.net) && (n == x.dst.net)) (eqb-true q.dst.net d.dst.net w.1)

      both_join : permit_holds q x ≡ true → permit_holds d x ≡ true → same_nets q d ≡ true
      both_join a b =
          let v = and_parts (q.src.net == x.src.net) (q.dst.net == x.dst.net) (and_parts (joins q x) (header_box_holds (box_of_permit q) (header_of x)) (sym (holds_by_box q x) ∙ a)).0 in
          let w = and_parts (d.src.net == x.src.net) (d.dst.net == x.dst.net) (and_parts (joins d x) (header_box_holds (box_of_permit d) (header_of x)) (sym (holds_by_box d x) ∙ b)).0 in
          and_from (q.src.net == d.src.net) (q.dst.net == d.dst.net)
          (eq-eqb q.src.net d.src.net (eqb-true q.src.net x.src.net v.0 ∙ sym (eqb-true d.src.net x.src.net w.0)))
          (eq-eqb q.dst.net d.dst.net (eqb-true q.dst.net x.dst.net v.1 ∙ sym (eqb-true d.dst.net x.dst.net w.1)))

      go : (c : Bool) → same_nets q d ≡ c → is_permitted (cond c (map (permit_of_box q) rest) (q ∷ [])) x ≡ (permit_holds q x && not (permit_holds d x))
      go true e =
          let h = header_of x in
          let in_q = header_box_holds (box_of_permit q) h in
          let in_d = header_box_holds (box_of_permit d) h in
          any_after (λ r. permit_holds r x) (permit_of_box q) rest
          ∙ (any_same (λ b. permit_holds (permit_of_box q b) x) (λ b. joins q x && header_box_holds b h) rest (λ b. holds_by_box (permit_of_box q b) x)
          ∙ (any_and (joins q x) (λ b. header_box_holds b h) rest
          ∙ (ap (λ c. joins q x && c) (any_is (λ b. header_box_holds b h) rest (in_q && not in_d) (difference_times (box_of_permit q) (box_of_permit d) h proper hd.up hq.set hd.set))
          ∙ (taken (joins q x) in_q in_d
          ∙ (ap (λ c. c && not (joins q x && in_d)) (sym (holds_by_box q x))
          ∙ ap (λ c. permit_holds q x && not c) (ap (λ c. c && in_d) (same_joins e) ∙ sym (holds_by_box d x)))))))
      go false e = apart (permit_holds q x) (permit_holds d x) (λ a b. both_ways (same_nets q d) e (both_join a b))

  plain_left : (d q r : Permit) → IsPlainPermit d → IsPlainPermit q → IsIn r (left_by d q) → IsPlainPermit r
  plain_left d q r hd hq i = ⊎_elim (λ e. subst IsPlainPermit (sym e) hq)
      (λ w. subst IsPlainPermit (sym w.2)
      (let part = each_in (IsBoxPart (box_of_permit q)) (difference (box_of_permit q) (box_of_permit d)) w.0 (difference_parts (box_of_permit q) (box_of_permit d) hq.up hd.up) w.1 in
      record {
        set = each_in (λ (b : HeaderBox). IsPlainSet b.transport) (difference (box_of_permit q) (box_of_permit d)) w.0 (difference_plain (box_of_permit q) (box_of_permit d) hq.set hd.set) w.1;
        up = record { src = part.src.ordered; dst = part.dst.ordered };
      }))
      (from_left d q r i)

  -- the pieces that one denial leaves of all pieces
  all_left : (d : Permit) → IsPlainPermit d → (pieces : List Permit) → ((q : Permit) → IsIn q pieces → IsPlainPermit q) →
      is_permitted (flat_map (left_by d) pieces) x ≡ (is_permitted pieces x && not (permit_holds d x))
  all_left d hd [] h = refl
  all_left d hd (q ∷ pieces) h =
      any_append (λ r. permit_holds r x) (left_by d q) (flat_map (left_by d) pieces)
      ∙ (ap (λ c. c || is_permitted (flat_map (left_by d) pieces) x) (left_holds d q hd (h q (inl refl)))
      ∙ (ap (λ c. (permit_holds q x && not (permit_holds d x)) || c) (all_left d hd pieces (λ r i. h r (inr i)))
      ∙ shared (permit_holds q x) (is_permitted pieces x) (not (permit_holds d x))))
    where
      shared : (a b c : Bool) → ((a && c) || (b && c)) ≡ ((a || b) && c)
      shared true true true = refl
      shared true true false = refl
      shared true false c = or_false c
        where
          or_false : (c : Bool) → (c || false) ≡ c
          or_false true = refl
          or_false false = refl
      shared false b c = refl

  -- What all denials leave of the pieces holds the packet exactly if a piece does and no denial does.
  pub pieces_hold : (denials : List Permit) → ((d : Permit) → IsIn d denials → IsPlainPermit d) → (pieces : List Permit) → ((q : Permit) → IsIn q pieces → IsPlainPermit q) →
      is_permitted (pieces_left_by denials pieces) x ≡ (is_permitted pieces x && not (is_permitted denials x))
  pieces_hold [] hd pieces h = and_true (is_permitted pieces x)
    where
      and_true : (c : Bool) → c ≡ (c && true)
      and_true true = refl
      and_true false = refl
  pieces_hold (d ∷ denials) hd pieces h =
      pieces_hold denials (λ e i. hd e (inr i)) (flat_map (left_by d) pieces)
      (λ r i. let w = from_flat_map (left_by d) r pieces i in plain_left d w.0 r (hd d (inl refl)) (h w.0 w.1) w.2)
      ∙ (ap (λ c. c && not (is_permitted denials x)) (all_left d (hd d (inl refl)) pieces h)
      ∙ neither (is_permitted pieces x) (permit_holds d x) (is_permitted denials x))
    where
      neither : (a b c : Bool) → ((a && not b) && not c) ≡ (a && not (b || c))
      neither true true c = refl
      neither true false c = refl
      neither false b c = refl

  -- So does what they leave of each permit of a list by itself.
  pub each_left : (denials : List Permit) → ((d : Permit) → IsIn d denials → IsPlainPermit d) → (permits : List Permit) → ((q : Permit) → IsIn q permits → IsPlainPermit q) →
      is_permitted (flat_map (λ q. pieces_left_by denials (q ∷ [])) permits) x ≡ (is_permitted permits x && not (is_permitted denials x))
  each_left denials hd [] h = refl
  each_left denials hd (q ∷ permits) h =
      any_append (λ r. permit_holds r x) (pieces_left_by denials (q ∷ [])) (flat_map (λ p. pieces_left_by denials (p ∷ [])) permits)
      ∙ (ap (λ c. c || is_permitted (flat_map (λ p. pieces_left_by denials (p ∷ [])) permits) x) (pieces_hold denials hd (q ∷ []) (λ r i. ⊎_elim (λ e. subst IsPlainPermit (sym e) (h q (inl refl))) (λ none. absurd none) i))
      ∙ (ap (λ c. ((permit_holds q x || false) && not (is_permitted denials x)) || c) (each_left denials hd permits (λ r i. h r (inr i)))
      ∙ shared (permit_holds q x) (is_permitted permits x) (not (is_permitted denials x))))
    where
      shared : (a b c : Bool) → (((a || false) && c) || (b && c)) ≡ ((a || b) && c)
      shared true true true = refl
      shared true true false = refl
      shared true false true = refl
      shared true false false = refl
      shared false b c = refl
