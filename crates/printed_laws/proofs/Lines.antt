-- Each line of the list at an interface has one source prefix, one destination prefix and a transport that may stand in an entry there.
use Rattle.std.proofs.Common.{◌≡◌, ◌≢◌, ℕ, inl, inr, true, false, List, [], ◌∷◌, ◌++◌, refl, sym, ap, subst, ⊎_elim}
use Rattle.std.specs.Prelude.{◌==◌, ◌&&◌, Bool, filter, flat_map, Option, Some, None, if◌then◌else◌}
use Rattle.std.specs.List.{AllByRecursion}
use Rattle.spoc_base.specs.Address.{Cidr, any_address}
use Rattle.spoc_base.specs.Boxes.{TransportBox}
use Rattle.spoc_base.specs.declared.dialect.Dialect.{Dialect}
use Rattle.spoc_base.specs.declared.dialect.Dialect.TheVariants.{Ios, Asa}
use Rattle.policy_model.specs.Policy.{Policy, net_of}
use Rattle.policy_model.specs.Zones.{Site}
use Rattle.policy_model.specs.Tags.{Views}
use Rattle.policy_model.specs.Places.{prefix_in}
use Rattle.policy_model.specs.Permits.{Permit, mirrored_boxes, mirrors_of, has_replies}
use Rattle.policy_model.specs.Filters.{Line, deny_all}
use Rattle.policy_model.specs.Blocks.{NetPair, Block, places_replies_at, permit_lines, permit_at, no_permit, permits_between, replied_between, closing_lines, view_here, pair_lines, block_lines, placement, list_at}
use Rattle.policy_model.proofs.AllWalks.{IsIn, from_map}
use Rattle.policy_laws.specs.Secured.{IsNet}
use Rattle.policy_laws.proofs.Members.{from_append, from_flat_map, from_filter}
use Rattle.policy_laws.proofs.PermitLines.{places_sound, in_at, from_permit_lines}
use Rattle.device_reading.specs.Grammar.{IsPrefix, IsEntryBox}
use Rattle.text_laws.specs.Printable.{IsPrintedEnd, IsPrintedLine, IsPrintedList}
use Rattle.printed_laws.proofs.Boxes.{HasPlainBox, plain_stands, mirrored_stands}
use Rattle.printed_laws.proofs.Prefixes.{end_good, seen_good, any_good}

pub record IsWritten (dialect : Dialect) (l : Line) : Type 0 where
  pub src : Cidr
  pub dst : Cidr
  pub src_is : l.src ≡ src ∷ []
  pub dst_is : l.dst ≡ dst ∷ []
  pub src_good : IsPrefix src
  pub dst_good : IsPrefix dst
  pub box : IsEntryBox dialect l.box

-- ---- lines of permits

permit_line : (dialect : Dialect) (p : Policy) (view : List ℕ) (q : Permit) (l : Line) → IsEntryBox dialect q.box → IsIn l (permit_lines p view q) → IsWritten dialect l
permit_line dialect p view q l box h =
    let w = from_permit_lines p view q l h in
    record {
      src = w.src;
      dst = w.dst;
      src_is = ap (λ (k : Line). k.src) w.shape;
      dst_is = ap (λ (k : Line). k.dst) w.shape;
      src_good = end_good p view q.src w.src w.from_src;
      dst_good = end_good p view q.dst w.dst w.from_dst;
      box = subst (λ (k : Line). IsEntryBox dialect k.box) (sym w.shape) box;
    }

closing_line : (dialect : Dialect) (o o' : Option Cidr) (l : Line) → ((q : Cidr) → o ≡ Some q → IsPrefix q) → ((q : Cidr) → o' ≡ Some q → IsPrefix q) →
    IsIn l (closing_lines o o') → IsWritten dialect l
closing_line dialect None o' l h h' there = absurd there
closing_line dialect (Some p) None l h h' there = absurd there
closing_line dialect (Some p) (Some q) l h h' (inr none) = absurd none
closing_line dialect (Some p) (Some q) l h h' (inl e) = record {
  src = p;
  dst = q;
  src_is = ap (λ (k : Line). k.src) e;
  dst_is = ap (λ (k : Line). k.dst) e;
  src_good = h p refl;
  dst_good = h' q refl;
  box = subst (λ (k : Line). IsEntryBox dialect k.box) (sym e) tt;
}

last_line : (dialect : Dialect) (l : Line) → l ≡ deny_all → IsWritten dialect l
last_line dialect l e = record {
  src = any_address;
  dst = any_address;
  src_is = ap (λ (k : Line). k.src) e;
  dst_is = ap (λ (k : Line). k.dst) e;
  src_good = any_good;
  dst_good = any_good;
  box = subst (λ (k : Line). IsEntryBox dialect k.box) (sym e) tt;
}

from_choice : {A : Type 0} (b : Bool) (x : A) (xs : List A) → IsIn x (if b then xs else []) → (b ≡ true) × IsIn x xs
from_choice true x xs h = (refl, h)
from_choice false x xs h = absurd h

-- ---- the list

module _ (dialect : Dialect) (s : Site) (v : Views) (permits : List Permit) (i : ℕ) (plain : (q : Permit) → IsIn q permits → HasPlainBox q)
    (nets : (n : ℕ) → IsNet (net_of s.policy n)) (replies : places_replies_at s.policy i ≡ true → dialect ≡ Ios) where
  abbrev view : List ℕ
  view = view_here s v permits i

  between_plain : (u w k : ℕ) → IsIn k (permits_between permits u w) → HasPlainBox (permit_at permits k)
  between_plain u w k h =
      let a = places_sound (λ (q : Permit). (q.src.net == u) && (q.dst.net == w)) permits no_permit k h in
      plain (permit_at permits k) (in_at permits no_permit k a.0)

  forward_line : (u w k : ℕ) (l : Line) → IsIn k (permits_between permits u w) → IsIn l (permit_lines s.policy view (permit_at permits k)) → IsWritten dialect l
  forward_line u w k l h there =
      permit_line dialect s.policy view (permit_at permits k) l (plain_stands dialect (permit_at permits k).box (between_plain u w k h)) there

  reply_line : (e : NetPair) (k : ℕ) (l : Line) → IsIn k (replied_between s.policy permits i e) → IsIn l (flat_map (permit_lines s.policy view) (mirrors_of (permit_at permits k))) →
      IsWritten dialect l
  reply_line e k l h there =
      let first : Permit = permit_at permits k in
      let all = permits_between permits e.dst e.src in
      let c = from_choice (places_replies_at s.policy i) k (filter (λ k. has_replies (permit_at permits k).box) all) h in
      let own = between_plain e.dst e.src k (from_filter (λ k. has_replies (permit_at permits k).box) k all c.1).0 in
      let m = from_flat_map (permit_lines s.policy view) l (mirrors_of first) there in
      let f = from_map (λ (box : TransportBox). record { src = first.dst; dst = first.src; box = box }) m.0 (mirrored_boxes first.box) m.1 in
      let stands : IsEntryBox dialect f.0 = subst (λ (d : Dialect). IsEntryBox d f.0) (sym (replies c.0)) (mirrored_stands first.box f.0 own f.1) in
      permit_line dialect s.policy view m.0 l (subst (λ (q : Permit). IsEntryBox dialect q.box) (sym f.2) stands) m.2

  pair_line : (e : NetPair) (l : Line) → IsIn l (pair_lines s v permits i e) → IsWritten dialect l
  pair_line e l h =
      let forward = λ (k : ℕ). permit_lines s.policy view (permit_at permits k) in
      let mirrored = λ (k : ℕ). flat_map (permit_lines s.policy view) (mirrors_of (permit_at permits k)) in
      let own = permits_between permits e.src e.dst in
      let back = replied_between s.policy permits i e in
      ⊎_elim (λ g. let w = from_flat_map forward l own g in forward_line e.src e.dst w.0 l w.1 w.2)
      (λ g. let w = from_flat_map mirrored l back g in reply_line e w.0 l w.1 w.2)
      (from_append l (flat_map forward own) (flat_map mirrored back) h)

  block_line : (b : Block) (l : Line) → IsIn l (block_lines s v permits i b) → IsWritten dialect l
  block_line b l h =
      let src = prefix_in s.policy view b.pair.src in
      let dst = prefix_in s.policy view b.pair.dst in
      ⊎_elim (pair_line b.pair l)
      (λ g. closing_line dialect src dst l (λ q e. seen_good s.policy view b.pair.src q (nets b.pair.src) e) (λ q e. seen_good s.policy view b.pair.dst q (nets b.pair.dst) e)
      (from_choice b.closed l (closing_lines src dst) g).1)
      (from_append l (pair_lines s v permits i b.pair) (if b.closed then closing_lines src dst else []) h)

  pub each_line : (l : Line) → IsIn l (list_at s v permits i) → IsWritten dialect l
  each_line l h =
      ⊎_elim (λ g. let w = from_flat_map (block_lines s v permits i) l (placement s v permits i) g in block_line w.0 l w.2)
      (λ g. ⊎_elim (last_line dialect l) (λ none. absurd none) g)
      (from_append l (flat_map (block_lines s v permits i) (placement s v permits i)) (deny_all ∷ []) h)

-- ---- as text

one_end : (dialect : Dialect) (ps : List Cidr) (p : Cidr) → ps ≡ p ∷ [] → IsPrefix p → IsPrintedEnd dialect ps
one_end Ios ps p e h = subst (IsPrintedEnd Ios) (sym e) h
one_end Asa ps p e h = subst (IsPrintedEnd Asa) (sym e) (h, tt)

line_printed : (dialect : Dialect) (l : Line) → IsWritten dialect l → IsPrintedLine dialect l
line_printed dialect l w = record { src = one_end dialect l.src w.src w.src_is w.src_good; dst = one_end dialect l.dst w.dst w.dst_is w.dst_good; box = w.box }

pub all_listed : {A : Type 0} (P : A → Type 0) (xs : List A) → ((x : A) → IsIn x xs → P x) → AllByRecursion P xs
all_listed P [] each = tt
all_listed P (x ∷ xs) each = (each x (inl refl), all_listed P xs (λ y h. each y (inr h)))

pub list_printed : (dialect : Dialect) (lines : List Line) → lines ≢ [] → ((l : Line) → IsIn l lines → IsWritten dialect l) → IsPrintedList dialect lines
list_printed Ios lines some each = all_listed (IsPrintedLine Ios) lines (λ l h. line_printed Ios l (each l h))
list_printed Asa lines some each = (some, all_listed (IsPrintedLine Asa) lines (λ l h. line_printed Asa l (each l h)))

pub not_none : {A : Type 0} (x : A) (xs : List A) → x ∷ xs ≢ []
not_none x xs e = absurd (cc)

pub ends_in_one : {A : Type 0} (xs : List A) (x : A) → xs ++ x ∷ [] ≢ []
ends_in_one [] x = not_none x []
ends_in_one (y ∷ ys) x = not_none y (ys ++ x ∷ [])
