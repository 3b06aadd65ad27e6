-- What is placed at an interface are blocks whose networks and permits are there, and their lines are the list.
use Rattle.std.proofs.Common.{◌≡◌, ℕ, ◌<◌, ◌+◌, ◌-◌, inl, inr, Bool, true, false, List, [], ◌∷◌, ◌++◌, length, map, refl, sym, ap, subst, ◌∙◌}
use Rattle.std.specs.Prelude.{◌&&◌, ◌==◌, filter, flat_map, if◌then◌else◌}
use Rattle.std.specs.List.{All}
use Rattle.std.proofs.lemmas.List.Elements.{All-nil, All-cons}
use Rattle.policy_model.specs.Lists.{numbers_below, pairs_of}
use Rattle.policy_model.specs.Policy.{Policy, all_nets}
use Rattle.policy_model.specs.Zones.{Site}
use Rattle.policy_model.specs.Tags.{Views}
use Rattle.policy_model.specs.Permits.{Permit, has_replies}
use Rattle.policy_model.specs.Blocks.{NetPair, Block, all_pairs, is_on_path, pairs_on_path, no_permit, permit_at, permits_between, replied_between, places_replies_at, view_here, block_of, is_needed, depth_of, placement, block_lines, list_at}
use Rattle.policy_model.specs.Filters.{deny_all}
use Rattle.policy_model.proofs.AllWalks.{IsIn, from_map}
use Rattle.policy_laws.proofs.Members.{from_flat_map, from_filter}
use Rattle.policy_laws.proofs.Placed.{below_count}
use Rattle.policy_laws.proofs.PermitLines.{places_sound, from_pairs}
use Rattle.permit_set.specs.declared.block.PairBlock.{PairBlock}
use Rattle.acl_build.specs.Given.{IsBlock}
use Rattle.acl_build.specs.Pieces.{lines_of_block}
use Rattle.dev_config.specs.Seen.{line_of}
use Rattle.dev_config.specs.declared.setup.Line.{Line}
use Rattle.nat_view.specs.Seen.{Sight}
use Rattle.acl_build.specs.Seen.{block_seen, GrowsBy}
use Rattle.acl_build.specs.Limit.{RefusesLines}
use Rattle.acl_build.proofs.Limits.{over_whole, over_last}
use Rattle.spoc_base.specs.declared.fault.Refusal.{Refusal}

-- ---- members of lists

all_from : {A : Type 0} (P : A → Type 0) (xs : List A) → ((x : A) → IsIn x xs → P x) → All P xs
all_from P [] h = All-nil P
all_from P (x ∷ xs) h = All-cons P x xs (h x (inl refl)) (all_from P xs (λ y g. h y (inr g)))

all_seen : {A B : Type 0} (P : B → Type 0) (f : A → B) (xs : List A) → ((y : B) → IsIn y (map f xs) → P y) → All (λ x. P (f x)) xs
all_seen P f [] h = All-nil (λ x. P (f x))
all_seen P f (x ∷ xs) h = All-cons (λ x. P (f x)) x xs (h (f x) (inl refl)) (all_seen P f xs (λ y g. h y (inr g)))

same_pieces : {A B : Type 0} (f g : A → List B) (xs : List A) → ((x : A) → IsIn x xs → f x ≡ g x) → flat_map f xs ≡ flat_map g xs
same_pieces f g [] h = refl
same_pieces f g (x ∷ xs) h = ap (λ ys. ys ++ flat_map f xs) (h x (inl refl)) ∙ ap (λ ys. g x ++ ys) (same_pieces f g xs (λ y e. h y (inr e)))

from_choice : {A : Type 0} (b : Bool) (x : A) (xs : List A) → IsIn x (if b then xs else []) → IsIn x xs
from_choice true x xs h = h
from_choice false x xs h = absurd h

module _ (s : Site) (v : Views) (permits : List Permit) (i : ℕ) where
  between_below : (u w k : ℕ) → IsIn k (permits_between permits u w) → k < length permits
  between_below u w k h = (places_sound (λ (q : Permit). (q.src.net == u) && (q.dst.net == w)) permits no_permit k h).0

  replied_below : (e : NetPair) (k : ℕ) → IsIn k (replied_between s.policy permits i e) → k < length permits
  replied_below e k h =
      let all = permits_between permits e.dst e.src in
      let w = from_choice (places_replies_at s.policy i) k (filter (λ k. has_replies (permit_at permits k).box) all) h in
      between_below e.dst e.src k (from_filter (λ k. has_replies (permit_at permits k).box) k all w).0

  src_of : (e : NetPair) (u w : ℕ) → e ≡ record { src = u; dst = w } → u < length s.policy.nets → e.src < length s.policy.nets
  src_of e u w is below = subst (λ n. n < length s.policy.nets) (sym (ap (λ (k : NetPair). k.src) is)) below

  dst_of : (e : NetPair) (u w : ℕ) → e ≡ record { src = u; dst = w } → w < length s.policy.nets → e.dst < length s.policy.nets
  dst_of e u w is below = subst (λ n. n < length s.policy.nets) (sym (ap (λ (k : NetPair). k.dst) is)) below

  -- the block is that of a pair whose networks are there
  record IsBlockOf (b : Block) : Type 0 where
    pub pair : NetPair
    pub src_below : pair.src < length s.policy.nets
    pub dst_below : pair.dst < length s.policy.nets
    pub is : b ≡ block_of s v permits i pair

  from_placement : (b : Block) → IsIn b (placement s v permits i) → IsBlockOf b
  from_placement b h =
      let blocks = filter (is_needed s v permits i) (map (block_of s v permits i) (pairs_on_path s i)) in
      let f = from_flat_map (λ (k : ℕ). filter (λ b. depth_of s v permits i b.pair == 64 - k) blocks) b (numbers_below 65) h in
      let d = from_filter (λ b. depth_of s v permits i b.pair == 64 - f.0) b blocks f.2 in
      let n = from_filter (is_needed s v permits i) b (map (block_of s v permits i) (pairs_on_path s i)) d.0 in
      let m = from_map (block_of s v permits i) b (pairs_on_path s i) n.0 in
      let e : NetPair = m.0 in
      let w = from_filter (is_on_path s i) e (all_pairs s.policy) m.1 in
      let j = from_map (λ (x : ℕ × ℕ). record { src = x.0; dst = x.1 }) e (pairs_of (all_nets s.policy) (all_nets s.policy)) w.0 in
      let x : ℕ × ℕ = j.0 in
      let g = from_pairs (all_nets s.policy) (all_nets s.policy) x j.1 in
      record {
        pair = e;
        src_below = src_of e x.0 x.1 j.2 (below_count s.policy x.0 g.0);
        dst_below = dst_of e x.0 x.1 j.2 (below_count s.policy x.1 g.1);
        is = m.2;
      }

  placed_block : (b : Block) → IsIn b (placement s v permits i) → IsBlock s.policy (length permits) b
  placed_block b h =
      let w = from_placement b h in
      let its : IsBlock s.policy (length permits) (block_of s v permits i w.pair) = record {
        src = w.src_below;
        dst = w.dst_below;
        forward = all_from (λ k. k < length permits) (permits_between permits w.pair.src w.pair.dst) (between_below w.pair.src w.pair.dst);
        mirrored = all_from (λ k. k < length permits) (replied_between s.policy permits i w.pair) (replied_below w.pair);
      } in
      subst (IsBlock s.policy (length permits)) (sym w.is) its

  -- all blocks that are placed are such ones
  pub placed_blocks : (p : Policy) (count : ℕ) (pairs : List PairBlock) → p ≡ s.policy → count ≡ length permits → map block_seen pairs ≡ placement s v permits i →
      All (λ b. IsBlock p count (block_seen b)) pairs
  placed_blocks p count pairs e f g =
      all_seen (IsBlock p count) block_seen pairs
      (λ b h. subst (λ n. IsBlock p n b) (sym f) (subst (λ q. IsBlock q (length permits) b) (sym e) (placed_block b (subst (IsIn b) g h))))

  its_lines : (b : Block) → IsIn b (placement s v permits i) → lines_of_block s.policy (view_here s v permits i) permits b ≡ block_lines s v permits i b
  its_lines b h =
      let w = from_placement b h in
      subst (λ c. lines_of_block s.policy (view_here s v permits i) permits c ≡ block_lines s v permits i c) (sym w.is) refl

  pub blocks_give : (blocks : List Block) → blocks ≡ placement s v permits i →
      flat_map (lines_of_block s.policy (view_here s v permits i) permits) blocks ≡ flat_map (block_lines s v permits i) (placement s v permits i)
  blocks_give blocks e =
      ap (flat_map (lines_of_block s.policy (view_here s v permits i) permits)) e
      ∙ same_pieces (lines_of_block s.policy (view_here s v permits i) permits) (block_lines s v permits i) (placement s v permits i) its_lines

  blocks_are : (sight : Sight) (blocks : List Block) → sight.policy ≡ s.policy → sight.tags ≡ view_here s v permits i → blocks ≡ placement s v permits i →
      flat_map (lines_of_block sight.policy sight.tags permits) blocks ≡ flat_map (block_lines s v permits i) (placement s v permits i)
  blocks_are sight blocks e f g =
      ap (λ p. flat_map (lines_of_block p sight.tags permits) blocks) e ∙ (ap (λ t. flat_map (lines_of_block s.policy t permits) blocks) f ∙ blocks_give blocks g)

  -- the lines of the blocks in the interface's view, and then the last denial, are the list
  pub list_made : (sight : Sight) (blocks : List Block) (old mid new : List Line) → sight.policy ≡ s.policy → sight.tags ≡ view_here s v permits i → blocks ≡ placement s v permits i →
      old ≡ [] → GrowsBy (flat_map (lines_of_block sight.policy sight.tags permits) blocks) old mid → GrowsBy (deny_all ∷ []) mid new → map line_of new ≡ list_at s v permits i
  list_made sight blocks old mid new e f g none first last =
      let given = flat_map (lines_of_block sight.policy sight.tags permits) blocks in
      let start : map line_of mid ≡ given = first ∙ ap (λ os. map line_of os ++ given) none in
      last ∙ ap (λ ls. ls ++ deny_all ∷ []) (start ∙ blocks_are sight blocks e f g)

  -- blocks that are refused, and a last line that is, are too many lines of the list
  pub blocks_over : (sight : Sight) (blocks : List Block) (old : List Line) (most : ℕ) (r : Refusal) → sight.policy ≡ s.policy → sight.tags ≡ view_here s v permits i → blocks ≡ placement s v permits i →
      old ≡ [] → RefusesLines most (length old + length (flat_map (lines_of_block sight.policy sight.tags permits) blocks)) r → RefusesLines most (length (list_at s v permits i)) r
  blocks_over sight blocks old most r e f g none h =
      over_whole most (flat_map (block_lines s v permits i) (placement s v permits i)) (flat_map (lines_of_block sight.policy sight.tags permits) blocks) deny_all old r (blocks_are sight blocks e f g) none h

  pub last_over : (sight : Sight) (blocks : List Block) (old mid : List Line) (most : ℕ) (r : Refusal) → sight.policy ≡ s.policy → sight.tags ≡ view_here s v permits i → blocks ≡ placement s v permits i →
      old ≡ [] → GrowsBy (flat_map (lines_of_block sight.policy sight.tags permits) blocks) old mid → RefusesLines most (length mid + 1) r → RefusesLines most (length (list_at s v permits i)) r
  last_over sight blocks old mid most r e f g none grown h =
      over_last most (flat_map (block_lines s v permits i) (placement s v permits i)) (flat_map (lines_of_block sight.policy sight.tags permits) blocks) deny_all old mid r (blocks_are sight blocks e f g) none grown h
