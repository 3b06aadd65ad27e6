-- A grouped list has lines whose ends have prefixes of the ends of the list's lines, no more lines than the list, and isn't empty where the list isn't.
use Rattle.std.proofs.Common.{◌≡◌, ◌≢◌, ◌≤◌, ℕ, zero, suc, inl, inr, Bool, true, false, cond, List, [], ◌∷◌, ◌++◌, length, refl, sym, subst, arith, ⊎_elim}
use Rattle.std.specs.Prelude.{not, filter}
use Rattle.spoc_base.specs.Address.{Cidr, same_prefix}
use Rattle.spoc_base.specs.declared.dialect.Dialect.{Dialect}
use Rattle.spoc_base.specs.declared.dialect.Dialect.TheVariants.{Asa}
use Rattle.policy_model.specs.Lists.{once_each}
use Rattle.policy_model.specs.Filters.{Line}
use Rattle.policy_model.specs.Grouped.{joined_prefixes, share_destinations, share_sources, with_source_of, with_destination_of, sources_joined, destinations_joined, joined_in_turn, grouped_lines}
use Rattle.policy_model.proofs.AllWalks.{IsIn}
use Rattle.policy_laws.proofs.Members.{from_append, from_filter}
use Rattle.device_reading.specs.Grammar.{IsPrefix, IsEntryBox}
use Rattle.text_laws.specs.Printable.{IsPrintedEnd, IsPrintedLine, IsPrintedList}
use Rattle.printed_laws.proofs.Lines.{IsWritten, all_listed, not_none}
use Rattle.printed_laws.proofs.Kept.{few_kept}

-- some prefixes, and each is one that may be printed
pub record IsGoodEnd (ps : List Cidr) : Type 0 where
  pub some : ps ≢ []
  pub good : (q : Cidr) → IsIn q ps → IsPrefix q

pub record IsWide (dialect : Dialect) (l : Line) : Type 0 where
  pub src : IsGoodEnd l.src
  pub dst : IsGoodEnd l.dst
  pub box : IsEntryBox dialect l.box

one_good : (ps : List Cidr) (p : Cidr) → ps ≡ p ∷ [] → IsPrefix p → IsGoodEnd ps
one_good ps p e h = subst IsGoodEnd (sym e) (record { some = not_none p []; good = alone })
  where
    alone : (q : Cidr) → IsIn q (p ∷ []) → IsPrefix q
    alone q (inl same) = subst IsPrefix (sym same) h
    alone q (inr none) = absurd none

pub wide : (dialect : Dialect) (l : Line) → IsWritten dialect l → IsWide dialect l
wide dialect l w = record { src = one_good l.src w.src w.src_is w.src_good; dst = one_good l.dst w.dst w.dst_is w.dst_good; box = w.box }

-- ---- ends joined

pub from_once : {A : Type 0} (same : A → A → Bool) (xs : List A) (x : A) → IsIn x (once_each same xs) → IsIn x xs
from_once same [] x h = h
from_once same (y ∷ ys) x (inl e) = inl e
from_once same (y ∷ ys) x (inr h) = inr (from_once same ys x (from_filter (λ z. not (same y z)) x (once_each same ys) h).0)

some_joined : (ps qs : List Cidr) → ps ≢ [] → joined_prefixes ps qs ≢ []
some_joined [] qs some = absurd (some refl)
some_joined (p ∷ ps) qs some = not_none p (filter (λ q. not (same_prefix p q)) (once_each same_prefix (ps ++ qs)))

joined_good : (ps qs : List Cidr) → IsGoodEnd ps → IsGoodEnd qs → IsGoodEnd (joined_prefixes ps qs)
joined_good ps qs a b = record {
  some = some_joined ps qs a.some;
  good = λ q h. ⊎_elim (a.good q) (b.good q) (from_append q ps qs (from_once same_prefix (ps ++ qs) q h));
}

-- ---- lines joined

module _ (dialect : Dialect) where
  abbrev AreWide : List Line → Type 0
  AreWide lines = (l : Line) → IsIn l lines → IsWide dialect l

  with_source : (l : Line) (lines : List Line) → IsWide dialect l → AreWide lines → AreWide (with_source_of l lines)
  with_source l [] w ws m (inl e) = subst (IsWide dialect) (sym e) w
  with_source l [] w ws m (inr none) = absurd none
  with_source l (x ∷ xs) w ws m h = go (share_destinations l x) h
    where
      joined : IsWide dialect (record l { src = joined_prefixes l.src x.src })
      joined = record { src = joined_good l.src x.src w.src (ws x (inl refl)).src; dst = w.dst; box = w.box }

      go : (b : Bool) → IsIn m (cond b (record l { src = joined_prefixes l.src x.src } ∷ xs) (l ∷ x ∷ xs)) → IsWide dialect m
      go true (inl e) = subst (IsWide dialect) (sym e) joined
      go true (inr g) = ws m (inr g)
      go false (inl e) = subst (IsWide dialect) (sym e) w
      go false (inr g) = ws m g

  with_destination : (l : Line) (lines : List Line) → IsWide dialect l → AreWide lines → AreWide (with_destination_of l lines)
  with_destination l [] w ws m (inl e) = subst (IsWide dialect) (sym e) w
  with_destination l [] w ws m (inr none) = absurd none
  with_destination l (x ∷ xs) w ws m h = go (share_sources l x) h
    where
      joined : IsWide dialect (record l { dst = joined_prefixes l.dst x.dst })
      joined = record { src = w.src; dst = joined_good l.dst x.dst w.dst (ws x (inl refl)).dst; box = w.box }

      go : (b : Bool) → IsIn m (cond b (record l { dst = joined_prefixes l.dst x.dst } ∷ xs) (l ∷ x ∷ xs)) → IsWide dialect m
      go true (inl e) = subst (IsWide dialect) (sym e) joined
      go true (inr g) = ws m (inr g)
      go false (inl e) = subst (IsWide dialect) (sym e) w
      go false (inr g) = ws m g

  sources_wide : (lines : List Line) → AreWide lines → AreWide (sources_joined lines)
  sources_wide [] ws = ws
  sources_wide (l ∷ lines) ws = with_source l (sources_joined lines) (ws l (inl refl)) (sources_wide lines (λ m h. ws m (inr h)))

  destinations_wide : (lines : List Line) → AreWide lines → AreWide (destinations_joined lines)
  destinations_wide [] ws = ws
  destinations_wide (l ∷ lines) ws = with_destination l (destinations_joined lines) (ws l (inl refl)) (destinations_wide lines (λ m h. ws m (inr h)))

  turns_wide : (n : ℕ) (lines : List Line) → AreWide lines → AreWide (joined_in_turn n lines)
  turns_wide zero lines ws = ws
  turns_wide (suc n) lines ws = turns_wide n (destinations_joined (sources_joined lines)) (destinations_wide (sources_joined lines) (sources_wide lines ws))

  pub grouped_wide : (lines : List Line) → AreWide lines → AreWide (grouped_lines lines)
  grouped_wide lines = turns_wide (length lines) lines

-- ---- how many, and some

few_with_source : (l : Line) (lines : List Line) → length (with_source_of l lines) ≤ suc (length lines)
few_with_source l [] = omega arith
few_with_source l (x ∷ xs) = go (share_destinations l x)
  where
    go : (b : Bool) → length (cond b (record l { src = joined_prefixes l.src x.src } ∷ xs) (l ∷ x ∷ xs)) ≤ suc (length (x ∷ xs))
    go true = omega arith
    go false = omega arith

few_with_destination : (l : Line) (lines : List Line) → length (with_destination_of l lines) ≤ suc (length lines)
few_with_destination l [] = omega arith
few_with_destination l (x ∷ xs) = go (share_sources l x)
  where
    go : (b : Bool) → length (cond b (record l { dst = joined_prefixes l.dst x.dst } ∷ xs) (l ∷ x ∷ xs)) ≤ suc (length (x ∷ xs))
    go true = omega arith
    go false = omega arith

few_sources : (lines : List Line) → length (sources_joined lines) ≤ length lines
few_sources [] = omega arith
few_sources (l ∷ lines) = let a = few_with_source l (sources_joined lines) in let b = few_sources lines in omega (arith, a, b)

few_destinations : (lines : List Line) → length (destinations_joined lines) ≤ length lines
few_destinations [] = omega arith
few_destinations (l ∷ lines) = let a = few_with_destination l (destinations_joined lines) in let b = few_destinations lines in omega (arith, a, b)

few_turns : (n : ℕ) (lines : List Line) → length (joined_in_turn n lines) ≤ length lines
few_turns zero lines = omega arith
few_turns (suc n) lines =
    let a = few_turns n (destinations_joined (sources_joined lines)) in
    let b = few_destinations (sources_joined lines) in
    let c = few_sources lines in
    omega (arith, a, b, c)

pub few_grouped : (lines : List Line) → length (grouped_lines lines) ≤ length lines
few_grouped lines = few_turns (length lines) lines

some_with_source : (l : Line) (lines : List Line) → with_source_of l lines ≢ []
some_with_source l [] = not_none l []
some_with_source l (x ∷ xs) = go (share_destinations l x)
  where
    go : (b : Bool) → cond b (record l { src = joined_prefixes l.src x.src } ∷ xs) (l ∷ x ∷ xs) ≢ []
    go true = not_none (record l { src = joined_prefixes l.src x.src }) xs
    go false = not_none l (x ∷ xs)

some_with_destination : (l : Line) (lines : List Line) → with_destination_of l lines ≢ []
some_with_destination l [] = not_none l []
some_with_destination l (x ∷ xs) = go (share_sources l x)
  where
    go : (b : Bool) → cond b (record l { dst = joined_prefixes l.dst x.dst } ∷ xs) (l ∷ x ∷ xs) ≢ []
    go true = not_none (record l { dst = joined_prefixes l.dst x.dst }) xs
    go false = not_none l (x ∷ xs)

some_sources : (lines : List Line) → lines ≢ [] → sources_joined lines ≢ []
some_sources [] some = some
some_sources (l ∷ lines) some = some_with_source l (sources_joined lines)

some_destinations : (lines : List Line) → lines ≢ [] → destinations_joined lines ≢ []
some_destinations [] some = some
some_destinations (l ∷ lines) some = some_with_destination l (destinations_joined lines)

some_turns : (n : ℕ) (lines : List Line) → lines ≢ [] → joined_in_turn n lines ≢ []
some_turns zero lines some = some
some_turns (suc n) lines some = some_turns n (destinations_joined (sources_joined lines)) (some_destinations (sources_joined lines) (some_sources lines some))

pub some_grouped : (lines : List Line) → lines ≢ [] → grouped_lines lines ≢ []
some_grouped lines = some_turns (length lines) lines

-- ---- as text

end_printed : (ps : List Cidr) → IsGoodEnd ps → IsPrintedEnd Asa ps
end_printed [] g = absurd (g.some refl)
end_printed (p ∷ ps) g = all_listed IsPrefix (p ∷ ps) g.good

wide_line : (l : Line) → IsWide Asa l → IsPrintedLine Asa l
wide_line l w = record { src = end_printed l.src w.src; dst = end_printed l.dst w.dst; box = w.box }

pub wide_printed : (lines : List Line) → lines ≢ [] → AreWide Asa lines → IsPrintedList Asa lines
wide_printed lines some each = (some, all_listed (IsPrintedLine Asa) lines (λ l h. wide_line l (each l h)))
