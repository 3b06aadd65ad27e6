-- Prefixes without repeats, one more at a time.
use Rattle.std.proofs.Common.{◌≡◌, ℕ, ◌+◌, ◌<◌, Bool, true, false, not, cond, ◌&&◌, ◌||◌, ◌==◌, List, [], ◌∷◌, ◌++◌, map, take, get_or, length, refl, sym, ap, ◌∙◌}
use Rattle.std.specs.Prelude.{filter, flat_map}
use Rattle.std.specs.List.{list_any}
use Rattle.std.proofs.lemmas.Bool.{false≢true}
use Rattle.std.proofs.lemmas.List.{append-nil, append_assoc, map-append, take_more}
use Rattle.std.proofs.lemmas.List.Elements.{filter-append}
use Rattle.std.proofs.lemmas.Map.Views.{any-filter_same}
use Rattle.std.proofs.lemmas.Grind.{flat_map-append}
use Rattle.spoc_base.specs.Address.{Cidr, same_prefix}
use Rattle.spoc_base.specs.Shown.{cidr_of}
use Rattle.spoc_base.specs.declared.address.Prefix.{Prefix}
use Rattle.policy_model.specs.Lists.{once_each}
use Rattle.policy_model.specs.Filters.{Line}
use Rattle.list_laws.proofs.Nesting.{same_from, same_parts}
use Rattle.list_laws.proofs.Members.{same_truth}
use Rattle.list_laws.proofs.Grouping.{prefix_equal}
use Rattle.dev_config.specs.declared.setup.Line.{Line as CodeLine}
use Rattle.dev_config.specs.Seen.{line_of}
use Rattle.object_groups.specs.Keys.{key_of}
use Rattle.object_groups.proofs.Ends.{numbers_same}

abbrev once : List Cidr → List Cidr
once ps = once_each same_prefix ps

abbrev other_than : Cidr → Cidr → Bool
other_than x y = not (same_prefix x y)

-- ---- one prefix behind others

pushed : (b : Bool) (ps : List Cidr) (q : Cidr) → (ps ++ cond b (q ∷ []) []) ≡ cond b (ps ++ q ∷ []) ps
pushed true ps q = refl
pushed false ps q = append-nil ps

filter_push : (f : Cidr → Bool) (ps : List Cidr) (q : Cidr) → filter f (ps ++ q ∷ []) ≡ cond (f q) (filter f ps ++ q ∷ []) (filter f ps)
filter_push f ps q = filter-append f ps (q ∷ []) ∙ pushed (f q) (filter f ps) q

filter_once : (x q : Cidr) (ps : List Cidr) (b c : Bool) → same_prefix x q ≡ c →
    filter (other_than x) (cond b ps (ps ++ q ∷ [])) ≡ cond (c || b) (filter (other_than x) ps) (filter (other_than x) ps ++ q ∷ [])
filter_once x q ps true true e = refl
filter_once x q ps true false e = refl
filter_once x q ps false true e = filter_push (other_than x) ps q ∙ ap (λ c. cond (not c) (filter (other_than x) ps ++ q ∷ []) (filter (other_than x) ps)) e
filter_once x q ps false false e = filter_push (other_than x) ps q ∙ ap (λ c. cond (not c) (filter (other_than x) ps ++ q ∷ []) (filter (other_than x) ps)) e

cons_cond : (b : Bool) (x : Cidr) (ps qs : List Cidr) → (x ∷ cond b ps qs) ≡ cond b (x ∷ ps) (x ∷ qs)
cons_cond true x ps qs = refl
cons_cond false x ps qs = refl

once_push : (ps : List Cidr) (q : Cidr) → once (ps ++ q ∷ []) ≡ cond (list_any (λ x. same_prefix x q) ps) (once ps) (once ps ++ q ∷ [])
once_push [] q = refl
once_push (x ∷ ps) q =
    ap (λ ys. x ∷ filter (other_than x) ys) (once_push ps q)
    ∙ (ap (λ ys. x ∷ ys) (filter_once x q (once ps) (list_any (λ x. same_prefix x q) ps) (same_prefix x q) refl)
    ∙ cons_cond (same_prefix x q || list_any (λ x. same_prefix x q) ps) x (filter (other_than x) (once ps)) (filter (other_than x) (once ps) ++ q ∷ []))

module _ (test : Cidr → Bool) where
  apart : (x z : Cidr) (b : Bool) → same_prefix x z ≡ b → test x ≡ false → test z ≡ true → not b ≡ true
  apart x z true e miss hit = sym miss ∙ (ap test (prefix_equal x z e) ∙ hit)
  apart x z false e miss hit = refl

  any_without : (x : Cidr) (ps : List Cidr) (b : Bool) → test x ≡ b → (b || list_any test (filter (other_than x) ps)) ≡ (b || list_any test ps)
  any_without x ps true e = refl
  any_without x ps false e = any-filter_same test (other_than x) true (λ z hit. apart x z (same_prefix x z) refl e hit) ps

  once_any : (ps : List Cidr) → list_any test (once ps) ≡ list_any test ps
  once_any [] = refl
  once_any (x ∷ ps) = any_without x (once ps) (test x) refl ∙ ap (λ r. test x || r) (once_any ps)

-- ---- keys

abbrev pub equal_keys : ℕ × ℕ → ℕ × ℕ → Bool
equal_keys k m = (k.0 == m.0) && (k.1 == m.1)

swapped : (p q : Cidr) → same_prefix p q ≡ same_prefix q p
swapped p q = same_truth (same_prefix p q) (same_prefix q p) (λ h. let w = same_parts p q h in same_from q p (sym w.net) (sym w.len)) (λ h. let w = same_parts q p h in same_from p q (sym w.net) (sym w.len))

key_same : (x p : Prefix) → equal_keys (key_of p) (key_of x) ≡ same_prefix (cidr_of x) (cidr_of p)
key_same x p = numbers_same (cidr_of p) (cidr_of x) ∙ swapped (cidr_of p) (cidr_of x)

seen_any : (kept : List Prefix) (p : Prefix) → list_any (equal_keys (key_of p)) (map key_of kept) ≡ list_any (λ x. same_prefix x (cidr_of p)) (map cidr_of kept)
seen_any [] p = refl
seen_any (x ∷ kept) p =
    ap (λ b. b || list_any (equal_keys (key_of p)) (map key_of kept)) (key_same x p) ∙ ap (λ b. same_prefix (cidr_of x) (cidr_of p) || b) (seen_any kept p)

-- what is kept, after one more
one_more : (before : List Cidr) (kept : List Prefix) (p : Prefix) (b : Bool) → map cidr_of kept ≡ once before → list_any (equal_keys (key_of p)) (map key_of kept) ≡ b →
    cond b (map cidr_of kept) (map cidr_of kept ++ cidr_of p ∷ []) ≡ once (before ++ cidr_of p ∷ [])
one_more before kept p b so_far e =
    let test = λ (x : Cidr). same_prefix x (cidr_of p) in
    ap (λ c. cond c (map cidr_of kept) (map cidr_of kept ++ cidr_of p ∷ [])) (sym e ∙ (seen_any kept p ∙ (ap (list_any test) so_far ∙ once_any test before)))
    ∙ (ap (λ ps. cond (list_any test before) ps (ps ++ cidr_of p ∷ [])) so_far ∙ sym (once_push before (cidr_of p)))

one_further : (before : List Cidr) (prefixes : List Prefix) (i : ℕ) (p : Prefix) → i < length prefixes → p ≡ get_or prefixes i p →
    once ((before ++ map cidr_of (take i prefixes)) ++ cidr_of p ∷ []) ≡ once (before ++ map cidr_of (take (i + 1) prefixes))
one_further before prefixes i p below is =
    ap once (append_assoc before (map cidr_of (take i prefixes)) (cidr_of p ∷ [])
    ∙ ap (λ ps. before ++ ps) (sym (map-append cidr_of (take i prefixes) (p ∷ [])) ∙ ap (map cidr_of) (ap (λ x. take i prefixes ++ x ∷ []) is ∙ sym (take_more prefixes i p below))))

none_by : (any new : Bool) → new ≡ not any → new ≡ true → any ≡ false
none_by true new e t = absurd (false≢true (sym e ∙ t))
none_by false new e t = refl

some_by : (any new : Bool) → new ≡ not any → new ≡ false → any ≡ true
some_by true new e f = refl
some_by false new e f = absurd (false≢true (sym f ∙ e))

-- a key is looked for, and put behind the keys of those kept unless it is there
pub record IsTried (kept : List Prefix) (p : Prefix) (keys after : List (ℕ × ℕ)) (new : Bool) (key : ℕ × ℕ) : Type 0 where
  pub seen : keys ≡ map key_of kept
  pub key_is : key ≡ key_of p
  pub added : new ≡ not (list_any (equal_keys key) keys)
  pub after_is : after ≡ cond (list_any (equal_keys key) keys) keys (keys ++ key ∷ [])

was_any : (kept : List Prefix) (p : Prefix) (keys : List (ℕ × ℕ)) (key : ℕ × ℕ) (b : Bool) → keys ≡ map key_of kept → key ≡ key_of p → list_any (equal_keys key) keys ≡ b →
    list_any (equal_keys (key_of p)) (map key_of kept) ≡ b
was_any kept p keys key b e f g = ap (λ k. list_any (equal_keys k) (map key_of kept)) (sym f) ∙ (ap (list_any (equal_keys key)) (sym e) ∙ g)

-- a prefix that isn't there is kept
pub new_kept : (prefixes kept now : List Prefix) (i : ℕ) (p : Prefix) (keys after : List (ℕ × ℕ)) (new : Bool) (key : ℕ × ℕ) (before : List Cidr) → i < length prefixes → p ≡ get_or prefixes i p →
    IsTried kept p keys after new key → new ≡ true → now ≡ kept ++ p ∷ [] → map cidr_of kept ≡ once (before ++ map cidr_of (take i prefixes)) →
    map cidr_of now ≡ once (before ++ map cidr_of (take (i + 1) prefixes))
new_kept prefixes kept now i p keys after new key before below is tried t grown so_far =
    let none = was_any kept p keys key false tried.seen tried.key_is (none_by (list_any (equal_keys key) keys) new tried.added t) in
    ap (map cidr_of) grown ∙ (map-append cidr_of kept (p ∷ []) ∙ (one_more (before ++ map cidr_of (take i prefixes)) kept p false so_far none ∙ one_further before prefixes i p below is))

pub new_seen : (kept now : List Prefix) (p : Prefix) (keys after : List (ℕ × ℕ)) (new : Bool) (key : ℕ × ℕ) → IsTried kept p keys after new key → new ≡ true → now ≡ kept ++ p ∷ [] → after ≡ map key_of now
new_seen kept now p keys after new key tried t grown =
    let none = none_by (list_any (equal_keys key) keys) new tried.added t in
    tried.after_is
    ∙ (ap (λ b. cond b keys (keys ++ key ∷ [])) none
    ∙ (ap (λ ks. ks ++ key ∷ []) tried.seen ∙ (ap (λ k. map key_of kept ++ k ∷ []) tried.key_is ∙ (sym (map-append key_of kept (p ∷ [])) ∙ ap (map key_of) (sym grown)))))

-- and one that is there changes nothing
pub old_kept : (prefixes kept : List Prefix) (i : ℕ) (p : Prefix) (keys after : List (ℕ × ℕ)) (new : Bool) (key : ℕ × ℕ) (before : List Cidr) → i < length prefixes → p ≡ get_or prefixes i p →
    IsTried kept p keys after new key → new ≡ false → map cidr_of kept ≡ once (before ++ map cidr_of (take i prefixes)) → map cidr_of kept ≡ once (before ++ map cidr_of (take (i + 1) prefixes))
old_kept prefixes kept i p keys after new key before below is tried f so_far =
    let some = was_any kept p keys key true tried.seen tried.key_is (some_by (list_any (equal_keys key) keys) new tried.added f) in
    one_more (before ++ map cidr_of (take i prefixes)) kept p true so_far some ∙ one_further before prefixes i p below is

pub old_seen : (kept : List Prefix) (p : Prefix) (keys after : List (ℕ × ℕ)) (new : Bool) (key : ℕ × ℕ) → IsTried kept p keys after new key → new ≡ false → after ≡ map key_of kept
old_seen kept p keys after new key tried f =
    tried.after_is ∙ (ap (λ b. cond b keys (keys ++ key ∷ [])) (some_by (list_any (equal_keys key) keys) new tried.added f) ∙ tried.seen)

-- ---- a line more

abbrev src_of : Line → List Cidr
src_of l = l.src

sources_more : (lines : List CodeLine) (i : ℕ) (x : CodeLine) → i < length lines → x ≡ get_or lines i x →
    flat_map src_of (map line_of (take i lines)) ++ map cidr_of x.src.now ≡ flat_map src_of (map line_of (take (i + 1) lines))
sources_more lines i x below is =
    ap (λ ps. flat_map src_of (map line_of (take i lines)) ++ ps) (sym (append-nil (map cidr_of x.src.now)))
    ∙ (sym (flat_map-append src_of (map line_of (take i lines)) (line_of x ∷ []))
    ∙ ap (flat_map src_of) (sym (map-append line_of (take i lines) (x ∷ [])) ∙ ap (map line_of) (ap (λ y. take i lines ++ y ∷ []) is ∙ sym (take_more lines i x below))))

pub line_more : (lines : List CodeLine) (i : ℕ) (x : CodeLine) (kept now : List Prefix) → i < length lines → x ≡ get_or lines i x →
    map cidr_of kept ≡ once_each same_prefix (flat_map (λ l. l.src) (map line_of (take i lines))) →
    ((before : List Cidr) → map cidr_of kept ≡ once_each same_prefix before → map cidr_of now ≡ once_each same_prefix (before ++ map cidr_of x.src.now)) →
    map cidr_of now ≡ once_each same_prefix (flat_map (λ l. l.src) (map line_of (take (i + 1) lines)))
line_more lines i x kept now below is so_far more = more (flat_map src_of (map line_of (take i lines))) so_far ∙ ap once (sources_more lines i x below is)
