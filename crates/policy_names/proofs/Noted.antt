-- What tables of names hold after one more.
use Rattle.std.proofs.Common.{arith, ◌≡◌, ◌∙◌, refl, sym, ap, ℕ, ◌<◌, ◌≢◌, Bool, true, false, not, ◌&&◌, ◌||◌, cond, eqb, List, [], ◌∷◌, ◌++◌, length, map, filter, get_or, set, append-nil, lit<, length-set}
use Rattle.std.specs.Str.{bytes_eq}
use Rattle.std.specs.List.{list_any}
use Rattle.std.proofs.lemmas.List.{map-append, get_or-set_other, get_or-set_same}
use Rattle.std.proofs.lemmas.List.Elements.{filter-append}
use Rattle.std.proofs.lemmas.Map.Views.{any-filter_same}
use Rattle.std.proofs.lemmas.Bool.Decides.{same_from_decides, nat_tests}
use Rattle.std.proofs.lemmas.Slice.Eq.{bytes_eq-Decides}
use Rattle.policy_model.specs.Lists.{once_each}
use Rattle.policy_decls.specs.Names.{NameKind, NetworkName, HostName, TagName, RouterName, IfaceName, GroupName, AreaName, AggregateName, ProtocolName, ProtocolGroupName, RestrictionName, ServiceName, number_of_kind, Mention, same_name}
use Rattle.policy_decls.specs.Uses.{is_tag}
use Rattle.policy_decls.specs.Said.{same_text}
use Rattle.policy_names.specs.Tables.{Key, same_key, key_of, text_of, of_kind, row_of, tags_after, AreTables}
use Rattle.policy_names.proofs.TestLemmas.{list_any_map}

pub kind_below : (k : NameKind) → number_of_kind k < 12
kind_below NetworkName = lit< tt
kind_below HostName = lit< tt
kind_below TagName = lit< tt
kind_below RouterName = lit< tt
kind_below IfaceName = lit< tt
kind_below GroupName = lit< tt
kind_below AreaName = lit< tt
kind_below AggregateName = lit< tt
kind_below ProtocolName = lit< tt
kind_below ProtocolGroupName = lit< tt
kind_below RestrictionName = lit< tt
kind_below ServiceName = lit< tt

pub eqb_sym : (a b : ℕ) → eqb a b ≡ eqb b a
eqb_sym a b = grind (arith, nat_tests)

pub bytes_sym : (xs ys : List ℕ) → bytes_eq xs ys ≡ bytes_eq ys xs
bytes_sym xs ys =
    let d = bytes_eq-Decides ys xs in
    same_from_decides (bytes_eq xs ys) (bytes_eq ys xs) (bytes_eq-Decides xs ys) ((λ e. sym (d.0 e)), (λ e. d.1 (sym e)))

-- ---- the row of a kind

cond_row : (b : Bool) (test : Key → Bool) (x : Mention) (ys : List Mention) → list_any test (map key_of (cond b (x ∷ ys) ys)) ≡ ((b && test (key_of x)) || list_any test (map key_of ys))
cond_row true test x ys = refl
cond_row false test x ys = refl

and_assoc : (a b c : Bool) → (a && (b && c)) ≡ ((a && b) && c)
and_assoc true b c = refl
and_assoc false b c = refl

pub twice_in_row : (names : List Mention) (m : Mention) → list_any (same_key (key_of m)) (row_of names (number_of_kind m.kind)) ≡ list_any (same_name m) names
twice_in_row [] m = refl
twice_in_row (x ∷ xs) m =
    let row = row_of xs (number_of_kind m.kind) in
    let own = same_key (key_of m) (key_of x) in
    cond_row (eqb (number_of_kind x.kind) (number_of_kind m.kind)) (same_key (key_of m)) x (filter (λ name. eqb (number_of_kind name.kind) (number_of_kind m.kind)) xs)
    ∙ ap (λ b. (b && own) || list_any (same_key (key_of m)) row) (eqb_sym (number_of_kind x.kind) (number_of_kind m.kind))
    ∙ ap (λ r. (eqb (number_of_kind m.kind) (number_of_kind x.kind) && own) || r) (twice_in_row xs m)
    ∙ ap (λ b. b || list_any (same_name m) xs) (and_assoc (eqb (number_of_kind m.kind) (number_of_kind x.kind)) (bytes_eq m.owner x.owner) (bytes_eq m.text x.text))

module _ {A B : Type 0} (g : A → B) where
  map_pushed : (b : Bool) (zs : List A) (y : A) → map g (zs ++ cond b (y ∷ []) []) ≡ cond b (map g zs ++ g y ∷ []) (map g zs)
  map_pushed true zs y = map-append g zs (y ∷ [])
  map_pushed false zs y = ap (map g) (append-nil zs)

  map_filter_push : (f : A → Bool) (xs : List A) (y : A) → map g (filter f (xs ++ y ∷ [])) ≡ cond (f y) (map g (filter f xs) ++ g y ∷ []) (map g (filter f xs))
  map_filter_push f xs y = ap (map g) (filter-append f xs (y ∷ [])) ∙ map_pushed (f y) (filter f xs) y

row_grows : (names : List Mention) (m : Mention) (n : ℕ) → row_of (names ++ m ∷ []) n ≡ cond (eqb (number_of_kind m.kind) n) (row_of names n ++ key_of m ∷ []) (row_of names n)
row_grows names m n = map_filter_push key_of (λ name. eqb (number_of_kind name.kind) n) names m

-- ---- the texts of tags

pushed : {A : Type 0} (b : Bool) (zs : List A) (y : A) → (zs ++ cond b (y ∷ []) []) ≡ cond b (zs ++ y ∷ []) zs
pushed true zs y = refl
pushed false zs y = append-nil zs

filter_push : {A : Type 0} (f : A → Bool) (xs : List A) (y : A) → filter f (xs ++ y ∷ []) ≡ cond (f y) (filter f xs ++ y ∷ []) (filter f xs)
filter_push f xs y = filter-append f xs (y ∷ []) ∙ pushed (f y) (filter f xs) y

module _ {A : Type 0} (same : A → A → Bool) where
  filter_once : (x y : A) (ys : List A) (b c : Bool) → same x y ≡ c → filter (λ z. not (same x z)) (cond b ys (ys ++ y ∷ [])) ≡ cond (c || b) (filter (λ z. not (same x z)) ys) (filter (λ z. not (same x z)) ys ++ y ∷ [])
  filter_once x y ys true true e = refl
  filter_once x y ys true false e = refl
  filter_once x y ys false true e = filter_push (λ z. not (same x z)) ys y ∙ ap (λ c. cond (not c) (filter (λ z. not (same x z)) ys ++ y ∷ []) (filter (λ z. not (same x z)) ys)) e
  filter_once x y ys false false e = filter_push (λ z. not (same x z)) ys y ∙ ap (λ c. cond (not c) (filter (λ z. not (same x z)) ys ++ y ∷ []) (filter (λ z. not (same x z)) ys)) e

  cons_cond : (b : Bool) (x : A) (ys zs : List A) → (x ∷ cond b ys zs) ≡ cond b (x ∷ ys) (x ∷ zs)
  cons_cond true x ys zs = refl
  cons_cond false x ys zs = refl

  pub once_push : (xs : List A) (y : A) → once_each same (xs ++ y ∷ []) ≡ cond (list_any (λ x. same x y) xs) (once_each same xs) (once_each same xs ++ y ∷ [])
  once_push [] y = refl
  once_push (x ∷ xs) y =
      ap (λ ys. x ∷ filter (λ z. not (same x z)) ys) (once_push xs y) ∙ ap (λ ys. x ∷ ys) (filter_once x y (once_each same xs) (list_any (λ x. same x y) xs) (same x y) refl)
      ∙ cons_cond (same x y || list_any (λ x. same x y) xs) x (filter (λ z. not (same x z)) (once_each same xs)) (filter (λ z. not (same x z)) (once_each same xs) ++ y ∷ [])

  module _ (p : A → Bool) (alike : (x z : A) → same x z ≡ true → p x ≡ p z) where
    apart : (x z : A) (b : Bool) → same x z ≡ b → p x ≡ false → p z ≡ true → not b ≡ true
    apart x z true e miss hit = sym miss ∙ alike x z e ∙ hit
    apart x z false e miss hit = refl

    any_without : (x : A) (ys : List A) (b : Bool) → p x ≡ b → (b || list_any p (filter (λ z. not (same x z)) ys)) ≡ (b || list_any p ys)
    any_without x ys true e = refl
    any_without x ys false e = any-filter_same p (λ z. not (same x z)) true (λ z hit. apart x z (same x z) refl e hit) ys

    pub once_any : (xs : List A) → list_any p (once_each same xs) ≡ list_any p xs
    once_any [] = refl
    once_any (x ∷ xs) = any_without x (once_each same xs) (p x) refl ∙ ap (λ r. p x || r) (once_any xs)

pub text_alike : (m x z : Mention) → same_text x z ≡ true → bytes_eq m.text x.text ≡ bytes_eq m.text z.text
text_alike m x z e = ap (bytes_eq m.text) ((bytes_eq-Decides x.text z.text).0 e)

known_text : (m : Mention) (tags : List Mention) → list_any (same_key (text_of m)) (map text_of (once_each same_text tags)) ≡ list_any (λ x. same_text x m) tags
known_text m tags =
    sym (list_any_map (same_key (text_of m)) text_of (once_each same_text tags)) ∙ once_any same_text (λ x. bytes_eq m.text x.text) (text_alike m) tags
    ∙ ap (λ p. list_any p tags) (λ i x. bytes_sym m.text x.text i)

tag_pushed : (b : Bool) (m : Mention) (texts : List Key) (once : List Mention) → texts ≡ map text_of once → cond (not b) (texts ++ text_of m ∷ []) texts ≡ map text_of (cond b once (once ++ m ∷ []))
tag_pushed true m texts once e = e
tag_pushed false m texts once e = ap (λ l. l ++ text_of m ∷ []) e ∙ sym (map-append text_of once (m ∷ []))

tags_pushed : (b : Bool) (m : Mention) (texts : List Key) (tags : List Mention) → texts ≡ map text_of (once_each same_text tags) → cond (b && not (list_any (same_key (text_of m)) texts)) (texts ++ text_of m ∷ []) texts ≡ map text_of (once_each same_text (cond b (tags ++ m ∷ []) tags))
tags_pushed false m texts tags e = e
tags_pushed true m texts tags e =
    ap (λ c. cond (not c) (texts ++ text_of m ∷ []) texts) (ap (list_any (same_key (text_of m))) e ∙ known_text m tags)
    ∙ tag_pushed (list_any (λ x. same_text x m) tags) m texts (once_each same_text tags) e ∙ ap (map text_of) (sym (once_push same_text tags m))

tags_more : (names : List Mention) (m : Mention) (texts : List Key) → texts ≡ map text_of (once_each same_text (of_kind names TagName)) → tags_after texts m ≡ map text_of (once_each same_text (of_kind (names ++ m ∷ []) TagName))
tags_more names m texts e =
    tags_pushed (is_tag m.kind) m texts (of_kind names TagName) e ∙ ap (λ l. map text_of (once_each same_text l)) (sym (filter_push (λ name. is_tag name.kind) names m))

-- ---- together

row_at : (names : List Mention) (rows : List (List Key)) (m : Mention) (n : ℕ) (b : Bool) → eqb (number_of_kind m.kind) n ≡ b → number_of_kind m.kind < length rows → get_or rows n [] ≡ row_of names n
    → get_or (set rows (number_of_kind m.kind) (get_or rows (number_of_kind m.kind) [] ++ key_of m ∷ [])) n [] ≡ cond b (row_of names n ++ key_of m ∷ []) (row_of names n)
row_at names rows m n true e l h =
    let k = number_of_kind m.kind in
    let same : n ≡ k = grind (arith, nat_tests) in
    ap (λ i. get_or (set rows k (get_or rows k [] ++ key_of m ∷ [])) i []) same ∙ get_or-set_same rows k (get_or rows k [] ++ key_of m ∷ []) [] l
    ∙ ap (λ i. get_or rows i [] ++ key_of m ∷ []) (sym same) ∙ ap (λ r. r ++ key_of m ∷ []) h
row_at names rows m n false e l h =
    let k = number_of_kind m.kind in
    let other : n ≢ k = grind (arith, nat_tests) in
    get_or-set_other rows k n (get_or rows k [] ++ key_of m ∷ []) [] other ∙ h

pub tables_more : (names : List Mention) (rows : List (List Key)) (texts : List Key) (m : Mention) → AreTables names rows texts
    → AreTables (names ++ m ∷ []) (set rows (number_of_kind m.kind) (get_or rows (number_of_kind m.kind) [] ++ key_of m ∷ [])) (tags_after texts m)
tables_more names rows texts m h =
    let l = kind_below m.kind in
    let room : number_of_kind m.kind < length rows = omega (arith, h.kinds, l) in
    record {
      kinds = length-set rows (number_of_kind m.kind) (get_or rows (number_of_kind m.kind) [] ++ key_of m ∷ []) ∙ h.kinds;
      keys = λ n below. row_at names rows m n (eqb (number_of_kind m.kind) n) refl room (h.keys n below) ∙ sym (row_grows names m n);
      tags = tags_more names m texts h.tags;
    }

pub tables_after : (names : List Mention) (rows now : List (List Key)) (texts tags : List Key) (m : Mention) → now ≡ set rows (number_of_kind m.kind) (get_or rows (number_of_kind m.kind) [] ++ key_of m ∷ []) → tags ≡ tags_after texts m
    → AreTables names rows texts → AreTables (names ++ m ∷ []) now tags
tables_after names rows now texts tags m e f h = rw (e, f) (tables_more names rows texts m h)
