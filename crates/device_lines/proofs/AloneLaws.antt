-- The words of what a line says by itself, and a line's fact without the lines above.
use Rattle.std.proofs.Common.{◌≡◌, ◌≢◌, ◌∙◌, refl, sym, ap, subst, ℕ, Bool, true, false, cond, List, [], ◌∷◌, ◌++◌, bytes_eq, codes}
use Rattle.std.specs.List.{list_any}
use Rattle.spoc_base.specs.Address.{Cidr, any_address}
use Rattle.spoc_base.specs.declared.dialect.Dialect.{Dialect}
use Rattle.spoc_base.specs.declared.dialect.Dialect.TheVariants.{Ios, Asa}
use Rattle.device_reading.specs.Facts.{End, OnePrefix, NamedGroup, Entry, Fact, HasMember, end_text, entry_text}
use Rattle.device_reading.specs.Grammar.{IsEnd, IsEntry, members_of}
use Rattle.text_laws.proofs.EntryWords.{words, end_words, entry_words, entry_cut}
use Rattle.text_laws.proofs.Standing.{same_bytes}
use Rattle.device_lines.specs.Alone.{IsEndAlone, IsEntryAlone, end_with, entry_with}

-- ---- an entry of which a group has members, and one where they are told by the lines above

-- a line below which the end's group has a member
abbrev member_line : End → List Fact
member_line (OnePrefix p) = []
member_line (NamedGroup name members) = HasMember name any_address ∷ []

more : {A : Type 0} (xs ys : List A) → ys ≢ [] → xs ++ ys ≢ []
more [] ys h e = h e
more (x ∷ xs) ys h e = cc

named_member : (name : List ℕ) (rest : List Cidr) → cond (bytes_eq name name) (any_address ∷ []) [] ++ rest ≢ []
named_member name rest e = by (bytes_eq name name) (same_bytes name) e
  where
    by : (b : Bool) → b ≡ true → cond b (any_address ∷ []) [] ++ rest ≡ [] → ⊥
    by true f e = cc
    by false f e = cc

end_stands : (dialect : Dialect) (above : List Fact) (e : End) → IsEndAlone dialect e → ((name : List ℕ) (members : List Cidr) → e ≡ NamedGroup name members → members_of name above ≢ []) →
    IsEnd dialect above (end_with (λ name. members_of name above) e)
end_stands dialect above (OnePrefix p) h some = h
end_stands Ios above (NamedGroup name members) h some = absurd h
end_stands Asa above (NamedGroup name members) h some = (h.0, refl, some name members refl)

src_some : (src dst : End) (name : List ℕ) (members : List Cidr) → src ≡ NamedGroup name members → members_of name (member_line src ++ member_line dst) ≢ []
src_some (OnePrefix p) dst name members e = cc
src_some (NamedGroup n ms) dst name members e =
    let same : name ≡ n = cc in
    subst (λ m. members_of m (member_line (NamedGroup n ms) ++ member_line dst) ≢ []) (sym same) (named_member n (members_of n (member_line dst)))

dst_some : (src dst : End) (name : List ℕ) (members : List Cidr) → dst ≡ NamedGroup name members → members_of name (member_line src ++ member_line dst) ≢ []
dst_some src (OnePrefix p) name members e = cc
dst_some (OnePrefix p) (NamedGroup n ms) name members e =
    let same : name ≡ n = cc in
    subst (λ m. members_of m (member_line (NamedGroup n ms)) ≢ []) (sym same) (named_member n [])
dst_some (NamedGroup k ls) (NamedGroup n ms) name members e =
    let same : name ≡ n = cc in
    subst (λ m. members_of m (HasMember k any_address ∷ HasMember n any_address ∷ []) ≢ []) (sym same) (more (cond (bytes_eq k n) (any_address ∷ []) []) (members_of n (HasMember n any_address ∷ [])) (named_member n []))

end_texts : (dialect : Dialect) (members : List ℕ → List Cidr) (e : End) → end_text dialect (end_with members e) ≡ end_text dialect e
end_texts dialect members (OnePrefix p) = refl
end_texts dialect members (NamedGroup n ms) = refl

words_same : (dialect : Dialect) (members : List ℕ → List Cidr) (e : End) → end_words dialect (end_with members e) ≡ end_words dialect e
words_same dialect members (OnePrefix p) = refl
words_same dialect members (NamedGroup n ms) = refl

-- an entry's text doesn't tell the members of its groups
pub entry_texts : (dialect : Dialect) (members : List ℕ → List Cidr) (e : Entry) → entry_text dialect (entry_with members e) ≡ entry_text dialect e
unfolding entry_text
entry_texts dialect members e = simp (end_texts dialect members)

entry_words_same : (dialect : Dialect) (members : List ℕ → List Cidr) (e : Entry) → entry_words dialect (entry_with members e) ≡ entry_words dialect e
entry_words_same dialect members e = simp (words_same dialect members)

pub alone_cut : (dialect : Dialect) (e : Entry) → IsEntryAlone dialect e → words (entry_text dialect e) ≡ entry_words dialect e
alone_cut dialect e h =
    let above : List Fact = member_line e.src ++ member_line e.dst in
    let members : List ℕ → List Cidr = λ name. members_of name above in
    let stands : IsEntry dialect above (entry_with members e) = record {
      src = end_stands dialect above e.src h.src (src_some e.src e.dst);
      dst = end_stands dialect above e.dst h.dst (dst_some e.src e.dst);
      box = h.box;
    } in
    ap words (sym (entry_texts dialect members e)) ∙ entry_cut dialect above (entry_with members e) stands ∙ entry_words_same dialect members e
