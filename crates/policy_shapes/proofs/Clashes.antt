-- What clashes by a test, clashes by names.
use Rattle.std.proofs.Common.{◌≡◌, ◌∙◌, refl, sym, ap, ℕ, Bool, true, false, ◌&&◌, ◌||◌, cond, List, [], ◌∷◌, map, flat_map}
use Rattle.std.specs.Str.{bytes_eq}
use Rattle.std.specs.List.{list_any}
use Rattle.spoc_ast.specs.Written.{Lexeme}
use Rattle.policy_decls.specs.Lookup.{IfaceText, iface_addresses, iface_hardware}
use Rattle.policy_decls.specs.Shapes.{same_texts, share, clash_with, has_address_of, has_hardware_of}
use Rattle.policy_shapes.specs.Keys.{Key, word_key, has_key, clash_known, address_keys, hardware_keys, hardware_asked, tag_key}
use Rattle.policy_shapes.proofs.Known.{any_none, clash_is}

pub any_and : {A : Type 0} (b : Bool) (p : A → Bool) (xs : List A) → list_any (λ x. b && p x) xs ≡ (b && list_any p xs)
any_and true p xs = refl
any_and false p xs = any_none xs

pub one_shared : (n m : List ℕ) (v : Lexeme) (ws : List Lexeme) → has_key (map (word_key m) ws) (word_key n v) ≡ (bytes_eq n m && list_any (same_texts v) ws)
one_shared n m v ws = mapped ws ∙ any_and (bytes_eq n m) (same_texts v) ws
  where
    mapped : (ws : List Lexeme) → has_key (map (word_key m) ws) (word_key n v) ≡ list_any (λ w. bytes_eq n m && same_texts v w) ws
    mapped [] = refl
    mapped (w ∷ ws) = ap (λ b. (bytes_eq n m && same_texts v w) || b) (mapped ws)

shared : (n m : List ℕ) (vs ws : List Lexeme) → (bytes_eq n m && share vs ws) ≡ list_any (has_key (map (word_key m) ws)) (map (word_key n) vs)
shared n m vs ws = sym (mapped vs ∙ any_and (bytes_eq n m) (λ v. list_any (same_texts v) ws) vs)
  where
    mapped : (vs : List Lexeme) → list_any (has_key (map (word_key m) ws)) (map (word_key n) vs) ≡ list_any (λ v. bytes_eq n m && list_any (same_texts v) ws) vs
    mapped [] = refl
    mapped (v ∷ vs) = ap (λ b. b || list_any (has_key (map (word_key m) ws)) (map (word_key n) vs)) (one_shared n m v ws) ∙ ap (λ b. (bytes_eq n m && list_any (same_texts v) ws) || b) (mapped vs)

pub addresses_clash : (before : List IfaceText) (has : Key → Bool) → has ≡ has_key (flat_map address_keys before) → (ifaces : List IfaceText) → clash_with has_address_of before ifaces ≡ clash_known address_keys address_keys has ifaces
addresses_clash = clash_is has_address_of address_keys address_keys (λ i j. shared i.net.text j.net.text (iface_addresses i) (iface_addresses j))

hardware_agrees : (managed : Bool) (vs ws : List Lexeme) → (managed && share vs ws) ≡ list_any (has_key (map (word_key []) ws)) (cond managed (map (word_key []) vs) [])
hardware_agrees true vs ws = shared [] [] vs ws
hardware_agrees false vs ws = refl

pub hardware_clash : (ifaces : List IfaceText) → clash_with has_hardware_of [] ifaces ≡ clash_known hardware_asked hardware_keys (has_key []) ifaces
hardware_clash = clash_is has_hardware_of hardware_asked hardware_keys (λ i j. hardware_agrees i.managed (iface_hardware i) (iface_hardware j)) [] (has_key []) refl

tags_agree : (b : Bool) → b ≡ ((b || false) || false)
tags_agree true = refl
tags_agree false = refl

pub tags_clash : (tags : List Lexeme) → clash_with same_texts [] tags ≡ clash_known tag_key tag_key (has_key []) tags
tags_clash = clash_is same_texts tag_key tag_key (λ t u. tags_agree (bytes_eq t.text u.text)) [] (has_key []) refl

pub any_tags_clash : (binds : List (List Lexeme)) → list_any (λ tags. clash_with same_texts [] tags) binds ≡ list_any (clash_known tag_key tag_key (has_key [])) binds
any_tags_clash binds = ap (λ p. list_any p binds) (λ i tags. tags_clash tags i)
