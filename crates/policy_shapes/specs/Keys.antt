-- Sets of names with their owners.
use Rattle.std.specs.Prelude.{ℕ, Bool, false, ◌&&◌, ◌||◌, List, [], ◌∷◌, map, if◌then◌else◌}
use Rattle.std.specs.Str.{bytes_eq}
use Rattle.std.specs.List.{list_any}
use Rattle.spoc_ast.specs.Written.{Lexeme}
use Rattle.policy_decls.specs.Lookup.{IfaceText, iface_addresses, iface_hardware}

-- a name, and whose it is
pub record Key : Type 0 where
  pub owner : List ℕ
  pub text : List ℕ

abbrev pub same_key : Key → Key → Bool
same_key a b = bytes_eq a.owner b.owner && bytes_eq a.text b.text

abbrev pub key : List ℕ → List ℕ → Key
key owner text = record { owner = owner; text = text }

-- whether a name stands among others
abbrev pub has_key : List Key → Key → Bool
has_key keys k = list_any (same_key k) keys

-- a set of names with some more
unfoldable pub with_keys : (Key → Bool) → List Key → Key → Bool
with_keys has keys = λ k. has k || has_key keys k

abbrev pub word_key : List ℕ → Lexeme → Key
word_key owner word = key owner word.text

-- whether an item asks for a name that is in the set, or that an item before it gives
abbrev pub clash_known : {A : Type 0} → (asks gives : A → List Key) → (Key → Bool) → List A → Bool
clash_known asks gives has [] = false
clash_known asks gives has (x ∷ xs) = list_any has (asks x) || clash_known asks gives (with_keys has (gives x)) xs

-- the addresses of an interface, each as one of its network
abbrev pub address_keys : IfaceText → List Key
address_keys i = map (word_key i.net.text) (iface_addresses i)

abbrev pub hardware_keys : IfaceText → List Key
hardware_keys i = map (word_key []) (iface_hardware i)

-- the hardware that must not stand at another interface of the router
abbrev pub hardware_asked : IfaceText → List Key
hardware_asked i = if i.managed then hardware_keys i else []

abbrev pub tag_key : Lexeme → List Key
tag_key tag = word_key [] tag ∷ []
