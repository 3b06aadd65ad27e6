-- Addresses of interfaces, by their networks.
use Rattle.std.proofs.Common.{◌≡◌, ◌∙◌, refl, ap, ◌&&◌, ◌||◌, List, [], ◌∷◌, flat_map, Option, Some, None}
use Rattle.std.specs.List.{list_any}
use Rattle.std.proofs.lemmas.List.Folds.{list_any-append}
use Rattle.spoc_base.specs.Address.{Cidr}
use Rattle.spoc_ast.specs.Written.{Lexeme, DeclText}
use Rattle.policy_decls.specs.Numbers.{holds_of}
use Rattle.policy_decls.specs.Lookup.{network_parts, own_prefix, aligned, IfaceText, iface_addresses}
use Rattle.policy_decls.specs.Shapes.{same_texts, is_outside, is_outside_net}
use Rattle.policy_shapes.specs.Keys.{same_key, word_key, has_key, address_keys}
use Rattle.policy_shapes.specs.Rows.{is_outside_of}
use Rattle.policy_shapes.proofs.Known.{any_none}
use Rattle.policy_shapes.proofs.Clashes.{one_shared}

-- an interface's addresses are looked at one by one
pub outside_by : (decls : List DeclText) (i : IfaceText) → list_any (is_outside_net decls i.net) (iface_addresses i) ≡ is_outside decls i
outside_by decls i = by (own_prefix (network_parts decls i.net.text)) (iface_addresses i)
  where
    by : (own : Option Cidr) (words : List Lexeme) → list_any (λ w. holds_of (λ p. is_outside_of (aligned p) w) own) words ≡ holds_of (λ p. list_any (is_outside_of (aligned p)) words) own
    by None words = any_none words
    by (Some p) words = refl

-- what is among the addresses of interfaces
pub taken_found : (net w : Lexeme) (ifaces : List IfaceText) → has_key (flat_map address_keys ifaces) (word_key net.text w) ≡ list_any (λ i. same_texts net i.net && list_any (same_texts w) (iface_addresses i)) ifaces
taken_found net w [] = refl
taken_found net w (i ∷ ifaces) =
    list_any-append (same_key (word_key net.text w)) (address_keys i) (flat_map address_keys ifaces)
    ∙ ap (λ b. b || has_key (flat_map address_keys ifaces) (word_key net.text w)) (one_shared net.text i.net.text w (iface_addresses i))
    ∙ ap (λ b. (same_texts net i.net && list_any (same_texts w) (iface_addresses i)) || b) (taken_found net w ifaces)
