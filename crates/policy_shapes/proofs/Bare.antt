-- The interfaces of unmanaged routers that have no address.
use Rattle.std.proofs.Common.{arith, ◌≡◌, ◌∙◌, refl, sym, ap, Bool, true, false, not, ◌&&◌, ◌||◌, cond, List, [], ◌∷◌, flat_map}
use Rattle.std.specs.Str.{bytes_eq}
use Rattle.std.specs.List.{list_any}
use Rattle.std.proofs.lemmas.List.Folds.{list_any-append}
use Rattle.policy_model.specs.Lists.{is_nothing}
use Rattle.spoc_ast.specs.Written.{PortText}
use Rattle.policy_decls.specs.Lookup.{IfaceText, is_port, iface_addresses}
use Rattle.policy_names.proofs.Noted.{bytes_sym}
use Rattle.policy_shapes.specs.Keys.{Key, key, has_key, with_keys}
use Rattle.policy_shapes.specs.Policy.{bare_keys}
use Rattle.policy_shapes.proofs.Known.{with_none}

pub not_bare : (i : IfaceText) (has : Key → Bool) (b : Bool) → (not i.managed && is_nothing (iface_addresses i)) ≡ b → b ≡ false → has ≡ with_keys has (bare_keys i)
not_bare i has b e f = sym (with_none has) ∙ ap (λ b. with_keys has (cond b (key i.router.text i.net.text ∷ []) [])) (sym (e ∙ f))

module _ (port : PortText) where
  one : (i : IfaceText) → has_key (bare_keys i) (key port.router.text port.net.text) ≡ (is_port port i && (not i.managed && is_nothing (iface_addresses i)))
  one i =
      by (not i.managed && is_nothing (iface_addresses i))
      ∙ ap (λ b. (b && bytes_eq i.net.text port.net.text) && (not i.managed && is_nothing (iface_addresses i))) (bytes_sym port.router.text i.router.text)
    where
      by : (b : Bool) → has_key (cond b (key i.router.text i.net.text ∷ []) []) (key port.router.text port.net.text) ≡ ((bytes_eq port.router.text i.router.text && bytes_eq i.net.text port.net.text) && b)
      by true = grind (arith, bytes_sym port.net.text i.net.text)
      by false = grind arith

  pub bare_found : (ifaces : List IfaceText) → has_key (flat_map bare_keys ifaces) (key port.router.text port.net.text) ≡ list_any (λ i. is_port port i && (not i.managed && is_nothing (iface_addresses i))) ifaces
  bare_found [] = refl
  bare_found (i ∷ ifaces) =
      list_any-append (λ x. bytes_eq port.router.text x.owner && bytes_eq port.net.text x.text) (bare_keys i) (flat_map bare_keys ifaces)
      ∙ ap (λ b. b || has_key (flat_map bare_keys ifaces) (key port.router.text port.net.text)) (one i) ∙ ap (λ b. (is_port port i && (not i.managed && is_nothing (iface_addresses i))) || b) (bare_found ifaces)
