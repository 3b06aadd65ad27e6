-- Words that are prefixes, and have no host bit, say prefixes of 32 bits.
use Rattle.std.proofs.Common.{◌≡◌, ℕ, ◌<◌, ◌≤◌, Bool, true, false, cond, List, [], ◌∷◌, refl, subst, nat_lt, arith}
use Rattle.std.specs.Prelude.{◌%◌, Option, Some, None, option_map, option_and_then, nat_le}
use Rattle.std.specs.List.{list_any}
use Rattle.std.proofs.lemmas.Option.{none-some, same_Some, option_and_then_some}
use Rattle.std.proofs.lemmas.Bool.{or_parts, ltb-false, leb-true}
use Rattle.spoc_base.specs.Address.{Cidr, size_of}
use Rattle.policy_laws.specs.Secured.{IsPrefix}
use Rattle.spoc_ast.specs.Written.{Lexeme}
use Rattle.policy_decls.specs.Numbers.{at_most, number_of, number_to, cut_at, address_from, address_of, prefix_of}
use Rattle.policy_decls.specs.Lookup.{only_one, has_host_bit}
use Rattle.policy_decls.specs.Shapes.{is_unaligned}
use Rattle.policy_decls.specs.Said.{first_prefix}
use Rattle.decl_laws.proofs.Shaped.{holds_at}

map_some : {A B P : Type 0} (f : A → B) (o : Option A) (y : B) → option_map f o ≡ Some y → ((x : A) → o ≡ Some x → f x ≡ y → P) → P
map_some f None y e k = absurd (none-some y e)
map_some f (Some x) y e k = k x refl (same_Some (f x) y e)

kept_most : (most n k : ℕ) (b : Bool) → nat_le n most ≡ b → cond b (Some n) None ≡ Some k → k ≤ most
kept_most most n k true le e = subst (λ (j : ℕ). j ≤ most) (same_Some n k e) (leb-true n most le)
kept_most most n k false le e = absurd (none-some k e)

number_small : (most : ℕ) (text : List ℕ) (k : ℕ) → number_to most text ≡ Some k → k ≤ most
number_small most text k e = option_and_then_some (at_most most) (number_of text) k e (λ n is kept. kept_most most n k (nat_le n most) refl kept)

from_small : (a b c d : ℕ) → a ≤ 255 → b ≤ 255 → c ≤ 255 → d ≤ 255 → address_from a b c d < 4294967296
from_small a b c d ha hb hc hd = omega (arith, ha, hb, hc, hd)

four_small : (first second third fourth : List ℕ) (n : ℕ) →
    option_and_then (λ a. option_and_then (λ b. option_and_then (λ c. option_map (λ d. address_from a b c d) (number_to 255 fourth)) (number_to 255 third)) (number_to 255 second)) (number_to 255 first) ≡ Some n →
    n < 4294967296
four_small first second third fourth n e =
    option_and_then_some _ (number_to 255 first) n e (λ a ea e1.
    option_and_then_some _ (number_to 255 second) n e1 (λ b eb e2.
    option_and_then_some _ (number_to 255 third) n e2 (λ c ec e3.
    map_some _ (number_to 255 fourth) n e3 (λ d ed is.
    subst (λ (k : ℕ). k < 4294967296) is
    (from_small a b c d (number_small 255 first a ea) (number_small 255 second b eb) (number_small 255 third c ec) (number_small 255 fourth d ed))))))

pub address_small : (text : List ℕ) (n : ℕ) → address_of text ≡ Some n → n < 4294967296
address_small text n e =
    option_and_then_some _ (cut_at 46 text) n e (λ one _ e1.
    option_and_then_some _ (cut_at 46 one.1) n e1 (λ two _ e2.
    option_and_then_some _ (cut_at 46 two.1) n e2 (λ three _ e3. four_small one.0 two.0 three.0 three.1 n e3)))

-- a written prefix
pub record IsSmall (q : Cidr) : Type 0 where
  pub short : q.len ≤ 32
  pub small : q.net < 4294967296

pub prefix_small : (text : List ℕ) (q : Cidr) → prefix_of text ≡ Some q → IsSmall q
prefix_small text q e =
    option_and_then_some _ (cut_at 47 text) q e (λ parts _ e1.
    option_and_then_some _ (address_of parts.0) q e1 (λ a ea e2.
    map_some _ (number_to 32 parts.1) q e2 (λ n en is.
    subst IsSmall is (record { short = number_small 32 parts.1 n en; small = address_small parts.0 a ea }))))

no_rest : (n : ℕ) → nat_lt 0 n ≡ false → n ≡ 0
no_rest n h = omega (arith, ltb-false 0 n h)

-- a word without a host bit
pub word_prefix : (w : Lexeme) → is_unaligned w ≡ false → (q : Cidr) → prefix_of w.text ≡ Some q → IsPrefix q
word_prefix w h q e =
    let s = prefix_small w.text q e in
    record { cidr = record { short = s.short; aligned = no_rest (q.net % size_of q) (holds_at has_host_bit (prefix_of w.text) q e h) }; small = s.small }

pub only_prefix : (ws : List Lexeme) → list_any is_unaligned ws ≡ false → (q : Cidr) → option_and_then (λ (w : Lexeme). prefix_of w.text) (only_one ws) ≡ Some q → IsPrefix q
only_prefix [] h q e = absurd (none-some q e)
only_prefix (w ∷ []) h q e = word_prefix w (or_parts (is_unaligned w) false h).0 q e
only_prefix (v ∷ w ∷ ws) h q e = absurd (none-some q e)

pub leading_prefix : (ws : List Lexeme) → list_any is_unaligned ws ≡ false → (q : Cidr) → first_prefix ws ≡ Some q → IsPrefix q
leading_prefix [] h q e = absurd (none-some q e)
leading_prefix (w ∷ ws) h q e = word_prefix w (or_parts (is_unaligned w) (list_any is_unaligned ws) h).0 q e
