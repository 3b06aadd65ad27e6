-- Two lists of prefixes are compared prefix by prefix.
use Rattle.std.proofs.Common.{◌≡◌, ◌&&◌, ◌==◌, List, [], ◌∷◌, map, refl, ap, ◌∙◌}
use Rattle.std.specs.Cmp.Lexicographic.{pointwise}
use Rattle.std.proofs.lemmas.Bool.{and_parts, and_from, eqb-true, eq-eqb}
use Rattle.spoc_base.specs.Address.{Cidr, same_prefix}
use Rattle.spoc_base.specs.Shown.{cidr_of}
use Rattle.spoc_base.specs.declared.address.Prefix.{Prefix}
use Rattle.spoc_base.specs.contracts.address.PrefixPartialEq.TheImpl.{eq-value}
use Rattle.policy_model.specs.Grouped.{same_prefixes}
use Rattle.list_laws.proofs.Nesting.{same_from, same_parts}
use Rattle.list_laws.proofs.Members.{same_truth}

-- an address and a length are equal exactly where the prefixes are the same
pub numbers_same : (p q : Cidr) → ((p.net == q.net) && (p.len == q.len)) ≡ same_prefix p q
numbers_same p q =
    same_truth ((p.net == q.net) && (p.len == q.len)) (same_prefix p q)
    (λ h. let w = and_parts (p.net == q.net) (p.len == q.len) h in same_from p q (eqb-true p.net q.net w.0) (eqb-true p.len q.len w.1))
    (λ h. let w = same_parts p q h in and_from (p.net == q.net) (p.len == q.len) (eq-eqb p.net q.net w.net) (eq-eqb p.len q.len w.len))

equal_same : (p q : Prefix) → eq-value.it p q ≡ same_prefix (cidr_of p) (cidr_of q)
equal_same p q = numbers_same (cidr_of p) (cidr_of q)

pub ends_same : (ps qs : List Prefix) → pointwise eq-value.it ps qs ≡ same_prefixes (map cidr_of ps) (map cidr_of qs)
ends_same [] [] = refl
ends_same [] (q ∷ qs) = refl
ends_same (p ∷ ps) [] = refl
ends_same (p ∷ ps) (q ∷ qs) =
    ap (λ b. b && pointwise eq-value.it ps qs) (equal_same p q) ∙ ap (λ b. same_prefix (cidr_of p) (cidr_of q) && b) (ends_same ps qs)
