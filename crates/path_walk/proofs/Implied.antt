-- Restrictions that shared addresses imply stand in the list of restrictions.
use Rattle.std.proofs.Common.{◌≡◌, take, drop, sym}
use Rattle.std.proofs.lemmas.List.{take-append-drop}
use Rattle.policy_model.specs.Policy.{Policy}
use Rattle.policy_model.specs.Walks.{ListsShared}
use Rattle.topology.specs.Sound.{HasImplied, declared_count}
use Rattle.policy_laws.specs.Sharing.{KeepsRestrictions}
use Rattle.policy_laws.proofs.Sharing.{kept}

lists_shared : (p : Policy) → HasImplied p → ListsShared p
lists_shared p h = record { declared = take (declared_count p) p.restrictions; implied = drop (declared_count p) p.restrictions; all = sym (take-append-drop (declared_count p) p.restrictions); members = h.members }

pub implied_are_listed : (p : Policy) → HasImplied p → KeepsRestrictions p
implied_are_listed p h = kept p (lists_shared p h)
