-- Delivery in an accepted policy.
use Rattle.std.proofs.Common.{List, sym, subst}
use Rattle.policy_model.specs.Policy.{Policy}
use Rattle.policy_model.specs.Passing.{Config}
use Rattle.policy_model.specs.FirstFault.{IsAccepted}
use Rattle.policy_model.specs.Headline.{Meaning, IsMeaning, permits_in, Delivers, Refuses}
use Rattle.policy_laws.specs.Secured.{HaveLists}
use Rattle.policy_laws.specs.Shaped.{IsShaped}
use Rattle.policy_laws.specs.Routed.{IsWired, HaveTables}
use Rattle.policy_laws.proofs.Accepted.{secures}
use Rattle.delivery_laws.proofs.Arrived.{delivers}
use Rattle.delivery_laws.proofs.Refused.{refuses}

pub accepted_deliver : (p : Policy) (m : Meaning) (configs : List Config) → IsMeaning p m → IsShaped p → IsWired p → IsAccepted m → HaveLists m.site m.views (permits_in m) configs →
    HaveTables m.site m.views (permits_in m) configs → Delivers m configs × Refuses m configs
accepted_deliver p m configs its shape wired none lists tables =
    let there = secures m its.zones (subst IsShaped (sym its.policy) shape) (subst IsWired (sym its.policy) wired) none in
    (delivers p m configs its there.0 lists there.1 tables, refuses m configs there.0 lists)
