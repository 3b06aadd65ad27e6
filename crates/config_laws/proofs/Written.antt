-- What is written for a policy decides and sends as its lists and tables, and so for an accepted one is exact and delivers.
use Rattle.std.proofs.Common.{◌≡◌, ℕ, zero, suc, ◌<◌, Bool, true, false, cond, List, [], ◌∷◌, length, refl, sym, ap, subst}
use Rattle.std.specs.Prelude.{Option, Some, None, is_some}
use Rattle.std.proofs.lemmas.Bool.{false≢true}
use Rattle.policy_model.specs.Policy.{Policy, Router, Device, is_managed}
use Rattle.policy_model.specs.Filters.{Line}
use Rattle.policy_model.specs.Blocks.{is_grouped_at, list_at}
use Rattle.policy_model.specs.Optimised.{optimised_lines}
use Rattle.policy_model.specs.Grouped.{grouped_lines}
use Rattle.policy_model.specs.Routes.{lookup, is_static}
use Rattle.policy_model.specs.Passing.{Config}
use Rattle.policy_model.specs.Laws.{PassAlike}
use Rattle.policy_model.specs.FirstFault.{IsAccepted}
use Rattle.policy_model.specs.Headline.{Meaning, IsMeaning, permits_in, IsExact, Delivers, Refuses}
use Rattle.policy_laws.specs.Secured.{AreSecured, HaveLists}
use Rattle.policy_laws.specs.Shaped.{IsShaped}
use Rattle.policy_laws.specs.Routed.{IsWired, HaveTables}
use Rattle.policy_laws.proofs.Optimal.{list_optimised, written_alike}
use Rattle.policy_laws.proofs.Accepted.{secures, accepted_exact}
use Rattle.delivery_laws.proofs.AcceptedDeliver.{accepted_deliver}
use Rattle.meaning_laws.proofs.MeaningThere.{meaning_there}
use Rattle.policy_model.proofs.Shorthand.{policy_of}
use Rattle.config_laws.specs.Written.{written_configs}
use Rattle.config_laws.proofs.InOrder.{config_there, list_there}

-- a policy of nothing but routers
abbrev only : List Router → Policy
only routers = policy_of [] [] routers [] [] [] []

static_managed : (routers : List Router) (r : ℕ) → is_static (only routers) r ≡ true → is_managed (only routers) r ≡ true
static_managed [] r h = absurd (false≢true h)
static_managed (x ∷ routers) (suc r) h = static_managed routers r h
static_managed (x ∷ routers) zero h = go x.name x.device h
  where
    go : (name : List ℕ) (o : Option Device) → (let y : Router = record { name = name; device = o } in is_static (only (y ∷ routers)) zero) ≡ true → is_some o ≡ true
    go name None h = absurd (false≢true h)
    go name (Some d) h = refl

pub lines_alike : (m : Meaning) → AreSecured m.site m.views (permits_in m) → (i : ℕ) → i < length m.site.policy.ifaces → (b : Bool) →
    PassAlike (list_at m.site m.views (permits_in m) i)
    (cond b (grouped_lines (optimised_lines (list_at m.site m.views (permits_in m) i))) (optimised_lines (list_at m.site m.views (permits_in m) i)))
lines_alike m ok i below false = (list_optimised m.site m.views (permits_in m) i (ok.lists i below)).alike
lines_alike m ok i below true = written_alike m.site m.views (permits_in m) i (ok.lists i below)

pub decide : (m : Meaning) → AreSecured m.site m.views (permits_in m) → HaveLists m.site m.views (permits_in m) (written_configs m) × HaveTables m.site m.views (permits_in m) (written_configs m)
decide m ok = (
  λ i below managed. subst (λ (lines : List Line). PassAlike (list_at m.site m.views (permits_in m) i) lines) (sym (list_there m i below managed)) (lines_alike m ok i below (is_grouped_at m.site.policy i)),
  λ r a fixed. ap (λ (c : Config). lookup m.site.policy r c.routes a) (config_there m r (static_managed m.site.policy.routers r fixed)),
)

pub exact_written : (p : Policy) (m : Meaning) → IsMeaning p m → IsShaped p → IsWired p → IsAccepted m → IsExact p (written_configs m)
exact_written p m its shape wired none =
    let there = secures m its.zones (subst IsShaped (sym its.policy) shape) (subst IsWired (sym its.policy) wired) none in
    let d = decide m there.0 in
    accepted_exact p m (written_configs m) its shape wired none d.0 d.1

pub deliver_written : (p : Policy) (m : Meaning) → IsMeaning p m → IsShaped p → IsWired p → IsAccepted m → Delivers m (written_configs m) × Refuses m (written_configs m)
deliver_written p m its shape wired none =
    let there = secures m its.zones (subst IsShaped (sym its.policy) shape) (subst IsWired (sym its.policy) wired) none in
    let d = decide m there.0 in
    accepted_deliver p m (written_configs m) its shape wired none d.0 d.1

pub have_exact : (p : Policy) → IsShaped p → IsWired p → ((m : Meaning) → IsMeaning p m → IsAccepted m) → (configs : List Config) × IsExact p configs
have_exact p shape wired none =
    let w = meaning_there p in
    let m : Meaning = w.0 in
    (written_configs m, exact_written p m w.1 shape wired (none m w.1))
