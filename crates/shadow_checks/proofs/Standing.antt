-- What a fault names is there.
use Rattle.std.proofs.Common.{◌≡◌, ℕ, ◌<◌, List, length, arith}
use Rattle.std.specs.Prelude.{Option, Some, None, option_and_then, IsTrue}
use Rattle.std.proofs.lemmas.Bool.{ltb-true}
use Rattle.spoc_base.specs.Address.{Interval}
use Rattle.policy_model.specs.Policy.{Policy}
use Rattle.policy_model.specs.Tags.{Views}
use Rattle.policy_model.specs.Places.{place, translated_address}
use Rattle.policy_model.specs.Faults.{IsShadowed}
use Rattle.policy_model.specs.FirstFault.{ViewPlace, AtZone, AtRouter}
use Rattle.policy_laws.proofs.Placed.{placed_at}
use Rattle.nat_view.specs.Seen.{has_view}
use Rattle.shadow_checks.specs.Holders.{IsFirstHere}
use Rattle.shadow_checks.specs.Names.{IsHolderIn, IsPlaceIn}
use Rattle.shadow_checks.specs.declared.here.Holder.{Holder}
use Rattle.shadow_checks.specs.declared.here.Holder.TheVariants.{Host, Iface}

shadow_in : (p : Policy) (view : List ℕ) (n : ℕ) (r : Interval) (m : ℕ) → IsShadowed p view n r m → m < length p.nets
shadow_in p view n r m w = go (translated_address p view n w.address) w.placed
  where
    go : (o : Option ℕ) → option_and_then (place p view) o ≡ Some m → m < length p.nets
    go None e = cc e
    go (Some a) e = (placed_at p view a m e).below

pub net_in : (p : Policy) (view : List ℕ) (holder : Holder) (m : ℕ) → IsFirstHere p view holder m → m < length p.nets
net_in p view (Host h) m here = let w = here.least.there in shadow_in p view _ _ m w
net_in p view (Iface i shared) m here = let w = here.address.least.there.shadowed in shadow_in p view _ _ m w

pub holder_in : (p : Policy) (view : List ℕ) (holder : Holder) (m : ℕ) → IsFirstHere p view holder m → IsHolderIn p holder
holder_in p view (Host h) m here = here.there
holder_in p view (Iface i shared) m here = here.there

pub place_in : (p : Policy) (v : Views) (count : ℕ) (at : ViewPlace) → length v.zones ≡ count → length v.routers ≡ length p.routers → IsTrue (has_view v at) → IsPlaceIn p count at
place_in p v count (AtZone z) zones routers h = let low = ltb-true z (length v.zones) h in omega (arith, low, zones)
place_in p v count (AtRouter r) zones routers h = let low = ltb-true r (length v.routers) h in omega (arith, low, routers)
