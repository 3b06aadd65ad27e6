-- The line of a fault that tells a case.
use Rattle.std.proofs.Common.{◌≡◌, ◌∙◌, refl, ap, ℕ, List, [], ◌∷◌, ◌++◌, map, append_assoc, append-nil, Option, Some, None, Bool}
use Rattle.std.specs.Prelude.{codes, flat_map}
use Rattle.spoc_base.specs.declared.place.Source.{Source}
use Rattle.spoc_base.specs.declared.place.Kind.TheVariants as kind
use Rattle.spoc_base.specs.declared.place.Named.{Named}
use Rattle.spoc_base.specs.declared.fault.Fault.{Fault}
use Rattle.spoc_base.specs.declared.fault.Fault.TheVariants as fault
use Rattle.spoc_base.specs.declared.fault.HopAt.{HopAt}
use Rattle.spoc_base.specs.declared.fault.HopAt.TheVariants.{Next, Direct}
use Rattle.policy_model.specs.Zones.{Site}
use Rattle.policy_model.specs.Routes.{NextHop}
use Rattle.policy_model.specs.FirstFault.{FaultCase, ViewPlace, AtZone, AtRouter, AreaSplit, NatConflict, NatTwice, NatInside, LimitViews, SamePrefix, HostShadowed, IfaceShadowed, ManagedEnd, LimitPermits, NoPath, HiddenEnd, LimitLines, LimitRoutes, NoHopAddress, AmbiguousHop}
use Rattle.topology.specs.Told.{IsTold, IsIfaceName, IsNetName, IsTagName, IsZoneName, IsPlaceName, IsHopName}
use Rattle.fault_text.specs.Texts.{pair_of, value_text, hop_text, fault_line}
use Rattle.fault_text.specs.Cases.{router_shown, net_shown, tag_shown, zone_shown, place_shown, iface_shown, hop_shown, case_line}
use Rattle.fault_text.proofs.Names.{shown, name_is, iface_is, direct_is}

-- the line with these words and names
abbrev line_of : List ℕ → List (List ℕ) → List ℕ
line_of word names = codes "fault " ++ word ++ flat_map value_text names ++ codes "\n"

module _ (sources : List Source) (s : Site) where
  net_is : (n : ℕ) (named : Named) → IsNetName sources s.policy n named → shown sources named ≡ net_shown s.policy n
  net_is n named h = name_is kind.Network sources _ named h

  tag_is : (tag : ℕ) (named : Named) → IsTagName sources s.policy tag named → shown sources named ≡ tag_shown s.policy tag
  tag_is tag named h = name_is kind.Tag sources _ named h

  zone_is : (z : ℕ) (named : Named) → IsZoneName sources s z named → shown sources named ≡ zone_shown s z
  zone_is z named h = name_is kind.Zone sources _ named h

  its_iface : (i : ℕ) (named : Named) → IsIfaceName sources s.policy i named → shown sources named ≡ iface_shown s.policy i
  its_iface i named h = iface_is sources _ _ named h

  place_is : (place : ViewPlace) (named : Named) → IsPlaceName sources s place named → shown sources named ≡ place_shown s place
  place_is (AtZone z) named h = zone_is z named h
  place_is (AtRouter r) named h = name_is kind.Router sources _ named h

  hop_by : (out : ℕ) (next : Option ℕ) (hop : HopAt) → IsHopName sources s.policy (record { out = out; next = next }) hop →
      hop_text (map pair_of sources) hop ≡ value_text (hop_shown s.policy (record { out = out; next = next }))
  hop_by out (Some i) (Next named) h = ap value_text (its_iface i named h)
  hop_by out (Some i) (Direct named) h = absurd h
  hop_by out None (Next named) h = absurd h
  hop_by out None (Direct named) h = ap value_text (direct_is sources _ _ named h)

  hop_is : (h : NextHop) (hop : HopAt) → IsHopName sources s.policy h hop → hop_text (map pair_of sources) hop ≡ value_text (hop_shown s.policy h)
  hop_is h hop told = hop_by h.out h.next hop told

  abbrev IsItsLine : FaultCase → Fault → Type 0
  IsItsLine c f = IsTold sources s c f → fault_line (map pair_of sources) f ≡ case_line s c

  split_told : (k i : ℕ) (f : Fault) → IsItsLine (AreaSplit k i) f
  split_told k i (fault.AreaSplit area border) h =
      let a = name_is kind.Area sources _ area h.0 in
      let b = its_iface i border h.1 in
      λ j. line_of (codes "AreaSplit") (a j ∷ b j ∷ [])
  split_told k i f h = absurd h

  conflict_told : (tag z : ℕ) (f : Fault) → IsItsLine (NatConflict tag z) f
  conflict_told tag z (fault.NatConflict name zone) h =
      let a = tag_is tag name h.0 in
      let b = zone_is z zone h.1 in
      λ j. line_of (codes "NatConflict") (a j ∷ b j ∷ [])
  conflict_told tag z f h = absurd h

  twice_told : (n z tag other : ℕ) (f : Fault) → IsItsLine (NatTwice n z tag other) f
  twice_told n z tag other (fault.NatTwice net zone first second) h =
      let a = net_is n net h.0 in
      let b = zone_is z zone h.1 in
      let c = tag_is tag first h.2 in
      let d = tag_is other second h.3 in
      λ j. line_of (codes "NatTwice") (a j ∷ b j ∷ c j ∷ d j ∷ [])
  twice_told n z tag other f h = absurd h

  inside_told : (n tag : ℕ) (f : Fault) → IsItsLine (NatInside n tag) f
  inside_told n tag (fault.NatInside net name) h =
      let a = net_is n net h.0 in
      let b = tag_is tag name h.1 in
      λ j. line_of (codes "NatInside") (a j ∷ b j ∷ [])
  inside_told n tag f h = absurd h

  same_told : (n other : ℕ) (place : ViewPlace) (f : Fault) → IsItsLine (SamePrefix n other place) f
  same_told n other place (fault.SamePrefix first second seen) h =
      let a = net_is n first h.0 in
      let b = net_is other second h.1 in
      let c = place_is place seen h.2 in
      λ j. line_of (codes "SamePrefix") (a j ∷ b j ∷ c j ∷ [])
  same_told n other place f h = absurd h

  host_told : (k other : ℕ) (place : ViewPlace) (f : Fault) → IsItsLine (HostShadowed k other place) f
  host_told k other place (fault.HostShadowed name net seen) h =
      let a = name_is kind.Host sources _ name h.0 in
      let b = net_is other net h.1 in
      let c = place_is place seen h.2 in
      λ j. line_of (codes "HostShadowed") (a j ∷ b j ∷ c j ∷ [])
  host_told k other place f h = absurd h

  iface_told : (i : ℕ) (shared : Bool) (other : ℕ) (place : ViewPlace) (f : Fault) → IsItsLine (IfaceShadowed i shared other place) f
  iface_told i shared other place (fault.HostShadowed name net seen) h =
      let a = its_iface i name h.0 in
      let b = net_is other net h.1 in
      let c = place_is place seen h.2 in
      λ j. line_of (codes "HostShadowed") (a j ∷ b j ∷ c j ∷ [])
  iface_told i shared other place f h = absurd h

  managed_told : (k i : ℕ) (f : Fault) → IsItsLine (ManagedEnd k i) f
  managed_told k i (fault.ManagedEnd service iface) h =
      let a = name_is kind.Service sources _ service h.0 in
      let b = its_iface i iface h.1 in
      λ j. line_of (codes "ManagedEnd") (a j ∷ b j ∷ [])
  managed_told k i f h = absurd h

  path_told : (u w : ℕ) (f : Fault) → IsItsLine (NoPath u w) f
  path_told u w (fault.NoPath src dst) h =
      let a = net_is u src h.0 in
      let b = net_is w dst h.1 in
      λ j. line_of (codes "NoPath") (a j ∷ b j ∷ [])
  path_told u w f h = absurd h

  hidden_told : (k u w n z : ℕ) (f : Fault) → IsItsLine (HiddenEnd k u w n z) f
  hidden_told k u w n z (fault.HiddenEnd src dst net zone) h =
      let a = net_is u src h.0 in
      let b = net_is w dst h.1 in
      let c = net_is n net h.2 in
      let d = zone_is z zone h.3 in
      λ j. line_of (codes "HiddenEnd") (a j ∷ b j ∷ c j ∷ d j ∷ [])
  hidden_told k u w n z f h = absurd h

  bare_told : (r n i : ℕ) (f : Fault) → IsItsLine (NoHopAddress r n i) f
  bare_told r n i (fault.NoHopAddress router net iface) h =
      let a = name_is kind.Router sources _ router h.0 in
      let b = net_is n net h.1 in
      let c = its_iface i iface h.2 in
      λ j. line_of (codes "NoHopAddress") (a j ∷ b j ∷ c j ∷ [])
  bare_told r n i f h = absurd h

  views_told : (f : Fault) → IsItsLine LimitViews f
  views_told fault.LimitViews h = refl
  views_told f h = absurd h

  permits_told : (f : Fault) → IsItsLine LimitPermits f
  permits_told fault.LimitPermits h = refl
  permits_told f h = absurd h

  lines_told : (f : Fault) → IsItsLine LimitLines f
  lines_told fault.LimitLines h = refl
  lines_told f h = absurd h

  routes_told : (f : Fault) → IsItsLine LimitRoutes f
  routes_told fault.LimitRoutes h = refl
  routes_told f h = absurd h

  joined : (a b c d : List ℕ) → ((a ++ (b ++ [])) ++ c) ++ d ≡ a ++ (b ++ (c ++ (d ++ [])))
  joined a b c d = simp (append_assoc, append-nil)

  two_hops_told : (r n : ℕ) (one two : NextHop) (f : Fault) → IsItsLine (AmbiguousHop r n one two) f
  two_hops_told r n one two (fault.AmbiguousHop router net first second) h =
      let a = name_is kind.Router sources _ router h.0 in
      let b = net_is n net h.1 in
      let c = hop_is one first h.2 in
      let d = hop_is two second h.3 in
      ap (λ things. codes "fault AmbiguousHop" ++ things ++ codes "\n")
      ((λ j. ((value_text (a j) ++ (value_text (b j) ++ [])) ++ c j) ++ d j)
      ∙ joined (value_text (router_shown s.policy r)) (value_text (net_shown s.policy n)) (value_text (hop_shown s.policy one)) (value_text (hop_shown s.policy two)))
  two_hops_told r n one two f h = absurd h

  pub told : (c : FaultCase) (f : Fault) → IsItsLine c f
  told (AreaSplit k i) f = split_told k i f
  told (NatConflict tag z) f = conflict_told tag z f
  told (NatTwice n z tag other) f = twice_told n z tag other f
  told (NatInside n tag) f = inside_told n tag f
  told (SamePrefix n other place) f = same_told n other place f
  told (HostShadowed k other place) f = host_told k other place f
  told (IfaceShadowed i shared other place) f = iface_told i shared other place f
  told (ManagedEnd k i) f = managed_told k i f
  told (NoPath u w) f = path_told u w f
  told (NoHopAddress r n i) f = bare_told r n i f
  told LimitViews f = views_told f
  told LimitPermits f = permits_told f
  told LimitLines f = lines_told f
  told LimitRoutes f = routes_told f
  told (AmbiguousHop r n one two) f = two_hops_told r n one two f
  told (HiddenEnd k u w n z) f = hidden_told k u w n z f
