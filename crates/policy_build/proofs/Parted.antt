-- The lists of a policy in memory are those of the policy that is said.
use Rattle.std.proofs.Common.{◌≡◌, ◌∙◌, refl, sym, ap, subst, ℕ, ◌<◌, eqb, List, length, map, filter, take, drop, get_or}
use Rattle.std.specs.List.{All}
use Rattle.std.proofs.Math.ListN as whole
use Rattle.std.proofs.lemmas.List.{length-map, get_or-map}
use Rattle.spoc_base.specs.declared.place.Source.{Source}
use Rattle.policy_model.specs.Lists.{numbers_below}
use Rattle.policy_model.specs.Policy as plain
use Rattle.policy_model.specs.Policy.{Policy, no_iface}
use Rattle.topology.specs.Seen.{net_seen, host_seen, router_seen, iface_seen, tag_seen, restriction_seen, group_seen, area_seen, aggregate_seen, service_seen, plain_of}
use Rattle.topology.specs.Sound.{declared_count, IsSound}
use Rattle.spoc_base.specs.declared.place.Kind.TheVariants as kind
use Rattle.topology.specs.Texts.{IsCalled}
use Rattle.topology.specs.Kept.{HoldsRows, ifaces_of, ifaces_at, IsIfaceWritten, IsImpliedWritten, IsWritten, IsKept}
use Rattle.topology.specs.declared.items.Network.{Network}
use Rattle.topology.specs.declared.items.Router.{Router}
use Rattle.topology.specs.declared.items.Iface.{Iface}
use Rattle.topology.specs.declared.items.IfRows.{IfRows}
use Rattle.topology.specs.declared.items.Parts.{Parts}
use Rattle.policy_build.specs.Rows.{owned_by}
use Rattle.policy_build.proofs.Grown.{map_map}

module _ (sources : List Source) (p : Policy) (ifaces : List Iface) (said : map (iface_seen sources) ifaces ≡ p.ifaces) where
  abbrev owners : (plain.Iface → ℕ) → List ℕ
  owners f = map (λ i. f (iface_seen sources i)) ifaces

  owners_are : (f : plain.Iface → ℕ) → owners f ≡ map f p.ifaces
  owners_are f = sym (map_map f (iface_seen sources) ifaces) ∙ ap (map f) said

  sizes : length ifaces ≡ length p.ifaces
  sizes = sym (length-map ifaces (iface_seen sources)) ∙ ap length said

  below : (f : plain.Iface → ℕ) (count : ℕ) → ((i : ℕ) → i < length p.ifaces → f (get_or p.ifaces i no_iface) < count) → All (λ i. f (iface_seen sources i) < count) ifaces
  below f count h k d l =
      let m : k < length p.ifaces = subst (λ n. k < n) sizes l in
      let e : f (iface_seen sources (get_or ifaces k d)) ≡ f (get_or p.ifaces k no_iface) =
      sym (whole.get_or-map (λ i. f (iface_seen sources i)) ifaces k d) ∙ ap (λ xs. get_or xs k (f (iface_seen sources d))) (owners_are f) ∙ get_or-map f p.ifaces k no_iface (f (iface_seen sources d)) m in
      subst (λ n. n < count) (sym e) (h k m)

  owner_at : (f : plain.Iface → ℕ) → f no_iface ≡ 0 → (k : ℕ) → get_or (owners f) k 0 ≡ f (get_or p.ifaces k no_iface)
  owner_at f zero k = ap (λ xs. get_or xs k 0) (owners_are f) ∙ ap (λ z. get_or (map f p.ifaces) k z) (sym zero) ∙ whole.get_or-map f p.ifaces k no_iface

  owned : (f : plain.Iface → ℕ) → f no_iface ≡ 0 → (k : ℕ) → owned_by (owners f) k ≡ filter (λ i. eqb (f (get_or p.ifaces i no_iface)) k) (numbers_below (length p.ifaces))
  owned f zero k =
      let tests : (λ (i : ℕ). get_or (owners f) i 0) ≡ (λ (i : ℕ). f (get_or p.ifaces i no_iface)) = λ j i. owner_at f zero i j in
      ap (λ (g : ℕ → ℕ). filter (λ i. eqb (g i) k) (numbers_below (length (owners f)))) tests
      ∙ ap (λ n. filter (λ i. eqb (f (get_or p.ifaces i no_iface)) k) (numbers_below n)) (length-map ifaces (λ i. f (iface_seen sources i)) ∙ sizes)

  rows_are : (f : plain.Iface → ℕ) → f no_iface ≡ 0 → (rows : IfRows) (n count : ℕ) → n ≡ count → HoldsRows rows n (owned_by (owners f))
      → HoldsRows rows count (λ k. filter (λ i. eqb (f (get_or p.ifaces i no_iface)) k) (numbers_below (length p.ifaces)))
  rows_are f zero rows n count e h =
      record { each = h.each ∙ e; cut = h.cut; content = λ k l. h.content k (subst (λ m. k < m) (sym e) l) ∙ owned f zero k }

  pub routers_below : (count : ℕ) → ((i : ℕ) → i < length p.ifaces → (get_or p.ifaces i no_iface).router < count) → All (λ i. i.router.0 < count) ifaces
  routers_below count h = below (λ x. x.router) count h

  pub nets_below : (count : ℕ) → ((i : ℕ) → i < length p.ifaces → (get_or p.ifaces i no_iface).net < count) → All (λ i. i.net.0 < count) ifaces
  nets_below count h = below (λ x. x.net) count h

  pub routers_fit : (routers : List Router) → map (router_seen sources) routers ≡ p.routers → IsSound p → (n : ℕ) → n ≡ length routers → All (λ i. i.router.0 < n) ifaces
  routers_fit routers e sound n is =
      let same : length p.routers ≡ n = sym (sym (length-map routers (router_seen sources)) ∙ ap length e) ∙ sym is in
      routers_below n (λ i h. subst (λ m. (get_or p.ifaces i no_iface).router < m) same (sound.numbered.placed i h).1)

  pub nets_fit : (nets : List Network) → map (net_seen sources) nets ≡ p.nets → IsSound p → (n : ℕ) → n ≡ length nets → All (λ i. i.net.0 < n) ifaces
  nets_fit nets e sound n is =
      let same : length p.nets ≡ n = sym (sym (length-map nets (net_seen sources)) ∙ ap length e) ∙ sym is in
      nets_below n (λ i h. subst (λ m. (get_or p.ifaces i no_iface).net < m) same (sound.numbered.placed i h).0)

  pub router_rows : (rows : IfRows) (n count : ℕ) → n ≡ count → HoldsRows rows n (owned_by (map (λ i. i.router.0) ifaces)) → HoldsRows rows count (ifaces_of p)
  router_rows rows n count e h = rows_are (λ x. x.router) refl rows n count e h

  pub net_rows : (rows : IfRows) (n count : ℕ) → n ≡ count → HoldsRows rows n (owned_by (map (λ i. i.net.0) ifaces)) → HoldsRows rows count (ifaces_at p)
  net_rows rows n count e h = rows_are (λ x. x.net) refl rows n count e h

-- each list says what the policy says
pub record AreSaid (parts : Parts) (p : Policy) : Type 0 where
  pub nets : map (net_seen parts.sources.now) parts.nets.now ≡ p.nets
  pub hosts : map (host_seen parts.sources.now) parts.hosts.now ≡ p.hosts
  pub routers : map (router_seen parts.sources.now) parts.routers.now ≡ p.routers
  pub ifaces : map (iface_seen parts.sources.now) parts.ifaces.now ≡ p.ifaces
  pub tags : map (tag_seen parts.sources.now) parts.tags.now ≡ p.tags
  pub restrictions : map (restriction_seen parts.sources.now) parts.restrictions.now ≡ p.restrictions
  pub groups : map (group_seen parts.sources.now) parts.groups.now ≡ p.groups
  pub areas : map (area_seen parts.sources.now) parts.areas.now ≡ p.areas
  pub aggregates : map (aggregate_seen parts.sources.now) parts.aggregates.now ≡ p.aggregates
  pub services : map (service_seen parts.sources.now) parts.services.now ≡ p.services

pub same_policy : (parts : Parts) (p : Policy) → AreSaid parts p → plain_of parts ≡ p
same_policy parts p s =
    λ i. record {
      nets = s.nets i;
      hosts = s.hosts i;
      routers = s.routers i;
      ifaces = s.ifaces i;
      tags = s.tags i;
      restrictions = s.restrictions i;
      groups = s.groups i;
      areas = s.areas i;
      aggregates = s.aggregates i;
      services = s.services i;
    }

-- each thing is called by its kind and its name, interfaces by the names that the policy has
pub record AreCalled (parts : Parts) (p : Policy) : Type 0 where
  pub nets : All (λ x. IsCalled kind.Network parts.sources.now x.name) parts.nets.now
  pub hosts : All (λ x. IsCalled kind.Host parts.sources.now x.name) parts.hosts.now
  pub routers : All (λ x. IsCalled kind.Router parts.sources.now x.name) parts.routers.now
  pub ifaces : All (IsIfaceWritten parts.sources.now p) parts.ifaces.now
  pub tags : All (λ x. IsCalled kind.Tag parts.sources.now x.name) parts.tags.now
  pub restrictions : All (λ x. IsCalled kind.Restriction parts.sources.now x.name) (take (declared_count p) parts.restrictions.now)
  pub implied : All (IsImpliedWritten parts.sources.now p) (drop (declared_count p) parts.restrictions.now)
  pub groups : All (λ x. IsCalled kind.Group parts.sources.now x.name) parts.groups.now
  pub areas : All (λ x. IsCalled kind.Area parts.sources.now x.name) parts.areas.now
  pub aggregates : All (λ x. IsCalled kind.Aggregate parts.sources.now x.name) parts.aggregates.now
  pub services : All (λ x. IsCalled kind.Service parts.sources.now x.name) parts.services.now

is_written : (parts : Parts) (p : Policy) → plain_of parts ≡ p → AreCalled parts p → IsWritten parts
is_written parts p e c =
    record {
      nets = c.nets;
      hosts = c.hosts;
      routers = c.routers;
      ifaces = subst (λ q. All (IsIfaceWritten parts.sources.now q) parts.ifaces.now) (sym e) c.ifaces;
      tags = c.tags;
      restrictions = subst (λ q. All (λ x. IsCalled kind.Restriction parts.sources.now x.name) (take (declared_count q) parts.restrictions.now)) (sym e) c.restrictions;
      implied = subst (λ q. All (IsImpliedWritten parts.sources.now q) (drop (declared_count q) parts.restrictions.now)) (sym e) c.implied;
      groups = c.groups;
      areas = c.areas;
      aggregates = c.aggregates;
      services = c.services;
    }

pub is_kept : (parts : Parts) (p : Policy) → AreSaid parts p → IsSound p → AreCalled parts p → HoldsRows parts.at_router (length parts.routers.now) (owned_by (map (λ i. i.router.0) parts.ifaces.now))
    → HoldsRows parts.at_net (length parts.nets.now) (owned_by (map (λ i. i.net.0) parts.ifaces.now)) → IsKept parts
is_kept parts p s sound written at_router at_net =
    let sources = parts.sources.now in
    let e = same_policy parts p s in
    let routers = sym (length-map parts.routers.now (router_seen sources)) ∙ ap length s.routers in
    let nets = sym (length-map parts.nets.now (net_seen sources)) ∙ ap length s.nets in
    record {
      sound = subst IsSound (sym e) sound;
      written = is_written parts p e written;
      at_router = subst (λ q. HoldsRows parts.at_router (length q.routers) (ifaces_of q)) (sym e) (router_rows sources p parts.ifaces.now s.ifaces parts.at_router (length parts.routers.now) (length p.routers) routers at_router);
      at_net = subst (λ q. HoldsRows parts.at_net (length q.nets) (ifaces_at q)) (sym e) (net_rows sources p parts.ifaces.now s.ifaces parts.at_net (length parts.nets.now) (length p.nets) nets at_net);
    }
