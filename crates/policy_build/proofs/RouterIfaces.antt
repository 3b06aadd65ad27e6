-- The interfaces that routers declare.
use Rattle.std.proofs.Common.{◌≡◌, ◌∙◌, refl, sym, ap, subst, ℕ, Bool, List, [], ◌∷◌, map, flat_map, slice_get, Some}
use Rattle.std.specs.List.{All}
use Rattle.std.proofs.lemmas.List.Elements.{All-head, All-tail}
use Rattle.spoc_base.specs.declared.place.Source.{Source}
use Rattle.spoc_base.specs.declared.place.Named.{Named}
use Rattle.policy_model.specs.Policy.{net_of, router_of}
use Rattle.topology.specs.Texts.{IsIfaceCalled}
use Rattle.spoc_ast.specs.Written.{Lexeme, IfPartText, IfIp, IfHardware, IfBindNat, IfVirtual, IfIdle, RoutPartText, RoutManaged, RoutModel, RoutRouting, RoutIface, RoutIdle, DeclText}
use Rattle.policy_decls.specs.Lookup.{hardware_in, ifaces_in_part}
use Rattle.policy_decls.specs.Names.{RouterName, NetworkName}
use Rattle.policy_decls.specs.Said.{number_of_name, iface_said, policy_said}
use Rattle.policy_build.specs.Words.{IsWordOf}
use Rattle.policy_build.specs.Good.{IsGoodIfPart}
use Rattle.policy_build.specs.Ifaces.{IsRouterCalled, IsNetCalled, iface_in, ifaces_said_in}

pub of_router : (decls : List DeclText) (router : Lexeme) (managed : Bool) (parts : List RoutPartText) → map (iface_said decls) (flat_map (ifaces_in_part router managed) parts) ≡ flat_map (ifaces_said_in decls router) parts
of_router decls router managed [] = refl
of_router decls router managed (RoutManaged w ∷ parts) = of_router decls router managed parts
of_router decls router managed (RoutModel w ∷ parts) = of_router decls router managed parts
of_router decls router managed (RoutRouting w ∷ parts) = of_router decls router managed parts
of_router decls router managed (RoutIface w ps ∷ parts) = ap (λ l. iface_in decls router w ps ∷ l) (of_router decls router managed parts)
of_router decls router managed (RoutIdle w ∷ parts) = of_router decls router managed parts

pub hardware_word : (sources : List Source) (parts : List IfPartText) (w : Lexeme) → All (IsGoodIfPart sources) parts → Some w ≡ slice_get (flat_map hardware_in parts) 0 → IsWordOf sources w
hardware_word sources [] w h e = absurd (cc)
hardware_word sources (IfIp v ∷ parts) w h e = hardware_word sources parts w (All-tail (IsGoodIfPart sources) (IfIp v) parts h) e
hardware_word sources (IfHardware v ∷ parts) w h e = let same : v ≡ w = cc in subst (IsWordOf sources) same (All-head (IsGoodIfPart sources) (IfHardware v) parts h)
hardware_word sources (IfBindNat v ∷ parts) w h e = hardware_word sources parts w (All-tail (IsGoodIfPart sources) (IfBindNat v) parts h) e
hardware_word sources (IfVirtual v ∷ parts) w h e = hardware_word sources parts w (All-tail (IsGoodIfPart sources) (IfVirtual v) parts h) e
hardware_word sources (IfIdle v ∷ parts) w h e = hardware_word sources parts w (All-tail (IsGoodIfPart sources) (IfIdle v) parts h) e

-- an interface at the numbers of its router and its network is called by their names
pub iface_called : (sources : List Source) (decls : List DeclText) (router net : Lexeme) (r n : ℕ) (named : Named) → IsRouterCalled decls router → IsNetCalled decls net
    → r ≡ number_of_name decls RouterName router → n ≡ number_of_name decls NetworkName net → IsIfaceCalled sources router.text net.text named
    → IsIfaceCalled sources (router_of (policy_said decls) r).name (net_of (policy_said decls) n).name named
iface_called sources decls router net r n named at_router at_net e f c =
    record {
      is = c.is;
      router_lies = c.router_lies;
      of_router = c.of_router ∙ sym (ap (λ k. (router_of (policy_said decls) k).name) e ∙ at_router);
      net_lies = c.net_lies;
      at_net = c.at_net ∙ sym (ap (λ k. (net_of (policy_said decls) k).name) f ∙ at_net);
    }
