-- Routers and networks of interfaces stand at the numbers of their names, where declarations have no fault.
use Rattle.std.proofs.Common.{◌≡◌, ◌∙◌, inl, refl, sym, ap, List, [], map, get_or, None, IsTrue}
use Rattle.std.specs.Prelude.{flat_map}
use Rattle.std.specs.List.{All}
use Rattle.std.proofs.Math.ListN as whole
use Rattle.std.proofs.lemmas.List.{get_or-map}
use Rattle.policy_model.specs.Policy.{no_net, no_router}
use Rattle.policy_model.proofs.AllWalks.{IsIn, in_flat_map}
use Rattle.spoc_ast.specs.Written.{Lexeme, RoutPartText, RoutManaged, RoutModel, RoutRouting, RoutIface, RoutIdle, DeclText, NetworkDecl, RouterDecl, GroupDecl, AreaDecl, AggregateDecl, ProtocolDecl, ProtocolGroupDecl, RestrictionDecl, ServiceDecl}
use Rattle.policy_decls.specs.Names.{NameKind, NetworkName, RouterName, Mention, mention}
use Rattle.policy_decls.specs.Uses.{uses_in_rout_part}
use Rattle.policy_decls.specs.Said.{names_of, number_of_name, policy_said}
use Rattle.policy_decls.specs.Faults.{fault_of}
use Rattle.policy_decls.specs.Formed.{are_formed}
use Rattle.decl_laws.proofs.Rows.{no_rows}
use Rattle.decl_laws.proofs.NamesByKind.{net_names, router_names}
use Rattle.decl_laws.proofs.NameNumbers.{says_it, name_number}
use Rattle.decl_laws.proofs.Taken.{IsFaultless, each_faultless}
use Rattle.decl_laws.proofs.Declared.{IsDeclared, own_name, known}
use Rattle.policy_build.specs.Ifaces.{IsRouterCalled, IsNetCalled, IsPartPlaced, IsPlaced}
use Rattle.policy_build.proofs.Faultless.{all_of}

module _ (decls : List DeclText) where
  -- the text of the name that stands at the number of a word
  text_there : (k : NameKind) (w : Lexeme) → IsDeclared decls (mention k w) → get_or (map (λ m. m.text) (names_of decls k)) (number_of_name decls k w) [] ≡ w.text
  text_there k w h =
      let names = names_of decls k in
      let n = number_of_name decls k w in
      let found = name_number decls k w h in
      get_or-map (λ m. m.text) names n (mention k w) [] found.below ∙ sym (says_it (mention k w) (get_or names n (mention k w)) (found.there (mention k w))).text

  net_called : (w : Lexeme) → IsDeclared decls (mention NetworkName w) → IsNetCalled decls w
  net_called w h =
      let n = number_of_name decls NetworkName w in
      sym (whole.get_or-map (λ x. x.name) (policy_said decls).nets n no_net) ∙ ap (λ l. get_or l n []) (net_names decls) ∙ text_there NetworkName w h

  router_called : (w : Lexeme) → IsDeclared decls (mention RouterName w) → IsRouterCalled decls w
  router_called w h =
      let n = number_of_name decls RouterName w in
      sym (whole.get_or-map (λ x. x.name) (policy_said decls).routers n no_router) ∙ ap (λ l. get_or l n []) (router_names decls) ∙ text_there RouterName w h

  module _ (faultless : (d : DeclText) → IsIn d decls → IsFaultless decls d) where
    part_placed : (d : DeclText) → IsIn d decls → (parts : List RoutPartText) → ((m : Mention) → IsIn m (flat_map uses_in_rout_part parts) → IsDeclared decls m) →
        (part : RoutPartText) → IsIn part parts → IsPartPlaced decls part
    part_placed d g parts uses (RoutManaged filter) h = tt
    part_placed d g parts uses (RoutModel model) h = tt
    part_placed d g parts uses (RoutRouting routing) h = tt
    part_placed d g parts uses (RoutIface name own) h = net_called name (uses (mention NetworkName name) (in_flat_map uses_in_rout_part (RoutIface name own) (mention NetworkName name) parts h (inl refl)))
    part_placed d g parts uses (RoutIdle idle) h = tt

    placed : (d : DeclText) → IsIn d decls → IsPlaced decls d
    placed (NetworkDecl name desc parts) g = tt
    placed (RouterDecl name desc parts) g = (
      router_called name (own_name decls (RouterDecl name desc parts) (mention RouterName name) g (inl refl)),
      all_of (IsPartPlaced decls) parts (part_placed (RouterDecl name desc parts) g parts (λ m h. known decls faultless (RouterDecl name desc parts) m g h)),
    )
    placed (GroupDecl name desc objects) g = tt
    placed (AreaDecl name desc parts) g = tt
    placed (AggregateDecl name desc parts) g = tt
    placed (ProtocolDecl name protocol notes) g = tt
    placed (ProtocolGroupDecl name prts) g = tt
    placed (RestrictionDecl name desc ports) g = tt
    placed (ServiceDecl name desc idle user rules) g = tt

pub all_placed : (decls : List DeclText) → IsTrue (are_formed decls) → fault_of decls ≡ None → All (IsPlaced decls) decls
all_placed decls formed none = all_of (IsPlaced decls) decls (placed decls (each_faultless decls formed (no_rows decls none)))
