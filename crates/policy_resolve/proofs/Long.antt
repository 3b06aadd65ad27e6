-- Names and hardware that are too long, declaration by declaration.
use Rattle.std.proofs.Common.{◌≡◌, ◌∙◌, refl, sym, ap, Bool, true, false, ◌||◌, nat_lt, List, [], ◌∷◌, length, flat_map, append-nil}
use Rattle.std.specs.List.{list_any}
use Rattle.std.proofs.lemmas.List.Folds.{list_any-append}
use Rattle.std.proofs.lemmas.Grind.{flat_map-append}
use Rattle.spoc_ast.specs.Written.{Lexeme, IfPartText, IfIp, IfHardware, IfBindNat, IfVirtual, IfIdle, RoutPartText, RoutManaged, RoutModel, RoutRouting, RoutIface, RoutIdle, DeclText, NetworkDecl, RouterDecl, GroupDecl, AreaDecl, AggregateDecl, ProtocolDecl, ProtocolGroupDecl, RestrictionDecl, ServiceDecl}
use Rattle.policy_decls.specs.Names.{names_in, declared_names}
use Rattle.policy_decls.specs.Lookup.{hardware_in, ifaces_in_part, ifaces_in, declared_ifaces, iface_hardware, is_managed_router}
use Rattle.policy_decls.specs.Limits as plain
use Rattle.policy_resolve.specs.Lengths.{is_long_name, is_long_part, is_long_iface, has_long_hardware, has_long_word}

abbrev is_long_lexeme : Lexeme → Bool
is_long_lexeme w = nat_lt 100 (length w.text)

or_false : (a : Bool) → (a || false) ≡ a
or_false true = refl
or_false false = refl

crossed : (a b c d : Bool) → ((a || b) || (c || d)) ≡ ((a || c) || (b || d))
crossed true b c d = refl
crossed false true true d = refl
crossed false true false d = refl
crossed false false true d = refl
crossed false false false d = refl

in_if_part : (part : IfPartText) → list_any is_long_lexeme (hardware_in part) ≡ is_long_part part
in_if_part (IfIp address) = refl
in_if_part (IfHardware hardware) = or_false (is_long_lexeme hardware)
in_if_part (IfBindNat tags) = refl
in_if_part (IfVirtual parts) = refl
in_if_part (IfIdle idle) = refl

in_if_parts : (parts : List IfPartText) → list_any is_long_lexeme (flat_map hardware_in parts) ≡ list_any is_long_part parts
in_if_parts [] = refl
in_if_parts (part ∷ parts) =
    list_any-append is_long_lexeme (hardware_in part) (flat_map hardware_in parts) ∙ ap (λ b. b || list_any is_long_lexeme (flat_map hardware_in parts)) (in_if_part part)
    ∙ ap (λ b. is_long_part part || b) (in_if_parts parts)

module _ (router : Lexeme) (managed : Bool) where
  in_part : (part : RoutPartText) → list_any is_long_lexeme (flat_map iface_hardware (ifaces_in_part router managed part)) ≡ is_long_iface part
  in_part (RoutManaged filter) = refl
  in_part (RoutModel model) = refl
  in_part (RoutRouting routing) = refl
  in_part (RoutIface name parts) = ap (list_any is_long_lexeme) (append-nil (flat_map hardware_in parts)) ∙ in_if_parts parts
  in_part (RoutIdle idle) = refl

  in_parts : (parts : List RoutPartText) → list_any is_long_lexeme (flat_map iface_hardware (flat_map (ifaces_in_part router managed) parts)) ≡ list_any is_long_iface parts
  in_parts [] = refl
  in_parts (part ∷ parts) =
      let rest = flat_map (ifaces_in_part router managed) parts in
      ap (list_any is_long_lexeme) (flat_map-append iface_hardware (ifaces_in_part router managed part) rest)
      ∙ list_any-append is_long_lexeme (flat_map iface_hardware (ifaces_in_part router managed part)) (flat_map iface_hardware rest)
      ∙ ap (λ b. b || list_any is_long_lexeme (flat_map iface_hardware rest)) (in_part part) ∙ ap (λ b. is_long_iface part || b) (in_parts parts)

in_decl : (decl : DeclText) → list_any is_long_lexeme (flat_map iface_hardware (ifaces_in decl)) ≡ has_long_hardware decl
in_decl (NetworkDecl name desc parts) = refl
in_decl (RouterDecl name desc parts) = in_parts name (is_managed_router parts) parts
in_decl (GroupDecl name desc objects) = refl
in_decl (AreaDecl name desc parts) = refl
in_decl (AggregateDecl name desc parts) = refl
in_decl (ProtocolDecl name protocol notes) = refl
in_decl (ProtocolGroupDecl name prts) = refl
in_decl (RestrictionDecl name desc ports) = refl
in_decl (ServiceDecl name desc idle user rules) = refl

pub long_words : (decls : List DeclText) → list_any has_long_word decls ≡ plain.has_long_name decls
long_words [] = refl
long_words (decl ∷ decls) =
    let names = list_any is_long_name (names_in decl) in
    let other_names = list_any is_long_name (declared_names decls) in
    let hardware = list_any is_long_lexeme (flat_map iface_hardware (ifaces_in decl)) in
    let other_hardware = list_any is_long_lexeme (flat_map iface_hardware (declared_ifaces decls)) in
    ap (λ b. has_long_word decl || b) (long_words decls) ∙ ap (λ b. (names || b) || (other_names || other_hardware)) (sym (in_decl decl)) ∙ crossed names hardware other_names other_hardware
    ∙ ap (λ b. b || (hardware || other_hardware)) (sym (list_any-append is_long_name (names_in decl) (declared_names decls)))
    ∙ ap (λ b. list_any is_long_name (declared_names (decl ∷ decls)) || b)
    (sym (ap (list_any is_long_lexeme) (flat_map-append iface_hardware (ifaces_in decl) (declared_ifaces decls)) ∙ list_any-append is_long_lexeme (flat_map iface_hardware (ifaces_in decl)) (flat_map iface_hardware (declared_ifaces decls))))
