-- The texts of tags, each at its first place.
use Rattle.std.proofs.Common.{◌≡◌, ◌∙◌, refl, sym, ap, ℕ, Bool, true, false, cond, not, List, [], ◌∷◌, ◌++◌, map, flat_map, filter, fold, append_assoc, append-nil}
use Rattle.std.specs.Str.{bytes_eq}
use Rattle.std.specs.List.{list_any}
use Rattle.std.proofs.lemmas.List.{map-append}
use Rattle.std.proofs.lemmas.List.Elements.{filter-append}
use Rattle.std.proofs.lemmas.Slice.Eq.{bytes_eq-Decides}
use Rattle.spoc_base.specs.declared.place.Source.{Source}
use Rattle.policy_model.specs.Lists.{once_each}
use Rattle.policy_model.specs.Policy as plain
use Rattle.spoc_ast.specs.Written.{Lexeme, NetPartText, NetIp, NetHost, NetNat, NetIdle, RoutPartText, RoutManaged, RoutModel, RoutRouting, RoutIface, RoutIdle, DeclText, NetworkDecl, RouterDecl, GroupDecl, AreaDecl, AggregateDecl, ProtocolDecl, ProtocolGroupDecl, RestrictionDecl, ServiceDecl}
use Rattle.policy_decls.specs.Names.{TagName, same_kind, Mention, names_in_net_part, names_in_rout_part, names_in, declared_names}
use Rattle.policy_decls.specs.Said.{same_text, names_of, tag_names}
use Rattle.policy_names.proofs.Noted.{bytes_sym, once_push, once_any}
use Rattle.topology.specs.declared.items.Tag.{Tag}
use Rattle.topology.specs.Texts.{name_at}
use Rattle.topology.specs.Seen.{tag_seen}
use Rattle.policy_build.specs.Tags.{with_text, tag_texts_in, tag_texts}
use Rattle.policy_build.proofs.Grown.{map_map}

abbrev is_tag_name : Mention → Bool
is_tag_name name = same_kind name.kind TagName

abbrev texts_of : List Mention → List (List ℕ)
texts_of names = map (λ name. name.text) names

of_net : (net : Lexeme) (parts : List NetPartText) → texts_of (filter is_tag_name (flat_map (names_in_net_part net) parts)) ≡ flat_map tag_texts_in parts
of_net net [] = refl
of_net net (NetIp w ∷ parts) = of_net net parts
of_net net (NetHost w ps ∷ parts) = of_net net parts
of_net net (NetNat w ps ∷ parts) = ap (λ l. w.text ∷ l) (of_net net parts)
of_net net (NetIdle w ∷ parts) = of_net net parts

of_rout : (router : Lexeme) (parts : List RoutPartText) → texts_of (filter is_tag_name (flat_map (names_in_rout_part router) parts)) ≡ []
of_rout router [] = refl
of_rout router (RoutManaged w ∷ parts) = of_rout router parts
of_rout router (RoutModel w ∷ parts) = of_rout router parts
of_rout router (RoutRouting w ∷ parts) = of_rout router parts
of_rout router (RoutIface w ps ∷ parts) = of_rout router parts
of_rout router (RoutIdle w ∷ parts) = of_rout router parts

of_decl : (d : DeclText) → texts_of (filter is_tag_name (names_in d)) ≡ tag_texts d
of_decl (NetworkDecl name desc parts) = of_net name parts
of_decl (RouterDecl name desc parts) = of_rout name parts
of_decl (GroupDecl name desc objects) = refl
of_decl (AreaDecl name desc parts) = refl
of_decl (AggregateDecl name desc parts) = refl
of_decl (ProtocolDecl name protocol notes) = refl
of_decl (ProtocolGroupDecl name prts) = refl
of_decl (RestrictionDecl name desc ports) = refl
of_decl (ServiceDecl name desc idle user rules) = refl

of_decls : (ds : List DeclText) → texts_of (names_of ds TagName) ≡ flat_map tag_texts ds
of_decls [] = refl
of_decls (d ∷ ds) =
    ap texts_of (filter-append is_tag_name (names_in d) (declared_names ds)) ∙ map-append (λ name. name.text) (filter is_tag_name (names_in d)) (names_of ds TagName)
    ∙ ap (λ l. l ++ texts_of (names_of ds TagName)) (of_decl d) ∙ ap (λ l. tag_texts d ++ l) (of_decls ds)

module _ {A B : Type 0} (f : A → B) (p : B → Bool) where
  kept : (b : Bool) (x : A) (xs : List A) → map f (cond b (x ∷ xs) xs) ≡ cond b (f x ∷ map f xs) (map f xs)
  kept true x xs = refl
  kept false x xs = refl

  filter_map : (xs : List A) → map f (filter (λ x. p (f x)) xs) ≡ filter p (map f xs)
  filter_map [] = refl
  filter_map (x ∷ xs) = kept (p (f x)) x (filter (λ y. p (f y)) xs) ∙ ap (λ l. cond (p (f x)) (f x ∷ l) l) (filter_map xs)

once_texts : (ns : List Mention) → texts_of (once_each same_text ns) ≡ once_each bytes_eq (texts_of ns)
once_texts [] = refl
once_texts (n ∷ ns) =
    ap (λ l. n.text ∷ l) (filter_map (λ name. name.text) (λ t. not (bytes_eq n.text t)) (once_each same_text ns) ∙ ap (filter (λ t. not (bytes_eq n.text t))) (once_texts ns))

alike : (y x z : List ℕ) → bytes_eq x z ≡ true → bytes_eq y x ≡ bytes_eq y z
alike y x z e = ap (bytes_eq y) ((bytes_eq-Decides x z).0 e)

one_more : (xs : List (List ℕ)) (y : List ℕ) → with_text (once_each bytes_eq xs) y ≡ once_each bytes_eq (xs ++ y ∷ [])
one_more xs y =
    ap (λ b. cond b (once_each bytes_eq xs) (once_each bytes_eq xs ++ y ∷ [])) (once_any bytes_eq (bytes_eq y) (alike y) xs ∙ ap (λ p. list_any p xs) (λ i x. bytes_sym y x i))
    ∙ sym (once_push bytes_eq xs y)

each_more : (xs ys : List (List ℕ)) → fold with_text (once_each bytes_eq xs) ys ≡ once_each bytes_eq (xs ++ ys)
each_more xs [] = ap (once_each bytes_eq) (sym (append-nil xs))
each_more xs (y ∷ ys) = ap (λ l. fold with_text l ys) (one_more xs y) ∙ each_more (xs ++ y ∷ []) ys ∙ ap (once_each bytes_eq) (append_assoc xs (y ∷ []) ys)

pub tags_said : (ds : List DeclText) → fold with_text [] (flat_map tag_texts ds) ≡ texts_of (tag_names ds)
tags_said ds = each_more [] (flat_map tag_texts ds) ∙ ap (once_each bytes_eq) (sym (of_decls ds)) ∙ sym (once_texts (names_of ds TagName))

abbrev named : List ℕ → plain.Tag
named text = record { name = text }

pub tags_seen : (sources : List Source) (ds : List DeclText) (tags : List Tag) (texts : List (List ℕ)) → map (λ tag. name_at sources tag.name) tags ≡ texts → texts ≡ fold with_text [] (flat_map tag_texts ds)
    → map (tag_seen sources) tags ≡ map (λ name. record { name = name.text }) (tag_names ds)
tags_seen sources ds tags texts e f =
    sym (map_map named (λ tag. name_at sources tag.name) tags) ∙ ap (map named) (e ∙ f ∙ tags_said ds) ∙ map_map named (λ name. name.text) (tag_names ds)
