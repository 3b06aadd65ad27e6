-- What sets name is there.
use Rattle.std.proofs.Common.{◌≡◌, ◌⊎◌, inl, inr, refl, sym, ap, subst, ◌∙◌, Bool, true, false, not, ◌&&◌, ◌||◌, List, [], ◌∷◌, ◌++◌, length, map, Some, None, is_some, nat_lt}
use Rattle.std.specs.Prelude.{IsTrue, flat_map, slice_get, option_and_then}
use Rattle.std.specs.List.{list_any, list_all}
use Rattle.std.proofs.lemmas.Bool.{false≢true, and_parts, and_from, or_parts, or_left, or_right, lt-ltb, not-false}
use Rattle.topology.specs.Sound.{HasSoundSets, is_sound_expr, is_sound_rule, is_sound_service, names_user}
use Rattle.policy_model.specs.Lists.{is_nothing}
use Rattle.policy_model.specs.Policy.{Group, Rule, Service, no_group, is_managed, router_at, iface_of}
use Rattle.spoc_ast.specs.Written.{Lexeme, PortText, SetText, NoParts, NetworkNamed, HostNamed, PortNamed, GroupNamed, AggregateNamed, AreaNamed, UserNamed, NetworksIn, HostsIn, ZonesIn, Joining, Keeping, Leaving, IfPartText, IfIp, IfHardware, IfBindNat, IfVirtual, IfIdle, RuleText, DeclText, RouterDecl, GroupDecl, ServiceDecl}
use Rattle.policy_decls.specs.Numbers.{address_of}
use Rattle.policy_decls.specs.Names.{NetworkName, HostName, GroupName, AreaName, AggregateName, Mention, mention, mention_port, declared_names, same_name}
use Rattle.policy_decls.specs.Uses.{uses_in_set, uses_in_prt, uses_in_rule}
use Rattle.policy_decls.specs.Lookup.{IfaceText, declared_ifaces, addresses_in, iface_addresses, is_port}
use Rattle.policy_decls.specs.Shapes.{ports_in, says_user, is_bare_port, sets_in_rule, lacks_user, name_bare_port, ask_unaligned, is_bad_prt}
use Rattle.policy_decls.specs.Said.{expr_in, rule_in, number_of_port, adds_of, iface_said, policy_said}
use Rattle.policy_decls.specs.Faults.{fault_of}
use Rattle.policy_decls.specs.Formed.{is_formed_set, is_formed_iface, is_formed_router, is_formed_prt, is_formed_rule, asks_prefix, are_formed}
use Rattle.policy_model.proofs.AllWalks.{IsIn, from_map, in_front, in_back, in_flat_map}
use Rattle.list_laws.proofs.Members.{each_in}
use Rattle.list_laws.proofs.Tables.{from_flat_map}
use Rattle.decl_laws.proofs.Rows.{no_rows}
use Rattle.decl_laws.proofs.Places.{at_each, all_from, none_passes, AreApart}
use Rattle.decl_laws.proofs.Taken.{IsFaultless, each_faultless, apart_names, row_clear}
use Rattle.decl_laws.proofs.NameNumbers.{net_below, host_below, group_below, area_below, aggregate_below, port_below}
use Rattle.decl_laws.proofs.Declared.{IsDeclared, iface_of_decl}
use Rattle.decl_laws.proofs.Stands.{port_at, managed_iface}

pub user_named : (decls : List DeclText) (e : SetText) → names_user (expr_in decls e) ≡ says_user e
user_named decls NoParts = refl
user_named decls (NetworkNamed name) = refl
user_named decls (HostNamed name) = refl
user_named decls (PortNamed port) = refl
user_named decls (GroupNamed name) = refl
user_named decls (AggregateNamed name) = refl
user_named decls (AreaNamed name) = refl
user_named decls UserNamed = refl
user_named decls (NetworksIn e) = user_named decls e
user_named decls (HostsIn e) = user_named decls e
user_named decls (ZonesIn only e) = user_named decls e
user_named decls (Joining e f) = ap (λ b. b || names_user (expr_in decls f)) (user_named decls e) ∙ ap (λ b. says_user e || b) (user_named decls f)
user_named decls (Keeping e f) = ap (λ b. b || names_user (expr_in decls f)) (user_named decls e) ∙ ap (λ b. says_user e || b) (user_named decls f)
user_named decls (Leaving e f) = ap (λ b. b || names_user (expr_in decls f)) (user_named decls e) ∙ ap (λ b. says_user e || b) (user_named decls f)

-- an interface's word for an address is one
address_formed : (w : Lexeme) (part : IfPartText) → is_formed_iface part ≡ true → IsIn w (addresses_in part) → is_some (address_of w.text) ≡ true
address_formed w (IfIp address) h (inl e) = ap (λ x. is_some (address_of x.text)) e ∙ h
address_formed w (IfIp address) h (inr g) = absurd g
address_formed w (IfHardware hardware) h g = absurd g
address_formed w (IfBindNat tags) h g = absurd g
address_formed w (IfVirtual parts) h g = absurd g
address_formed w (IfIdle idle) h g = absurd g

module _ (decls : List DeclText) (apart : AreApart same_name (declared_names decls)) (faultless : (d : DeclText) → IsIn d decls → IsFaultless decls d) where
  pub formed_parts : (i : IfaceText) → IsIn i (declared_ifaces decls) → list_all is_formed_iface i.parts ≡ true
  formed_parts i h =
      let w = iface_of_decl decls i h in
      each_in is_formed_router w.parts (faultless (RouterDecl i.router w.desc w.parts) w.there).formed _ w.part

  -- an interface that has a word for an address has one
  pub address_there : (i : IfaceText) → IsIn i (declared_ifaces decls) → is_nothing (iface_addresses i) ≡ false → is_some (option_and_then (λ w. address_of w.text) (slice_get (iface_addresses i) 0)) ≡ true
  address_there i h some = by (iface_addresses i) (λ w g. each w (from_flat_map addresses_in w i.parts g)) some
    where
      each : (w : Lexeme) → ((part : IfPartText) × IsIn part i.parts × IsIn w (addresses_in part)) → is_some (address_of w.text) ≡ true
      each w k = address_formed w k.0 (each_in is_formed_iface i.parts (formed_parts i h) k.0 k.1) k.2

      by : (ws : List Lexeme) → ((w : Lexeme) → IsIn w ws → is_some (address_of w.text) ≡ true) → is_nothing ws ≡ false → is_some (option_and_then (λ w. address_of w.text) (slice_get ws 0)) ≡ true
      by [] each some = absurd (false≢true (sym some))
      by (w ∷ ws) each some = each w (inl refl)

  managed_or_placed : (managed nothing port : Bool) → port ≡ true → (port && (not managed && nothing)) ≡ false → (managed ≡ true) ⊎ (nothing ≡ false)
  managed_or_placed true nothing port e h = inl refl
  managed_or_placed false false port e h = inr refl
  managed_or_placed false true port e h = absurd (false≢true (sym h ∙ ap (λ b. b && true) e))

  port_sound : (port : PortText) → IsDeclared decls (mention_port port) → is_bare_port decls port ≡ false →
      (is_managed (policy_said decls) (router_at (policy_said decls) (number_of_port decls port)) || is_some (iface_of (policy_said decls) (number_of_port decls port)).addr) ≡ true
  port_sound port h bare =
      let at = port_at decls port h in
      let i : IfaceText = at.iface in
      let clear = none_passes (λ j. is_port port j && (not j.managed && is_nothing (iface_addresses j))) (declared_ifaces decls) bare i at.there in
      subst (λ x. (is_managed (policy_said decls) x.router || is_some x.addr) ≡ true) (sym at.said)
      (by i at.there (managed_or_placed i.managed (is_nothing (iface_addresses i)) (is_port port i) at.named clear))
    where
      by : (i : IfaceText) → IsIn i (declared_ifaces decls) → (i.managed ≡ true) ⊎ (is_nothing (iface_addresses i) ≡ false) → (is_managed (policy_said decls) (iface_said decls i).router || is_some (iface_said decls i).addr) ≡ true
      by i g (inl e) = or_left (is_managed (policy_said decls) (iface_said decls i).router) (is_some (iface_said decls i).addr) (managed_iface decls apart i g ∙ e)
      by i g (inr e) = or_right (is_managed (policy_said decls) (iface_said decls i).router) (is_some (iface_said decls i).addr) (address_there i g e)

  sound_both : (user bracket : Bool) (e f : SetText) → (is_formed_set user bracket e && is_formed_set user bracket f) ≡ true → ((used : Mention) → IsIn used (uses_in_set e ++ uses_in_set f) → IsDeclared decls used) →
      ((port : PortText) → IsIn port (ports_in e ++ ports_in f) → is_bare_port decls port ≡ false) →
      (is_formed_set user bracket e ≡ true → ((used : Mention) → IsIn used (uses_in_set e) → IsDeclared decls used) → ((port : PortText) → IsIn port (ports_in e) → is_bare_port decls port ≡ false) →
      is_sound_expr (policy_said decls) user bracket (expr_in decls e) ≡ true) →
      (is_formed_set user bracket f ≡ true → ((used : Mention) → IsIn used (uses_in_set f) → IsDeclared decls used) → ((port : PortText) → IsIn port (ports_in f) → is_bare_port decls port ≡ false) →
      is_sound_expr (policy_said decls) user bracket (expr_in decls f) ≡ true) →
      (is_sound_expr (policy_said decls) user bracket (expr_in decls e) && is_sound_expr (policy_said decls) user bracket (expr_in decls f)) ≡ true
  sound_both user bracket e f formed uses ports left right =
      let a = and_parts (is_formed_set user bracket e) (is_formed_set user bracket f) formed in
      and_from (is_sound_expr (policy_said decls) user bracket (expr_in decls e)) (is_sound_expr (policy_said decls) user bracket (expr_in decls f))
      (left a.0 (λ used h. uses used (in_front used (uses_in_set e) (uses_in_set f) h)) (λ port h. ports port (in_front port (ports_in e) (ports_in f) h)))
      (right a.1 (λ used h. uses used (in_back used (uses_in_set e) (uses_in_set f) h)) (λ port h. ports port (in_back port (ports_in e) (ports_in f) h)))

  -- what a set without a bare port names is there
  pub sound_set : (user bracket : Bool) (e : SetText) → is_formed_set user bracket e ≡ true → ((used : Mention) → IsIn used (uses_in_set e) → IsDeclared decls used) →
      ((port : PortText) → IsIn port (ports_in e) → is_bare_port decls port ≡ false) → is_sound_expr (policy_said decls) user bracket (expr_in decls e) ≡ true
  sound_set user bracket NoParts formed uses ports = refl
  sound_set user bracket (NetworkNamed name) formed uses ports = lt-ltb _ _ (net_below decls name (uses (mention NetworkName name) (inl refl)))
  sound_set user bracket (HostNamed name) formed uses ports = lt-ltb _ _ (host_below decls name (uses (mention HostName name) (inl refl)))
  sound_set user bracket (PortNamed port) formed uses ports =
      let h = uses (mention_port port) (inl refl) in
      and_from (nat_lt (number_of_port decls port) (length (policy_said decls).ifaces)) _ (lt-ltb _ _ (port_below decls port h)) (port_sound port h (ports port (inl refl)))
  sound_set user bracket (GroupNamed name) formed uses ports = lt-ltb _ _ (group_below decls name (uses (mention GroupName name) (inl refl)))
  sound_set user bracket (AggregateNamed name) formed uses ports = lt-ltb _ _ (aggregate_below decls name (uses (mention AggregateName name) (inl refl)))
  sound_set user bracket (AreaNamed name) formed uses ports = and_from bracket _ formed (lt-ltb _ _ (area_below decls name (uses (mention AreaName name) (inl refl))))
  sound_set user bracket UserNamed formed uses ports = formed
  sound_set user bracket (NetworksIn e) formed uses ports = sound_set user true e formed uses ports
  sound_set user bracket (HostsIn e) formed uses ports = sound_set user true e formed uses ports
  sound_set user bracket (ZonesIn only e) formed uses ports = sound_set user true e (and_parts (asks_prefix only) (is_formed_set user true e) formed).1 uses ports
  sound_set user bracket (Joining e f) formed uses ports = sound_both user bracket e f formed uses ports (sound_set user bracket e) (sound_set user bracket f)
  sound_set user bracket (Keeping e f) formed uses ports = sound_both user bracket e f formed uses ports (sound_set user bracket e) (sound_set user bracket f)
  sound_set user bracket (Leaving e f) formed uses ports = sound_both user bracket e f formed uses ports (sound_set user bracket e) (sound_set user bracket f)

  -- ---- groups

  sound_group : (d : DeclText) → IsIn d decls → (x : Group) → IsIn x (adds_of decls d).groups → is_sound_expr (policy_said decls) false false x.objects ≡ true
  sound_group (GroupDecl name desc None) g x (inl e) = ap (λ y. is_sound_expr (policy_said decls) false false y.objects) e
  sound_group (GroupDecl name desc (Some objects)) g x (inl e) =
      let own = faultless (GroupDecl name desc (Some objects)) g in
      let clear = row_clear 14 (name_bare_port decls (objects ∷ [])) [] (row_clear 4 (ask_unaligned (objects ∷ [])) ((14, name_bare_port decls (objects ∷ [])) ∷ []) own.shape).1 in
      ap (λ y. is_sound_expr (policy_said decls) false false y.objects) e
      ∙ sound_set false false objects own.formed own.known (λ port h. none_passes (is_bare_port decls) (flat_map ports_in (objects ∷ [])) clear.0 port (in_front port (ports_in objects) [] h))
  sound_group (GroupDecl name desc objects) g x (inr h) = absurd h
  sound_group _ g x h = absurd h

  -- ---- services

  sound_rule : (rule : RuleText) → is_formed_rule rule ≡ true → ((used : Mention) → IsIn used (uses_in_rule rule) → IsDeclared decls used) →
      ((port : PortText) → IsIn port (flat_map ports_in (sets_in_rule rule)) → is_bare_port decls port ≡ false) → lacks_user rule ≡ false → is_sound_rule (policy_said decls) (rule_in decls rule) ≡ true
  sound_rule rule formed uses ports user =
      let a = and_parts (is_formed_set true false rule.src && is_formed_set true false rule.dst) (list_all is_formed_prt rule.prts) formed in
      let b = and_parts (is_formed_set true false rule.src) (is_formed_set true false rule.dst) a.0 in
      let src = uses_in_set rule.src in
      let rest = flat_map uses_in_prt rule.prts in
      let sources : is_sound_expr (policy_said decls) true false (expr_in decls rule.src) ≡ true =
      sound_set true false rule.src b.0 (λ used h. uses used (in_front used (src ++ uses_in_set rule.dst) rest (in_front used src (uses_in_set rule.dst) h))) (λ port h. ports port (in_front port (ports_in rule.src) (ports_in rule.dst ++ []) h)) in
      let destinations : is_sound_expr (policy_said decls) true false (expr_in decls rule.dst) ≡ true =
      sound_set true false rule.dst b.1 (λ used h. uses used (in_front used (src ++ uses_in_set rule.dst) rest (in_back used src (uses_in_set rule.dst) h)))
      (λ port h. ports port (in_back port (ports_in rule.src) (ports_in rule.dst ++ []) (in_front port (ports_in rule.dst) [] h))) in
      let named : (names_user (expr_in decls rule.src) || names_user (expr_in decls rule.dst)) ≡ true =
      ap (λ c. c || names_user (expr_in decls rule.dst)) (user_named decls rule.src) ∙ ap (λ c. says_user rule.src || c) (user_named decls rule.dst) ∙ not-false (says_user rule.src || says_user rule.dst) user in
      and_from (is_sound_expr (policy_said decls) true false (expr_in decls rule.src) && is_sound_expr (policy_said decls) true false (expr_in decls rule.dst))
      (names_user (expr_in decls rule.src) || names_user (expr_in decls rule.dst))
      (and_from (is_sound_expr (policy_said decls) true false (expr_in decls rule.src)) (is_sound_expr (policy_said decls) true false (expr_in decls rule.dst)) sources destinations) named

  sound_service : (d : DeclText) → IsIn d decls → (x : Service) → IsIn x (adds_of decls d).services → is_sound_service (policy_said decls) x ≡ true
  sound_service (ServiceDecl name desc idle user rules) g x (inl e) =
      let own = faultless (ServiceDecl name desc idle user rules) g in
      let sets = user ∷ flat_map sets_in_rule rules in
      let last = (14, list_any lacks_user rules || name_bare_port decls sets) ∷ [] in
      let prts = list_any (λ rule. list_any is_bad_prt rule.prts) rules in
      let third = row_clear 14 (list_any lacks_user rules || name_bare_port decls sets) [] (row_clear 13 prts last (row_clear 4 (ask_unaligned sets) ((13, prts) ∷ last) own.shape).1).1 in
      let clear = or_parts (list_any lacks_user rules) (name_bare_port decls sets) third.0 in
      let bare = none_passes (is_bare_port decls) (flat_map ports_in sets) clear.1 in
      let formed = and_parts (is_formed_set false false user) (list_all is_formed_rule rules) own.formed in
      let each : (r : Rule) → IsIn r (map (rule_in decls) rules) → is_sound_rule (policy_said decls) r ≡ true = λ r h.
      let w = from_map (rule_in decls) r rules h in
      ap (is_sound_rule (policy_said decls)) w.2
      ∙ sound_rule w.0 (each_in is_formed_rule rules formed.1 w.0 w.1) (λ used k. own.known used (in_back used (uses_in_set user) (flat_map uses_in_rule rules) (in_flat_map uses_in_rule w.0 used rules w.1 k)))
      (λ port k. bare port (in_back port (ports_in user) (flat_map ports_in (flat_map sets_in_rule rules)) (in_sets rules w.0 port w.1 k)))
      (none_passes lacks_user rules clear.0 w.0 w.1) in
      ap (is_sound_service (policy_said decls)) e
      ∙ and_from (is_sound_expr (policy_said decls) false false (expr_in decls user)) (list_all (is_sound_rule (policy_said decls)) (map (rule_in decls) rules))
      (sound_set false false user formed.0 (λ used h. own.known used (in_front used (uses_in_set user) (flat_map uses_in_rule rules) h))
      (λ port h. bare port (in_front port (ports_in user) (flat_map ports_in (flat_map sets_in_rule rules)) h)))
      (all_from (is_sound_rule (policy_said decls)) (map (rule_in decls) rules) each)
    where
      in_sets : (rules : List RuleText) (rule : RuleText) (port : PortText) → IsIn rule rules → IsIn port (flat_map ports_in (sets_in_rule rule)) → IsIn port (flat_map ports_in (flat_map sets_in_rule rules))
      in_sets rules rule port h k =
          let w = from_flat_map ports_in port (sets_in_rule rule) k in
          in_flat_map ports_in w.0 port (flat_map sets_in_rule rules) (in_flat_map sets_in_rule rule w.0 rules h w.1) w.2
  sound_service (ServiceDecl name desc idle user rules) g x (inr h) = absurd h
  sound_service _ g x h = absurd h

  pub all_sound : HasSoundSets (policy_said decls)
  all_sound = record {
    groups = at_each (λ x. is_sound_expr (policy_said decls) false false x.objects ≡ true) (policy_said decls).groups no_group (λ x h. let w = from_flat_map (λ d. (adds_of decls d).groups) x decls h in sound_group w.0 w.1 x w.2);
    services = all_from (is_sound_service (policy_said decls)) (policy_said decls).services (λ x h. let w = from_flat_map (λ d. (adds_of decls d).services) x decls h in sound_service w.0 w.1 x w.2);
  }

pub sets_sound : (decls : List DeclText) → IsTrue (are_formed decls) → fault_of decls ≡ None → HasSoundSets (policy_said decls)
sets_sound decls formed none = let h = no_rows decls none in all_sound decls (apart_names decls h.twice) (each_faultless decls formed h)
