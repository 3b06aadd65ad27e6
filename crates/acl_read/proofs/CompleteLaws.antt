-- What a line says below other lines is told exactly by what it says by itself.
use Rattle.std.proofs.Common.{◌≡◌, ◌≢◌, ◌∙◌, refl, sym, ap, subst, ℕ, ◌<◌, ◌^◌, eqb, Bool, true, false, not, cond, ◌&&◌, List, [], ◌∷◌, ◌++◌, arith, codes, bytes_eq, Option, Some, None, option_and_then, option_map}
use Rattle.std.specs.List.{AllByRecursion, list_any}
use Rattle.std.proofs.lemmas.Bool.{and_parts, and_from, not-true, not_from_false, both_ways, cond-true}
use Rattle.std.proofs.lemmas.Option.{none-some, same_Some}
use Rattle.std.proofs.lemmas.Slice.Eq.{bytes_eq-Decides}
use Rattle.spoc_base.specs.Address.{Cidr}
use Rattle.spoc_base.specs.declared.dialect.Dialect.{Dialect}
use Rattle.spoc_base.specs.declared.dialect.Dialect.TheVariants.{Ios, Asa}
use Rattle.policy_model.specs.Lists.{is_nothing}
use Rattle.acl_print.specs.Words.{dotted, network_text}
use Rattle.device_reading.specs.Facts.{PortAt, End, OnePrefix, NamedGroup, Entry, Fact, Remark, Sends, OpensList, HasEntry, OpensPort, Binds, OpensGroup, HasMember, end_text, entry_text, ios_fact_text, asa_fact_text, fact_text}
use Rattle.device_reading.specs.Grammar.{Lacks, IsWord, IsPrefix, IsEnd, IsEntry, IsRoute, owner, opens_list, opens_port, opens_group, has_entry, binds_port, has_hardware, members_of, port_for, IsIosFact, IsAsaFact, IsFact}
use Rattle.text_laws.specs.Printable.{AreNamed}
use Rattle.text_laws.proofs.Ports.{named_for, named_by}
use Rattle.text_laws.proofs.Standing.{same_bytes}
use Rattle.device_lines.specs.Alone.{port_named, IsEndAlone, IsEntryAlone, IsIosAlone, IsAsaAlone, IsAlone}
use Rattle.device_lines.proofs.NumberLaws.{some_then, some_map}
use Rattle.acl_read.specs.Completed.{list_owner, port_owner, group_owner, if_so, full_end, completed_ios, completed_asa, completed, bare_end, bare_entry, bare_ios, bare_asa, bare}

-- ---- owners

list_owned : (o : Option Fact) (name : List ℕ) → list_owner o ≡ Some name → o ≡ Some (OpensList name)
list_owned None name e = absurd (none-some name e)
list_owned (Some (OpensList n)) name e = ap (λ x. Some (OpensList x)) (same_Some n name e)
list_owned (Some (Remark t)) name e = absurd (none-some name e)
list_owned (Some (Sends p n g)) name e = absurd (none-some name e)
list_owned (Some (OpensPort h)) name e = absurd (none-some name e)
list_owned (Some (HasEntry l x)) name e = absurd (none-some name e)
list_owned (Some (Binds h l)) name e = absurd (none-some name e)
list_owned (Some (OpensGroup g)) name e = absurd (none-some name e)
list_owned (Some (HasMember g m)) name e = absurd (none-some name e)

port_owned : (o : Option Fact) (hardware : List ℕ) → port_owner o ≡ Some hardware → o ≡ Some (OpensPort hardware)
port_owned None hardware e = absurd (none-some hardware e)
port_owned (Some (OpensPort h)) hardware e = ap (λ x. Some (OpensPort x)) (same_Some h hardware e)
port_owned (Some (Remark t)) hardware e = absurd (none-some hardware e)
port_owned (Some (Sends p n g)) hardware e = absurd (none-some hardware e)
port_owned (Some (OpensList n)) hardware e = absurd (none-some hardware e)
port_owned (Some (HasEntry l x)) hardware e = absurd (none-some hardware e)
port_owned (Some (Binds h l)) hardware e = absurd (none-some hardware e)
port_owned (Some (OpensGroup g)) hardware e = absurd (none-some hardware e)
port_owned (Some (HasMember g m)) hardware e = absurd (none-some hardware e)

group_owned : (o : Option Fact) (name : List ℕ) → group_owner o ≡ Some name → o ≡ Some (OpensGroup name)
group_owned None name e = absurd (none-some name e)
group_owned (Some (OpensGroup n)) name e = ap (λ x. Some (OpensGroup x)) (same_Some n name e)
group_owned (Some (Remark t)) name e = absurd (none-some name e)
group_owned (Some (Sends p n g)) name e = absurd (none-some name e)
group_owned (Some (OpensList h)) name e = absurd (none-some name e)
group_owned (Some (OpensPort h)) name e = absurd (none-some name e)
group_owned (Some (HasEntry l x)) name e = absurd (none-some name e)
group_owned (Some (Binds h l)) name e = absurd (none-some name e)
group_owned (Some (HasMember g m)) name e = absurd (none-some name e)

-- ---- what is completed may stand there

passed : (test : Bool) (f g : Fact) → if_so test f ≡ Some g → (test ≡ true) × (f ≡ g)
passed true f g e = (refl, same_Some f g e)
passed false f g e = absurd (none-some g e)

-- the fact may stand below these lines, with the text of the other one
pub record IsCompletion (dialect : Dialect) (ports : List PortAt) (above : List Fact) (said fact : Fact) : Type 0 where
  pub good : IsFact dialect ports above fact
  pub same_text : fact_text dialect fact ≡ fact_text dialect said

some_there : (members : List Cidr) → not (is_nothing members) ≡ true → members ≢ []
some_there [] e f = both_ways false refl e
some_there (m ∷ ms) e f = cc

some_back : (members : List Cidr) → members ≢ [] → not (is_nothing members) ≡ true
some_back [] h = absurd (h refl)
some_back (m ∷ ms) h = refl

ios_end : (above : List Fact) (e : End) → IsEndAlone Ios e → IsEnd Ios above e
ios_end above (OnePrefix p) h = h
ios_end above (NamedGroup name members) h = h

-- an end with the members that its group has
record IsFull (above : List Fact) (e full : End) : Type 0 where
  good : IsEnd Asa above full
  same : end_text Asa full ≡ end_text Asa e

full_there : (above : List Fact) (e full : End) → IsEndAlone Asa e → full_end above e ≡ Some full → IsFull above e full
full_there above (OnePrefix p) full h e = subst (IsFull above (OnePrefix p)) (same_Some (OnePrefix p) full e) (record { good = h; same = refl })
full_there above (NamedGroup name none) full h e = by (is_nothing (members_of name above)) refl e
  where
    by : (b : Bool) → is_nothing (members_of name above) ≡ b → cond b None (Some (NamedGroup name (members_of name above))) ≡ Some full → IsFull above (NamedGroup name none) full
    by true f e = absurd (none-some full e)
    by false f e =
        subst (IsFull above (NamedGroup name none)) (same_Some (NamedGroup name (members_of name above)) full e)
        (record { good = (h.0, refl, some_there (members_of name above) (not_from_false _ f)); same = refl })

full_texts : (e f : Entry) → e.permit ≡ f.permit → e.box ≡ f.box → end_text Asa e.src ≡ end_text Asa f.src → end_text Asa e.dst ≡ end_text Asa f.dst → entry_text Asa e ≡ entry_text Asa f
unfolding entry_text
full_texts e f p b s d = cc

module _ (ports : List PortAt) (above : List Fact) where
  ios_completes : (s f : Fact) → Lacks 10 (ios_fact_text s) → IsIosAlone s → completed_ios ports above s ≡ Some f → IsCompletion Ios ports above s f
  ios_completes (Remark text) f l h e = subst (IsCompletion Ios ports above (Remark text)) (same_Some (Remark text) f e) (record { good = l.1; same_text = refl })
  ios_completes (Sends port net gateway) f l h e =
      let x = some_map {B = Fact} (λ p. Sends p net gateway) (port_for ports gateway) f e in
      subst (IsCompletion Ios ports above (Sends port net gateway)) x.2 (record { good = record { net_good = h.1; gateway_good = h.2; port_good = x.1 }; same_text = refl })
  ios_completes (OpensList name) f l h e =
      let t = passed (not (list_any (opens_list name) above)) (OpensList name) f e in
      subst (IsCompletion Ios ports above (OpensList name)) t.1 (record { good = (h, not-true _ t.0); same_text = refl })
  ios_completes (HasEntry list entry) f l h e =
      let x = some_map {B = Fact} (λ name. HasEntry name entry) (list_owner (owner Ios above)) f e in
      subst (IsCompletion Ios ports above (HasEntry list entry)) x.2
      (record {
        good = (list_owned (owner Ios above) x.0 x.1, record { src = ios_end above entry.src h.1.src; dst = ios_end above entry.dst h.1.dst; box = h.1.box });
        same_text = refl;
      })
  ios_completes (OpensPort hardware) f l h e =
      let t = passed (list_any (has_hardware hardware) ports && not (list_any (opens_port hardware) above)) (OpensPort hardware) f e in
      let w = and_parts (list_any (has_hardware hardware) ports) (not (list_any (opens_port hardware) above)) t.0 in
      subst (IsCompletion Ios ports above (OpensPort hardware)) t.1 (record { good = (w.0, not-true _ w.1); same_text = refl })
  ios_completes (Binds hardware list) f l h e =
      let x = some_then {B = Fact} (λ k. if_so (not (list_any (binds_port k) above) && list_any (opens_list list) above) (Binds k list)) (port_owner (owner Ios above)) f e in
      let t = passed (not (list_any (binds_port x.0) above) && list_any (opens_list list) above) (Binds x.0 list) f x.2 in
      let w = and_parts (not (list_any (binds_port x.0) above)) (list_any (opens_list list) above) t.0 in
      subst (IsCompletion Ios ports above (Binds hardware list)) t.1
      (record { good = (port_owned (owner Ios above) x.0 x.1, not-true _ w.0, h.1, w.1); same_text = refl })
  ios_completes (OpensGroup name) f l h e = absurd h
  ios_completes (HasMember group member) f l h e = absurd h

  asa_completes : (s f : Fact) → Lacks 10 (asa_fact_text s) → IsAsaAlone s → completed_asa ports above s ≡ Some f → IsCompletion Asa ports above s f
  asa_completes (Remark text) f l h e = subst (IsCompletion Asa ports above (Remark text)) (same_Some (Remark text) f e) (record { good = l.1; same_text = refl })
  asa_completes (Sends port net gateway) f l h e =
      let x = some_then {B = Fact} (λ p. if_so (bytes_eq p.hardware port.hardware) (Sends p net gateway)) (port_for ports gateway) f e in
      let t = passed (bytes_eq x.0.hardware port.hardware) (Sends x.0 net gateway) f x.2 in
      let same = (bytes_eq-Decides x.0.hardware port.hardware).0 t.0 in
      subst (IsCompletion Asa ports above (Sends port net gateway)) t.1
      (record {
        good = record { net_good = h.2; gateway_good = h.3; port_good = x.1 };
        same_text = ap (λ k. codes "route " ++ k ++ codes " " ++ network_text net ++ codes " " ++ dotted gateway) same;
      })
  asa_completes (OpensGroup name) f l h e =
      let t = passed (not (list_any (opens_group name) above)) (OpensGroup name) f e in
      subst (IsCompletion Asa ports above (OpensGroup name)) t.1 (record { good = (h, not-true _ t.0); same_text = refl })
  asa_completes (HasMember group member) f l h e =
      let x = some_map {B = Fact} (λ name. HasMember name member) (group_owner (owner Asa above)) f e in
      subst (IsCompletion Asa ports above (HasMember group member)) x.2 (record { good = (group_owned (owner Asa above) x.0 x.1, h.1); same_text = refl })
  asa_completes (HasEntry list entry) f l h e =
      let with_ends : End → End → Entry = λ s d. record { permit = entry.permit; src = s; dst = d; box = entry.box } in
      let x = some_then {B = Fact} (λ s. option_map (λ d. HasEntry list (with_ends s d)) (full_end above entry.dst)) (full_end above entry.src) f e in
      let y = some_map {B = Fact} (λ d. HasEntry list (with_ends x.0 d)) (full_end above entry.dst) f x.2 in
      let src = full_there above entry.src x.0 h.1.src x.1 in
      let dst = full_there above entry.dst y.0 h.1.dst y.1 in
      subst (IsCompletion Asa ports above (HasEntry list entry)) y.2
      (record {
        good = (h.0, record { src = src.good; dst = dst.good; box = h.1.box });
        same_text = ap (λ k. codes "access-list " ++ list ++ codes " extended " ++ k) (full_texts (with_ends x.0 y.0) entry refl refl src.same dst.same);
      })
  asa_completes (Binds hardware list) f l h e =
      let t = passed (list_any (has_hardware hardware) ports && not (list_any (binds_port hardware) above) && list_any (has_entry list) above) (Binds hardware list) f e in
      let v = and_parts (list_any (has_hardware hardware) ports && not (list_any (binds_port hardware) above)) (list_any (has_entry list) above) t.0 in
      let w = and_parts (list_any (has_hardware hardware) ports) (not (list_any (binds_port hardware) above)) v.0 in
      subst (IsCompletion Asa ports above (Binds hardware list)) t.1 (record { good = (w.0, not-true _ w.1, h.1, v.1); same_text = refl })
  asa_completes (OpensList name) f l h e = absurd h
  asa_completes (OpensPort hardware) f l h e = absurd h

  pub completes : (dialect : Dialect) (s f : Fact) → Lacks 10 (fact_text dialect s) → IsAlone dialect s → completed dialect ports above s ≡ Some f → IsCompletion dialect ports above s f
  completes Ios s f l h e = ios_completes s f l h e
  completes Asa s f l h e = asa_completes s f l h e

-- ---- what may stand there is completed

-- what the line says by itself, and below these lines
pub record IsBare (dialect : Dialect) (ports : List PortAt) (above : List Fact) (fact said : Fact) : Type 0 where
  pub alone : IsAlone dialect said
  pub same_text : fact_text dialect said ≡ fact_text dialect fact
  pub told : completed dialect ports above said ≡ Some fact

ios_end_bare : (above : List Fact) (e : End) → IsEnd Ios above e → IsEndAlone Ios e
ios_end_bare above (OnePrefix p) h = h
ios_end_bare above (NamedGroup name members) h = h

asa_end_bare : (above : List Fact) (e : End) → IsEnd Asa above e → IsEndAlone Asa (bare_end e)
asa_end_bare above (OnePrefix p) h = h
asa_end_bare above (NamedGroup name members) h = (h.0, refl)

asa_end_back : (above : List Fact) (e : End) → IsEnd Asa above e → full_end above (bare_end e) ≡ Some e
asa_end_back above (OnePrefix p) h = refl
asa_end_back above (NamedGroup name members) h = by (is_nothing (members_of name above)) (not-true _ (some_back (members_of name above) (λ e. h.2 (h.1 ∙ e))))
  where
    by : (b : Bool) → b ≡ false → cond b None (Some (NamedGroup name (members_of name above))) ≡ Some (NamedGroup name members)
    by true e = absurd (both_ways true e refl)
    by false e = ap (λ ms. Some (NamedGroup name ms)) (sym h.1)

bare_texts : (e : End) → end_text Asa (bare_end e) ≡ end_text Asa e
bare_texts (OnePrefix p) = refl
bare_texts (NamedGroup name members) = refl

module _ (ports : List PortAt) (named : AreNamed ports) (above : List Fact) where
  ios_bared : (f : Fact) → IsIosFact ports above f → IsBare Ios ports above f (bare_ios f)
  ios_bared (Remark text) h = record { alone = tt; same_text = refl; told = refl }
  ios_bared (Sends port net gateway) h = record { alone = (refl, h.net_good, h.gateway_good); same_text = refl; told = ap (option_map (λ p. Sends p net gateway)) h.port_good }
  ios_bared (OpensList name) h = record { alone = h.0; same_text = refl; told = cond-true (not (list_any (opens_list name) above)) (Some (OpensList name)) None (not_from_false _ h.1) }
  ios_bared (HasEntry list entry) h =
      record {
        alone = (refl, record { src = ios_end_bare above entry.src h.1.src; dst = ios_end_bare above entry.dst h.1.dst; box = h.1.box });
        same_text = refl;
        told = ap (λ o. option_map (λ name. HasEntry name entry) (list_owner o)) h.0;
      }
  ios_bared (OpensPort hardware) h =
      record {
        alone = named_by ports hardware named h.0;
        same_text = refl;
        told = cond-true (list_any (has_hardware hardware) ports && not (list_any (opens_port hardware) above)) (Some (OpensPort hardware)) None (and_from _ _ h.0 (not_from_false _ h.1));
      }
  ios_bared (Binds hardware list) h =
      record {
        alone = (refl, h.2);
        same_text = refl;
        told =
            ap (λ o. option_and_then (λ k. if_so (not (list_any (binds_port k) above) && list_any (opens_list list) above) (Binds k list)) (port_owner o)) h.0
            ∙ cond-true (not (list_any (binds_port hardware) above) && list_any (opens_list list) above) (Some (Binds hardware list)) None (and_from _ _ (not_from_false _ h.1) h.3);
      }
  ios_bared (OpensGroup name) h = absurd h
  ios_bared (HasMember group member) h = absurd h

  asa_bared : (f : Fact) → IsAsaFact ports above f → IsBare Asa ports above f (bare_asa f)
  asa_bared (Remark text) h = record { alone = tt; same_text = refl; told = refl }
  asa_bared (Sends port net gateway) h =
      record {
        alone = (refl, named_for ports gateway port named h.port_good, h.net_good, h.gateway_good);
        same_text = refl;
        told =
            ap (option_and_then (λ p. if_so (bytes_eq p.hardware port.hardware) (Sends p net gateway))) h.port_good
            ∙ cond-true (bytes_eq port.hardware port.hardware) (Some (Sends port net gateway)) None (same_bytes port.hardware);
      }
  asa_bared (OpensGroup name) h = record { alone = h.0; same_text = refl; told = cond-true (not (list_any (opens_group name) above)) (Some (OpensGroup name)) None (not_from_false _ h.1) }
  asa_bared (HasMember group member) h = record { alone = (refl, h.1); same_text = refl; told = ap (λ o. option_map (λ name. HasMember name member) (group_owner o)) h.0 }
  asa_bared (HasEntry list entry) h =
      record {
        alone = (h.0, record { src = asa_end_bare above entry.src h.1.src; dst = asa_end_bare above entry.dst h.1.dst; box = h.1.box });
        same_text = ap (λ k. codes "access-list " ++ list ++ codes " extended " ++ k) (full_texts (bare_entry entry) entry refl refl (bare_texts entry.src) (bare_texts entry.dst));
        told =
            ap (option_and_then {U = Fact} (λ s. option_map (λ d. HasEntry list (record { permit = entry.permit; src = s; dst = d; box = entry.box })) (full_end above (bare_end entry.dst)))) (asa_end_back above entry.src h.1.src)
            ∙ ap (option_map {U = Fact} (λ d. HasEntry list (record { permit = entry.permit; src = entry.src; dst = d; box = entry.box }))) (asa_end_back above entry.dst h.1.dst);
      }
  asa_bared (Binds hardware list) h =
      record {
        alone = (named_by ports hardware named h.0, h.2);
        same_text = refl;
        told =
            cond-true (list_any (has_hardware hardware) ports && not (list_any (binds_port hardware) above) && list_any (has_entry list) above) (Some (Binds hardware list)) None
            (and_from _ _ (and_from _ _ h.0 (not_from_false _ h.1)) h.3);
      }
  asa_bared (OpensList name) h = absurd h
  asa_bared (OpensPort hardware) h = absurd h

  pub bared : (dialect : Dialect) (f : Fact) → IsFact dialect ports above f → IsBare dialect ports above f (bare dialect f)
  bared Ios f h = ios_bared f h
  bared Asa f h = asa_bared f h
