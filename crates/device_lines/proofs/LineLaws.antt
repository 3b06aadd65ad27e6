-- A line is read exactly.
use Rattle.std.proofs.Common.{◌≡◌, ◌∙◌, refl, sym, ap, subst, ℕ, ◌-◌, ◌%◌, ◌^◌, ◌<◌, eqb, Bool, true, false, cond, ◌&&◌, List, [], ◌∷◌, ◌++◌, append_assoc, arith, codes, bytes_eq, Option, Some, None, option_and_then, option_map, true≢false}
use Rattle.std.specs.Prelude.{IfSome, IsNone}
use Rattle.std.specs.List.{join_with_byte}
use Rattle.std.proofs.lemmas.List.Splits.{join_with_byte-slice_split}
use Rattle.std.proofs.lemmas.Bool.{cond-true, cond-false, eqb-true, eqb-false, ne_eqb, eq-eqb}
use Rattle.std.proofs.lemmas.Option.{none-some, same_Some}
use Rattle.std.proofs.lemmas.Slice.Eq.{bytes_eq-Decides}
use Rattle.spoc_base.specs.Address.{Cidr}
use Rattle.spoc_base.specs.declared.dialect.Dialect.{Dialect}
use Rattle.spoc_base.specs.declared.dialect.Dialect.TheVariants.{Ios, Asa}
use Rattle.policy_model.specs.Lists.{is_nothing}
use Rattle.acl_print.specs.Words.{dotted, netmask_of, network_text, host_text}
use Rattle.acl_print.specs.Groups.{addresses_text}
use Rattle.device_reading.specs.Facts.{Entry, Fact, Remark, Sends, OpensList, HasEntry, OpensPort, Binds, OpensGroup, HasMember, entry_text, ios_fact_text, asa_fact_text, fact_text}
use Rattle.device_reading.specs.Grammar.{IsWord, IsPrefix}
use Rattle.text_laws.proofs.Pieces.{one_part, first_part}
use Rattle.text_laws.proofs.Numerals.{dotted_begins, no_word}
use Rattle.text_laws.proofs.EntryWords.{words, mask_small, dotted_whole, word_whole, action_word, entry_words}
use Rattle.text_laws.proofs.EntryRead.{tail_of}
use Rattle.text_laws.proofs.FactRead.{network_cut}
use Rattle.device_lines.specs.Alone.{port_named, IsEntryAlone, IsIosAlone, IsAsaAlone, IsAlone, IsLineOf}
use Rattle.device_lines.specs.Numbers.{address_of}
use Rattle.device_lines.specs.Entries.{first_word, only_word, if_nothing, is_name, mask_length, entry_behind}
use Rattle.device_lines.specs.Lines.{behind_word, take_name, only_name, aligned_prefix, network_of, network_behind, route_to, route_of, list_of, behind_ip, binding_of, indented_ios, ios_words, named_route, group_of, entry_of, named_binding, host_of, member_net, member_behind, member_of, asa_words, words_say, said_by}
use Rattle.device_lines.specs.declared.command.Command.{Command}
use Rattle.device_lines.specs.Seen.{fact_of}
use Rattle.device_lines.proofs.NumberLaws.{address_there, address_back, some_then, some_map}
use Rattle.device_lines.proofs.EndLaws.{mask_there, mask_back, name_there, name_back}
use Rattle.device_lines.proofs.EntryLaws.{nothing_taken, entry_there, entry_back}
use Rattle.device_lines.proofs.AloneLaws.{alone_cut}

-- one text for each list of words
joined_back : (s t : List ℕ) → words s ≡ words t → s ≡ t
joined_back s t e = sym (join_with_byte-slice_split 32 s) ∙ ap (join_with_byte 32) e ∙ join_with_byte-slice_split 32 t

-- ---- words that were taken

first_there : (ws : List (List ℕ)) (r : List ℕ × List (List ℕ)) → first_word ws ≡ Some r → ws ≡ r.0 ∷ r.1
first_there [] r e = absurd (none-some r e)
first_there (w ∷ ws) r e = ap (λ (q : List ℕ × List (List ℕ)). q.0 ∷ q.1) (same_Some {A = List ℕ × List (List ℕ)} (w, ws) r e)

only_there : (ws : List (List ℕ)) (w : List ℕ) → only_word ws ≡ Some w → ws ≡ w ∷ []
only_there [] w e = absurd (none-some w e)
only_there (v ∷ []) w e = ap (λ x. x ∷ []) (same_Some v w e)
only_there (v ∷ u ∷ ws) w e = absurd (none-some w e)

-- a test that was passed
passed : {A : Type 0} (b : Bool) (x y : A) → cond b (Some x) None ≡ Some y → (b ≡ true) × (x ≡ y)
passed true x y e = (refl, same_Some x y e)
passed false x y e = absurd (none-some y e)

refused : {A : Type 0} (b : Bool) (x : Option A) (y : A) → cond b None x ≡ Some y → (b ≡ false) × (x ≡ Some y)
refused true x y e = absurd (none-some y e)
refused false x y e = (refl, e)

name_taken : (ws : List (List ℕ)) (r : List ℕ × List (List ℕ)) → take_name ws ≡ Some r → IsWord r.0 × (ws ≡ r.0 ∷ r.1)
name_taken [] r e = absurd (none-some r e)
name_taken (w ∷ ws) r e =
    let t = passed {A = List ℕ × List (List ℕ)} (is_name w) (w, ws) r e in
    (subst (λ (q : List ℕ × List (List ℕ)). IsWord q.0) t.1 (name_there w t.0), ap (λ (q : List ℕ × List (List ℕ)). q.0 ∷ q.1) t.1)

only_named : (ws : List (List ℕ)) (n : List ℕ) → only_name ws ≡ Some n → IsWord n × (ws ≡ n ∷ [])
only_named ws n e =
    let x = some_then {B = List ℕ} (λ (r : List ℕ × List (List ℕ)). if_nothing r.1 r.0) (take_name ws) n e in
    let y = nothing_taken x.0.1 x.0.0 n x.2 in
    let t = name_taken ws x.0 x.1 in
    (subst IsWord y.1 t.0, t.1 ∙ (λ i. y.1 i ∷ y.0 i))

behind_there : (word : List ℕ) (ws rest : List (List ℕ)) → behind_word word ws ≡ Some rest → ws ≡ word ∷ rest
behind_there word [] rest e = absurd (none-some rest e)
behind_there word (w ∷ ws) rest e =
    let t = passed (bytes_eq w word) ws rest e in
    let same = (bytes_eq-Decides w word).0 t.0 in
    λ i. same i ∷ t.1 i

only_back : (n : List ℕ) → IsWord n → only_name (n ∷ []) ≡ Some n
only_back n h = ap (option_and_then {U = List ℕ} (λ (r : List ℕ × List (List ℕ)). if_nothing r.1 r.0)) (cond-true (is_name n) (Some (n, [])) None (name_back n h))

take_back : (n : List ℕ) (ws : List (List ℕ)) → IsWord n → take_name (n ∷ ws) ≡ Some (n, ws)
take_back n ws h = cond-true (is_name n) (Some (n, ws)) None (name_back n h)

-- ---- networks

record IsNetwork (net : List ℕ) (ws : List (List ℕ)) (p : Cidr) (rest : List (List ℕ)) : Type 0 where
  good : IsPrefix p
  net_text : net ≡ dotted p.net
  words : ws ≡ dotted (netmask_of p) ∷ rest

network_there : (net : List ℕ) (ws : List (List ℕ)) (p : Cidr) (rest : List (List ℕ)) → network_behind net ws ≡ Some (p, rest) → IsNetwork net ws p rest
network_there net [] p rest e = absurd (none-some _ e)
network_there net (mask ∷ ws) p rest e =
    let o = some_map {B = Cidr × List (List ℕ)} (λ q. (q, ws)) (network_of net mask) (p, rest) e in
    let same : o.0 ≡ p = ap (λ (r : Cidr × List (List ℕ)). r.0) o.2 in
    let left : ws ≡ rest = ap (λ (r : Cidr × List (List ℕ)). r.1) o.2 in
    let x = some_then (λ a. option_and_then (λ m. option_and_then (aligned_prefix a) (mask_length Asa m)) (address_of mask)) (address_of net) o.0 o.1 in
    let y = some_then (λ m. option_and_then (aligned_prefix x.0) (mask_length Asa m)) (address_of mask) o.0 x.2 in
    let z = some_then (aligned_prefix x.0) (mask_length Asa y.0) o.0 y.2 in
    let t = passed (eqb (x.0 % 2 ^ (32 - z.0)) 0) (record { net = x.0; len = z.0 }) o.0 z.2 in
    let a = address_there net x.0 x.1 in
    let m = address_there mask y.0 y.1 in
    let told = mask_there Asa y.0 z.0 z.1 in
    subst (λ q. IsNetwork net (mask ∷ ws) q rest) (t.1 ∙ same)
    (record {
      good = record { good = record { short = told.short; aligned = eqb-true (x.0 % 2 ^ (32 - z.0)) 0 t.0 }; low = a.low };
      net_text = a.spelled;
      words = λ i. (m.spelled ∙ ap dotted (sym told.same)) i ∷ left i;
    })

network_back : (p : Cidr) (rest : List (List ℕ)) → IsPrefix p → network_behind (dotted p.net) (dotted (netmask_of p) ∷ rest) ≡ Some (p, rest)
network_back p rest h =
    ap (option_map {U = Cidr × List (List ℕ)} (λ q. (q, rest)))
    (ap (option_and_then (λ a. option_and_then (λ m. option_and_then (aligned_prefix a) (mask_length Asa m)) (address_of (dotted (netmask_of p))))) (address_back p.net h.low)
    ∙ ap (option_and_then (λ m. option_and_then (aligned_prefix p.net) (mask_length Asa m))) (address_back (netmask_of p) (mask_small Asa p))
    ∙ ap (option_and_then (aligned_prefix p.net)) (mask_back Asa p h.good.short)
    ∙ cond-true (eqb (p.net % 2 ^ (32 - p.len)) 0) (Some p) None (eq-eqb _ 0 h.good.aligned))

-- ---- routes

abbrev route_words : Cidr → ℕ → List (List ℕ)
route_words net gateway = dotted net.net ∷ dotted (netmask_of net) ∷ dotted gateway ∷ []

route_cut : (net : Cidr) (gateway : ℕ) → IsPrefix net → gateway < 2 ^ 32 → words ((network_text net ++ codes " ") ++ dotted gateway) ≡ route_words net gateway
route_cut net gateway h k =
    network_cut net (dotted gateway) h ∙ ap (λ ws. dotted net.net ∷ dotted (netmask_of net) ∷ ws) (one_part 32 (dotted gateway) (dotted_whole gateway k))

record IsRouteRead (hardware : List ℕ) (ws : List (List ℕ)) (f : Fact) : Type 0 where
  net : Cidr
  gateway : ℕ
  net_good : IsPrefix net
  low : gateway < 2 ^ 32
  words : ws ≡ route_words net gateway
  is : Sends (port_named hardware) net gateway ≡ f

route_there : (hardware : List ℕ) (ws : List (List ℕ)) (f : Fact) → route_of hardware ws ≡ Some f → IsRouteRead hardware ws f
route_there hardware ws f e =
    let x = some_then {B = Fact} (λ (r : List ℕ × List (List ℕ)). option_and_then (λ (n : Cidr × List (List ℕ)). route_to hardware n.0 n.1) (network_behind r.0 r.1)) (first_word ws) f e in
    let y = some_then {B = Fact} (λ (n : Cidr × List (List ℕ)). route_to hardware n.0 n.1) (network_behind x.0.0 x.0.1) f x.2 in
    let z = some_then {B = Fact} (λ w. option_map (λ g. Sends (port_named hardware) y.0.0 g) (address_of w)) (only_word y.0.1) f y.2 in
    let v = some_map {B = Fact} (λ g. Sends (port_named hardware) y.0.0 g) (address_of z.0) f z.2 in
    let n = network_there x.0.0 x.0.1 y.0.0 y.0.1 y.1 in
    let g = address_there z.0 v.0 v.1 in
    record {
      net = y.0.0;
      gateway = v.0;
      net_good = n.good;
      low = g.low;
      words = first_there ws x.0 x.1 ∙ (λ i. n.net_text i ∷ (n.words ∙ (λ j. dotted (netmask_of y.0.0) ∷ (only_there y.0.1 z.0 z.1 ∙ (λ k. g.spelled k ∷ [])) j)) i);
      is = v.2;
    }

route_back : (hardware : List ℕ) (net : Cidr) (gateway : ℕ) → IsPrefix net → gateway < 2 ^ 32 → route_of hardware (route_words net gateway) ≡ Some (Sends (port_named hardware) net gateway)
route_back hardware net gateway h k =
    ap (option_and_then {U = Fact} (λ (n : Cidr × List (List ℕ)). route_to hardware n.0 n.1)) (network_back net (dotted gateway ∷ []) h)
    ∙ ap (option_map {U = Fact} (λ g. Sends (port_named hardware) net g)) (address_back gateway k)

-- ---- lines of IOS

-- the words say this by themselves
record IsSaid (dialect : Dialect) (ws : List (List ℕ)) (f : Fact) : Type 0 where
  good : IsAlone dialect f
  spelled : ws ≡ words (fact_text dialect f)

ios_route : (ws : List (List ℕ)) (f : Fact) → route_of [] ws ≡ Some f → IsSaid Ios (codes "ip" ∷ codes "route" ∷ ws) f
ios_route ws f e =
    let r = route_there [] ws f e in
    subst (IsSaid Ios (codes "ip" ∷ codes "route" ∷ ws)) r.is
    (record { good = (refl, r.net_good, r.low); spelled = ap (λ l. codes "ip" ∷ codes "route" ∷ l) (r.words ∙ sym (route_cut r.net r.gateway r.net_good r.low)) })

ios_list : (ws : List (List ℕ)) (f : Fact) → list_of ws ≡ Some f → IsSaid Ios (codes "ip" ∷ codes "access-list" ∷ ws) f
ios_list ws f e =
    let x = some_then {B = Fact} (λ rest. option_map OpensList (only_name rest)) (behind_word (codes "extended") ws) f e in
    let y = some_map {B = Fact} OpensList (only_name x.0) f x.2 in
    let n = only_named x.0 y.0 y.1 in
    subst (IsSaid Ios (codes "ip" ∷ codes "access-list" ∷ ws)) y.2
    (record {
      good = n.0;
      spelled = ap (λ l. codes "ip" ∷ codes "access-list" ∷ l) (behind_there (codes "extended") ws x.0 x.1 ∙ ap (λ l. codes "extended" ∷ l) (n.1 ∙ sym (one_part 32 y.0 (word_whole y.0 n.0))));
    })

ios_port : (ws : List (List ℕ)) (f : Fact) → option_map OpensPort (only_name ws) ≡ Some f → IsSaid Ios (codes "interface" ∷ ws) f
ios_port ws f e =
    let y = some_map {B = Fact} OpensPort (only_name ws) f e in
    let n = only_named ws y.0 y.1 in
    subst (IsSaid Ios (codes "interface" ∷ ws)) y.2
    (record { good = n.0; spelled = ap (λ l. codes "interface" ∷ l) (n.1 ∙ sym (one_part 32 y.0 (word_whole y.0 n.0))) })

ios_binding : (ws : List (List ℕ)) (f : Fact) → binding_of ws ≡ Some f → IsSaid Ios ([] ∷ codes "ip" ∷ ws) f
ios_binding ws f e =
    let last : List ℕ × List (List ℕ) → Option Fact = λ n. option_and_then (λ left. if_nothing left (Binds [] n.0)) (behind_word (codes "in") n.1) in
    let x = some_then {B = Fact} (λ rest. option_and_then last (take_name rest)) (behind_word (codes "access-group") ws) f e in
    let y = some_then {B = Fact} last (take_name x.0) f x.2 in
    let z = some_then {B = Fact} (λ left. if_nothing left (Binds [] y.0.0)) (behind_word (codes "in") y.0.1) f y.2 in
    let v = nothing_taken z.0 (Binds [] y.0.0) f z.2 in
    let n = name_taken x.0 y.0 y.1 in
    let ends : y.0.1 ≡ codes "in" ∷ [] = behind_there (codes "in") y.0.1 z.0 z.1 ∙ ap (λ l. codes "in" ∷ l) v.0 in
    subst (IsSaid Ios ([] ∷ codes "ip" ∷ ws)) v.1
    (record {
      good = (refl, n.0);
      spelled =
          ap (λ l. [] ∷ codes "ip" ∷ l)
          (behind_there (codes "access-group") ws x.0 x.1
          ∙ ap (λ l. codes "access-group" ∷ l) (n.1 ∙ ap (λ l. y.0.0 ∷ l) ends ∙ sym (first_part 32 y.0.0 (codes "in") (word_whole y.0.0 n.0))));
    })

ios_entry : (w : List ℕ) (ws : List (List ℕ)) (f : Fact) → option_map (HasEntry []) (entry_behind Ios w ws) ≡ Some f → IsSaid Ios ([] ∷ w ∷ ws) f
ios_entry w ws f e =
    let y = some_map {B = Fact} (HasEntry []) (entry_behind Ios w ws) f e in
    let r = entry_there Ios w ws y.0 y.1 in
    subst (IsSaid Ios ([] ∷ w ∷ ws)) y.2 (record { good = (refl, r.good); spelled = ap (λ l. [] ∷ l) (r.words ∙ sym (alone_cut Ios y.0 r.good)) })

-- the first word is this one
swapped : (dialect : Dialect) (w word : List ℕ) (before ws : List (List ℕ)) (f : Fact) → bytes_eq w word ≡ true → IsSaid dialect (before ++ word ∷ ws) f → IsSaid dialect (before ++ w ∷ ws) f
swapped dialect w word before ws f e h = subst (λ v. IsSaid dialect (before ++ v ∷ ws) f) (sym ((bytes_eq-Decides w word).0 e)) h

ip_there : (w : List ℕ) (ws : List (List ℕ)) (f : Fact) → behind_ip w ws ≡ Some f → IsSaid Ios (codes "ip" ∷ w ∷ ws) f
ip_there w ws f e = by (bytes_eq w (codes "route")) (bytes_eq w (codes "access-list")) refl refl e
  where
    by : (r l : Bool) → bytes_eq w (codes "route") ≡ r → bytes_eq w (codes "access-list") ≡ l → cond r (route_of [] ws) (cond l (list_of ws) None) ≡ Some f → IsSaid Ios (codes "ip" ∷ w ∷ ws) f
    by true l g k e = swapped Ios w (codes "route") (codes "ip" ∷ []) ws f g (ios_route ws f e)
    by false true g k e = swapped Ios w (codes "access-list") (codes "ip" ∷ []) ws f k (ios_list ws f e)
    by false false g k e = absurd (none-some f e)

indented_there : (w : List ℕ) (ws : List (List ℕ)) (f : Fact) → indented_ios w ws ≡ Some f → IsSaid Ios ([] ∷ w ∷ ws) f
indented_there w ws f e = by (bytes_eq w (codes "ip")) refl e
  where
    by : (b : Bool) → bytes_eq w (codes "ip") ≡ b → cond b (binding_of ws) (option_map (HasEntry []) (entry_behind Ios w ws)) ≡ Some f → IsSaid Ios ([] ∷ w ∷ ws) f
    by true g e = swapped Ios w (codes "ip") ([] ∷ []) ws f g (ios_binding ws f e)
    by false g e = ios_entry w ws f e

-- the second word was taken
second : (dialect : Dialect) (w : List ℕ) (ws : List (List ℕ)) (r : List ℕ × List (List ℕ)) (f : Fact) → first_word ws ≡ Some r → IsSaid dialect (w ∷ r.0 ∷ r.1) f → IsSaid dialect (w ∷ ws) f
second dialect w ws r f e h = subst (λ l. IsSaid dialect (w ∷ l) f) (sym (first_there ws r e)) h

ios_there : (w : List ℕ) (ws : List (List ℕ)) (f : Fact) → ios_words w ws ≡ Some f → IsSaid Ios (w ∷ ws) f
ios_there w ws f e = by (bytes_eq w (codes "ip")) (bytes_eq w (codes "interface")) (bytes_eq w []) refl refl refl e
  where
    by : (a b c : Bool) → bytes_eq w (codes "ip") ≡ a → bytes_eq w (codes "interface") ≡ b → bytes_eq w [] ≡ c →
        cond a (option_and_then (λ r. behind_ip r.0 r.1) (first_word ws)) (cond b (option_map OpensPort (only_name ws)) (cond c (option_and_then (λ r. indented_ios r.0 r.1) (first_word ws)) None)) ≡ Some f → IsSaid Ios (w ∷ ws) f
    by true b c g k l e =
        let x = some_then {B = Fact} (λ (r : List ℕ × List (List ℕ)). behind_ip r.0 r.1) (first_word ws) f e in
        swapped Ios w (codes "ip") [] ws f g (second Ios (codes "ip") ws x.0 f x.1 (ip_there x.0.0 x.0.1 f x.2))
    by false true c g k l e = swapped Ios w (codes "interface") [] ws f k (ios_port ws f e)
    by false false true g k l e =
        let x = some_then {B = Fact} (λ (r : List ℕ × List (List ℕ)). indented_ios r.0 r.1) (first_word ws) f e in
        swapped Ios w [] [] ws f l (second Ios [] ws x.0 f x.1 (indented_there x.0.0 x.0.1 f x.2))
    by false false false g k l e = absurd (none-some f e)

entry_said : (dialect : Dialect) (entry : Entry) → IsEntryAlone dialect entry → option_and_then (λ (r : List ℕ × List (List ℕ)). entry_behind dialect r.0 r.1) (first_word (words (entry_text dialect entry))) ≡ Some entry
entry_said dialect entry h = ap (λ ws. option_and_then {U = Entry} (λ (r : List ℕ × List (List ℕ)). entry_behind dialect r.0 r.1) (first_word ws)) (alone_cut dialect entry h) ∙ entry_back dialect entry h

ios_back : (f : Fact) → IsIosAlone f → said_by Ios (ios_fact_text f) ≡ Some f
ios_back (Remark text) h = refl
ios_back (Sends port net gateway) h = ap (route_of []) (route_cut net gateway h.1 h.2) ∙ route_back [] net gateway h.1 h.2 ∙ (λ i. Some (Sends (sym h.0 i) net gateway))
ios_back (OpensList name) h = ap (λ ws. option_map OpensList (only_name ws)) (one_part 32 name (word_whole name h)) ∙ ap (option_map OpensList) (only_back name h)
ios_back (HasEntry list entry) h = indented entry h.1 ∙ (λ i. Some (HasEntry (sym h.0 i) entry))
  where
    no_ip : (permit : Bool) (ws : List (List ℕ)) → indented_ios (action_word permit) ws ≡ option_map (HasEntry []) (entry_behind Ios (action_word permit) ws)
    no_ip true ws = refl
    no_ip false ws = refl

    indented : (entry : Entry) → IsEntryAlone Ios entry → option_and_then (λ (r : List ℕ × List (List ℕ)). indented_ios r.0 r.1) (first_word (words (entry_text Ios entry))) ≡ Some (HasEntry [] entry)
    indented entry h =
        ap (λ ws. option_and_then {U = Fact} (λ (r : List ℕ × List (List ℕ)). indented_ios r.0 r.1) (first_word ws)) (alone_cut Ios entry h)
        ∙ no_ip entry.permit (tail_of (entry_words Ios entry)) ∙ ap (option_map (HasEntry [])) (entry_back Ios entry h)
ios_back (OpensPort hardware) h = ap (λ ws. option_map OpensPort (only_name ws)) (one_part 32 hardware (word_whole hardware h)) ∙ ap (option_map OpensPort) (only_back hardware h)
ios_back (Binds hardware list) h =
    let last : List ℕ × List (List ℕ) → Option Fact = λ n. option_and_then (λ left. if_nothing left (Binds [] n.0)) (behind_word (codes "in") n.1) in
    ap (λ ws. option_and_then last (take_name ws)) (first_part 32 list (codes "in") (word_whole list h.1))
    ∙ ap (option_and_then last) (take_back list (codes "in" ∷ []) h.1) ∙ (λ i. Some (Binds (sym h.0 i) list))
ios_back (OpensGroup name) h = absurd h
ios_back (HasMember group member) h = absurd h

-- ---- lines of ASA

asa_route : (ws : List (List ℕ)) (f : Fact) → named_route ws ≡ Some f → IsSaid Asa (codes "route" ∷ ws) f
asa_route ws f e =
    let x = some_then {B = Fact} (λ (n : List ℕ × List (List ℕ)). route_of n.0 n.1) (take_name ws) f e in
    let n = name_taken ws x.0 x.1 in
    let r = route_there x.0.0 x.0.1 f x.2 in
    subst (IsSaid Asa (codes "route" ∷ ws)) r.is
    (record {
      good = (refl, n.0, r.net_good, r.low);
      spelled = ap (λ l. codes "route" ∷ l) (n.1 ∙ ap (λ l. x.0.0 ∷ l) r.words) ∙ sym (asa_route_cut x.0.0 r.net r.gateway n.0 r.net_good r.low);
    })
  where
    asa_route_cut : (hardware : List ℕ) (net : Cidr) (gateway : ℕ) → IsWord hardware → IsPrefix net → gateway < 2 ^ 32 →
        words (asa_fact_text (Sends (port_named hardware) net gateway)) ≡ codes "route" ∷ hardware ∷ route_words net gateway
    asa_route_cut hardware net gateway w h k =
        let rest : List ℕ = (network_text net ++ codes " ") ++ dotted gateway in
        let regrouped : (((hardware ++ codes " ") ++ network_text net) ++ codes " ") ++ dotted gateway ≡ hardware ++ 32 ∷ rest = simp append_assoc in
        ap (λ t. codes "route" ∷ words t) regrouped
        ∙ ap (λ ws. codes "route" ∷ ws) (first_part 32 hardware rest (word_whole hardware w) ∙ ap (λ ws. hardware ∷ ws) (route_cut net gateway h k))

asa_group : (ws : List (List ℕ)) (f : Fact) → group_of ws ≡ Some f → IsSaid Asa (codes "object-group" ∷ ws) f
asa_group ws f e =
    let x = some_then {B = Fact} (λ rest. option_map OpensGroup (only_name rest)) (behind_word (codes "network") ws) f e in
    let y = some_map {B = Fact} OpensGroup (only_name x.0) f x.2 in
    let n = only_named x.0 y.0 y.1 in
    subst (IsSaid Asa (codes "object-group" ∷ ws)) y.2
    (record {
      good = n.0;
      spelled = ap (λ l. codes "object-group" ∷ l) (behind_there (codes "network") ws x.0 x.1 ∙ ap (λ l. codes "network" ∷ l) (n.1 ∙ sym (one_part 32 y.0 (word_whole y.0 n.0))));
    })

entry_cut_named : (list : List ℕ) (entry : Entry) → IsWord list → words (asa_fact_text (HasEntry list entry)) ≡ codes "access-list" ∷ list ∷ codes "extended" ∷ words (entry_text Asa entry)
entry_cut_named list entry w =
    let regrouped : (list ++ codes " extended ") ++ entry_text Asa entry ≡ list ++ 32 ∷ (codes "extended " ++ entry_text Asa entry) = simp append_assoc in
    ap (λ t. codes "access-list" ∷ words t) regrouped
    ∙ ap (λ ws. codes "access-list" ∷ ws) (first_part 32 list (codes "extended " ++ entry_text Asa entry) (word_whole list w))

asa_entry : (ws : List (List ℕ)) (f : Fact) → entry_of ws ≡ Some f → IsSaid Asa (codes "access-list" ∷ ws) f
asa_entry ws f e =
    let read : List ℕ → List ℕ × List (List ℕ) → Option Fact = λ n r. option_map (HasEntry n) (entry_behind Asa r.0 r.1) in
    let x = some_then {B = Fact} (λ (n : List ℕ × List (List ℕ)). option_and_then (λ rest. option_and_then (read n.0) (first_word rest)) (behind_word (codes "extended") n.1)) (take_name ws) f e in
    let y = some_then {B = Fact} (λ rest. option_and_then (read x.0.0) (first_word rest)) (behind_word (codes "extended") x.0.1) f x.2 in
    let z = some_then {B = Fact} (read x.0.0) (first_word y.0) f y.2 in
    let v = some_map {B = Fact} (HasEntry x.0.0) (entry_behind Asa z.0.0 z.0.1) f z.2 in
    let n = name_taken ws x.0 x.1 in
    let r = entry_there Asa z.0.0 z.0.1 v.0 v.1 in
    let told : y.0 ≡ words (entry_text Asa v.0) = first_there y.0 z.0 z.1 ∙ r.words ∙ sym (alone_cut Asa v.0 r.good) in
    subst (IsSaid Asa (codes "access-list" ∷ ws)) v.2
    (record {
      good = (n.0, r.good);
      spelled =
          ap (λ l. codes "access-list" ∷ l) (n.1 ∙ ap (λ l. x.0.0 ∷ l) (behind_there (codes "extended") x.0.1 y.0 y.1 ∙ ap (λ l. codes "extended" ∷ l) told))
          ∙ sym (entry_cut_named x.0.0 v.0 n.0);
    })

binding_cut : (hardware list : List ℕ) → IsWord hardware → IsWord list → words (asa_fact_text (Binds hardware list)) ≡ codes "access-group" ∷ list ∷ codes "in" ∷ codes "interface" ∷ hardware ∷ []
binding_cut hardware list h w =
    let regrouped : (list ++ codes " in interface ") ++ hardware ≡ list ++ 32 ∷ (codes "in interface " ++ hardware) = simp append_assoc in
    ap (λ t. codes "access-group" ∷ words t) regrouped
    ∙ ap (λ ws. codes "access-group" ∷ ws) (first_part 32 list (codes "in interface " ++ hardware) (word_whole list w)
    ∙ ap (λ ws. list ∷ codes "in" ∷ codes "interface" ∷ ws) (one_part 32 hardware (word_whole hardware h)))

asa_binding : (ws : List (List ℕ)) (f : Fact) → named_binding ws ≡ Some f → IsSaid Asa (codes "access-group" ∷ ws) f
asa_binding ws f e =
    let bound : List ℕ → List (List ℕ) → Option Fact = λ n last. option_map (λ hardware. Binds hardware n) (only_name last) in
    let x = some_then {B = Fact} (λ (n : List ℕ × List (List ℕ)). option_and_then (λ rest. option_and_then (bound n.0) (behind_word (codes "interface") rest)) (behind_word (codes "in") n.1)) (take_name ws) f e in
    let y = some_then {B = Fact} (λ rest. option_and_then (bound x.0.0) (behind_word (codes "interface") rest)) (behind_word (codes "in") x.0.1) f x.2 in
    let z = some_then {B = Fact} (bound x.0.0) (behind_word (codes "interface") y.0) f y.2 in
    let v = some_map {B = Fact} (λ hardware. Binds hardware x.0.0) (only_name z.0) f z.2 in
    let n = name_taken ws x.0 x.1 in
    let h = only_named z.0 v.0 v.1 in
    let told : x.0.1 ≡ codes "in" ∷ codes "interface" ∷ v.0 ∷ [] =
    behind_there (codes "in") x.0.1 y.0 y.1 ∙ ap (λ l. codes "in" ∷ l) (behind_there (codes "interface") y.0 z.0 z.1 ∙ ap (λ l. codes "interface" ∷ l) h.1) in
    subst (IsSaid Asa (codes "access-group" ∷ ws)) v.2
    (record { good = (h.0, n.0); spelled = ap (λ l. codes "access-group" ∷ l) (n.1 ∙ ap (λ l. x.0.0 ∷ l) told) ∙ sym (binding_cut v.0 x.0.0 h.0 n.0) })

-- ---- members

abbrev member_words : Cidr → List (List ℕ)
member_words p = cond (eqb p.len 32) (codes "host" ∷ dotted p.net ∷ []) (dotted p.net ∷ dotted (netmask_of p) ∷ [])

member_cut : (p : Cidr) → IsPrefix p → words (addresses_text p) ≡ member_words p
member_cut p h = by (eqb p.len 32)
  where
    by : (b : Bool) → words (cond b (host_text p.net) (network_text p)) ≡ cond b (codes "host" ∷ dotted p.net ∷ []) (dotted p.net ∷ dotted (netmask_of p) ∷ [])
    by true = ap (λ ws. codes "host" ∷ ws) (one_part 32 (dotted p.net) (dotted_whole p.net h.low))
    by false =
        ap words (append_assoc (dotted p.net) (codes " ") (dotted (netmask_of p)))
        ∙ first_part 32 (dotted p.net) (dotted (netmask_of p)) (dotted_whole p.net h.low)
        ∙ ap (λ ws. dotted p.net ∷ ws) (one_part 32 (dotted (netmask_of p)) (dotted_whole (netmask_of p) (mask_small Asa p)))

record IsMemberRead (ws : List (List ℕ)) (p : Cidr) : Type 0 where
  good : IsPrefix p
  words : ws ≡ member_words p

host_there : (ws : List (List ℕ)) (p : Cidr) → host_of ws ≡ Some p → IsMemberRead (codes "host" ∷ ws) p
host_there ws p e =
    let x = some_then {B = Cidr} (λ w. option_map (λ net. record { net = net; len = 32 }) (address_of w)) (only_word ws) p e in
    let y = some_map {B = Cidr} (λ net. record { net = net; len = 32 }) (address_of x.0) p x.2 in
    let a = address_there x.0 y.0 y.1 in
    let low = a.low in
    subst (IsMemberRead (codes "host" ∷ ws)) y.2
    (record {
      good = record { good = record { short = omega arith; aligned = omega arith }; low = low };
      words = ap (λ l. codes "host" ∷ l) (only_there ws x.0 x.1 ∙ (λ i. a.spelled i ∷ []));
    })

net_there : (w : List ℕ) (ws : List (List ℕ)) (p : Cidr) → member_net w ws ≡ Some p → IsMemberRead (w ∷ ws) p
net_there w ws p e =
    let x = some_then {B = Cidr} (λ (n : Cidr × List (List ℕ)). cond (eqb n.0.len 32) None (if_nothing n.1 n.0)) (network_behind w ws) p e in
    let r = refused (eqb x.0.0.len 32) (if_nothing x.0.1 x.0.0) p x.2 in
    let v = nothing_taken x.0.1 x.0.0 p r.1 in
    let n = network_there w ws x.0.0 x.0.1 x.1 in
    subst (IsMemberRead (w ∷ ws)) v.1
    (record {
      good = n.good;
      words = (λ i. n.net_text i ∷ (n.words ∙ ap (λ l. dotted (netmask_of x.0.0) ∷ l) v.0) i) ∙ sym (cond-false (eqb x.0.0.len 32) _ _ r.0);
    })

member_there : (w : List ℕ) (ws : List (List ℕ)) (p : Cidr) → member_behind w ws ≡ Some p → IsMemberRead (w ∷ ws) p
member_there w ws p e = by (bytes_eq w (codes "host")) refl e
  where
    by : (b : Bool) → bytes_eq w (codes "host") ≡ b → cond b (host_of ws) (member_net w ws) ≡ Some p → IsMemberRead (w ∷ ws) p
    by true f e = subst (λ v. IsMemberRead (v ∷ ws) p) (sym ((bytes_eq-Decides w (codes "host")).0 f)) (host_there ws p e)
    by false f e = net_there w ws p e

member_back : (p : Cidr) → IsPrefix p → option_and_then (λ (r : List ℕ × List (List ℕ)). member_behind r.0 r.1) (first_word (member_words p)) ≡ Some p
member_back p h = by (eqb p.len 32) refl
  where
    by : (b : Bool) → eqb p.len 32 ≡ b → option_and_then (λ (r : List ℕ × List (List ℕ)). member_behind r.0 r.1) (first_word (cond b (codes "host" ∷ dotted p.net ∷ []) (dotted p.net ∷ dotted (netmask_of p) ∷ []))) ≡ Some p
    by true e =
        ap (option_map {U = Cidr} (λ net. record { net = net; len = 32 })) (address_back p.net h.low) ∙ (λ i. Some (record { net = p.net; len = sym (eqb-true p.len 32 e) i }))
    by false e =
        cond-false (bytes_eq (dotted p.net) (codes "host")) _ _ (no_word (dotted p.net) 104 _ (dotted_begins p.net h.low) (omega arith))
        ∙ ap (option_and_then {U = Cidr} (λ (n : Cidr × List (List ℕ)). cond (eqb n.0.len 32) None (if_nothing n.1 n.0))) (network_back p [] h)
        ∙ cond-false (eqb p.len 32) None (Some p) e

asa_member : (ws : List (List ℕ)) (f : Fact) → member_of ws ≡ Some f → IsSaid Asa ([] ∷ ws) f
asa_member ws f e =
    let read : List ℕ × List (List ℕ) → Option Fact = λ r. option_map (HasMember []) (member_behind r.0 r.1) in
    let x = some_then {B = Fact} (λ rest. option_and_then read (first_word rest)) (behind_word (codes "network-object") ws) f e in
    let y = some_then {B = Fact} read (first_word x.0) f x.2 in
    let v = some_map {B = Fact} (HasMember []) (member_behind y.0.0 y.0.1) f y.2 in
    let m = member_there y.0.0 y.0.1 v.0 v.1 in
    subst (IsSaid Asa ([] ∷ ws)) v.2
    (record {
      good = (refl, m.good);
      spelled = ap (λ l. [] ∷ l) (behind_there (codes "network-object") ws x.0 x.1 ∙ ap (λ l. codes "network-object" ∷ l) (first_there x.0 y.0 y.1 ∙ m.words ∙ sym (member_cut v.0 m.good)));
    })

asa_there : (w : List ℕ) (ws : List (List ℕ)) (f : Fact) → asa_words w ws ≡ Some f → IsSaid Asa (w ∷ ws) f
asa_there w ws f e = by (bytes_eq w (codes "route")) (bytes_eq w (codes "object-group")) (bytes_eq w []) (bytes_eq w (codes "access-list")) (bytes_eq w (codes "access-group")) refl refl refl refl refl e
  where
    by : (a b n c d : Bool) → bytes_eq w (codes "route") ≡ a → bytes_eq w (codes "object-group") ≡ b → bytes_eq w [] ≡ n → bytes_eq w (codes "access-list") ≡ c → bytes_eq w (codes "access-group") ≡ d →
        cond a (named_route ws) (cond b (group_of ws) (cond n (member_of ws) (cond c (entry_of ws) (cond d (named_binding ws) None)))) ≡ Some f → IsSaid Asa (w ∷ ws) f
    by true b n c d g h k i j e = swapped Asa w (codes "route") [] ws f g (asa_route ws f e)
    by false true n c d g h k i j e = swapped Asa w (codes "object-group") [] ws f h (asa_group ws f e)
    by false false true c d g h k i j e = swapped Asa w [] [] ws f k (asa_member ws f e)
    by false false false true d g h k i j e = swapped Asa w (codes "access-list") [] ws f i (asa_entry ws f e)
    by false false false false true g h k i j e = swapped Asa w (codes "access-group") [] ws f j (asa_binding ws f e)
    by false false false false false g h k i j e = absurd (none-some f e)

asa_back : (f : Fact) → IsAsaAlone f → said_by Asa (asa_fact_text f) ≡ Some f
asa_back (Remark text) h = refl
asa_back (Sends port net gateway) h =
    let rest : List ℕ = (network_text net ++ codes " ") ++ dotted gateway in
    let regrouped : (((port.hardware ++ codes " ") ++ network_text net) ++ codes " ") ++ dotted gateway ≡ port.hardware ++ 32 ∷ rest = simp append_assoc in
    ap (λ t. named_route (words t)) regrouped
    ∙ ap named_route (first_part 32 port.hardware rest (word_whole port.hardware h.1) ∙ ap (λ ws. port.hardware ∷ ws) (route_cut net gateway h.2 h.3))
    ∙ ap (option_and_then {U = Fact} (λ (n : List ℕ × List (List ℕ)). route_of n.0 n.1)) (take_back port.hardware (route_words net gateway) h.1)
    ∙ route_back port.hardware net gateway h.2 h.3 ∙ (λ i. Some (Sends (sym h.0 i) net gateway))
asa_back (OpensGroup name) h = ap (λ ws. option_map OpensGroup (only_name ws)) (one_part 32 name (word_whole name h)) ∙ ap (option_map OpensGroup) (only_back name h)
asa_back (HasMember group member) h =
    ap (λ ws. option_and_then {U = Fact} (λ (r : List ℕ × List (List ℕ)). option_map (HasMember []) (member_behind r.0 r.1)) (first_word ws)) (member_cut member h.1)
    ∙ mapped (member_words member) ∙ ap (option_map (HasMember [])) (member_back member h.1) ∙ (λ i. Some (HasMember (sym h.0 i) member))
  where
    mapped : (ws : List (List ℕ)) → option_and_then (λ (r : List ℕ × List (List ℕ)). option_map (HasMember []) (member_behind r.0 r.1)) (first_word ws) ≡ option_map (HasMember []) (option_and_then (λ (r : List ℕ × List (List ℕ)). member_behind r.0 r.1) (first_word ws))
    mapped [] = refl
    mapped (w ∷ ws) = refl
asa_back (HasEntry list entry) h =
    let regrouped : (list ++ codes " extended ") ++ entry_text Asa entry ≡ list ++ 32 ∷ (codes "extended " ++ entry_text Asa entry) = simp append_assoc in
    ap (λ t. entry_of (words t)) regrouped
    ∙ ap entry_of (first_part 32 list (codes "extended " ++ entry_text Asa entry) (word_whole list h.0))
    ∙ ap (option_and_then {U = Fact} (λ (n : List ℕ × List (List ℕ)). option_and_then (λ rest. option_and_then (λ r. option_map (HasEntry n.0) (entry_behind Asa r.0 r.1)) (first_word rest)) (behind_word (codes "extended") n.1)))
    (take_back list (codes "extended" ∷ words (entry_text Asa entry)) h.0)
    ∙ mapped (words (entry_text Asa entry)) ∙ ap (option_map (HasEntry list)) (entry_said Asa entry h.1)
  where
    mapped : (ws : List (List ℕ)) → option_and_then (λ (r : List ℕ × List (List ℕ)). option_map (HasEntry list) (entry_behind Asa r.0 r.1)) (first_word ws) ≡ option_map (HasEntry list) (option_and_then (λ (r : List ℕ × List (List ℕ)). entry_behind Asa r.0 r.1) (first_word ws))
    mapped [] = refl
    mapped (w ∷ ws) = refl
asa_back (Binds hardware list) h =
    let regrouped : (list ++ codes " in interface ") ++ hardware ≡ list ++ 32 ∷ (codes "in interface " ++ hardware) = simp append_assoc in
    ap (λ t. named_binding (words t)) regrouped
    ∙ ap named_binding (first_part 32 list (codes "in interface " ++ hardware) (word_whole list h.1)
    ∙ ap (λ ws. list ∷ codes "in" ∷ codes "interface" ∷ ws) (one_part 32 hardware (word_whole hardware h.0)))
    ∙ ap (option_and_then {U = Fact} (λ (n : List ℕ × List (List ℕ)). option_and_then (λ rest. option_and_then (λ last. option_map (λ hardware. Binds hardware n.0) (only_name last)) (behind_word (codes "interface") rest)) (behind_word (codes "in") n.1)))
    (take_back list (codes "in" ∷ codes "interface" ∷ hardware ∷ []) h.1)
    ∙ ap (option_map (λ hardware. Binds hardware list)) (only_back hardware h.0)
asa_back (OpensList name) h = absurd h
asa_back (OpensPort hardware) h = absurd h

-- ---- both

words_there : (dialect : Dialect) (w : List ℕ) (ws : List (List ℕ)) (f : Fact) → words_say dialect w ws ≡ Some f → IsSaid dialect (w ∷ ws) f
words_there Ios w ws f e = ios_there w ws f e
words_there Asa w ws f e = asa_there w ws f e

remark_alone : (dialect : Dialect) (text : List ℕ) → IsAlone dialect (Remark text) × (33 ∷ text ≡ fact_text dialect (Remark text))
remark_alone Ios text = (tt, refl)
remark_alone Asa text = (tt, refl)

-- what a line is read as is what it says
pub line_there : (dialect : Dialect) (line : List ℕ) (f : Fact) → said_by dialect line ≡ Some f → IsLineOf dialect f line
line_there dialect [] f e = absurd (none-some f e)
line_there dialect (b ∷ text) f e = by (eqb b 33) refl e
  where
    by : (c : Bool) → eqb b 33 ≡ c → cond c (Some (Remark text)) (option_and_then (λ (r : List ℕ × List (List ℕ)). words_say dialect r.0 r.1) (first_word (words (b ∷ text)))) ≡ Some f → IsLineOf dialect f (b ∷ text)
    by true g e =
        let r = remark_alone dialect text in
        subst (λ x. IsLineOf dialect x (b ∷ text)) (same_Some (Remark text) f e) (record { good = r.0; spelled = ap (λ c. c ∷ text) (eqb-true b 33 g) ∙ r.1 })
    by false g e =
        let x = some_then {B = Fact} (λ (r : List ℕ × List (List ℕ)). words_say dialect r.0 r.1) (first_word (words (b ∷ text))) f e in
        let s = words_there dialect x.0.0 x.0.1 f x.2 in
        record { good = s.good; spelled = joined_back (b ∷ text) (fact_text dialect f) (first_there (words (b ∷ text)) x.0 x.1 ∙ s.spelled) }

fact_back : (dialect : Dialect) (f : Fact) → IsAlone dialect f → said_by dialect (fact_text dialect f) ≡ Some f
fact_back Ios f h = ios_back f h
fact_back Asa f h = asa_back f h

-- and what it says is read
pub line_back : (dialect : Dialect) (line : List ℕ) (f : Fact) → IsLineOf dialect f line → said_by dialect line ≡ Some f
line_back dialect line f h = ap (said_by dialect) h.spelled ∙ fact_back dialect f h.good

pub reads_exactly : (dialect : Dialect) (line : List ℕ) (o : Option Command) → option_map fact_of o ≡ said_by dialect line → IfSome o (λ command. IsLineOf dialect (fact_of command) line)
reads_exactly dialect line None e = tt
reads_exactly dialect line (Some command) e = line_there dialect line (fact_of command) (sym e)

pub refuses_exactly : (dialect : Dialect) (line : List ℕ) (o : Option Command) → option_map fact_of o ≡ said_by dialect line → IsNone o → (f : Fact) → IsLineOf dialect f line → ⊥
refuses_exactly dialect line None e n f h = none-some f (e ∙ line_back dialect line f h)
refuses_exactly dialect line (Some command) e n f h = absurd (true≢false n)
