-- Whether a line may say something is decided.
use Rattle.std.proofs.Common.{◌≡◌, ◌≢◌, ◌⊎◌, inl, inr, refl, sym, ap, ℕ, ◌%◌, ◌<◌, ◌≤◌, ◌^◌, eqb, Bool, true, false, List, [], ◌∷◌, arith, bytes_eq, Option, Some, None, true≢false}
use Rattle.std.specs.List.{AllByRecursion, list_any}
use Rattle.std.proofs.lemmas.Bool.{cases_eq, cases_lt, false≢true}
use Rattle.std.proofs.lemmas.Option.{none-some, same_Some}
use Rattle.std.proofs.lemmas.Slice.Eq.{bytes_eq-Decides}
use Rattle.spoc_base.specs.Address.{Cidr, Interval, size_of}
use Rattle.spoc_base.specs.Boxes.{TransportBox, AnyTransport, TcpPorts, UdpPorts, IcmpTypes, ProtocolNumber, IsOtherProtocol}
use Rattle.spoc_base.specs.declared.dialect.Dialect.{Dialect}
use Rattle.spoc_base.specs.declared.dialect.Dialect.TheVariants.{Ios, Asa}
use Rattle.acl_print.specs.Groups.{is_equal, same_prefixes}
use Rattle.device_reading.specs.Facts.{PortAt, End, OnePrefix, NamedGroup, Entry, Fact, Remark, Sends, OpensList, HasEntry, OpensPort, Binds, OpensGroup, HasMember}
use Rattle.spoc_base.specs.PlainSets.{IsPorts, IsByteAsked}
use Rattle.spoc_base.specs.Spelling.{is_word_byte}
use Rattle.device_reading.specs.Grammar.{Lacks, IsWord, IsPrefix, IsEntryBox, IsEnd, IsEntry, IsRoute, owner, opens_list, opens_port, opens_group, has_entry, binds_port, has_hardware, members_of, port_for, IsIosFact, IsAsaFact, IsFact}
use Rattle.text_laws.proofs.AsaGroups.{equal_decides, prefixes_decide}

-- it holds or it doesn't
abbrev pub Decision : Type 0 → Type 0
Decision P = P ⊎ (P → ⊥)

pub both_decided : {P Q : Type 0} → Decision P → Decision Q → Decision (P × Q)
both_decided (inl p) (inl q) = inl (p, q)
both_decided (inl p) (inr f) = inr (λ w. f w.1)
both_decided (inr f) q = inr (λ w. f w.0)

three_decided : {P Q R : Type 0} → Decision P → Decision Q → Decision R → Decision (P × Q × R)
three_decided (inl p) (inl q) (inl r) = inl (p, q, r)
three_decided (inl p) (inl q) (inr f) = inr (λ w. f w.2)
three_decided (inl p) (inr f) r = inr (λ w. f w.1)
three_decided (inr f) q r = inr (λ w. f w.0)

four_decided : {P Q R S : Type 0} → Decision P → Decision Q → Decision R → Decision S → Decision (P × Q × R × S)
four_decided (inl p) (inl q) (inl r) (inl s) = inl (p, q, r, s)
four_decided (inl p) (inl q) (inl r) (inr f) = inr (λ w. f w.3)
four_decided (inl p) (inl q) (inr f) s = inr (λ w. f w.2)
four_decided (inl p) (inr f) r s = inr (λ w. f w.1)
four_decided (inr f) q r s = inr (λ w. f w.0)

like : {P Q : Type 0} → (P → Q) → (Q → P) → Decision P → Decision Q
like f g (inl p) = inl (f p)
like f g (inr n) = inr (λ q. n (g q))

not_decided : {P : Type 0} → Decision P → Decision (P → ⊥)
not_decided (inl p) = inr (λ f. f p)
not_decided (inr f) = inl f

is_true : (b : Bool) → Decision (b ≡ true)
is_true true = inl refl
is_true false = inr (λ e. false≢true e)

is_false : (b : Bool) → Decision (b ≡ false)
is_false true = inr (λ e. true≢false e)
is_false false = inl refl

by_test : {P : Type 0} (b : Bool) → (b ≡ true → P) × (P → b ≡ true) → Decision P
by_test b d = like d.0 d.1 (is_true b)

all_decided : {A : Type 0} (P : A → Type 0) → ((x : A) → Decision (P x)) → (xs : List A) → Decision (AllByRecursion P xs)
all_decided P d [] = inl tt
all_decided P d (x ∷ xs) = both_decided (d x) (all_decided P d xs)

pub same_text : (a b : List ℕ) → Decision (a ≡ b)
same_text a b = by_test (bytes_eq a b) (bytes_eq-Decides a b)

below : (a b : ℕ) → Decision (a < b)
below a b = by (cases_lt a b)
  where
    by : (a < b) ⊎ (b ≤ a) → Decision (a < b)
    by (inl h) = inl h
    by (inr h) = inr (λ k. omega arith)

at_most : (a b : ℕ) → Decision (a ≤ b)
at_most a b = by (cases_lt b a)
  where
    by : (b < a) ⊎ (a ≤ b) → Decision (a ≤ b)
    by (inl h) = inr (λ k. omega arith)
    by (inr h) = inl h

some_decided : {A : Type 0} (xs : List A) → Decision (xs ≢ [])
some_decided [] = inr (λ f. f refl)
some_decided (x ∷ xs) = inl (λ e. cc)

lacks_decided : (byte : ℕ) (text : List ℕ) → Decision (Lacks byte text)
lacks_decided byte text = all_decided (λ b. eqb b byte ≡ false) (λ b. is_false (eqb b byte)) text

word_decided : (name : List ℕ) → Decision (IsWord name)
word_decided name =
    like (λ w. record { some = w.0; bytes = w.1 }) (λ w. (w.some, w.bytes))
    (both_decided (some_decided name) (all_decided (λ b. is_word_byte b ≡ true) (λ b. is_true (is_word_byte b)) name))

prefix_decided : (p : Cidr) → Decision (IsPrefix p)
prefix_decided p =
    like (λ w. record { good = record { short = w.0; aligned = w.1 }; low = w.2 }) (λ h. (h.good.short, h.good.aligned, h.low))
    (three_decided (at_most p.len 32) (cases_eq (p.net % size_of p) 0) (below p.net (2 ^ 32)))

range_decided : (r : Interval) → Decision (IsPorts r)
range_decided r = both_decided (at_most r.first r.last) (below r.last 65536)

byte_decided : (n : Option ℕ) → Decision (IsByteAsked n)
byte_decided None = inl tt
byte_decided (Some n) = below n 256

none_decided : (n : Option ℕ) → Decision (n ≡ None)
none_decided None = inl refl
none_decided (Some n) = inr (λ e. none-some n (sym e))

other_decided : (n : ℕ) → Decision (IsOtherProtocol n)
other_decided n =
    like (λ w. (w.0, w.1.0, w.1.1, w.1.2, w.1.3)) (λ w. (w.0, (w.1, w.2, w.3, w.4)))
    (both_decided (below n 256) (four_decided (not_decided (cases_eq n 0)) (not_decided (cases_eq n 1)) (not_decided (cases_eq n 6)) (not_decided (cases_eq n 17))))

box_decided : (dialect : Dialect) (b : TransportBox) → Decision (IsEntryBox dialect b)
box_decided dialect AnyTransport = inl tt
box_decided Ios (TcpPorts src dst e) = both_decided (range_decided src) (range_decided dst)
box_decided Asa (TcpPorts src dst e) = three_decided (range_decided src) (range_decided dst) (is_false e)
box_decided dialect (UdpPorts src dst) = both_decided (range_decided src) (range_decided dst)
box_decided dialect (IcmpTypes None code) = none_decided code
box_decided dialect (IcmpTypes (Some kind) code) = both_decided (below kind 256) (byte_decided code)
box_decided dialect (ProtocolNumber n) = other_decided n

end_decided : (dialect : Dialect) (above : List Fact) (e : End) → Decision (IsEnd dialect above e)
end_decided dialect above (OnePrefix p) = prefix_decided p
end_decided Ios above (NamedGroup name members) = inr (λ h. h)
end_decided Asa above (NamedGroup name members) =
    three_decided (word_decided name) (by_test (same_prefixes members (members_of name above)) (prefixes_decide members (members_of name above))) (some_decided members)

entry_decided : (dialect : Dialect) (above : List Fact) (e : Entry) → Decision (IsEntry dialect above e)
entry_decided dialect above e =
    like (λ w. record { src = w.0; dst = w.1; box = w.2 }) (λ h. (h.src, h.dst, h.box))
    (three_decided (end_decided dialect above e.src) (end_decided dialect above e.dst) (box_decided dialect e.box))

same_port : (p q : PortAt) → Decision (p ≡ q)
same_port p q =
    like (λ w i. record { number = w.0 i; hardware = w.1 i; connected = w.2 i })
    (λ e. (ap (λ (r : PortAt). r.number) e, ap (λ (r : PortAt). r.hardware) e, ap (λ (r : PortAt). r.connected) e))
    (three_decided (cases_eq p.number q.number) (same_text p.hardware q.hardware) (by_test (is_equal p.connected q.connected) (equal_decides p.connected q.connected)))

port_decided : (o : Option PortAt) (p : PortAt) → Decision (o ≡ Some p)
port_decided None p = inr (λ e. none-some p e)
port_decided (Some q) p = like (λ e. ap Some e) (λ e. same_Some q p e) (same_port q p)

route_decided : (ports : List PortAt) (port : PortAt) (net : Cidr) (gateway : ℕ) → Decision (IsRoute ports port net gateway)
route_decided ports port net gateway =
    like (λ w. record { net_good = w.0; gateway_good = w.1; port_good = w.2 }) (λ h. (h.net_good, h.gateway_good, h.port_good))
    (three_decided (prefix_decided net) (below gateway (2 ^ 32)) (port_decided (port_for ports gateway) port))

-- ---- owners

list_owner : (o : Option Fact) (name : List ℕ) → Decision (o ≡ Some (OpensList name))
list_owner None name = inr (λ e. none-some _ e)
list_owner (Some (OpensList n)) name = like (λ e. ap (λ m. Some (OpensList m)) e) (λ e. cc) (same_text n name)
list_owner (Some (Remark text)) name = inr (λ e. cc)
list_owner (Some (Sends p n g)) name = inr (λ e. cc)
list_owner (Some (HasEntry l f)) name = inr (λ e. cc)
list_owner (Some (OpensPort h)) name = inr (λ e. cc)
list_owner (Some (Binds h l)) name = inr (λ e. cc)
list_owner (Some (OpensGroup g)) name = inr (λ e. cc)
list_owner (Some (HasMember g m)) name = inr (λ e. cc)

port_owner : (o : Option Fact) (hardware : List ℕ) → Decision (o ≡ Some (OpensPort hardware))
port_owner None hardware = inr (λ e. none-some _ e)
port_owner (Some (OpensPort n)) hardware = like (λ e. ap (λ m. Some (OpensPort m)) e) (λ e. cc) (same_text n hardware)
port_owner (Some (Remark text)) hardware = inr (λ e. cc)
port_owner (Some (Sends p n g)) hardware = inr (λ e. cc)
port_owner (Some (HasEntry l f)) hardware = inr (λ e. cc)
port_owner (Some (OpensList h)) hardware = inr (λ e. cc)
port_owner (Some (Binds h l)) hardware = inr (λ e. cc)
port_owner (Some (OpensGroup g)) hardware = inr (λ e. cc)
port_owner (Some (HasMember g m)) hardware = inr (λ e. cc)

group_owner : (o : Option Fact) (name : List ℕ) → Decision (o ≡ Some (OpensGroup name))
group_owner None name = inr (λ e. none-some _ e)
group_owner (Some (OpensGroup n)) name = like (λ e. ap (λ m. Some (OpensGroup m)) e) (λ e. cc) (same_text n name)
group_owner (Some (Remark text)) name = inr (λ e. cc)
group_owner (Some (Sends p n g)) name = inr (λ e. cc)
group_owner (Some (HasEntry l f)) name = inr (λ e. cc)
group_owner (Some (OpensList h)) name = inr (λ e. cc)
group_owner (Some (Binds h l)) name = inr (λ e. cc)
group_owner (Some (OpensPort g)) name = inr (λ e. cc)
group_owner (Some (HasMember g m)) name = inr (λ e. cc)

-- ---- lines

ios_decided : (ports : List PortAt) (above : List Fact) (f : Fact) → Decision (IsIosFact ports above f)
ios_decided ports above (Remark text) = lacks_decided 10 text
ios_decided ports above (Sends port net gateway) = route_decided ports port net gateway
ios_decided ports above (OpensList name) = both_decided (word_decided name) (is_false (list_any (opens_list name) above))
ios_decided ports above (HasEntry list e) = both_decided (list_owner (owner Ios above) list) (entry_decided Ios above e)
ios_decided ports above (OpensPort hardware) = both_decided (is_true (list_any (has_hardware hardware) ports)) (is_false (list_any (opens_port hardware) above))
ios_decided ports above (Binds hardware list) =
    four_decided (port_owner (owner Ios above) hardware) (is_false (list_any (binds_port hardware) above)) (word_decided list) (is_true (list_any (opens_list list) above))
ios_decided ports above (OpensGroup name) = inr (λ h. h)
ios_decided ports above (HasMember group member) = inr (λ h. h)

asa_decided : (ports : List PortAt) (above : List Fact) (f : Fact) → Decision (IsAsaFact ports above f)
asa_decided ports above (Remark text) = lacks_decided 10 text
asa_decided ports above (Sends port net gateway) = route_decided ports port net gateway
asa_decided ports above (OpensGroup name) = both_decided (word_decided name) (is_false (list_any (opens_group name) above))
asa_decided ports above (HasMember group member) = both_decided (group_owner (owner Asa above) group) (prefix_decided member)
asa_decided ports above (HasEntry list e) = both_decided (word_decided list) (entry_decided Asa above e)
asa_decided ports above (Binds hardware list) =
    four_decided (is_true (list_any (has_hardware hardware) ports)) (is_false (list_any (binds_port hardware) above)) (word_decided list) (is_true (list_any (has_entry list) above))
asa_decided ports above (OpensList name) = inr (λ h. h)
asa_decided ports above (OpensPort hardware) = inr (λ h. h)

pub fact_decided : (dialect : Dialect) (ports : List PortAt) (above : List Fact) (f : Fact) → Decision (IsFact dialect ports above f)
fact_decided Ios ports above f = ios_decided ports above f
fact_decided Asa ports above f = asa_decided ports above f
