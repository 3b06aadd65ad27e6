-- What a line says by itself, whatever stands above it.
use Rattle.std.specs.Prelude.{◌≡◌, ℕ, ◌<◌, ◌^◌, List, []}
use Rattle.spoc_base.specs.Address.{Cidr, any_address}
use Rattle.spoc_base.specs.declared.dialect.Dialect.{Dialect}
use Rattle.spoc_base.specs.declared.dialect.Dialect.TheVariants.{Ios, Asa}
use Rattle.device_reading.specs.Facts.{PortAt, End, OnePrefix, NamedGroup, Entry, Fact, Remark, Sends, OpensList, HasEntry, OpensPort, Binds, OpensGroup, HasMember, fact_text}
use Rattle.device_reading.specs.Grammar.{IsWord, IsPrefix, IsEntryBox}

-- a port of which a line tells no more than the hardware
abbrev pub port_named : List ℕ → PortAt
port_named hardware = record { number = 0; hardware = hardware; connected = any_address }

-- one prefix, or on ASA a group by its name
abbrev pub IsEndAlone : Dialect → End → Type 0
IsEndAlone dialect (OnePrefix p) = IsPrefix p
IsEndAlone Ios (NamedGroup name members) = ⊥
IsEndAlone Asa (NamedGroup name members) = IsWord name × (members ≡ [])

-- the end with the members of its group
abbrev pub end_with : (List ℕ → List Cidr) → End → End
end_with members (OnePrefix p) = OnePrefix p
end_with members (NamedGroup name none) = NamedGroup name (members name)

abbrev pub entry_with : (List ℕ → List Cidr) → Entry → Entry
entry_with members e = record { permit = e.permit; src = end_with members e.src; dst = end_with members e.dst; box = e.box }

pub record IsEntryAlone (dialect : Dialect) (e : Entry) : Type 0 where
  pub src : IsEndAlone dialect e.src
  pub dst : IsEndAlone dialect e.dst
  pub box : IsEntryBox dialect e.box

abbrev pub IsIosAlone : Fact → Type 0
IsIosAlone (Remark text) = Unit {0}
IsIosAlone (Sends port net gateway) = (port ≡ port_named []) × IsPrefix net × (gateway < 2 ^ 32)
IsIosAlone (OpensList name) = IsWord name
IsIosAlone (HasEntry list entry) = (list ≡ []) × IsEntryAlone Ios entry
IsIosAlone (OpensPort hardware) = IsWord hardware
IsIosAlone (Binds hardware list) = (hardware ≡ []) × IsWord list
IsIosAlone (OpensGroup name) = ⊥
IsIosAlone (HasMember group member) = ⊥

abbrev pub IsAsaAlone : Fact → Type 0
IsAsaAlone (Remark text) = Unit {0}
IsAsaAlone (Sends port net gateway) = (port ≡ port_named port.hardware) × IsWord port.hardware × IsPrefix net × (gateway < 2 ^ 32)
IsAsaAlone (OpensList name) = ⊥
IsAsaAlone (HasEntry list entry) = IsWord list × IsEntryAlone Asa entry
IsAsaAlone (OpensPort hardware) = ⊥
IsAsaAlone (Binds hardware list) = IsWord hardware × IsWord list
IsAsaAlone (OpensGroup name) = IsWord name
IsAsaAlone (HasMember group member) = (group ≡ []) × IsPrefix member

-- What a line may say by itself: a group has no members yet, and the port, list or group to which an indented line belongs has the empty name.
abbrev pub IsAlone : Dialect → Fact → Type 0
IsAlone Ios fact = IsIosAlone fact
IsAlone Asa fact = IsAsaAlone fact

-- The line says this by itself.
pub record IsLineOf (dialect : Dialect) (fact : Fact) (line : List ℕ) : Type 0 where
  pub good : IsAlone dialect fact
  pub spelled : line ≡ fact_text dialect fact
