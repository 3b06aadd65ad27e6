-- What a line says below other lines, by what it says by itself.
use Rattle.std.specs.Prelude.{ℕ, Bool, true, false, not, ◌&&◌, bytes_eq, List, [], ◌∷◌, Option, Some, None, option_map, option_and_then, if◌then◌else◌}
use Rattle.std.specs.List.{list_any}
use Rattle.spoc_base.specs.Address.{Cidr}
use Rattle.spoc_base.specs.declared.dialect.Dialect.{Dialect}
use Rattle.spoc_base.specs.declared.dialect.Dialect.TheVariants.{Ios, Asa}
use Rattle.policy_model.specs.Lists.{is_nothing}
use Rattle.device_reading.specs.Facts.{PortAt, End, OnePrefix, NamedGroup, Entry, Fact, Remark, Sends, OpensList, HasEntry, OpensPort, Binds, OpensGroup, HasMember}
use Rattle.device_reading.specs.Grammar.{owner, opens_list, opens_port, opens_group, has_entry, binds_port, has_hardware, members_of, port_for}
use Rattle.device_lines.specs.Alone.{port_named}

abbrev pub list_owner : Option Fact → Option (List ℕ)
list_owner (Some (OpensList name)) = Some name
list_owner _ = None

abbrev pub port_owner : Option Fact → Option (List ℕ)
port_owner (Some (OpensPort hardware)) = Some hardware
port_owner _ = None

abbrev pub group_owner : Option Fact → Option (List ℕ)
group_owner (Some (OpensGroup name)) = Some name
group_owner _ = None

abbrev pub if_so : Bool → Fact → Option Fact
if_so test fact = if test then Some fact else None

-- ---- IOS

abbrev pub ios_route : List PortAt → Cidr → ℕ → Option Fact
ios_route ports net gateway = option_map (λ p. Sends p net gateway) (port_for ports gateway)

abbrev pub ios_list : List Fact → List ℕ → Option Fact
ios_list above name = if_so (not (list_any (opens_list name) above)) (OpensList name)

abbrev pub ios_entry : List Fact → Entry → Option Fact
ios_entry above entry = option_map (λ name. HasEntry name entry) (list_owner (owner Ios above))

abbrev pub ios_port : List PortAt → List Fact → List ℕ → Option Fact
ios_port ports above hardware = if_so (list_any (has_hardware hardware) ports && not (list_any (opens_port hardware) above)) (OpensPort hardware)

abbrev pub ios_binding : List Fact → List ℕ → Option Fact
ios_binding above list = option_and_then (λ h. if_so (not (list_any (binds_port h) above) && list_any (opens_list list) above) (Binds h list)) (port_owner (owner Ios above))

abbrev pub completed_ios : List PortAt → List Fact → Fact → Option Fact
completed_ios ports above (Remark text) = Some (Remark text)
completed_ios ports above (Sends port net gateway) = ios_route ports net gateway
completed_ios ports above (OpensList name) = ios_list above name
completed_ios ports above (HasEntry list entry) = ios_entry above entry
completed_ios ports above (OpensPort hardware) = ios_port ports above hardware
completed_ios ports above (Binds hardware list) = ios_binding above list
completed_ios ports above (OpensGroup name) = None
completed_ios ports above (HasMember group member) = None

-- ---- ASA

abbrev pub asa_route : List PortAt → List ℕ → Cidr → ℕ → Option Fact
asa_route ports hardware net gateway = option_and_then (λ p. if_so (bytes_eq p.hardware hardware) (Sends p net gateway)) (port_for ports gateway)

abbrev pub asa_group : List Fact → List ℕ → Option Fact
asa_group above name = if_so (not (list_any (opens_group name) above)) (OpensGroup name)

abbrev pub asa_member : List Fact → Cidr → Option Fact
asa_member above member = option_map (λ name. HasMember name member) (group_owner (owner Asa above))

-- the group with the members that it has, where it has any
abbrev pub group_end : List Fact → List ℕ → Option End
group_end above name = if is_nothing (members_of name above) then None else Some (NamedGroup name (members_of name above))

abbrev pub full_end : List Fact → End → Option End
full_end above (OnePrefix p) = Some (OnePrefix p)
full_end above (NamedGroup name none) = group_end above name

abbrev pub asa_entry : List Fact → List ℕ → Entry → Option Fact
asa_entry above list e =
    option_and_then (λ s. option_map (λ d. HasEntry list (record { permit = e.permit; src = s; dst = d; box = e.box })) (full_end above e.dst)) (full_end above e.src)

abbrev pub asa_binding : List PortAt → List Fact → List ℕ → List ℕ → Option Fact
asa_binding ports above hardware list =
    if_so (list_any (has_hardware hardware) ports && not (list_any (binds_port hardware) above) && list_any (has_entry list) above) (Binds hardware list)

abbrev pub completed_asa : List PortAt → List Fact → Fact → Option Fact
completed_asa ports above (Remark text) = Some (Remark text)
completed_asa ports above (Sends port net gateway) = asa_route ports port.hardware net gateway
completed_asa ports above (OpensGroup name) = asa_group above name
completed_asa ports above (HasMember group member) = asa_member above member
completed_asa ports above (HasEntry list entry) = asa_entry above list entry
completed_asa ports above (Binds hardware list) = asa_binding ports above hardware list
completed_asa ports above (OpensList name) = None
completed_asa ports above (OpensPort hardware) = None

-- what the line says below these lines, and nothing where it may not stand there
abbrev pub completed : Dialect → List PortAt → List Fact → Fact → Option Fact
completed Ios ports above fact = completed_ios ports above fact
completed Asa ports above fact = completed_asa ports above fact

-- what of a fact the line tells by itself
abbrev pub bare_end : End → End
bare_end (OnePrefix p) = OnePrefix p
bare_end (NamedGroup name members) = NamedGroup name []

abbrev pub bare_entry : Entry → Entry
bare_entry e = record { permit = e.permit; src = bare_end e.src; dst = bare_end e.dst; box = e.box }

abbrev pub bare_ios : Fact → Fact
bare_ios (Sends port net gateway) = Sends (port_named []) net gateway
bare_ios (HasEntry list entry) = HasEntry [] entry
bare_ios (Binds hardware list) = Binds [] list
bare_ios fact = fact

abbrev pub bare_asa : Fact → Fact
bare_asa (Sends port net gateway) = Sends (port_named port.hardware) net gateway
bare_asa (HasEntry list entry) = HasEntry list (bare_entry entry)
bare_asa (HasMember group member) = HasMember [] member
bare_asa fact = fact

abbrev pub bare : Dialect → Fact → Fact
bare Ios fact = bare_ios fact
bare Asa fact = bare_asa fact
