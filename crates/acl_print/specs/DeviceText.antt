-- The text of a device's file.
use Rattle.std.specs.Prelude.{ℕ, ◌==◌, if◌then◌else◌, List, [], ◌∷◌, ◌++◌, flat_map, codes}
use Rattle.spoc_base.specs.Address.{Cidr}
use Rattle.spoc_base.specs.declared.dialect.Dialect.{Dialect}
use Rattle.spoc_base.specs.declared.dialect.Dialect.TheVariants.{Ios, Asa}
use Rattle.policy_model.specs.Filters.{Line}
use Rattle.policy_model.specs.Routes.{Route}
use Rattle.policy_model.specs.Passing.{Config}
use Rattle.acl_print.specs.Seen.{PortName}
use Rattle.acl_print.specs.Words.{dotted, network_text, list_name}
use Rattle.acl_print.specs.Groups.{groups_of, groups_text}
use Rattle.acl_print.specs.Entries.{entry_text}

-- the hardware of the first interface with this number, and nothing where there is none
abbrev pub hardware_of : List PortName → ℕ → List ℕ
hardware_of [] number = []
hardware_of (p ∷ ports) number = if p.number == number then p.hardware else hardware_of ports number

-- a text for each interface and its list
abbrev pub each_list : (PortName → List Line → List ℕ) → List PortName → List (List Line) → List ℕ
each_list text (port ∷ ports) (lines ∷ lists) = text port lines ++ each_list text ports lists
each_list text _ _ = []

-- ---- IOS

abbrev pub ios_route_text : Route → List ℕ
ios_route_text r = codes "ip route " ++ network_text r.net ++ codes " " ++ dotted r.gateway ++ codes "\n"

abbrev pub ios_line_text : Line → List ℕ
ios_line_text l = codes " " ++ entry_text Ios [] l ++ codes "\n"

abbrev pub ios_list_text : PortName → List Line → List ℕ
ios_list_text port lines = codes "ip access-list extended " ++ list_name port.hardware ++ codes "\n" ++ flat_map ios_line_text lines

abbrev pub ios_binding_text : PortName → List ℕ
ios_binding_text port = codes "interface " ++ port.hardware ++ codes "\n ip access-group " ++ list_name port.hardware ++ codes " in\n"

-- the router's name, its routes, a list for each interface, and the bindings of the lists
abbrev pub ios_text : List ℕ → List PortName → Config → List ℕ
ios_text name ports config =
    codes "! " ++ name ++ codes " IOS\n" ++ flat_map ios_route_text config.routes ++ each_list ios_list_text ports config.lists ++ flat_map ios_binding_text ports

-- ---- ASA

abbrev pub asa_route_text : List PortName → Route → List ℕ
asa_route_text ports r =
    codes "route " ++ hardware_of ports r.out ++ codes " " ++ network_text r.net ++ codes " " ++ dotted r.gateway ++ codes "\n"

abbrev pub asa_line_text : List (List Cidr) → PortName → Line → List ℕ
asa_line_text groups port l = codes "access-list " ++ list_name port.hardware ++ codes " extended " ++ entry_text Asa groups l ++ codes "\n"

abbrev pub asa_list_text : List (List Cidr) → PortName → List Line → List ℕ
asa_list_text groups port lines = flat_map (asa_line_text groups port) lines

abbrev pub asa_binding_text : PortName → List ℕ
asa_binding_text port = codes "access-group " ++ list_name port.hardware ++ codes " in interface " ++ port.hardware ++ codes "\n"

-- the router's name, its routes, these groups, the lines of all lists, and the bindings of the lists
abbrev pub asa_text_with : List (List Cidr) → List ℕ → List PortName → Config → List ℕ
asa_text_with groups name ports config =
    codes "! " ++ name ++ codes " ASA\n" ++ flat_map (asa_route_text ports) config.routes ++ groups_text 0 groups ++ each_list (asa_list_text groups) ports config.lists
    ++ flat_map asa_binding_text ports

abbrev pub asa_text : List ℕ → List PortName → Config → List ℕ
asa_text name ports config = asa_text_with (groups_of config.lists) name ports config

abbrev pub device_text : Dialect → List ℕ → List PortName → Config → List ℕ
device_text Ios name ports config = ios_text name ports config
device_text Asa name ports config = asa_text name ports config
