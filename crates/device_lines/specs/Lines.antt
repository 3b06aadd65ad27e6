-- The words of a line, read one after the other.
use Rattle.std.specs.Prelude.{ℕ, ◌-◌, ◌%◌, ◌^◌, ◌&&◌, ◌==◌, bytes_eq, codes, List, [], ◌∷◌, Option, Some, None, option_map, option_and_then, if◌then◌else◌}
use Rattle.std.specs.List.{slice_split}
use Rattle.spoc_base.specs.Address.{Cidr}
use Rattle.spoc_base.specs.declared.dialect.Dialect.{Dialect}
use Rattle.spoc_base.specs.declared.dialect.Dialect.TheVariants.{Ios, Asa}
use Rattle.policy_model.specs.Lists.{is_nothing}
use Rattle.device_reading.specs.Facts.{Fact, Remark, Sends, OpensList, HasEntry, OpensPort, Binds, OpensGroup, HasMember}
use Rattle.device_lines.specs.Alone.{port_named}
use Rattle.device_lines.specs.Numbers.{address_of}
use Rattle.device_lines.specs.Entries.{Taken, first_word, only_word, if_nothing, is_name, mask_length, entry_behind}

-- what stands behind this word
abbrev pub behind_word : List ℕ → List (List ℕ) → Option (List (List ℕ))
behind_word word ws = option_and_then (λ r. if bytes_eq r.0 word then Some r.1 else None) (first_word ws)

abbrev pub take_name : List (List ℕ) → Taken (List ℕ)
take_name ws = option_and_then (λ r. if is_name r.0 then Some (r.0, r.1) else None) (first_word ws)

abbrev pub only_name : List (List ℕ) → Option (List ℕ)
only_name ws = option_and_then (λ r. if_nothing r.1 r.0) (take_name ws)

-- a network without a host bit
abbrev pub aligned_prefix : ℕ → ℕ → Option Cidr
aligned_prefix net len = if net % 2 ^ (32 - len) == 0 then Some (record { net = net; len = len }) else None

abbrev pub network_of : List ℕ → List ℕ → Option Cidr
network_of net mask = option_and_then (λ a. option_and_then (λ m. option_and_then (aligned_prefix a) (mask_length Asa m)) (address_of mask)) (address_of net)

-- a network and its netmask, where the first of the two words was taken
abbrev pub network_behind : List ℕ → List (List ℕ) → Taken Cidr
network_behind net ws = option_and_then (λ r. option_map (λ p. (p, r.1)) (network_of net r.0)) (first_word ws)

abbrev pub route_to : List ℕ → Cidr → List (List ℕ) → Option Fact
route_to hardware net ws = option_and_then (λ w. option_map (λ g. Sends (port_named hardware) net g) (address_of w)) (only_word ws)

abbrev pub route_of : List ℕ → List (List ℕ) → Option Fact
route_of hardware ws = option_and_then (λ r. option_and_then (λ n. route_to hardware n.0 n.1) (network_behind r.0 r.1)) (first_word ws)

-- ---- IOS

abbrev pub list_of : List (List ℕ) → Option Fact
list_of ws = option_and_then (λ rest. option_map OpensList (only_name rest)) (behind_word (codes "extended") ws)

-- what stands behind `ip`
abbrev pub behind_ip : List ℕ → List (List ℕ) → Option Fact
behind_ip w ws = if bytes_eq w (codes "route") then route_of [] ws else if bytes_eq w (codes "access-list") then list_of ws else None

abbrev pub binding_of : List (List ℕ) → Option Fact
binding_of ws =
    option_and_then (λ rest. option_and_then (λ n. option_and_then (λ left. if_nothing left (Binds [] n.0)) (behind_word (codes "in") n.1)) (take_name rest)) (behind_word (codes "access-group") ws)

-- what stands behind the space of an indented line
abbrev pub indented_ios : List ℕ → List (List ℕ) → Option Fact
indented_ios w ws = if bytes_eq w (codes "ip") then binding_of ws else option_map (HasEntry []) (entry_behind Ios w ws)

abbrev pub ip_words : List (List ℕ) → Option Fact
ip_words ws = option_and_then (λ r. behind_ip r.0 r.1) (first_word ws)

abbrev pub port_of : List (List ℕ) → Option Fact
port_of ws = option_map OpensPort (only_name ws)

abbrev pub indented_words : List (List ℕ) → Option Fact
indented_words ws = option_and_then (λ r. indented_ios r.0 r.1) (first_word ws)

abbrev pub ios_words : List ℕ → List (List ℕ) → Option Fact
ios_words w ws =
    if bytes_eq w (codes "ip") then ip_words ws
    else if bytes_eq w (codes "interface") then port_of ws
    else if bytes_eq w [] then indented_words ws
    else None

-- ---- ASA

abbrev pub named_route : List (List ℕ) → Option Fact
named_route ws = option_and_then (λ n. route_of n.0 n.1) (take_name ws)

abbrev pub group_of : List (List ℕ) → Option Fact
group_of ws = option_and_then (λ rest. option_map OpensGroup (only_name rest)) (behind_word (codes "network") ws)

abbrev pub entry_of : List (List ℕ) → Option Fact
entry_of ws =
    option_and_then (λ n. option_and_then (λ rest. option_and_then (λ r. option_map (HasEntry n.0) (entry_behind Asa r.0 r.1)) (first_word rest)) (behind_word (codes "extended") n.1)) (take_name ws)

abbrev pub named_binding : List (List ℕ) → Option Fact
named_binding ws =
    option_and_then (λ n. option_and_then (λ rest. option_and_then (λ last. option_map (λ hardware. Binds hardware n.0) (only_name last))
    (behind_word (codes "interface") rest)) (behind_word (codes "in") n.1)) (take_name ws)

abbrev pub host_of : List (List ℕ) → Option Cidr
host_of ws = option_and_then (λ w. option_map (λ net. record { net = net; len = 32 }) (address_of w)) (only_word ws)

-- a member's network, which is no single host
abbrev pub member_net : List ℕ → List (List ℕ) → Option Cidr
member_net w ws = option_and_then (λ n. if n.0.len == 32 then None else if_nothing n.1 n.0) (network_behind w ws)

abbrev pub member_behind : List ℕ → List (List ℕ) → Option Cidr
member_behind w ws = if bytes_eq w (codes "host") then host_of ws else member_net w ws

abbrev pub member_of : List (List ℕ) → Option Fact
member_of ws = option_and_then (λ rest. option_and_then (λ r. option_map (HasMember []) (member_behind r.0 r.1)) (first_word rest)) (behind_word (codes "network-object") ws)

abbrev pub asa_lists : List ℕ → List (List ℕ) → Option Fact
asa_lists w ws = if bytes_eq w (codes "access-list") then entry_of ws else if bytes_eq w (codes "access-group") then named_binding ws else None

abbrev pub asa_groups : List ℕ → List (List ℕ) → Option Fact
asa_groups w ws = if bytes_eq w (codes "object-group") then group_of ws else if bytes_eq w [] then member_of ws else asa_lists w ws

abbrev pub asa_words : List ℕ → List (List ℕ) → Option Fact
asa_words w ws = if bytes_eq w (codes "route") then named_route ws else asa_groups w ws

abbrev pub words_say : Dialect → List ℕ → List (List ℕ) → Option Fact
words_say Ios w ws = ios_words w ws
words_say Asa w ws = asa_words w ws

-- what a line says by itself
abbrev pub said_by : Dialect → List ℕ → Option Fact
said_by dialect [] = None
said_by dialect (b ∷ text) =
    if b == 33 then Some (Remark text) else option_and_then (λ r. words_say dialect r.0 r.1) (first_word (slice_split (λ c. c == 32) (b ∷ text)))
