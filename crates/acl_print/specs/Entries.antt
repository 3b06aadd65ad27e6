-- A line of an access list as its text.
use Rattle.std.specs.Prelude.{ℕ, List, [], ◌∷◌, ◌++◌, codes}
use Rattle.spoc_base.specs.Address.{Cidr}
use Rattle.spoc_base.specs.declared.dialect.Dialect.{Dialect}
use Rattle.spoc_base.specs.declared.dialect.Dialect.TheVariants.{Ios, Asa}
use Rattle.policy_model.specs.Filters.{Line}
use Rattle.acl_print.specs.Words.{prefix_text, action_text, protocol_text, source_ports, other_ports, mark_text}
use Rattle.acl_print.specs.Groups.{group_number, group_name}

abbrev pub group_end : List (List Cidr) → List Cidr → List ℕ
group_end groups ps = codes "object-group " ++ group_name (group_number groups ps)

-- a source or destination: one prefix, or on ASA the name of a group
unfoldable pub end_text : Dialect → List (List Cidr) → List Cidr → List ℕ
end_text dialect groups [] = []
end_text Ios groups (p ∷ ps) = prefix_text Ios p
end_text Asa groups (p ∷ []) = prefix_text Asa p
end_text Asa groups (p ∷ q ∷ ps) = group_end groups (p ∷ q ∷ ps)

-- Action, protocol, source and its ports, destination and its ports or ICMP numbers, and the mark of established segments.
unfoldable pub entry_text : Dialect → List (List Cidr) → Line → List ℕ
entry_text dialect groups l =
    action_text l.permit ++ protocol_text l.box ++ end_text dialect groups l.src ++ source_ports l.box ++ codes " " ++ end_text dialect groups l.dst ++ other_ports l.box
    ++ mark_text dialect l.box
