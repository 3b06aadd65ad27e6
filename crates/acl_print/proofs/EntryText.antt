-- The text of a line is put down part by part.
use Rattle.std.proofs.Common.{◌≡◌, ℕ, List, ◌++◌}
use Rattle.std.specs.Prelude.{codes}
use Rattle.spoc_base.specs.Address.{Cidr}
use Rattle.spoc_base.specs.declared.dialect.Dialect.{Dialect}
use Rattle.policy_model.specs.Filters.{Line}
use Rattle.acl_print.specs.Words.{action_text, protocol_text, source_ports, other_ports, mark_text}
use Rattle.acl_print.specs.Entries.{end_text, entry_text}
use Rattle.acl_print.proofs.Parts.{three, six}

pub entry_is_put : (dialect : Dialect) (groups : List (List Cidr)) (l : Line) (o0 o1 o2 o3 o4 o5 o6 o7 o8 : List ℕ) →
    o1 ≡ o0 ++ action_text l.permit → o2 ≡ o1 ++ protocol_text l.box → o3 ≡ o2 ++ end_text dialect groups l.src → o4 ≡ o3 ++ source_ports l.box →
    o5 ≡ o4 ++ codes " " → o6 ≡ o5 ++ end_text dialect groups l.dst → o7 ≡ o6 ++ other_ports l.box → o8 ≡ o7 ++ mark_text dialect l.box →
    o8 ≡ o0 ++ entry_text dialect groups l
unfolding entry_text
entry_is_put dialect groups l o0 o1 o2 o3 o4 o5 o6 o7 o8 e1 e2 e3 e4 e5 e6 e7 e8 =
    let action = action_text l.permit in
    let protocol = protocol_text l.box in
    let src = end_text dialect groups l.src in
    let ports = source_ports l.box in
    let dst = end_text dialect groups l.dst in
    three o0 o6 o7 o8 (((((action ++ protocol) ++ src) ++ ports) ++ codes " ") ++ dst) (other_ports l.box) (mark_text dialect l.box)
    (six o0 o1 o2 o3 o4 o5 o6 action protocol src ports (codes " ") dst e1 e2 e3 e4 e5 e6)
    e7 e8
