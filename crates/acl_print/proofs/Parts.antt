-- A text is put down part by part.
use Rattle.std.proofs.Common.{◌≡◌, ◌∙◌, ℕ, suc, ◌+◌, ◌<◌, List, ◌∷◌, ◌++◌, length, map, drop, get_or, sym, ap, append_assoc, arith}
use Rattle.std.specs.Prelude.{flat_map}
use Rattle.std.proofs.Math.Seq.{drop-cons}
use Rattle.spoc_base.specs.Address.{Cidr}
use Rattle.dev_config.specs.declared.setup.Port.{Port}
use Rattle.dev_config.specs.declared.setup.List.{List as CodeList}
use Rattle.policy_model.specs.Filters.{Line}
use Rattle.dev_config.specs.Seen.{lines_of}
use Rattle.acl_print.specs.Seen.{PortName, port_seen}
use Rattle.acl_print.specs.Groups.{group_text, groups_text}
use Rattle.acl_print.specs.DeviceText.{each_list}

pub two : (o0 o1 o2 a b : List ℕ) → o1 ≡ o0 ++ a → o2 ≡ o1 ++ b → o2 ≡ o0 ++ (a ++ b)
two o0 o1 o2 a b e1 e2 = e2 ∙ ap (λ o. o ++ b) e1 ∙ append_assoc o0 a b

pub three : (o0 o1 o2 o3 a b c : List ℕ) → o1 ≡ o0 ++ a → o2 ≡ o1 ++ b → o3 ≡ o2 ++ c → o3 ≡ o0 ++ ((a ++ b) ++ c)
three o0 o1 o2 o3 a b c e1 e2 e3 = two o0 o2 o3 (a ++ b) c (two o0 o1 o2 a b e1 e2) e3

pub four : (o0 o1 o2 o3 o4 a b c d : List ℕ) → o1 ≡ o0 ++ a → o2 ≡ o1 ++ b → o3 ≡ o2 ++ c → o4 ≡ o3 ++ d → o4 ≡ o0 ++ (((a ++ b) ++ c) ++ d)
four o0 o1 o2 o3 o4 a b c d e1 e2 e3 e4 = two o0 o3 o4 ((a ++ b) ++ c) d (three o0 o1 o2 o3 a b c e1 e2 e3) e4

pub six : (o0 o1 o2 o3 o4 o5 o6 a b c d e f : List ℕ) →
    o1 ≡ o0 ++ a → o2 ≡ o1 ++ b → o3 ≡ o2 ++ c → o4 ≡ o3 ++ d → o5 ≡ o4 ++ e → o6 ≡ o5 ++ f → o6 ≡ o0 ++ (((((a ++ b) ++ c) ++ d) ++ e) ++ f)
six o0 o1 o2 o3 o4 o5 o6 a b c d e f e1 e2 e3 e4 e5 e6 =
    three o0 o4 o5 o6 (((a ++ b) ++ c) ++ d) e f (four o0 o1 o2 o3 o4 a b c d e1 e2 e3 e4) e5 e6

pub five : (o0 o1 o2 o3 o4 o5 a b c d e : List ℕ) → o1 ≡ o0 ++ a → o2 ≡ o1 ++ b → o3 ≡ o2 ++ c → o4 ≡ o3 ++ d → o5 ≡ o4 ++ e → o5 ≡ o0 ++ ((((a ++ b) ++ c) ++ d) ++ e)
five o0 o1 o2 o3 o4 o5 a b c d e e1 e2 e3 e4 e5 = two o0 o4 o5 (((a ++ b) ++ c) ++ d) e (four o0 o1 o2 o3 o4 a b c d e1 e2 e3 e4) e5

pub seven : (o0 o1 o2 o3 o4 o5 o6 o7 a b c d e f g : List ℕ) →
    o1 ≡ o0 ++ a → o2 ≡ o1 ++ b → o3 ≡ o2 ++ c → o4 ≡ o3 ++ d → o5 ≡ o4 ++ e → o6 ≡ o5 ++ f → o7 ≡ o6 ++ g → o7 ≡ o0 ++ ((((((a ++ b) ++ c) ++ d) ++ e) ++ f) ++ g)
seven o0 o1 o2 o3 o4 o5 o6 o7 a b c d e f g e1 e2 e3 e4 e5 e6 e7 =
    two o0 o6 o7 (((((a ++ b) ++ c) ++ d) ++ e) ++ f) g (six o0 o1 o2 o3 o4 o5 o6 a b c d e f e1 e2 e3 e4 e5 e6) e7

item_first : {A : Type 0} (xs : List A) (k : ℕ) (x : A) → k < length xs → x ≡ get_or xs k x → drop k xs ≡ x ∷ drop (k + 1) xs
item_first xs k x h is =
    let e : suc k ≡ k + 1 = omega arith in
    drop-cons xs k x h ∙ ap (λ m. get_or xs k x ∷ drop m xs) e ∙ ap (λ y. y ∷ drop (k + 1) xs) (sym is)

-- one more item of a loop
pub item_more : {X Y : Type 0} (f : Y → List ℕ) (see : X → Y) (out new all : List ℕ) (k : ℕ) (xs : List X) (x : X) → k < length xs → x ≡ get_or xs k x → new ≡ out ++ f (see x) →
    out ++ flat_map f (map see (drop k xs)) ≡ all → new ++ flat_map f (map see (drop (k + 1) xs)) ≡ all
item_more f see out new all k xs x h is e so_far =
    let rest = flat_map f (map see (drop (k + 1) xs)) in
    ap (λ o. o ++ rest) e ∙ append_assoc out (f (see x)) rest ∙ ap (λ l. out ++ flat_map f (map see l)) (sym (item_first xs k x h is)) ∙ so_far

-- one more group
pub group_more : {G : Type 0} (see : G → List Cidr) (out new all : List ℕ) (k : ℕ) (gs : List G) (g : G) → k < length gs → g ≡ get_or gs k g → new ≡ out ++ group_text k (see g) →
    out ++ groups_text k (map see (drop k gs)) ≡ all → new ++ groups_text (k + 1) (map see (drop (k + 1) gs)) ≡ all
group_more see out new all k gs g h is e so_far =
    let rest = groups_text (k + 1) (map see (drop (k + 1) gs)) in
    ap (λ o. o ++ rest) e ∙ append_assoc out (group_text k (see g)) rest ∙ ap (λ l. out ++ groups_text k (map see l)) (sym (item_first gs k g h is)) ∙ so_far

-- one more interface of a loop over the interfaces and their lists
pub each_more : (text : PortName → List Line → List ℕ) (out new all : List ℕ) (k : ℕ) (ports : List Port) (lists : List CodeList) (p : Port) (l : CodeList) →
    k < length ports → length lists ≡ length ports → p ≡ get_or ports k p → l ≡ get_or lists k l → new ≡ out ++ text (port_seen p) (lines_of l) →
    out ++ each_list text (map port_seen (drop k ports)) (map lines_of (drop k lists)) ≡ all →
    new ++ each_list text (map port_seen (drop (k + 1) ports)) (map lines_of (drop (k + 1) lists)) ≡ all
each_more text out new all k ports lists p l h same is_p is_l e so_far =
    let rest = each_list text (map port_seen (drop (k + 1) ports)) (map lines_of (drop (k + 1) lists)) in
    let within : k < length lists = omega (arith, h, same) in
    let of_p = item_first ports k p h is_p in
    let of_l = item_first lists k l within is_l in
    let here : each_list text (map port_seen (drop k ports)) (map lines_of (drop k lists)) ≡ text (port_seen p) (lines_of l) ++ rest =
    ap (λ ps. each_list text (map port_seen ps) (map lines_of (drop k lists))) of_p ∙ ap (λ ls. each_list text (map port_seen (p ∷ drop (k + 1) ports)) (map lines_of ls)) of_l in
    ap (λ o. o ++ rest) e ∙ append_assoc out (text (port_seen p) (lines_of l)) rest ∙ ap (λ t. out ++ t) (sym here) ∙ so_far
