-- Two trees that are one with a level more are one.
use Rattle.std.proofs.Common.{◌≡◌, ℕ, zero, suc, Bool, List, [], ◌∷◌, Option, Some, None, map, option_map, refl, sym, ap, ◌∙◌}
use Rattle.spoc_parser.specs.Trees.{TermOf, network, host, port, group, aggregate, area, user, nets, hosts, anys, InterOf, SetIn, RuleOf, DeclOf, network_decl, router_decl, group_decl, area_decl, aggregate_decl, protocol_decl, protogroup_decl, restriction_decl, service_decl, DeclIn, ProtoItem}
use Rattle.grammar_laws.specs.Levels.{term_with, further_with, inter_with, no_set, raised, rule_with, decl_with, raised_decl, above, raised_by}

-- g gives back what f changes
abbrev Undoes : {A B : Type 0} → (A → B) → (B → Option A) → Type 0
Undoes {A} f g = (a : A) → g (f a) ≡ Some a

-- one made of two, where there are both
abbrev both : {A B C : Type 0} → (A → B → C) → Option A → Option B → Option C
both make None y = None
both make (Some a) None = None
both make (Some a) (Some b) = Some (make a b)

abbrev each : {A B : Type 0} → (B → Option A) → List B → Option (List A)
each g [] = Some []
each g (b ∷ bs) = both (λ a as'. a ∷ as') (g b) (each g bs)

each_undoes : {A B : Type 0} (f : A → B) (g : B → Option A) → Undoes f g → Undoes (map f) (each g)
each_undoes f g undoes [] = refl
each_undoes f g undoes (a ∷ as') = λ i. both (λ a as'. a ∷ as') (undoes a i) (each_undoes f g undoes as' i)

abbrev perhaps_one : {A B : Type 0} → (B → Option A) → Option B → Option (Option A)
perhaps_one g None = Some None
perhaps_one g (Some b) = option_map Some (g b)

perhaps_undoes : {A B : Type 0} (f : A → B) (g : B → Option A) → Undoes f g → Undoes (option_map f) (perhaps_one g)
perhaps_undoes f g undoes None = refl
perhaps_undoes f g undoes (Some a) = ap (option_map Some) (undoes a)

abbrev term_back : {S T : Type 0} → (T → Option S) → TermOf T → Option (TermOf S)
term_back g (network name) = Some (network name)
term_back g (host name) = Some (host name)
term_back g (port place) = Some (port place)
term_back g (group name) = Some (group name)
term_back g (aggregate name) = Some (aggregate name)
term_back g (area name) = Some (area name)
term_back g user = Some user
term_back g (nets set) = option_map nets (g set)
term_back g (hosts set) = option_map hosts (g set)
term_back g (anys inside set) = option_map (anys inside) (g set)

term_undoes : {S T : Type 0} (f : S → T) (g : T → Option S) → Undoes f g → Undoes (term_with f) (term_back g)
term_undoes f g undoes (network name) = refl
term_undoes f g undoes (host name) = refl
term_undoes f g undoes (port place) = refl
term_undoes f g undoes (group name) = refl
term_undoes f g undoes (aggregate name) = refl
term_undoes f g undoes (area name) = refl
term_undoes f g undoes user = refl
term_undoes f g undoes (nets set) = ap (option_map nets) (undoes set)
term_undoes f g undoes (hosts set) = ap (option_map hosts) (undoes set)
term_undoes f g undoes (anys inside set) = ap (option_map (anys inside)) (undoes set)

abbrev further_of : {T : Type 0} → Bool → T → Bool × T
further_of without t = (without, t)

abbrev further_back : {T U : Type 0} → (U → Option T) → Bool × U → Option (Bool × T)
further_back g t = option_map (further_of t.0) (g t.1)

further_undoes : {T U : Type 0} (f : T → U) (g : U → Option T) → Undoes f g → Undoes (further_with f) (further_back g)
further_undoes f g undoes t = ap (option_map (further_of t.0)) (undoes t.1)

abbrev inter_of : {T : Type 0} → T → List (Bool × T) → InterOf T
inter_of t others = (t, others)

abbrev inter_back : {T U : Type 0} → (U → Option T) → InterOf U → Option (InterOf T)
inter_back g i = both inter_of (g i.0) (each (further_back g) i.1)

inter_undoes : {T U : Type 0} (f : T → U) (g : U → Option T) → Undoes f g → Undoes (inter_with f) (inter_back g)
inter_undoes f g undoes i = λ k. both inter_of (undoes i.0 k) (each_undoes (further_with f) (further_back g) (further_undoes f g undoes) i.1 k)

abbrev no_set_back : SetIn (suc zero) → Option (SetIn zero)
no_set_back set = None

no_set_undoes : Undoes no_set no_set_back
no_set_undoes none = absurd none

abbrev set_back : (depth : ℕ) → SetIn (suc depth) → Option (SetIn depth)
set_back zero = no_set_back
set_back (suc depth) = each (inter_back (term_back (set_back depth)))

set_undoes : (depth : ℕ) → Undoes (raised depth) (set_back depth)
set_undoes zero = no_set_undoes
set_undoes (suc depth) =
    each_undoes (inter_with (term_with (raised depth))) (inter_back (term_back (set_back depth)))
    (inter_undoes (term_with (raised depth)) (term_back (set_back depth)) (term_undoes (raised depth) (set_back depth) (set_undoes depth)))

abbrev rule_of : {S : Type 0} → Bool → List ProtoItem → S → S → RuleOf S
rule_of deny prts src dst = record { deny = deny; src = src; dst = dst; prts = prts }

abbrev rule_back : {S T : Type 0} → (T → Option S) → RuleOf T → Option (RuleOf S)
rule_back g rule = both (rule_of rule.deny rule.prts) (g rule.src) (g rule.dst)

rule_undoes : {S T : Type 0} (f : S → T) (g : T → Option S) → Undoes f g → Undoes (rule_with f) (rule_back g)
rule_undoes f g undoes rule = λ i. both (rule_of rule.deny rule.prts) (undoes rule.src i) (undoes rule.dst i)

abbrev decl_back : {S T : Type 0} → (T → Option S) → DeclOf T → Option (DeclOf S)
decl_back g (network_decl name desc parts) = Some (network_decl name desc parts)
decl_back g (router_decl name desc parts) = Some (router_decl name desc parts)
decl_back g (group_decl name desc objects) = option_map (group_decl name desc) (perhaps_one g objects)
decl_back g (area_decl name desc parts) = Some (area_decl name desc parts)
decl_back g (aggregate_decl name desc parts) = Some (aggregate_decl name desc parts)
decl_back g (protocol_decl name proto notes) = Some (protocol_decl name proto notes)
decl_back g (protogroup_decl name prts) = Some (protogroup_decl name prts)
decl_back g (restriction_decl name desc ports) = Some (restriction_decl name desc ports)
decl_back g (service_decl name desc idle users rules) = both (service_decl name desc idle) (g users) (each (rule_back g) rules)

decl_undoes : {S T : Type 0} (f : S → T) (g : T → Option S) → Undoes f g → Undoes (decl_with f) (decl_back g)
decl_undoes f g undoes (network_decl name desc parts) = refl
decl_undoes f g undoes (router_decl name desc parts) = refl
decl_undoes f g undoes (group_decl name desc objects) = ap (option_map (group_decl name desc)) (perhaps_undoes f g undoes objects)
decl_undoes f g undoes (area_decl name desc parts) = refl
decl_undoes f g undoes (aggregate_decl name desc parts) = refl
decl_undoes f g undoes (protocol_decl name proto notes) = refl
decl_undoes f g undoes (protogroup_decl name prts) = refl
decl_undoes f g undoes (restriction_decl name desc ports) = refl
decl_undoes f g undoes (service_decl name desc idle users rules) = λ i. both (service_decl name desc idle) (undoes users i) (each_undoes (rule_with f) (rule_back g) (rule_undoes f g undoes) rules i)

abbrev or_else : {A : Type 0} → A → Option A → A
or_else a None = a
or_else a (Some b) = b

apart : {A B : Type 0} (f : A → B) (g : B → Option A) → Undoes f g → (a b : A) → f a ≡ f b → a ≡ b
apart f g undoes a b e = ap (or_else a) (sym (undoes a) ∙ ap g e ∙ undoes b)

pub raised_apart : (depth : ℕ) (one other : DeclIn depth) → raised_decl depth one ≡ raised_decl depth other → one ≡ other
raised_apart depth = apart (raised_decl depth) (decl_back (set_back depth)) (decl_undoes (raised depth) (set_back depth) (set_undoes depth))

pub raised_by_apart : (more depth : ℕ) (one other : DeclIn depth) → raised_by more depth one ≡ raised_by more depth other → one ≡ other
raised_by_apart zero depth one other e = e
raised_by_apart (suc more) depth one other e = raised_by_apart more depth one other (raised_apart (above more depth) (raised_by more depth one) (raised_by more depth other) e)
