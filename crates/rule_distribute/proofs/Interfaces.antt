-- Interface by interface: what is placed there.
use Rattle.std.proofs.Common.{◌≡◌, ◌∙◌, ℕ, ◌+◌, ◌<◌, ◌≤◌, List, [], ◌∷◌, ◌++◌, length, map, take, refl, sym, ap, subst, get_or}
use Rattle.std.proofs.lemmas.List.{take_all, map_push, map_more}
use Rattle.spoc_base.specs.declared.ids.IfId.{IfId}
use Rattle.policy_model.specs.Policy.{Policy, router_at, is_managed, all_ifaces}
use Rattle.policy_model.specs.Zones.{Site}
use Rattle.policy_model.specs.Tags.{Views}
use Rattle.policy_model.specs.Permits.{Permit}
use Rattle.policy_model.specs.Blocks.{Block, placement}
use Rattle.policy_model.proofs.AllWalks.{IsIn, in_map}
use Rattle.list_laws.proofs.Members.{from_filter}
use Rattle.rule_distribute.specs.Distributed.{managed_ifaces}
use Rattle.rule_distribute.proofs.Rising.{contains_in}
use Rattle.rule_distribute.proofs.Concerns.{below_count}

map_twice : {A B C : Type 0} (f : B → C) (g : A → B) (xs : List A) → map f (map g xs) ≡ map (λ x. f (g x)) xs
map_twice f g [] = refl
map_twice f g (x ∷ xs) = ap (λ ys. f (g x) ∷ ys) (map_twice f g xs)

-- ---- what is placed

pub id_below : (p : Policy) (ids : List IfId) (k : ℕ) (x : IfId) → map (λ i. i.0) ids ≡ managed_ifaces p → k < length ids → x ≡ get_or ids k x → x.0 < length p.ifaces
id_below p ids k x e below is =
    let i = subst (IsIn x.0) e (in_map (λ (i : IfId). i.0) x ids (contains_in ids x (k, below, sym is))) in
    below_count (length p.ifaces) x.0 (from_filter (λ i. is_managed p (router_at p i)) x.0 (all_ifaces p) i).0

pub tuple_same : {A : Type 0} {a b : ℕ} {x y : A} → a ≡ b → x ≡ y → ◌≡◌ {A = ℕ × A} (a, x) (b, y)
tuple_same {A} {a} {b} {x} {y} e f = ap (λ (n : ℕ). let r : ℕ × A = (n, x) in r) e ∙ ap (λ (z : A). let r : ℕ × A = (b, z) in r) f

-- one interface more
pub one_placed : {A : Type 0} (s : Site) (v : Views) (permits : List Permit) (seen : A → ℕ × List Block) (old : List A) (place : A) (ids : List IfId) (k : ℕ) (x : IfId) → k < length ids → x ≡ get_or ids k x →
    ◌≡◌ {A = ℕ × List Block} (seen place) (x.0, placement s v permits x.0) → map seen old ≡ map {B = ℕ × List Block} (λ i. (i.0, placement s v permits i.0)) (take k ids) →
    map seen (old ++ place ∷ []) ≡ map {B = ℕ × List Block} (λ i. (i.0, placement s v permits i.0)) (take (k + 1) ids)
one_placed {A} s v permits seen old place ids k x below is e so_far =
    let f : IfId → ℕ × List Block = λ (i : IfId). (i.0, placement s v permits i.0) in
    map_push seen old place
    ∙ (ap (λ ys. ys ++ seen place ∷ []) so_far
    ∙ (ap (λ y. map f (take k ids) ++ y ∷ []) (e ∙ ap f is)
    ∙ sym (map_more f ids k x below)))

pub all_placed : (s : Site) (v : Views) (permits : List Permit) (ids : List IfId) (k : ℕ) → length ids ≤ k → map (λ i. i.0) ids ≡ managed_ifaces s.policy →
    map {B = ℕ × List Block} (λ i. (i.0, placement s v permits i.0)) (take k ids) ≡ map {B = ℕ × List Block} (λ i. (i, placement s v permits i)) (managed_ifaces s.policy)
all_placed s v permits ids k past e =
    let g : ℕ → ℕ × List Block = λ (i : ℕ). (i, placement s v permits i) in
    ap (map (λ (i : IfId). g i.0)) (take_all k ids past) ∙ (sym (map_twice g (λ (i : IfId). i.0) ids) ∙ ap (map g) e)
