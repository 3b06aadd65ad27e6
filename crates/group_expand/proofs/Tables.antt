-- The tables of hosts and groups.
use Rattle.std.proofs.Common.{◌≡◌, ◌∙◌, ℕ, ◌<◌, ◌≤◌, Bool, true, List, [], ◌∷◌, length, map, refl, sym, ap, arith}
use Rattle.std.specs.Prelude.{Vec}
use Rattle.std.proofs.lemmas.List.{length-map}
use Rattle.spoc_base.specs.declared.ids.HostId.{HostId}
use Rattle.policy_model.specs.Policy.{Policy, ObjectExpr}
use Rattle.policy_model.specs.Zones.{Site}
use Rattle.policy_model.specs.Objects.{Object, group_objects, objects_by, objects_of}
use Rattle.topology.specs.Sound.{IsSound, is_sound_expr}
use Rattle.zone_graph.specs.Grouped.{HasGroups, row_items}
use Rattle.group_expand.specs.Sets.{Tables, AreTables, AreHosts, host_rows, hosts_below, group_set, are_there, rows_seen, object_seen}
use Rattle.group_expand.specs.declared.object.Object as code
use Rattle.group_expand.specs.Groups.{AreFilled}
use Rattle.group_expand.specs.Spread.{marked}
use Rattle.group_expand.proofs.RowFilling.{as_numbers}
use Rattle.group_expand.proofs.GroupOrder.{same_objects, named_there, groups_there}
use Rattle.std.proofs.lemmas.Bool.{cases_lt}
use Rattle.std.proofs.Common.{⊎_elim, zero, suc, slice_index_or, take, drop, ◌++◌, append-nil}
use Rattle.group_expand.proofs.Loops.{nothing_left}

pub hosts_found : {A : Type 0} (p : Policy) (rows : List (Vec HostId A)) → length rows ≡ length p.nets → HasGroups (λ h. h.0) (row_items rows) (hosts_below p (length p.hosts)) → AreHosts p (host_rows rows)
hosts_found {A} p rows long has =
    record {
      each = length-map rows (λ (r : Vec HostId A). map (λ h. h.0) r.items) ∙ long;
      its = λ n h. as_numbers (λ (h : HostId). h.0) rows (hosts_below p (length p.hosts)) n has (omega (arith, h, long));
    }

pub tables_of : (s : Site) (areas : List (List ℕ)) (done : List Bool) (hosts : List (List ℕ)) (groups : List (List Object)) → AreHosts s.policy hosts → AreFilled s areas done groups →
    ((g : ℕ) → g < length s.policy.groups → marked done g ≡ true) → AreTables s areas (record { hosts = hosts; groups = groups })
tables_of s areas done hosts groups are filled all =
    record { hosts = are; each = filled.rows; its = λ g h. filled.its g (length s.policy.groups) (all g h) (omega arith) }

-- the sets of all groups are there
pub members_there : (s : Site) (areas : List (List ℕ)) (tables : Tables) → IsSound s.policy → length s.zones ≡ length s.policy.nets → AreTables s areas tables → (g : ℕ) →
    are_there s.policy (group_set tables.groups g) ≡ true
members_there s areas tables sound each are g =
    ⊎_elim (λ h. ap (are_there s.policy) (are.its g h) ∙ groups_there s areas sound each (length s.policy.groups) g)
    (λ h. ap (are_there s.policy) (past tables.groups g (omega (arith, h, are.each)))) (cases_lt g (length s.policy.groups))
  where
    past : (groups : List (List Object)) (g : ℕ) → length groups ≤ g → slice_index_or groups g [] ≡ []
    past [] zero h = refl
    past [] (suc g) h = refl
    past (x ∷ xs) zero h = absurd (omega (arith, h))
    past (x ∷ xs) (suc g) h = past xs g (omega (arith, h))

-- what stands in the tables is what the definitions say
pub by_tables : (s : Site) (areas : List (List ℕ)) (tables : Tables) (user : List Object) (e : ObjectExpr) → AreTables s areas tables → is_sound_expr s.policy true true e ≡ true →
    objects_by s areas (group_set tables.groups) user e ≡ objects_of s areas user e
by_tables s areas tables user e are sound =
    same_objects s areas (group_set tables.groups) (group_objects s areas (length s.policy.groups)) user e (λ g named. are.its g (named_there s.policy e g sound named))

pub rows_long : {A : Type 0} (rows : List (Vec code.Object A)) → length rows ≡ length (rows_seen rows)
rows_long {A} rows = sym (length-map rows (λ (r : Vec code.Object A). map object_seen r.items))

-- a filled part of a Vec that has all its items is these
pub taken_back : {A : Type 0} (new old : List A) (n : ℕ) → length new ≡ length old → n ≡ length old → take n (new ++ drop (length new) old) ≡ new
taken_back {A} new old n e f =
    ap (λ (l : List A). take n (new ++ l)) (nothing_left old (length new) (omega (arith, e)))
    ∙ (ap (take n) (append-nil new) ∙ all_taken new n (omega (arith, e, f)))
  where
    all_taken : (xs : List A) (n : ℕ) → length xs ≤ n → take n xs ≡ xs
    all_taken [] zero h = refl
    all_taken [] (suc n) h = refl
    all_taken (x ∷ xs) zero h = absurd (omega (arith, h))
    all_taken (x ∷ xs) (suc n) h = ap (λ (l : List A). x ∷ l) (all_taken xs n (omega (arith, h)))
