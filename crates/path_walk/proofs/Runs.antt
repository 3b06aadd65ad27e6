-- Pairs side by side that come from the same zone.
use Rattle.std.proofs.Common.{◌≡◌, ℕ, suc, ◌+◌, ◌-◌, ◌<◌, List, [], ◌∷◌, ◌++◌, length, map, take, drop, get_or, refl, sym, ap, subst, ◌∙◌, arith, length-append}
use Rattle.std.proofs.lemmas.List.{append_assoc, map-append, take_more, take_all, take-append-drop, length-drop}
use Rattle.spoc_base.specs.declared.ids.ZoneId.{ZoneId}
use Rattle.policy_model.specs.Zones.{Site}
use Rattle.zone_graph.specs.declared.marks.PairMarks.{PairMarks}
use Rattle.path_walk.specs.Tables.{table_seen, table_between, table_of, pair_from}

-- the first pair, and the first k behind it, come from one zone
pub record IsRun (first : ZoneId × ZoneId) (rest : List (ZoneId × ZoneId)) (zones : List ZoneId) (k : ℕ) : Type 0 where
  pub count : length zones ≡ k + 1
  pub pairs : map (pair_from first.0) zones ≡ first ∷ take k rest

pub run_first : (first : ZoneId × ZoneId) (rest : List (ZoneId × ZoneId)) (none zones : List ZoneId) → none ≡ [] → zones ≡ none ++ first.1 ∷ [] → IsRun first rest zones 0
run_first first rest none zones e grown = subst (λ (l : List ZoneId). IsRun first rest l 0) (sym (grown ∙ ap (λ l. l ++ first.1 ∷ []) e)) (record { count = refl; pairs = refl })

same_zone : (x y : ZoneId) → x.0 ≡ y.0 → x ≡ y
same_zone x y e = ap (λ (n : ℕ). record { 0 = n }) e

pub run_more : (first : ZoneId × ZoneId) (rest : List (ZoneId × ZoneId)) (zones new : List ZoneId) (k : ℕ) (d : ZoneId × ZoneId) → k < length rest → IsRun first rest zones k →
    (get_or rest k d).0.0 ≡ first.0.0 → new ≡ zones ++ (get_or rest k d).1 ∷ [] → IsRun first rest new (k + 1)
run_more first rest zones new k d below run same grown =
    subst (λ l. IsRun first rest l (k + 1)) (sym grown)
    (record {
      count = omega (arith, length-append zones ((get_or rest k d).1 ∷ []), run.count);
      pairs = map-append (pair_from first.0) zones ((get_or rest k d).1 ∷ [])
          ∙ (ap (λ l. l ++ (first.0, (get_or rest k d).1) ∷ []) run.pairs
          ∙ (ap (λ (z : ZoneId). first ∷ (take k rest ++ (z, (get_or rest k d).1) ∷ [])) (sym (same_zone (get_or rest k d).0 first.0 same))
          ∙ ap (λ l. first ∷ l) (sym (take_more rest k d below))));
    })

pub run_is : (first : ZoneId × ZoneId) (rest : List (ZoneId × ZoneId)) (zones : List ZoneId) (k : ℕ) → IsRun first rest zones k → map (pair_from first.0) zones ≡ take (length zones) (first ∷ rest)
run_is first rest zones k run = let long : length zones ≡ suc k = omega (arith, run.count) in run.pairs ∙ ap (λ n. take n (first ∷ rest)) (sym long)

-- ---- tables, run after run

of_run : (s : Site) (from : ZoneId) (zones : List ZoneId) → map (table_between s from.0) zones ≡ map (table_of s) (map (pair_from from) zones)
of_run s from [] = refl
of_run s from (z ∷ zones) = ap (λ l. table_between s from.0 z ∷ l) (of_run s from zones)

pub tables_more : (s : Site) (pairs left rest : List (ZoneId × ZoneId)) (tables found new : List PairMarks) (from : ZoneId) (zones : List ZoneId) →
    map table_seen tables ++ map (table_of s) left ≡ map (table_of s) pairs → map table_seen found ≡ map (table_between s from.0) zones → map (pair_from from) zones ≡ take (length zones) left →
    new ≡ tables ++ found → rest ≡ drop (length zones) left → map table_seen new ++ map (table_of s) rest ≡ map (table_of s) pairs
tables_more s pairs left rest tables found new from zones old e run grown further =
    let n = length zones in
    let f = table_of s in
    ap (λ l. map table_seen l ++ map f rest) grown
    ∙ (ap (λ l. map table_seen (tables ++ found) ++ map f l) further
    ∙ (ap (λ l. l ++ map f (drop n left)) (map-append table_seen tables found)
    ∙ (append_assoc (map table_seen tables) (map table_seen found) (map f (drop n left))
    ∙ (ap (λ l. map table_seen tables ++ (l ++ map f (drop n left))) (e ∙ (of_run s from zones ∙ ap (λ l. map f l) run))
    ∙ (ap (λ l. map table_seen tables ++ l) (sym (map-append f (take n left) (drop n left)) ∙ ap (λ l. map f l) (take-append-drop n left))
    ∙ old)))))

-- the same, where what is left is cut off behind the run
pub tables_cut : (s : Site) (pairs left : List (ZoneId × ZoneId)) (first : ZoneId × ZoneId) (behind : List (ZoneId × ZoneId)) (tables found new : List PairMarks) (zones : List ZoneId) (n : ℕ) → left ≡ first ∷ behind →
    map table_seen tables ++ map (table_of s) left ≡ map (table_of s) pairs → map table_seen found ≡ map (table_between s first.0.0) zones → map (pair_from first.0) zones ≡ take (length zones) (first ∷ behind) →
    new ≡ tables ++ found → n ≡ length zones → map table_seen new ++ map (table_of s) (take (length left - n) (drop n left)) ≡ map (table_of s) pairs
tables_cut s pairs left first behind tables found new zones n split old e run grown count =
    tables_more s pairs left (take (length left - n) (drop n left)) tables found new first.0 zones old e (run ∙ ap (λ l. take (length zones) l) (sym split)) grown
    (take_all (length left - n) (drop n left) (omega (arith, length-drop n left)) ∙ ap (λ k. drop k left) count)
