-- Runs are joined one by one from the top, and what is joined by destinations is joined by sources in the mirror.
use Rattle.std.proofs.Common.{◌≡◌, ℕ, zero, suc, Bool, true, false, cond, List, [], ◌∷◌, ◌++◌, map, take, drop, flat_map, slice_get, IfSome, IfOk, Ok, Err, Result, Vec, Global, refl, sym, ap, ◌∙◌}
use Rattle.std.specs.List.{list_all}
use Rattle.std.proofs.lemmas.Bool.{and_parts, and_from, both_ways, false_from_ne_true}
use Rattle.std.proofs.lemmas.List.{append-nil, append_assoc}
use Rattle.spoc_base.specs.Address.{Cidr, same_prefix}
use Rattle.spoc_base.specs.declared.text.NoMemory.{NoMemory}
use Rattle.policy_model.specs.Lists.{once_each}
use Rattle.policy_model.specs.Filters.{Line}
use Rattle.policy_model.specs.Grouped.{joined_prefixes, share_destinations, with_source_of, with_destination_of, sources_joined, destinations_joined}
use Rattle.list_laws.proofs.Joining.{HeadApart}
use Rattle.list_laws.proofs.Grouping.{by_source, shared_across}
use Rattle.list_laws.proofs.JoiningSteps.{joined_prefixes-assoc}
use Rattle.dev_config.specs.declared.setup.Line.{Line as CodeLine}
use Rattle.dev_config.specs.Seen.{line_of}
use Rattle.object_groups.specs.Runs.{mirrored, run_as_one}

-- ---- repeats

once_twice : (ps : List Cidr) → once_each same_prefix ps ≡ once_each same_prefix (once_each same_prefix ps)
once_twice ps = joined_prefixes-assoc [] [] ps

-- what goes behind may lose its repeats first
once_behind : (ps qs : List Cidr) → once_each same_prefix (ps ++ once_each same_prefix qs) ≡ once_each same_prefix (ps ++ qs)
once_behind ps qs =
    ap (λ r. once_each same_prefix (ps ++ once_each same_prefix r)) (sym (append-nil qs))
    ∙ (sym (joined_prefixes-assoc ps qs [])
    ∙ (ap (once_each same_prefix) (append-nil (once_each same_prefix (ps ++ qs))) ∙ sym (once_twice (ps ++ qs))))

-- ---- what neighbours share

-- a line that can't be joined to the first can't be joined to another of its run
still_apart : (l m k : Line) → share_destinations l m ≡ true → share_destinations l k ≡ false → share_destinations m k ≡ false
still_apart l m k e f =
    false_from_ne_true (share_destinations m k)
    (λ t. both_ways (share_destinations l k) f (shared_across l.permit m.permit k.permit l.box m.box k.box l.dst m.dst k.dst e t))

rest_apart : (l m : Line) (rest : List Line) → share_destinations l m ≡ true → HeadApart share_destinations l rest → HeadApart share_destinations m rest
rest_apart l m [] e h = tt
rest_apart l m (k ∷ rest) e h = still_apart l m k e h

all_like : (l m : Line) (run : List Line) → share_destinations l m ≡ true → list_all (share_destinations l) run ≡ true → list_all (share_destinations m) run ≡ true
all_like l m [] e a = refl
all_like l m (k ∷ run) e a =
    let w = and_parts (share_destinations l k) (list_all (share_destinations l) run) a in
    and_from (share_destinations m k) (list_all (share_destinations m) run) (by_source.both l m k e w.0) (all_like l m run e w.1)

-- ---- a run is taken off

apart_either : (l r m : Line) (lines : List Line) (b : Bool) → share_destinations l r ≡ false →
    HeadApart share_destinations l (cond b (record r { src = joined_prefixes r.src m.src } ∷ lines) (r ∷ m ∷ lines))
apart_either l r m lines true h = h
apart_either l r m lines false h = h

apart_put : (l r : Line) (lines : List Line) → share_destinations l r ≡ false → HeadApart share_destinations l (with_source_of r lines)
apart_put l r [] h = h
apart_put l r (m ∷ lines) h = apart_either l r m lines (share_destinations r m) h

head_apart : (l : Line) (rest : List Line) → HeadApart share_destinations l rest → HeadApart share_destinations l (sources_joined rest)
head_apart l [] h = tt
head_apart l (r ∷ rest) h = apart_put l r (sources_joined rest) h

put_apart : (l : Line) (lines : List Line) → HeadApart share_destinations l lines → with_source_of l lines ≡ l ∷ lines
put_apart l [] h = refl
put_apart l (m ∷ lines) h = ap (λ b. cond b (record l { src = joined_prefixes l.src m.src } ∷ lines) (l ∷ m ∷ lines)) h

put_like : (l m : Line) (more lines : List Line) → share_destinations l m ≡ true → with_source_of l (run_as_one m (m ∷ more) ∷ lines) ≡ run_as_one l (l ∷ m ∷ more) ∷ lines
put_like l m [] lines e =
    ap (λ b. cond b (record l { src = joined_prefixes l.src m.src } ∷ lines) (l ∷ m ∷ lines)) e
    ∙ ap (λ ps. let x : Line = record { permit = l.permit; src = once_each same_prefix (l.src ++ ps); dst = l.dst; box = l.box } in x ∷ lines) (sym (append-nil m.src))
put_like l m (k ∷ more) lines e =
    let ps = m.src ++ flat_map (λ x. x.src) (k ∷ more) in
    ap (λ b. cond b (record l { src = joined_prefixes l.src (once_each same_prefix ps) } ∷ lines) (l ∷ run_as_one m (m ∷ k ∷ more) ∷ lines)) e
    ∙ ap (λ qs. let x : Line = record { permit = l.permit; src = qs; dst = l.dst; box = l.box } in x ∷ lines) (once_behind l.src ps)

pub run_taken : (l : Line) (run rest : List Line) → list_all (share_destinations l) run ≡ true → HeadApart share_destinations l rest →
    sources_joined (l ∷ run ++ rest) ≡ run_as_one l (l ∷ run) ∷ sources_joined rest
run_taken l [] rest a h = put_apart l (sources_joined rest) (head_apart l rest h)
run_taken l (m ∷ run) rest a h =
    let w = and_parts (share_destinations l m) (list_all (share_destinations l) run) a in
    ap (with_source_of l) (run_taken m run rest (all_like l m run w.0 w.1) (rest_apart l m rest w.0 h)) ∙ put_like l m run (sources_joined rest) w.0

-- ---- the lines of the program

seen_all : (l : Line) (xs : List CodeLine) → list_all (λ m. share_destinations l (line_of m)) xs ≡ true → list_all (share_destinations l) (map line_of xs) ≡ true
seen_all l [] a = refl
seen_all l (x ∷ xs) a =
    let w = and_parts (share_destinations l (line_of x)) (list_all (λ m. share_destinations l (line_of m)) xs) a in
    and_from (share_destinations l (line_of x)) (list_all (share_destinations l) (map line_of xs)) w.0 (seen_all l xs w.1)

seen_apart : (l : Line) (xs : List CodeLine) (n : ℕ) → IfSome (slice_get xs n) (λ m. share_destinations l (line_of m) ≡ false) → HeadApart share_destinations l (map line_of (drop n xs))
seen_apart l [] zero h = tt
seen_apart l [] (suc n) h = tt
seen_apart l (x ∷ xs) zero h = h
seen_apart l (x ∷ xs) (suc n) h = seen_apart l xs n h

map_cut : (xs : List CodeLine) (n : ℕ) → map line_of xs ≡ map line_of (take n xs) ++ map line_of (drop n xs)
map_cut [] zero = refl
map_cut [] (suc n) = refl
map_cut (x ∷ xs) zero = refl
map_cut (x ∷ xs) (suc n) = ap (λ ys. line_of x ∷ ys) (map_cut xs n)

first_joined : (x : CodeLine) (xs : List CodeLine) (n : ℕ) → list_all (λ m. share_destinations (line_of x) (line_of m)) (take n xs) ≡ true →
    IfSome (slice_get xs n) (λ m. share_destinations (line_of x) (line_of m) ≡ false) →
    sources_joined (map line_of (x ∷ xs)) ≡ run_as_one (line_of x) (map line_of (take (suc n) (x ∷ xs))) ∷ sources_joined (map line_of (drop (suc n) (x ∷ xs)))
first_joined x xs n a h =
    ap (λ ys. sources_joined (line_of x ∷ ys)) (map_cut xs n)
    ∙ run_taken (line_of x) (map line_of (take n xs)) (map line_of (drop n xs)) (seen_all (line_of x) (take n xs) a) (seen_apart (line_of x) xs n h)

-- a run more: its line stands behind those so far
run_behind : (lines rest : List CodeLine) (x : CodeLine) (xs : List CodeLine) (n : ℕ) (done now : List Line) (line : Line) →
    list_all (λ m. share_destinations (line_of x) (line_of m)) (take n xs) ≡ true → IfSome (slice_get xs n) (λ m. share_destinations (line_of x) (line_of m) ≡ false) →
    rest ≡ drop (suc n) (x ∷ xs) → line ≡ run_as_one (line_of x) (map line_of (take (suc n) (x ∷ xs))) → now ≡ done ++ mirrored line ∷ [] →
    done ++ map mirrored (sources_joined (map line_of (x ∷ xs))) ≡ map mirrored (sources_joined (map line_of lines)) →
    now ++ map mirrored (sources_joined (map line_of rest)) ≡ map mirrored (sources_joined (map line_of lines))
run_behind lines rest x xs n done now line a h e_rest e_line grown so_far =
    let tail = map mirrored (sources_joined (map line_of rest)) in
    ap (λ ys. ys ++ tail) grown
    ∙ (append_assoc done (mirrored line ∷ []) tail
    ∙ (ap (λ ys. done ++ ys)
    (ap (λ r. mirrored line ∷ map mirrored (sources_joined (map line_of r))) e_rest
    ∙ (ap (λ y. mirrored y ∷ map mirrored (sources_joined (map line_of (drop (suc n) (x ∷ xs))))) e_line ∙ ap (map mirrored) (sym (first_joined x xs n a h))))
    ∙ so_far))

pub run_more : (lines left rest : List CodeLine) (x : CodeLine) (xs : List CodeLine) (n k : ℕ) (done now : List Line) (line : Line) → left ≡ x ∷ xs → k ≡ suc n →
    list_all (λ m. share_destinations (line_of x) (line_of m)) (take n xs) ≡ true → IfSome (slice_get xs n) (λ m. share_destinations (line_of x) (line_of m) ≡ false) →
    rest ≡ drop k left → line ≡ run_as_one (line_of x) (map line_of (take k left)) → now ≡ done ++ mirrored line ∷ [] →
    done ++ map mirrored (sources_joined (map line_of left)) ≡ map mirrored (sources_joined (map line_of lines)) →
    now ++ map mirrored (sources_joined (map line_of rest)) ≡ map mirrored (sources_joined (map line_of lines))
run_more lines left rest x xs n k done now line split count a h e_rest e_line grown so_far =
    run_behind lines rest x xs n done now line a h (e_rest ∙ (ap (λ m. drop m left) count ∙ ap (drop (suc n)) split))
    (e_line ∙ (ap (λ m. run_as_one (line_of x) (map line_of (take m left))) count ∙ ap (λ ys. run_as_one (line_of x) (map line_of (take (suc n) ys))) split)) grown
    (ap (λ ys. done ++ map mirrored (sources_joined (map line_of ys))) (sym split) ∙ so_far)

-- ---- the mirror

mirrored_either : (l m : Line) (lines : List Line) (b : Bool) →
    cond b (record (mirrored l) { dst = joined_prefixes l.src m.src } ∷ map mirrored lines) (mirrored l ∷ mirrored m ∷ map mirrored lines)
    ≡ map mirrored (cond b (record l { src = joined_prefixes l.src m.src } ∷ lines) (l ∷ m ∷ lines))
mirrored_either l m lines true = refl
mirrored_either l m lines false = refl

mirrored_put : (l : Line) (lines : List Line) → with_destination_of (mirrored l) (map mirrored lines) ≡ map mirrored (with_source_of l lines)
mirrored_put l [] = refl
mirrored_put l (m ∷ lines) = mirrored_either l m lines (share_destinations l m)

mirrored_joined : (lines : List Line) → destinations_joined (map mirrored lines) ≡ map mirrored (sources_joined lines)
mirrored_joined [] = refl
mirrored_joined (l ∷ lines) = ap (with_destination_of (mirrored l)) (mirrored_joined lines) ∙ mirrored_put l (sources_joined lines)

mirrored_twice : (lines : List Line) → map mirrored (map mirrored lines) ≡ lines
mirrored_twice [] = refl
mirrored_twice (l ∷ lines) = ap (λ ys. l ∷ ys) (mirrored_twice lines)

joined_twice : (lines once twice : List Line) → once ≡ map mirrored (sources_joined lines) → twice ≡ map mirrored (sources_joined once) → twice ≡ destinations_joined (sources_joined lines)
joined_twice lines once twice e f =
    f ∙ (sym (mirrored_joined once) ∙ (ap (λ ys. destinations_joined (map mirrored ys)) e ∙ ap destinations_joined (mirrored_twice (sources_joined lines))))

-- joined and mirrored twice, where memory is there
pub if_joined_twice : (lines once seen : List CodeLine) (r : Result (Vec CodeLine Global) NoMemory) → map line_of once ≡ map mirrored (sources_joined (map line_of lines)) → seen ≡ once →
    IfOk r (λ twice. map line_of twice.items ≡ map mirrored (sources_joined (map line_of seen))) → IfOk r (λ twice. map line_of twice.items ≡ destinations_joined (sources_joined (map line_of lines)))
if_joined_twice lines once seen (Ok twice) e f h =
    joined_twice (map line_of lines) (map line_of once) (map line_of twice.items) e (h ∙ ap (λ xs. map mirrored (sources_joined (map line_of xs))) f)
if_joined_twice lines once seen (Err x) e f h = tt
