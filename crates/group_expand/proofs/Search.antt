-- How a search goes on.
use Rattle.std.proofs.Common.{◌≡◌, ◌≢◌, ℕ, ◌+◌, ◌<◌, Bool, true, false, not, cond, ◌&&◌, ◌||◌, List, [], ◌∷◌, ◌++◌, length, set, refl, sym, ap, subst, ◌∙◌, ⊎_elim, arith, drop, ◌≤◌}
use Rattle.std.specs.Prelude.{◌==◌, ◌↔◌, nat_lt, filter, slice_index}
use Rattle.std.specs.List.{list_all}
use Rattle.std.proofs.lemmas.Bool.{and_parts, and_from, cases_eq, cases_Bool, eq-eqb, ne_eqb, eqb-true, false≢true, lt-ltb}
use Rattle.std.proofs.lemmas.List.{length-append}
use Rattle.policy_model.specs.Lists.{has, numbers_below}
use Rattle.policy_model.proofs.Tested.{Reaches-stays, crossing_below}
use Rattle.policy_model.specs.Policy.{Policy, router_at, is_managed}
use Rattle.policy_model.specs.Paths.{Crossing, Reaches, leads, is_through_router, crosses_managed}
use Rattle.policy_model.specs.Zones.{Site, zone_at}
use Rattle.group_expand.specs.Spread.{marked, Grows, IsSearch, Goes, GoesBy, Spreads, SeesRouter, SeesRow, is_open, inside_marks}
use Rattle.group_expand.proofs.Rows.{standing, left_of, none_left}
use Rattle.group_expand.proofs.Marks.{set_grows, set_marks, set_only, set_again, set_once, has_front, has_end, has_either, has_not}

module _ (allowed : Crossing → Bool) (at : ℕ → ℕ) where
  all_and_one : (p : List Crossing) (c : Crossing) → list_all allowed p ≡ true → allowed c ≡ true → list_all allowed (p ++ c ∷ []) ≡ true
  all_and_one [] c h one = and_from (allowed c) true one refl
  all_and_one (d ∷ p) c h one =
      let a = and_parts (allowed d) (list_all allowed p) h in and_from (allowed d) (list_all allowed (p ++ c ∷ [])) a.0 (all_and_one p c a.1 one)

  leads_further : (p : List Crossing) (c : Crossing) (from mid : ℕ) → leads at from p mid ≡ true → at c.enter ≡ mid → leads at from (p ++ c ∷ []) (at c.leave) ≡ true
  leads_further [] c from mid h e =
      and_from (at c.enter == from) (at c.leave == at c.leave) (eq-eqb (at c.enter) from (e ∙ sym (eqb-true from mid h))) (eq-eqb (at c.leave) (at c.leave) refl)
  leads_further (d ∷ p) c from mid h e =
      let a = and_parts (at d.enter == from) (leads at (at d.leave) p mid) h in
      and_from (at d.enter == from) (leads at (at d.leave) (p ++ c ∷ []) (at c.leave)) a.0 (leads_further p c (at d.leave) mid a.1 e)

  pub reaches_further : (from mid : ℕ) (c : Crossing) → Reaches allowed at from mid → allowed c ≡ true → at c.enter ≡ mid → Reaches allowed at from (at c.leave)
  reaches_further from mid c r one e =
      record { path = r.path ++ c ∷ []; crossings = all_and_one r.path c r.crossings one; ends = leads_further r.path c from mid r.ends e }

module _ (s : Site) (marks : List Bool) where
  abbrev p : Policy
  p = s.policy

  -- the crossing between two open interfaces of one router
  pub crosses : (i j : ℕ) → i < length p.ifaces → j < length p.ifaces → router_at p i ≡ router_at p j → is_open p marks i ≡ true → is_open p marks j ≡ true →
      inside_marks p marks (record { enter = i; leave = j }) ≡ true
  crosses i j hi hj same oi oj =
      let a = and_parts (is_managed p (router_at p i)) (not (marked marks i)) oi in
      let b = and_parts (is_managed p (router_at p j)) (not (marked marks j)) oj in
      let c : Crossing = record { enter = i; leave = j } in
      and_from (crosses_managed p c && not (marked marks i)) (not (marked marks j))
      (and_from (crosses_managed p c) (not (marked marks i))
      (and_from (is_through_router p c) (is_managed p (router_at p i))
      (and_from (nat_lt i (length p.ifaces) && nat_lt j (length p.ifaces)) (router_at p i == router_at p j)
      (and_from (nat_lt i (length p.ifaces)) (nat_lt j (length p.ifaces)) (lt-ltb i (length p.ifaces) hi) (lt-ltb j (length p.ifaces) hj))
      (eq-eqb (router_at p i) (router_at p j) same)) a.0) a.1) b.1

  -- nothing done
  pub stays : (from : ℕ) (seen : List Bool) (left : List ℕ) → GoesBy s marks from seen left seen left
  stays from seen left passed ahead = record { grows = λ n h. h; work = refl; keeps = λ start here old. old }

  -- one thing done after another
  pub goes_on : (from : ℕ) (seen passed mid_seen mid_passed new_seen new_passed : List Bool) (left ahead mid_left mid_ahead new_left new_ahead : List ℕ) →
      Goes s marks from seen passed left ahead mid_seen mid_passed mid_left mid_ahead → Goes s marks from mid_seen mid_passed mid_left mid_ahead new_seen new_passed new_left new_ahead →
      Goes s marks from seen passed left ahead new_seen new_passed new_left new_ahead
  goes_on from seen passed mid_seen mid_passed new_seen new_passed left ahead mid_left mid_ahead new_left new_ahead a b =
      record { grows = λ n h. b.grows n (a.grows n h); work = b.work ∙ a.work; keeps = λ start here old. b.keeps start (a.grows from here) (a.keeps start here old) }

  -- a zone seen already is visited
  pub visited_again : (from z : ℕ) (seen new : List Bool) (left more : List ℕ) → z < length seen → marked seen z ≡ true → new ≡ set seen z true → more ≡ left →
      GoesBy s marks from seen left new more
  visited_again from z seen new left more there here e f passed ahead =
      subst (λ (n : List Bool). Goes s marks from seen passed left ahead n passed more ahead) (sym e)
      (subst (λ (m : List ℕ). Goes s marks from seen passed left ahead (set seen z true) passed m ahead) (sym f)
      (record {
        grows = set_grows seen z there;
        work = ap (λ k. k + length left) (set_again seen z here);
        keeps = λ start at old. let back = λ (n : ℕ) (h : marked (set seen z true) n ≡ true). was n h in
            record {
              sound = λ n h. old.sound n (was n h);
              started = set_grows seen z there start old.started;
              queued = λ n h. set_grows seen z there n (old.queued n h);
              behind = λ j hj o q. set_grows seen z there (zone_at s j) (old.behind j hj o q);
              pending = λ i hi o h l a. old.pending i hi o (was (zone_at s i) h) l a;
            };
      }))
    where
      was : (n : ℕ) → marked (set seen z true) n ≡ true → marked seen n ≡ true
      was n h = ⊎_elim (λ e. subst (λ (k : ℕ). marked seen k ≡ true) (sym e) here) (λ ne. set_only seen z n ne h) (cases_eq n z)

  -- a zone is visited for the first time
  pub visited_first : (i j z : ℕ) (seen new : List Bool) (left more : List ℕ) → z < length seen → marked seen z ≡ false → new ≡ set seen z true → more ≡ left ++ z ∷ [] →
      inside_marks p marks (record { enter = i; leave = j }) ≡ true → z ≡ zone_at s j → GoesBy s marks (zone_at s i) seen left new more
  visited_first i j z seen new left more there none e f crossing is passed ahead =
      subst (λ (n : List Bool). Goes s marks (zone_at s i) seen passed left ahead n passed more ahead) (sym e)
      (subst (λ (m : List ℕ). Goes s marks (zone_at s i) seen passed left ahead (set seen z true) passed m ahead) (sym f)
      (record {
        grows = set_grows seen z there;
        work = let one = set_once seen z there none in let long = length-append left (z ∷ []) in omega (arith, one, long);
        keeps = λ start at old. record {
          sound = λ n h. ⊎_elim
              (λ e. subst (λ (k : ℕ). Spreads s marks start k) (sym (e ∙ is))
              (reaches_further (inside_marks p marks) (zone_at s) start (zone_at s i) (record { enter = i; leave = j }) (old.sound (zone_at s i) at) crossing refl))
              (λ ne. old.sound n (set_only seen z n ne h)) (cases_eq n z);
          started = set_grows seen z there start old.started;
          queued = λ n h. ⊎_elim (λ e. subst (λ (k : ℕ). marked (set seen z true) k ≡ true) (sym e) (set_marks seen z there))
              (λ ne. set_grows seen z there n (old.queued n (has_either left z n h ne))) (cases_eq n z);
          behind = λ j hj o q. set_grows seen z there (zone_at s j) (old.behind j hj o q);
          pending = λ k hk o h l a. ⊎_elim (λ e. absurd (false≢true (sym l ∙ subst (λ (x : ℕ). has (left ++ z ∷ []) x ≡ true) (sym e) (has_end left z))))
              (λ ne. old.pending k hk o (set_only seen z (zone_at s k) ne h) (has_not left z (zone_at s k) l) a) (cases_eq (zone_at s k) z);
        };
      }))

  pub visited : (i j z : ℕ) (seen new : List Bool) (left more : List ℕ) → z < length seen → new ≡ set seen z true → more ≡ cond (marked seen z) left (left ++ z ∷ []) →
      i < length p.ifaces → j < length p.ifaces → router_at p i ≡ router_at p j → is_open p marks i ≡ true → marked marks j ≡ false → z ≡ zone_at s j →
      GoesBy s marks (zone_at s i) seen left new more
  visited i j z seen new left more there e f hi hj same oi unmarked is =
      ⊎_elim (λ t. visited_again (zone_at s i) z seen new left more there t e (f ∙ ap (λ (b : Bool). cond b left (left ++ z ∷ [])) t))
      (λ n. visited_first i j z seen new left more there n e (f ∙ ap (λ (b : Bool). cond b left (left ++ z ∷ [])) n) (crosses i j hi hj same oi open_j) is)
      (cases_Bool (marked seen z))
    where
      managed_j : is_managed p (router_at p j) ≡ true
      managed_j = subst (λ (r : ℕ). is_managed p r ≡ true) same (and_parts (is_managed p (router_at p i)) (not (marked marks i)) oi).0

      open_j : is_open p marks j ≡ true
      open_j = and_from (is_managed p (router_at p j)) (not (marked marks j)) managed_j (ap not unmarked)

  -- one interface of a router more
  pub row_on : (seen new : List Bool) (row : List ℕ) (k i : ℕ) → Grows seen new → SeesRow s marks seen row k → i ≡ slice_index row k →
      (is_open p marks i ≡ true → marked new (zone_at s i) ≡ true) → SeesRow s marks new row (k + 1)
  row_on seen new row k i grows old is here j hj o =
      ⊎_elim (λ e. let at : i ≡ slice_index row j = is ∙ ap (λ (x : ℕ). slice_index row x) (sym e) in
      subst (λ (x : ℕ). marked new (zone_at s x) ≡ true) at (here (subst (λ (x : ℕ). is_open p marks x ≡ true) (sym at) o)))
      (λ ne. grows (zone_at s (slice_index row j)) (old j (omega (arith, hj, ne)) o)) (cases_eq j k)

  -- all interfaces of a router
  pub row_whole : (seen : List Bool) (row : List ℕ) (k r : ℕ) → row ≡ filter (λ i. router_at p i == r) (numbers_below (length p.ifaces)) → length row ≤ k →
      SeesRow s marks seen row k → SeesRouter s marks seen r
  row_whole seen row k r e long old j hj o same =
      let w = standing (λ i. router_at p i == r) (length p.ifaces) j hj (eq-eqb (router_at p j) r same) in
      let below : w.0 < length row = subst (λ (xs : List ℕ). w.0 < length xs) (sym e) w.1 in
      let at : slice_index row w.0 ≡ j = ap (λ (xs : List ℕ). slice_index xs w.0) e ∙ w.2 in
      subst (λ (x : ℕ). marked seen (zone_at s x) ≡ true) at (old w.0 (omega (arith, below, long)) (subst (λ (x : ℕ). is_open p marks x ≡ true) (sym at) o))

  -- a router is passed
  pub passed_on : (i r : ℕ) (seen passed new : List Bool) (left more : List ℕ) → r < length passed → router_at p i ≡ r → GoesBy s marks (zone_at s i) seen left new more →
      SeesRouter s marks new r → (ahead : List ℕ) → Goes s marks (zone_at s i) seen passed left (i ∷ ahead) new (set passed r true) more ahead
  passed_on i r seen passed new left more there its by sees ahead =
      let whole = by passed (i ∷ ahead) in
      record {
        grows = whole.grows;
        work = whole.work;
        keeps = λ start here old. let w = whole.keeps start here old in
            record {
              sound = w.sound;
              started = w.started;
              queued = w.queued;
              behind = λ j hj o q. ⊎_elim (λ e. sees j hj o e) (λ ne. w.behind j hj o (set_only passed r (router_at p j) ne q)) (cases_eq (router_at p j) r);
              pending = λ k hk o h l a. ⊎_elim
                  (λ e. subst (λ (x : ℕ). marked (set passed r true) x ≡ true) (sym (ap (router_at p) e ∙ its)) (set_marks passed r there))
                  (λ ne. set_grows passed r there (router_at p k) (w.pending k hk o h l (not_ahead k a ne))) (cases_eq k i);
            };
      }
    where
      not_ahead : (k : ℕ) → has ahead k ≡ false → k ≢ i → has (i ∷ ahead) k ≡ false
      not_ahead k a ne = ap (λ (b : Bool). b || has ahead k) (ne_eqb i k (λ e. ne (sym e))) ∙ a

  -- a zone is taken from those left
  pub popped : (start z : ℕ) (seen passed : List Bool) (left rest doors : List ℕ) → left ≡ rest ++ z ∷ [] →
      ((i : ℕ) → i < length p.ifaces → is_managed p (router_at p i) ≡ true → zone_at s i ≡ z → has doors i ≡ true) →
      IsSearch s marks start seen passed left [] → IsSearch s marks start seen passed rest doors
  popped start z seen passed left rest doors e all old =
      record {
        sound = old.sound;
        started = old.started;
        queued = λ n h. old.queued n (subst (λ (xs : List ℕ). has xs n ≡ true) (sym e) (has_front rest z n h));
        behind = old.behind;
        pending = λ i hi o h l a. old.pending i hi o h (subst (λ (xs : List ℕ). has xs (zone_at s i) ≡ false) (sym e) (not_left i hi o l a)) refl;
      }
    where
      not_left : (i : ℕ) → i < length p.ifaces → is_open p marks i ≡ true → has rest (zone_at s i) ≡ false → has doors i ≡ false → has (rest ++ z ∷ []) (zone_at s i) ≡ false
      not_left i hi o l a =
          ⊎_elim
          (λ t. ⊎_elim (λ e. absurd (false≢true (sym a ∙ all i hi (and_parts (is_managed p (router_at p i)) (not (marked marks i)) o).0 e)))
          (λ ne. absurd (false≢true (sym l ∙ has_either rest z (zone_at s i) t ne))) (cases_eq (zone_at s i) z))
          (λ f. f) (cases_Bool (has (rest ++ z ∷ []) (zone_at s i)))

  pub last_seen : (start z : ℕ) (seen passed : List Bool) (left rest : List ℕ) → left ≡ rest ++ z ∷ [] → IsSearch s marks start seen passed left [] → marked seen z ≡ true
  last_seen start z seen passed left rest e old = old.queued z (subst (λ (xs : List ℕ). has xs z ≡ true) (sym e) (has_end rest z))

  -- the search begins
  pub begun : (start : ℕ) (none new passed : List Bool) (left : List ℕ) → start < length none → ((n : ℕ) → marked none n ≡ false) → ((n : ℕ) → marked passed n ≡ false) →
      new ≡ set none start true → left ≡ start ∷ [] → IsSearch s marks start new passed left []
  begun start none new passed left there bare fresh e f =
      subst (λ (x : List Bool). IsSearch s marks start x passed left []) (sym e)
      (subst (λ (xs : List ℕ). IsSearch s marks start (set none start true) passed xs []) (sym f)
      (record {
        sound = λ z h. ⊎_elim (λ e. subst (λ (x : ℕ). Spreads s marks start x) (sym e) (record { path = []; crossings = refl; ends = eq-eqb start start refl }))
            (λ ne. absurd (false≢true (sym (bare z) ∙ set_only none start z ne h))) (cases_eq z start);
        started = set_marks none start there;
        queued = λ z h. ⊎_elim (λ e. subst (λ (x : ℕ). marked (set none start true) x ≡ true) (sym e) (set_marks none start there))
            (λ ne. absurd (false≢true (has_either [] start z h ne))) (cases_eq z start);
        behind = λ j hj o q. absurd (false≢true (sym (fresh (router_at p j)) ∙ q));
        pending = λ i hi o h l a. ⊎_elim (λ e. absurd (false≢true (sym l ∙ subst (λ (x : ℕ). has (start ∷ []) x ≡ true) (sym e) (has_end [] start))))
            (λ ne. absurd (false≢true (sym (bare (zone_at s i)) ∙ set_only none start (zone_at s i) ne h))) (cases_eq (zone_at s i) start);
      }))

  -- nothing is left
  pub ended : (start : ℕ) (seen passed : List Bool) (left : List ℕ) → left ≡ [] → IsSearch s marks start seen passed left [] → (z : ℕ) → (marked seen z ≡ true) ↔ Spreads s marks start z
  ended start seen passed left e old z = (old.sound z, λ r. Reaches-stays (inside_marks p marks) (zone_at s) (marked seen) closed start z r old.started)
    where
      closed : (c : Crossing) → inside_marks p marks c ≡ true → marked seen (zone_at s c.enter) ≡ true → marked seen (zone_at s c.leave) ≡ true
      closed c h here =
          let a = and_parts (crosses_managed p c && not (marked marks c.enter)) (not (marked marks c.leave)) h in
          let b = and_parts (crosses_managed p c) (not (marked marks c.enter)) a.0 in
          let d = and_parts (is_through_router p c) (is_managed p (router_at p c.enter)) b.0 in
          let f = and_parts (nat_lt c.enter (length p.ifaces) && nat_lt c.leave (length p.ifaces)) (router_at p c.enter == router_at p c.leave) d.0 in
          let same = eqb-true (router_at p c.enter) (router_at p c.leave) f.1 in
          let there = crossing_below p c d.0 in
          let managed = subst (λ (r : ℕ). is_managed p r ≡ true) same d.1 in
          let free = subst (λ (xs : List ℕ). has xs (zone_at s c.enter) ≡ false) (sym e) refl in
          old.behind c.leave there.1 (and_from (is_managed p (router_at p c.leave)) (not (marked marks c.leave)) managed a.1)
          (subst (λ (r : ℕ). marked passed r ≡ true) same
          (old.pending c.enter there.0 (and_from (is_managed p (router_at p c.enter)) (not (marked marks c.enter)) d.1 b.1) here free refl))

  -- an interface of a zone was looked at
  pub goes_as : (z i k : ℕ) (row : List ℕ) (seen passed : List Bool) (left : List ℕ) (new_seen new_passed : List Bool) (more : List ℕ) → zone_at s i ≡ z → i ≡ slice_index row k → k < length row →
      Goes s marks (zone_at s i) seen passed left (i ∷ drop (k + 1) row) new_seen new_passed more (drop (k + 1) row) →
      Goes s marks z seen passed left (drop k row) new_seen new_passed more (drop (k + 1) row)
  goes_as z i k row seen passed left new_seen new_passed more e f h g =
      let rest : i ∷ drop (k + 1) row ≡ drop k row = ap (λ (x : ℕ). x ∷ drop (k + 1) row) f ∙ sym (left_of row k h) in
      subst (λ (x : ℕ). Goes s marks x seen passed left (drop k row) new_seen new_passed more (drop (k + 1) row)) e
      (subst (λ (xs : List ℕ). Goes s marks (zone_at s i) seen passed left xs new_seen new_passed more (drop (k + 1) row)) rest g)

  -- all interfaces of a zone were
  pub goes_whole : (z k : ℕ) (row doors : List ℕ) (seen passed : List Bool) (left : List ℕ) (new_seen new_passed : List Bool) (more : List ℕ) → row ≡ doors → length row ≤ k →
      Goes s marks z seen passed left row new_seen new_passed more (drop k row) → Goes s marks z seen passed left doors new_seen new_passed more []
  goes_whole z k row doors seen passed left new_seen new_passed more e h g =
      subst (λ (xs : List ℕ). Goes s marks z seen passed left xs new_seen new_passed more []) e
      (subst (λ (xs : List ℕ). Goes s marks z seen passed left row new_seen new_passed more xs) (none_left row k h) g)
