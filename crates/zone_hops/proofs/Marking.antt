-- How networks and routers are marked one by one.
use Rattle.std.proofs.Common.{◌≡◌, ◌≢◌, ℕ, ◌+◌, ◌<◌, ◌≤◌, Bool, true, false, cond, List, [], ◌∷◌, ◌++◌, length, set, drop, slice_index, refl, sym, ap, subst, ◌∙◌, ⊎_elim, arith}
use Rattle.std.specs.Prelude.{◌==◌}
use Rattle.std.proofs.lemmas.Bool.{cases_eq, cases_Bool, eq-eqb, ne_eqb, eqb-true, false≢true, or_cases, or_from}
use Rattle.std.proofs.lemmas.List.{length-append}
use Rattle.policy_model.specs.Lists.{has}
use Rattle.policy_model.specs.Policy.{Policy, net_at, router_at, is_managed}
use Rattle.policy_model.specs.Paths.{Crossing, places_on, routers_on}
use Rattle.topology.specs.Kept.{ifaces_at, ifaces_of}
use Rattle.group_expand.specs.Spread.{marked, unmarked_count, Grows}
use Rattle.group_expand.proofs.Rows.{standing, left_of, none_left}
use Rattle.group_expand.proofs.Marks.{set_grows, set_marks, set_only, set_again, set_once, has_front, has_end, has_either, has_not, row_has}
use Rattle.zone_hops.specs.Search.{NetLeads, RouterLeads, IsSearch, Grown, Goes, KeepsAt, KeepsRow, KeepsNet, KeepsBy}
use Rattle.zone_hops.proofs.Chains.{through, longer}

-- ---- what grows

pub grown_not : (passed : List Bool) (left : List ℕ) → Grown passed left passed left
grown_not passed left = record { grows = λ n h. h; work = refl }

pub grown_on : (a b c : List Bool) (x y z : List ℕ) → Grown a x b y → Grown b y c z → Grown a x c z
grown_on a b c x y z g h = record { grows = λ n k. h.grows n (g.grows n k); work = h.work ∙ g.work }

pub goes_not : (seen passed : List Bool) (left : List ℕ) → Goes seen passed left seen passed left
goes_not seen passed left = record { grows = λ n h. h; grown = grown_not passed left }

pub goes_on : (s a : List Bool) (x : List ℕ) (s' b : List Bool) (y : List ℕ) (s'' c : List Bool) (z : List ℕ) → Goes s a x s' b y → Goes s' b y s'' c z → Goes s a x s'' c z
goes_on s a x s' b y s'' c z g h = record { grows = λ n k. h.grows n (g.grows n k); grown = grown_on a b c x y z g.grown h.grown }

-- one router more
pub grown_by : (r : ℕ) (passed new : List Bool) (left more : List ℕ) → r < length passed → new ≡ set passed r true → more ≡ cond (marked passed r) left (left ++ r ∷ []) → Grown passed left new more
grown_by r passed new left more there e f =
    record {
      grows = λ n h. subst (λ (xs : List Bool). marked xs n ≡ true) (sym e) (set_grows passed r there n h);
      work = ⊎_elim
          (λ t. let k : more ≡ left = f ∙ ap (λ (b : Bool). cond b left (left ++ r ∷ [])) t in
          let u : unmarked_count new ≡ unmarked_count passed = ap unmarked_count e ∙ set_again passed r t in omega (arith, ap length k, u))
          (λ t. let k : more ≡ left ++ r ∷ [] = f ∙ ap (λ (b : Bool). cond b left (left ++ r ∷ [])) t in
          let u : unmarked_count new + 1 ≡ unmarked_count passed = ap (λ (xs : List Bool). unmarked_count xs + 1) e ∙ set_once passed r there t in
          let w : length (left ++ r ∷ []) ≡ length left + 1 = length-append left (r ∷ []) in omega (arith, ap length k, u, w))
          (cases_Bool (marked passed r));
    }

-- ---- what holds of a search

-- what isn't among those ahead but for the first
not_first : (i k : ℕ) (row : List ℕ) → has row k ≡ false → k ≢ i → has (i ∷ row) k ≡ false
not_first i k row a ne = or_from (i == k) (has row k) (ne_eqb i k (λ e. ne (sym e))) a

module _ (p : Policy) (n t : ℕ) where
  abbrev leads_on : (seen more passed others : List Bool) (m : ℕ) → Grows seen more → Grows passed others → NetLeads p n t seen passed m → NetLeads p n t more others m
  leads_on seen more passed others m g f h =
      record { path = h.path; chain = h.chain; apart = h.apart; nets = λ x k. g x (h.nets x k); routers = λ r k. f r (h.routers r k) }

  router_on : (seen more passed others : List Bool) (r : ℕ) → Grows seen more → Grows passed others → RouterLeads p n t seen passed r → RouterLeads p n t more others r
  router_on seen more passed others r g f h =
      record {
        by = h.by;
        there = h.there;
        its = h.its;
        unmanaged = h.unmanaged;
        leads = leads_on seen more passed others (net_at p h.by) g f h.leads;
        fresh = h.fresh;
      }

  -- An interface of a managed router needs no look.
  pub skipped : (i : ℕ) (seen passed : List Bool) (left now row : List ℕ) → is_managed p (router_at p i) ≡ true → IsSearch p n t seen passed left now (i ∷ row) →
      IsSearch p n t seen passed left now row
  skipped i seen passed left now row managed old =
      record {
        net = old.net;
        router = old.router;
        queued = old.queued;
        nets_done = λ k hk u h a. ⊎_elim (λ e. absurd (false≢true (sym u ∙ subst (λ (x : ℕ). is_managed p (router_at p x) ≡ true) (sym e) managed)))
            (λ ne. old.nets_done k hk u h (not_first i k row a ne)) (cases_eq k i);
        routers_done = old.routers_done;
      }

  -- the router of an interface is marked again
  reached_again : (i : ℕ) (seen passed : List Bool) (left now row : List ℕ) → router_at p i < length passed → marked passed (router_at p i) ≡ true →
      IsSearch p n t seen passed left now (i ∷ row) → IsSearch p n t seen (set passed (router_at p i) true) left now row
  reached_again i seen passed left now row there again old =
      let r = router_at p i in
      let grows = set_grows passed r there in
      let back : (x : ℕ) → marked (set passed r true) x ≡ true → marked passed x ≡ true =
      λ x h. ⊎_elim (λ e. subst (λ (y : ℕ). marked passed y ≡ true) (sym e) again) (λ ne. set_only passed r x ne h) (cases_eq x r) in
      record {
        net = λ m h. leads_on seen seen passed (set passed r true) m (λ x k. k) grows (old.net m h);
        router = λ x h. router_on seen seen passed (set passed r true) x (λ y k. k) grows (old.router x (back x h));
        queued = λ x h. grows x (old.queued x h);
        nets_done = λ k hk u h a. ⊎_elim (λ e. subst (λ (x : ℕ). marked (set passed r true) (router_at p x) ≡ true) (sym e) (set_marks passed r there))
            (λ ne. grows (router_at p k) (old.nets_done k hk u h (not_first i k row a ne))) (cases_eq k i);
        routers_done = λ j hj ne q l w. old.routers_done j hj ne (back (router_at p j) q) l w;
      }

  -- for the first time
  reached_first : (i : ℕ) (seen passed : List Bool) (left now row : List ℕ) → i < length p.ifaces → is_managed p (router_at p i) ≡ false → router_at p i < length passed →
      marked passed (router_at p i) ≡ false → marked seen (net_at p i) ≡ true → IsSearch p n t seen passed left now (i ∷ row) →
      IsSearch p n t seen (set passed (router_at p i) true) (left ++ router_at p i ∷ []) now row
  reached_first i seen passed left now row hi unmanaged there first here old =
      let r = router_at p i in
      let new = set passed r true in
      let grows = set_grows passed r there in
      record {
        net = λ m h. leads_on seen seen passed new m (λ x k. k) grows (old.net m h);
        router = λ x h. ⊎_elim (λ e. subst (λ (y : ℕ). RouterLeads p n t seen new y) (sym e) begins)
            (λ ne. router_on seen seen passed new x (λ y k. k) grows (old.router x (set_only passed r x ne h))) (cases_eq x r);
        queued = λ x h. ⊎_elim (λ e. subst (λ (y : ℕ). marked new y ≡ true) (sym e) (set_marks passed r there))
            (λ ne. grows x (old.queued x (has_either left r x h ne))) (cases_eq x r);
        nets_done = λ k hk u h a. ⊎_elim (λ e. subst (λ (x : ℕ). marked new (router_at p x) ≡ true) (sym e) (set_marks passed r there))
            (λ ne. grows (router_at p k) (old.nets_done k hk u h (not_first i k row a ne))) (cases_eq k i);
        routers_done = λ j hj ne q l w. ⊎_elim (λ e. absurd (false≢true (sym l ∙ subst (λ (x : ℕ). has (left ++ r ∷ []) x ≡ true) (sym e) (has_end left r))))
            (λ other. old.routers_done j hj ne (set_only passed r (router_at p j) other q) (has_not left r (router_at p j) l) w) (cases_eq (router_at p j) r);
      }
    where
      unpassed : (path : List Crossing) → ((x : ℕ) → has (routers_on p path) x ≡ true → marked passed x ≡ true) → has (routers_on p path) (router_at p i) ≡ false
      unpassed path all = ⊎_elim (λ h. absurd (false≢true (sym first ∙ all (router_at p i) h))) (λ h. h) (cases_Bool (has (routers_on p path) (router_at p i)))

      begins : RouterLeads p n t seen (set passed (router_at p i) true) (router_at p i)
      begins = let w = old.net (net_at p i) here in
          record {
            by = i;
            there = hi;
            its = refl;
            unmanaged = unmanaged;
            leads = leads_on seen seen passed (set passed (router_at p i) true) (net_at p i) (λ x k. k) (set_grows passed (router_at p i) there) w;
            fresh = unpassed w.path w.routers;
          }

  -- a network is marked
  opened : (m : ℕ) (seen passed : List Bool) (left now : List ℕ) → m < length seen → NetLeads p n t (set seen m true) passed m → IsSearch p n t seen passed left now [] →
      IsSearch p n t (set seen m true) passed left now (ifaces_at p m)
  opened m seen passed left now there its old =
      let new = set seen m true in
      let grows = set_grows seen m there in
      record {
        net = λ x h. ⊎_elim (λ e. subst (λ (y : ℕ). NetLeads p n t new passed y) (sym e) its)
            (λ ne. leads_on seen new passed passed x grows (λ y k. k) (old.net x (set_only seen m x ne h))) (cases_eq x m);
        router = λ x h. router_on seen new passed passed x grows (λ y k. k) (old.router x h);
        queued = old.queued;
        nets_done = λ i hi u h a. ⊎_elim
            (λ e. absurd (false≢true (sym a ∙ row_has (λ k. net_at p k == m) (length p.ifaces) i hi (eq-eqb (net_at p i) m e))))
            (λ ne. old.nets_done i hi u (set_only seen m (net_at p i) ne h) refl) (cases_eq (net_at p i) m);
        routers_done = λ j hj ne q l w. grows (net_at p j) (old.routers_done j hj ne q l w);
      }

  -- from a marked router to a network that isn't marked
  leads_from : (j r : ℕ) (seen more passed : List Bool) → j < length p.ifaces → router_at p j ≡ r → net_at p j ≢ n → marked seen (net_at p j) ≡ false → Grows seen more →
      marked more (net_at p j) ≡ true → marked passed r ≡ true → RouterLeads p n t seen passed r → NetLeads p n t more passed (net_at p j)
  leads_from j r seen more passed hj its apart new grows here there h =
      record {
        path = through j h.by ∷ h.leads.path;
        chain = longer p j h.by t h.leads.path hj h.there (its ∙ sym h.its) (subst (λ (x : ℕ). is_managed p x ≡ false) (sym its) h.unmanaged) h.leads.chain
            (unseen h.leads.path h.leads.nets) (subst (λ (x : ℕ). has (routers_on p h.leads.path) x ≡ false) (sym its) h.fresh);
        apart = or_from (net_at p j == n) (has (places_on (net_at p) (net_at p h.by) h.leads.path) n) (ne_eqb (net_at p j) n apart) h.leads.apart;
        nets = λ x k. ⊎_elim (λ e. subst (λ (y : ℕ). marked more y ≡ true) (eqb-true (net_at p j) x e) here) (λ e. grows x (h.leads.nets x e))
            (or_cases (net_at p j == x) (has (places_on (net_at p) (net_at p h.by) h.leads.path) x) k);
        routers = λ x k. ⊎_elim (λ e. subst (λ (y : ℕ). marked passed y ≡ true) (sym its ∙ eqb-true (router_at p j) x e) there) (λ e. h.leads.routers x e)
            (or_cases (router_at p j == x) (has (routers_on p h.leads.path) x) k);
      }
    where
      unseen : (path : List Crossing) → ((x : ℕ) → has (places_on (net_at p) (net_at p h.by) path) x ≡ true → marked seen x ≡ true) →
          has (places_on (net_at p) (net_at p h.by) path) (net_at p j) ≡ false
      unseen path all = ⊎_elim (λ k. absurd (false≢true (sym new ∙ all (net_at p j) k))) (λ k. k) (cases_Bool (has (places_on (net_at p) (net_at p h.by) path) (net_at p j)))

  -- nothing is marked
  pub begun : (seen passed : List Bool) (left : List ℕ) → ((k : ℕ) → marked seen k ≡ false) → ((k : ℕ) → marked passed k ≡ false) → left ≡ [] → IsSearch p n t seen passed left [] []
  begun seen passed left none free e =
      record {
        net = λ m h. absurd (false≢true (sym (none m) ∙ h));
        router = λ r h. absurd (false≢true (sym (free r) ∙ h));
        queued = λ r h. absurd (false≢true (subst (λ (xs : List ℕ). has xs r ≡ true) e h));
        nets_done = λ i hi u h a. absurd (false≢true (sym (none (net_at p i)) ∙ h));
        routers_done = λ j hj ne q l w. absurd (false≢true (sym (free (router_at p j)) ∙ q));
      }

  -- the target itself
  pub leads_nowhere : (more passed : List Bool) → t ≢ n → marked more t ≡ true → NetLeads p n t more passed t
  leads_nowhere more passed apart here =
      record {
        path = [];
        chain = rw (eq-eqb t t refl) refl;
        apart = or_from (t == n) false (ne_eqb t n apart) refl;
        nets = λ x k. ⊎_elim (λ e. subst (λ (y : ℕ). marked more y ≡ true) (eqb-true t x e) here) (λ e. absurd (false≢true e)) (or_cases (t == x) false k);
        routers = λ r k. absurd (false≢true k);
      }

  -- a router is taken from those left
  pub popped : (r : ℕ) (seen passed : List Bool) (left rest : List ℕ) → left ≡ rest ++ r ∷ [] → IsSearch p n t seen passed left [] [] → IsSearch p n t seen passed rest (r ∷ []) []
  popped r seen passed left rest e old =
      record {
        net = old.net;
        router = old.router;
        queued = λ x h. old.queued x (subst (λ (xs : List ℕ). has xs x ≡ true) (sym e) (has_front rest r x h));
        nets_done = old.nets_done;
        routers_done = λ j hj ne q l w. old.routers_done j hj ne q (subst (λ (xs : List ℕ). has xs (router_at p j) ≡ false) (sym e) (not_left (router_at p j) l w)) refl;
      }
    where
      not_left : (x : ℕ) → has rest x ≡ false → has (r ∷ []) x ≡ false → has (rest ++ r ∷ []) x ≡ false
      not_left x l w =
          ⊎_elim
          (λ h. ⊎_elim (λ same. absurd (false≢true (sym w ∙ subst (λ (y : ℕ). has (r ∷ []) y ≡ true) (sym same) (has_end [] r))))
          (λ ne. absurd (false≢true (sym l ∙ has_either rest r x h ne))) (cases_eq x r))
          (λ h. h) (cases_Bool (has (rest ++ r ∷ []) x))

  pub last_marked : (r : ℕ) (seen passed : List Bool) (left rest : List ℕ) → left ≡ rest ++ r ∷ [] → IsSearch p n t seen passed left [] [] → marked passed r ≡ true
  last_marked r seen passed left rest e old = old.queued r (subst (λ (xs : List ℕ). has xs r ≡ true) (sym e) (has_end rest r))

  -- all networks of a router were visited
  pub finished : (r : ℕ) (seen passed : List Bool) (left : List ℕ) → ((j : ℕ) → j < length p.ifaces → router_at p j ≡ r → net_at p j ≢ n → marked seen (net_at p j) ≡ true) →
      IsSearch p n t seen passed left (r ∷ []) [] → IsSearch p n t seen passed left [] []
  finished r seen passed left sees old =
      record {
        net = old.net;
        router = old.router;
        queued = old.queued;
        nets_done = old.nets_done;
        routers_done = λ j hj ne q l w. ⊎_elim (λ e. sees j hj e ne) (λ other. old.routers_done j hj ne q l (not_first r (router_at p j) [] refl other)) (cases_eq (router_at p j) r);
      }

module _ (p : Policy) where
  -- the router of an interface was marked
  pub reached : (i r : ℕ) (passed new : List Bool) (left more : List ℕ) → i < length p.ifaces → r ≡ router_at p i → is_managed p r ≡ false → r < length passed →
      new ≡ set passed r true → more ≡ cond (marked passed r) left (left ++ r ∷ []) → KeepsAt p i passed left new more
  reached i r passed new left more hi its unmanaged there e f n t seen now row here old =
      ⊎_elim
      (λ again. made (router_at p i) left (e ∙ ap (λ (x : ℕ). set passed x true) its) (f ∙ ap (λ (b : Bool). cond b left (left ++ r ∷ [])) again)
      (reached_again p n t i seen passed left now row below (subst (λ (x : ℕ). marked passed x ≡ true) its again) old))
      (λ first. made (router_at p i) (left ++ router_at p i ∷ []) (e ∙ ap (λ (x : ℕ). set passed x true) its)
      (f ∙ (ap (λ (b : Bool). cond b left (left ++ r ∷ [])) first ∙ ap (λ (x : ℕ). left ++ x ∷ []) its))
      (reached_first p n t i seen passed left now row hi (subst (λ (x : ℕ). is_managed p x ≡ false) its unmanaged) below
      (subst (λ (x : ℕ). marked passed x ≡ false) its first) here old))
      (cases_Bool (marked passed r))
    where
      below : router_at p i < length passed
      below = subst (λ (x : ℕ). x < length passed) its there

      made : (x : ℕ) (xs : List ℕ) → new ≡ set passed x true → more ≡ xs → IsSearch p n t seen (set passed x true) xs now row → IsSearch p n t seen new more now row
      made x xs same is h =
          subst (λ (l : List ℕ). IsSearch p n t seen new l now row) (sym is) (subst (λ (m : List Bool). IsSearch p n t seen m xs now row) (sym same) h)

  -- one interface of a network more
  pub looked_on : (m i k : ℕ) (passed some others : List Bool) (left more rest : List ℕ) (row : List ℕ) → i ≡ slice_index row k → k < length row → net_at p i ≡ m →
      KeepsRow p m passed left row some more (drop k row) → KeepsAt p i some more others rest → KeepsRow p m passed left row others rest (drop (k + 1) row)
  looked_on m i k passed some others left more rest row is below at old one n t seen now here s =
      let next : drop k row ≡ i ∷ drop (k + 1) row = left_of row k below ∙ ap (λ (x : ℕ). x ∷ drop (k + 1) row) (sym is) in
      one n t seen now (drop (k + 1) row) (subst (λ (x : ℕ). marked seen x ≡ true) (sym at) here)
      (subst (λ (xs : List ℕ). IsSearch p n t seen some more now xs) next (old n t seen now here s))

  -- all of them
  pub looked_all : (m k : ℕ) (passed others : List Bool) (left more row all : List ℕ) → row ≡ all → length row ≤ k → KeepsRow p m passed left row others more (drop k row) →
      KeepsRow p m passed left all others more []
  looked_all m k passed others left more row all e long old n t seen now here s =
      subst (λ (xs : List ℕ). IsSearch p n t seen others more now xs) (none_left row k long)
      (old n t seen now here (subst (λ (xs : List ℕ). IsSearch p n t seen passed left now xs) (sym e) s))

  -- a network was visited
  pub visited : (n m : ℕ) (seen new passed others : List Bool) (left more : List ℕ) → m < length seen → m ≢ n → marked seen m ≡ false → new ≡ set seen m true →
      KeepsRow p m passed left (ifaces_at p m) others more [] → KeepsNet p n m seen passed left new others more
  visited n m seen new passed others left more there apart first e keeps t now its old =
      subst (λ (s : List Bool). IsSearch p n t s others more now []) (sym e)
      (keeps n t (set seen m true) now (set_marks seen m there)
      (opened p n t m seen passed left now there (its apart first (set seen m true) (set_grows seen m there) (set_marks seen m there)) old))

  -- by a marked router
  pub visited_by : (n m j : ℕ) (seen new passed others : List Bool) (left more : List ℕ) → j < length p.ifaces → m ≡ net_at p j → KeepsNet p n m seen passed left new others more →
      KeepsBy p n (router_at p j) seen passed left new others more
  visited_by n m j seen new passed others left more hj is keeps t now here old =
      subst (λ (x : ℕ). KeepsNet p n x seen passed left new others more) is keeps t now (λ apart first wide grows there. leads_from p n t j (router_at p j) seen wide passed hj refl apart first grows there here (old.router (router_at p j) here)) old

  -- all networks of a router are visited
  pub sees_all : (n r k : ℕ) (seen : List Bool) (row : List ℕ) → row ≡ ifaces_of p r → length row ≤ k →
      ((i : ℕ) → i < k → net_at p (slice_index row i) ≢ n → marked seen (net_at p (slice_index row i)) ≡ true) →
      (j : ℕ) → j < length p.ifaces → router_at p j ≡ r → net_at p j ≢ n → marked seen (net_at p j) ≡ true
  sees_all n r k seen row e long old j hj same apart =
      let w = standing (λ i. router_at p i == r) (length p.ifaces) j hj (eq-eqb (router_at p j) r same) in
      let below : w.0 < length row = subst (λ (xs : List ℕ). w.0 < length xs) (sym e) w.1 in
      let at : slice_index row w.0 ≡ j = ap (λ (xs : List ℕ). slice_index xs w.0) e ∙ w.2 in
      subst (λ (x : ℕ). marked seen (net_at p x) ≡ true) at
      (old w.0 (omega (arith, below, long)) (λ is. apart (subst (λ (x : ℕ). net_at p x ≡ n) at is)))

  -- one network more
  pub sees_one : (n k j : ℕ) (seen new : List Bool) (row : List ℕ) → Grows seen new → j ≡ slice_index row k → (net_at p j ≢ n → marked new (net_at p j) ≡ true) →
      ((i : ℕ) → i < k → net_at p (slice_index row i) ≢ n → marked seen (net_at p (slice_index row i)) ≡ true) →
      (i : ℕ) → i < k + 1 → net_at p (slice_index row i) ≢ n → marked new (net_at p (slice_index row i)) ≡ true
  sees_one n k j seen new row grows is here old i hi apart =
      ⊎_elim
      (λ e. let at : j ≡ slice_index row i = is ∙ ap (λ (x : ℕ). slice_index row x) (sym e) in
      subst (λ (x : ℕ). marked new (net_at p x) ≡ true) at (here (λ same. apart (subst (λ (x : ℕ). net_at p x ≡ n) at same))))
      (λ ne. grows (net_at p (slice_index row i)) (old i (omega (arith, hi, ne)) apart)) (cases_eq i k)
