-- The zones of a router's interfaces, marked one by one.
use Rattle.std.proofs.Common.{◌≡◌, ℕ, ◌<◌, inl, inr, Bool, true, false, List, [], ◌∷◌, ◌++◌, length, set, refl, sym, ap, subst, ◌∙◌, ⊎_elim, arith, length-append, length-set}
use Rattle.std.proofs.lemmas.Bool.{false≢true}
use Rattle.policy_model.specs.Lists.{has}
use Rattle.policy_model.specs.Zones.{Site, zone_at}
use Rattle.policy_model.specs.Tags.{binds}
use Rattle.nat_domains.specs.Marks.{is_marked}
use Rattle.nat_domains.specs.Spreading.{MarksZonesOf}
use Rattle.nat_domains.proofs.Members.{has_left, has_right, has_either, has_one, one_has, marked_here, marks_grow, marks_come, one_less}

module _ (s : Site) (tag : ℕ) where
  same : (ifaces : List ℕ) (marks : List Bool) (waiting : List ℕ) →
      ((i : ℕ) → has ifaces i ≡ true → binds s.policy i tag ≡ false → is_marked marks (zone_at s i) ≡ true) → MarksZonesOf s tag ifaces marks marks waiting waiting
  same ifaces marks waiting done =
      record {
        each = refl;
        grown = λ z h. h;
        kept = λ z h. h;
        waits = λ z h. inl h;
        fresh = λ z h. inl h;
        done = done;
        room = refl;
      }

  pub nothing_marked : (marks : List Bool) (waiting : List ℕ) → MarksZonesOf s tag [] marks marks waiting waiting
  nothing_marked marks waiting = same [] marks waiting (λ i h. absurd (false≢true h))

  pub bound_left : (i : ℕ) (marks : List Bool) (waiting : List ℕ) → binds s.policy i tag ≡ true → MarksZonesOf s tag (i ∷ []) marks marks waiting waiting
  bound_left i marks waiting bound =
      same (i ∷ []) marks waiting (λ j h f. absurd (false≢true (sym f ∙ (ap (λ (k : ℕ). binds s.policy k tag) (sym (has_one i j h)) ∙ bound))))

  pub marked_left : (i : ℕ) (marks : List Bool) (waiting : List ℕ) → is_marked marks (zone_at s i) ≡ true → MarksZonesOf s tag (i ∷ []) marks marks waiting waiting
  marked_left i marks waiting marked = same (i ∷ []) marks waiting (λ j h f. ap (λ (k : ℕ). is_marked marks (zone_at s k)) (sym (has_one i j h)) ∙ marked)

  pub newly_marked : (i z : ℕ) (marks : List Bool) (waiting : List ℕ) → zone_at s i ≡ z → z < length marks → binds s.policy i tag ≡ false → is_marked marks z ≡ false →
      MarksZonesOf s tag (i ∷ []) marks (set marks z true) waiting (waiting ++ z ∷ [])
  newly_marked i z marks waiting at there free bare =
      record {
        each = length-set marks z true;
        grown = λ k h. marks_grow marks z k there h;
        kept = λ k h. has_left waiting (z ∷ []) k h;
        waits = λ k h. ⊎_elim (λ a. inl a) (λ b. inr (subst (λ (x : ℕ). is_marked (set marks z true) x ≡ true) (has_one z k b) (marked_here marks z there))) (has_either waiting (z ∷ []) k h);
        fresh = λ k h. ⊎_elim (λ a. inl a)
            (λ e. inr (has_right waiting (z ∷ []) k (one_has z k (sym e)), record { iface = i; listed = one_has i i refl; free = free; at = at ∙ sym e }))
            (marks_come marks z k h);
        done = λ j h f. subst (λ (x : ℕ). is_marked (set marks z true) x ≡ true) (sym at ∙ ap (zone_at s) (has_one i j h)) (marked_here marks z there);
        room = let e = length-append waiting (z ∷ []) in let f = one_less marks z there bare in omega (arith, e, f);
      }

  pub both_marked : (xs ys : List ℕ) (marks mid new : List Bool) (waiting between left : List ℕ) → MarksZonesOf s tag xs marks mid waiting between →
      MarksZonesOf s tag ys mid new between left → MarksZonesOf s tag (xs ++ ys) marks new waiting left
  both_marked xs ys marks mid new waiting between left a b =
      record {
        each = b.each ∙ a.each;
        grown = λ z h. b.grown z (a.grown z h);
        kept = λ z h. b.kept z (a.kept z h);
        waits = λ z h. ⊎_elim (λ g. ⊎_elim (λ x. inl x) (λ y. inr (b.grown z y)) (a.waits z g)) (λ g. inr g) (b.waits z h);
        fresh = λ z h. ⊎_elim
            (λ g. ⊎_elim (λ x. inl x)
            (λ w. inr (b.kept z w.0, record { iface = w.1.iface; listed = has_left xs ys w.1.iface w.1.listed; free = w.1.free; at = w.1.at })) (a.fresh z g))
            (λ w. inr (w.0, record { iface = w.1.iface; listed = has_right xs ys w.1.iface w.1.listed; free = w.1.free; at = w.1.at })) (b.fresh z h);
        done = λ i h f. ⊎_elim (λ g. b.grown (zone_at s i) (a.done i g f)) (λ g. b.done i g f) (has_either xs ys i h);
        room = let e = a.room in let f = b.room in omega (arith, e, f);
      }
