use Rattle.std.proofs.Common.{◌≡◌, ◌∙◌, ◌∷◌, [], ℕ, List, true, take, sym, ap, subst, slice_index_or, ⊎_elim}
use Rattle.std.specs.Prelude.{map}
use Rattle.policy_model.specs.Lists.{has}
use Rattle.policy_model.specs.Policy.{router_at}
use Rattle.policy_model.specs.Tags.{binds}
use Rattle.topology.specs.View.{policy_of}
use Rattle.nat_domains.specs.Marks.{site_of, is_marked}
use Rattle.nat_domains.specs.Spreading.{StaysSpreading}
use Rattle.nat_domains.proofs.Members.{has_either, has_one, one_more}
use Rattle.std.proofs.lemmas.List.{take_all}
use Rattle.nat_domains.proofs.Passing.{zone_left}
use Rattle.nat_domains.proofs.Doors.{door_at, door_has}
use Rattle.nat_domains.proofs.spread.leave_zone.Goals as goal

pub pass_router-requires-clause-there : goal.pass_router-requires-clause-there
pass_router-requires-clause-there c =
    (door_at (policy_of c.args.topo) c.args.graph.now c.requires.graph c.args.z.0 c.requires.there c.doors-i-items.result.now c.doors-i-items.ensures c.loop-i.i-index c.loop-i-test.true).there

pub pass_router-requires-clause-managed : goal.pass_router-requires-clause-managed
pass_router-requires-clause-managed c =
    (door_at (policy_of c.args.topo) c.args.graph.now c.requires.graph c.args.z.0 c.requires.there c.doors-i-items.result.now c.doors-i-items.ensures c.loop-i.i-index c.loop-i-test.true).managed

pub loop-i-preserved : goal.loop-i-preserved
loop-i-preserved c =
    let p = policy_of c.args.topo in
    let s = site_of c.args.topo c.args.graph.now in
    let ids = c.doors-i-items.result.now in
    let k = c.loop-i.i-index in
    let i = (slice_index_or ids k (record { 0 = 0 })).0 in
    let door = door_at p c.args.graph.now c.requires.graph c.args.z.0 c.requires.there ids c.doors-i-items.ensures k c.loop-i-test.true in
    let new = c.in_ok-pass_router.ensures in
    record {
      stays = λ start old. subst
          (λ (z : ℕ). StaysSpreading s c.args.tag.0 c.loop-i.marks (z ∷ c.loop-i.waiting.items) c.loop-i.passed c.pass_router.new.marks (z ∷ c.pass_router.new.waiting.items) c.pass_router.new.passed)
          door.at new.stays start (c.loop-i.invariant.stays start old);
      gone = λ j h free.
          ⊎_elim (λ g. new.grows (router_at p j) (c.loop-i.invariant.gone j g free))
          (λ g. let e = has_one i j g in
          subst (λ (x : ℕ). is_marked c.pass_router.new.passed (router_at p x) ≡ true) e (new.passed (ap (λ (x : ℕ). binds p x c.args.tag.0) e ∙ free)))
          (has_either (map (λ j. j.0) (take k ids)) (i ∷ []) j
          (subst (λ (xs : List ℕ). has xs j ≡ true) (one_more (λ j. j.0) ids (record { 0 = 0 }) k c.loop-i-test.true) h));
      room = new.room ∙ c.loop-i.invariant.room;
    }

pub returns-clause-stays : goal.returns-clause-stays
returns-clause-stays c =
    let p = policy_of c.args.topo in
    let s = site_of c.args.topo c.args.graph.now in
    let ids = c.doors-i-items.result.now in
    λ start old. zone_left s c.args.tag.0 c.args.z.0 start c.loop-i.marks c.loop-i.waiting.items c.loop-i.passed
    (λ i there managed at free.
    let listed = door_has p c.args.graph.now c.requires.graph c.args.z.0 c.requires.there ids c.doors-i-items.ensures i (record { there = there; managed = managed; at = at }) in
    c.loop-i.invariant.gone i (subst (λ (xs : List _). has (map (λ j. j.0) xs) i ≡ true) (sym (take_all c.loop-i.i-index ids c.loop-i-test.false)) listed) free)
    (c.loop-i.invariant.stays start old)
