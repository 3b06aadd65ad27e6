use Rattle.std.proofs.Common.{◌≡◌, ◌∙◌, List, true, length, map, ap, sym, subst}
use Rattle.policy_model.specs.Objects as plain
use Rattle.policy_model.specs.Objects.{objects_by, objects_of}
use Rattle.topology.specs.Expressions.{expr_of}
use Rattle.topology.specs.View.{policy_of}
use Rattle.group_expand.specs.Seen.{site_of}
use Rattle.group_expand.specs.Sets.{AreHosts, are_there, group_set, object_seen, rows_seen}
use Rattle.group_expand.proofs.Loops.{if_ok}
use Rattle.group_expand.proofs.SoundSets.{objects_there}
use Rattle.group_expand.proofs.Tables.{by_tables, members_there, rows_long}
use Rattle.group_expand.proofs.expand.objects.Goals as goal

pub of_union-requires-clause-scope : goal.of_union-requires-clause-scope
of_union-requires-clause-scope c =
    let p = policy_of c.args.topo in
    let s = site_of c.args.topo c.args.graph.now in
    record {
      graph = c.requires.graph;
      areas = c.requires.areas.each;
      hosts = subst (AreHosts p) (sym c.hosts.ensures) c.requires.sets.hosts;
      groups = rows_long c.groups.result.now ∙ (ap length c.groups.ensures ∙ c.requires.sets.each);
      members = λ g. subst (λ (t : List (List plain.Object)). are_there p (group_set t g) ≡ true) (sym c.groups.ensures)
          (members_there s c.args.areas.now c.args.sets.now c.args.topo.kept.sound c.requires.graph.table.each c.requires.sets g);
      user = c.requires.user;
    }

pub returns-clause-objects : goal.returns-clause-objects
returns-clause-objects c =
    let s = site_of c.args.topo c.args.graph.now in
    let user = map object_seen c.args.user.now in
    let e = expr_of c.args.set.now in
    if_ok c.of_union.result (λ found. map object_seen found.items ≡ objects_by s c.args.areas.now (group_set (rows_seen c.groups.result.now)) user e)
    (λ found. map object_seen found.items ≡ objects_of s c.args.areas.now user e)
    (λ found is. is ∙ (ap (λ (t : List (List plain.Object)). objects_by s c.args.areas.now (group_set t) user e) c.groups.ensures
    ∙ by_tables s c.args.areas.now c.args.sets.now user e c.requires.sets c.requires.sound)) c.of_union.ensures

pub returns-clause-there : goal.returns-clause-there
returns-clause-there c =
    let p = policy_of c.args.topo in
    let s = site_of c.args.topo c.args.graph.now in
    let user = map object_seen c.args.user.now in
    let e = expr_of c.args.set.now in
    if_ok c.of_union.result (λ found. map object_seen found.items ≡ objects_by s c.args.areas.now (group_set (rows_seen c.groups.result.now)) user e)
    (λ found. are_there p (map object_seen found.items) ≡ true)
    (λ found is. subst (λ (l : List plain.Object). are_there p l ≡ true) (sym is)
    (objects_there s c.args.areas.now (group_set (rows_seen c.groups.result.now)) user c.args.topo.kept.sound c.requires.graph.table.each
    (λ g. subst (λ (t : List (List plain.Object)). are_there p (group_set t g) ≡ true) (sym c.groups.ensures)
    (members_there s c.args.areas.now c.args.sets.now c.args.topo.kept.sound c.requires.graph.table.each c.requires.sets g)) c.requires.user e c.requires.sound)) c.of_union.ensures
