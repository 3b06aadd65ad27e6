use Rattle.std.proofs.Common.{Option, subst}
use Rattle.spoc_base.specs.declared.ids.ZoneId.{ZoneId}
use Rattle.nat_domains.specs.declared.table.Conflict.{Conflict}
use Rattle.nat_domains.specs.Conflicts.{IsZoneOfConflict, IsConflictBelow}
use Rattle.nat_domains.proofs.Conflicting.{kept_none, kept_lower, came_first, came_lower}
use Rattle.nat_domains.proofs.table.nearer.Goals as goal

pub returns-in_default : goal.returns-in_default
returns-in_default c = λ s old first. kept_none s c.args.tag.0 c.args.known old (subst (λ (z : Option ZoneId). IsZoneOfConflict s c.args.tag.0 z) c.in_default.is first)

pub returns-in-Some-known : goal.returns-in-Some-known
returns-in-Some-known c =
    λ s old first. kept_lower s c.args.tag.0 c.in-Some-known.conflict.zone.0 c.in-Some-known.conflict.tag.0 c.in-Some.zone.0
    (subst (λ (k : Option Conflict). IsConflictBelow s c.args.tag.0 k) c.in-Some-known.is old) (subst (λ (z : Option ZoneId). IsZoneOfConflict s c.args.tag.0 z) c.in-Some.is first) c.if-conflict-zone.true

pub returns-in_default-known : goal.returns-in_default-known
returns-in_default-known c =
    λ s old first. came_lower s c.args.tag.0 c.in-Some-known.conflict.zone.0 c.in-Some-known.conflict.tag.0 c.in-Some.zone.0
    (subst (λ (k : Option Conflict). IsConflictBelow s c.args.tag.0 k) c.in-Some-known.is old) (subst (λ (z : Option ZoneId). IsZoneOfConflict s c.args.tag.0 z) c.in-Some.is first) c.if-conflict-zone.false

pub returns-in_default-known-2 : goal.returns-in_default-known-2
returns-in_default-known-2 c =
    λ s old first. came_first s c.args.tag.0 c.in-Some.zone.0 (subst (λ (k : Option Conflict). IsConflictBelow s c.args.tag.0 k) c.in_default-known.is old)
    (subst (λ (z : Option ZoneId). IsZoneOfConflict s c.args.tag.0 z) c.in-Some.is first)
