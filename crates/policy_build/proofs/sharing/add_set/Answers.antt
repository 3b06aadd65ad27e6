use Rattle.std.proofs.Common.{◌≡◌, ◌∙◌, ◌++◌, ◌∷◌, refl, sym, ap, not, true, is_some, map, []}
use Rattle.std.proofs.lemmas.List.{map-append}
use Rattle.policy_model.specs.Policy as plain
use Rattle.policy_model.specs.Policy.{iface_of}
use Rattle.policy_model.specs.Walks.{sharers, begins_set}
use Rattle.policy_decls.specs.Said.{policy_said}
use Rattle.topology.specs.Kept.{IsImpliedWritten}
use Rattle.topology.specs.Seen.{restriction_seen}
use Rattle.policy_build.specs.Views.{decls_of, sources_in}
use Rattle.policy_build.proofs.Grown.{all_pushed}
use Rattle.policy_build.proofs.Shared.{some_mapped, seen_at, begun_here, restriction_is, written_is}
use Rattle.policy_build.proofs.sharing.add_set.Goals as goal

shares : (c : goal.In-Ok) → is_some (iface_of (policy_said (decls_of c.args.scope)) c.args.i.0).shared ≡ true
shares c =
    ap (λ (x : plain.Iface). is_some x.shared) (seen_at (sources_in c.args.scope) (policy_said (decls_of c.args.scope)) c.args.sharing.ifaces.now c.requires.sharing.said c.args.i.0 _ c.requires.below)
    ∙ some_mapped (λ a. a.0) _ ∙ c.is_none.ensures ∙ ap not c.if-is_none.false

set_is : (c : goal.In-Ok) → map (λ m. m.0) c.row-members.result.now ≡ sharers (policy_said (decls_of c.args.scope)) c.args.i.0
set_is c = ap (map (λ m. m.0)) c.row-members.ensures ∙ c.requires.sharing.sharers_are c.args.i.0 c.requires.below (shares c)

begins_it : (c : goal.In-Ok) → begins_set c.args.i.0 (sharers (policy_said (decls_of c.args.scope)) c.args.i.0) ≡ true
begins_it c = ap (begins_set c.args.i.0) (sym (set_is c)) ∙ sym c.begins.ensures ∙ c.if-not-begins.false

pub returns-clause-said : goal.returns-clause-said
returns-clause-said c =
    let p = policy_said (decls_of c.args.scope) in
    let sources = sources_in c.args.scope in
    ap (map (restriction_seen sources)) c.in-Ok.ensures.items ∙ map-append (restriction_seen sources) c.args.found.now.items _
    ∙ ap (λ x. map (restriction_seen sources) c.args.found.now.items ++ x ∷ [])
    (restriction_is sources p c.args.sharing.ifaces.now c.requires.sharing.said c.requires.sharing.written c.args.i.0 _ c.requires.below (record { name = _; members = c.row-members.result }) refl (set_is c) (begins_it c))
    ∙ ap (λ l. map (restriction_seen sources) c.args.found.now.items ++ l) (sym (begun_here p c.args.i.0 (shares c) (begins_it c)))

pub returns-clause-written : goal.returns-clause-written
returns-clause-written c =
    let p = policy_said (decls_of c.args.scope) in
    let sources = sources_in c.args.scope in
    all_pushed (IsImpliedWritten sources p) c.args.found.now.items c.push.new.self.items _ c.in-Ok.ensures.items c.requires.written
    (written_is sources p c.args.sharing.ifaces.now c.requires.sharing.said c.requires.sharing.written c.args.i.0 _ c.requires.below (record { name = _; members = c.row-members.result }) refl (set_is c) (begins_it c))
