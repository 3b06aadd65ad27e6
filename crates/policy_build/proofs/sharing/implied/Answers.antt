use Rattle.std.proofs.Common.{◌≡◌, ◌∙◌, ◌+◌, ◌<◌, sym, ap, subst, length, map, get_or}
use Rattle.std.specs.List.{All}
use Rattle.std.proofs.lemmas.List.{length-map}
use Rattle.policy_decls.specs.Said.{policy_said}
use Rattle.policy_build.specs.Rows.{owned_by}
use Rattle.policy_build.specs.Sharing.{iface_class}
use Rattle.policy_build.specs.Views.{decls_of, sources_in}
use Rattle.policy_build.proofs.Grown.{if_also}
use Rattle.policy_build.proofs.Shared.{sizes, classes_below, keyed_said, classes_said, owned_is, none_said, order_below, in_order}
use Rattle.policy_build.proofs.sharing.implied.Goals as goal

pub returns-then-count-eq0-clause-said : goal.returns-then-count-eq0-clause-said
returns-then-count-eq0-clause-said c =
    let none : length c.in_ok-keys.keys ≡ 0 = sym (c.in_ok-count.ensures ∙ c.count.ensures) ∙ c.if-count-eq0.true in
    ap (map _) c.new.ensures.items ∙ sym (none_said (sources_in c.args.scope) (policy_said (decls_of c.args.scope)) c.args.ifaces.now c.requires.said c.in_ok-keys.keys none c.in_ok-keys.ensures)

pub rows-requires : goal.rows-requires
rows-requires c =
    subst (λ l. All (λ k. k < c.in_ok-count.count + 1) l) (sym (c.deref.ensures.value ∙ c.in_ok-classes.ensures))
    (subst (λ n. All (λ k. k < n + 1) (map (iface_class c.in_ok-keys.keys) c.args.ifaces.now)) (sym (c.in_ok-count.ensures ∙ c.count.ensures)) (classes_below c.in_ok-keys.keys c.args.ifaces.now c.in_ok-keys.ensures))

pub sets-requires-clause-sharing : goal.sets-requires-clause-sharing
sets-requires-clause-sharing c =
    let p = policy_said (decls_of c.args.scope) in
    let sources = sources_in c.args.scope in
    let keys = c.in_ok-keys.keys in
    let ifaces = c.args.ifaces.now in
    let is : c.deref-2.result.now ≡ map (iface_class keys) ifaces = c.deref-2.ensures.value ∙ c.in_ok-classes.ensures in
    let same : c.deref.result.now ≡ c.deref-2.result.now = c.deref.ensures.value ∙ sym c.deref-2.ensures.value in
    let rows = c.in_ok-sharers.ensures.rows in
    let low = subst (λ l. All (λ k. k < c.in_ok-count.count + 1) l) (sym is)
    (subst (λ n. All (λ k. k < n + 1) (map (iface_class keys) ifaces)) (sym (c.in_ok-count.ensures ∙ c.count.ensures)) (classes_below keys ifaces c.in_ok-keys.ensures)) in
    let many : length c.deref-2.result.now ≡ length ifaces = ap length is ∙ length-map ifaces (iface_class keys) in
    record {
      said = c.requires.said;
      written = c.requires.written;
      cut = rows.cut;
      many = many;
      classes = subst (λ n. All (λ k. k < n) c.deref-2.result.now) (sym rows.each) low;
      sharers_are = λ i below some.
          let there : i < length c.deref-2.result.now = subst (λ n. i < n) (sym many) below in
          rows.content (get_or c.deref-2.result.now i 0) (low i 0 there) ∙ ap (λ l. owned_by l (get_or c.deref-2.result.now i 0)) same
          ∙ owned_is p keys (keyed_said sources p ifaces c.requires.said keys c.in_ok-keys.ensures) c.deref-2.result.now (classes_said sources p ifaces c.requires.said keys c.deref-2.result.now is) i
          (subst (λ n. i < n) (sizes sources p ifaces c.requires.said) below) some;
    }

pub sets-requires-clause-below : goal.sets-requires-clause-below
sets-requires-clause-below c = order_below (sources_in c.args.scope) (policy_said (decls_of c.args.scope)) c.args.ifaces.now c.requires.said c.args.order.now c.requires.order

pub returns-clause-said : goal.returns-clause-said
returns-clause-said c =
    if_also c.sets.result (λ found e. e ∙ in_order (sources_in c.args.scope) (policy_said (decls_of c.args.scope)) c.args.ifaces.now c.requires.said c.args.order.now c.requires.order) c.sets.ensures.said
