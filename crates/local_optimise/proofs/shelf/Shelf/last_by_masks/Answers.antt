use Rattle.std.proofs.Common.{◌≡◌, ◌∙◌, ◌<◌, sym, ap, subst, length, get_or, arith}
use Rattle.std.proofs.lemmas.Bool.{and_parts}
use Rattle.std.proofs.lemmas.List.{length-map}
use Rattle.dev_config.specs.Seen.{line_of}
use Rattle.local_optimise.specs.Keys.{key_by, may_cover, TellsStems}
use Rattle.local_optimise.specs.Chained.{later}
use Rattle.local_optimise.specs.Held.{held_by, last_under}
use Rattle.local_optimise.proofs.Places.{greatest_of_none}
use Rattle.local_optimise.proofs.Walks.{no_mask, mask_looked_up, mask_passed_over, none_with_stems}
use Rattle.local_optimise.proofs.shelf.Shelf.last_by_masks.Goals.{then-is_worth, else-is_worth}
use Rattle.local_optimise.proofs.shelf.Shelf.last_by_masks.Goals as goal

pub loop-mask-init : goal.loop-mask-init
loop-mask-init c = sym (greatest_of_none (length (held_by c.args.self.now)))

pub loop-mask-preserved : goal.loop-mask-preserved
loop-mask-preserved c =
    let self = c.args.self.now in
    let any = c.args.any in
    let l = line_of c.args.line.now in
    let items = c.as_slice-mask-items.result.now in
    let masks = c.args.self.now.masks.keys in
    let held = held_by c.args.self.now in
    let k = c.loop-mask.mask-index in
    let mask = get_or items k no_mask in
    let here : k < length masks = omega (arith, c.loop-mask-test.true, ap length c.as_slice-mask-items.ensures.keys) in
    let is : mask ≡ get_or masks k no_mask = ap (λ ms. get_or ms k no_mask) c.as_slice-mask-items.ensures.keys in
    elim c.if-is_worth.branch [
      | then-is_worth w ↦
          let probable = (and_parts (may_cover any l mask) _ (sym c.is_worth.ensures ∙ w.if-is_worth.true)).0 in
          w.found-is ∙ (w.later_of-found.ensures ∙ (ap (later c.loop-mask.found) (w.last_with.ensures ∙ ap (λ q. last_under q l held) w.values_of.ensures)
          ∙ (ap (λ o. later o (last_under (key_by mask l) l held)) c.loop-mask.invariant ∙ mask_looked_up any l masks held k mask no_mask here is probable)))
      | else-is_worth w ↦
          w.found-is ∙ (c.loop-mask.invariant ∙ mask_passed_over any l masks held k mask no_mask here is
          (none_with_stems any l mask held self.sources.stems.keys self.destinations.stems.keys c.known-sources.result c.known-destinations.result
          (subst (λ a. TellsStems self.sources.stems.keys a c.known-sources.result) c.first_net.ensures c.known-sources.ensures)
          (subst (λ a. TellsStems self.destinations.stems.keys a c.known-destinations.result) c.first_net-2.ensures c.known-destinations.ensures)
          (λ i lt. c.requires.sources i (omega (arith, lt, length-map self.lines.items line_of))) (λ i lt. c.requires.destinations i (omega (arith, lt, length-map self.lines.items line_of)))
          (sym c.is_worth.ensures ∙ w.if-is_worth.false)))
    ]
