use Rattle.std.proofs.Common.{◌≡◌, ◌∙◌, suc, length, map, sym, ap, arith}
use Rattle.std.proofs.lemmas.List.{length-map, length_push}
use Rattle.dev_config.specs.Seen.{line_of}
use Rattle.local_optimise.specs.declared.keys.Key.{Key}
use Rattle.local_optimise.specs.Keys.{key_of, key_by, src_stem, dst_stem}
use Rattle.local_optimise.specs.Held.{held_by, line_at}
use Rattle.local_optimise.proofs.Shelving.{line_before, line_last, masks_more, stems_more}
use Rattle.local_optimise.proofs.shelf.Shelf.put.Goals as goal

pub returns-clause-indexed : goal.returns-clause-indexed
returns-clause-indexed c =
    let self = c.args.self.now in
    let old = held_by self in
    let now = c.push_line.new.lines.items in
    let new = map line_of now in
    let x = line_of c.args.line in
    let mask = c.asked_by-mask.result in
    let grown = c.in_ok-push_line.ensures in
    let was : length old ≡ length self.lines.items = length-map self.lines.items line_of in
    let is : length new ≡ length now = length-map now line_of in
    let more : length new ≡ suc (length old) = ap length grown ∙ (length_push old x ∙ (omega arith)) in
    let links = c.in_ok-add-3.ensures.count in
    let count = c.requires.count in
    let key : c.values_of-key.result ≡ key_of x = c.values_of-key.ensures ∙ ap (λ m. key_by m x) c.asked_by-mask.ensures in
    record {
      count = omega (arith, links, count, more, is, was);
      chained = c.in_ok-add-3.ensures.chained (λ i. key_of (line_at old i)) (λ i. key_of (line_at new i)) c.requires.chained
          (λ i lt. ap key_of (line_before old new x i grown (omega (arith, lt, count, was)))) (ap key_of (line_last old new x (length self.chains.links.items) grown (omega (arith, count, was))) ∙ sym key);
      masks = λ i lt. masks_more old new x mask self.masks.keys c.insert.new.self.keys grown c.asked_by-mask.ensures c.in_ok-insert.ensures.updates.0 (λ j l. c.requires.masks j (omega (arith, l, was))) i (omega (arith, lt, more, is));
      sources = λ i lt. stems_more src_stem old new x (c.values_of-key.result.mask.src, c.values_of-key.result.src) self.sources.stems.keys c.add.new.self.stems.keys grown
          (ap (λ (k : Key). (k.mask.src, k.src)) key) c.in_ok-add.ensures (λ j l. c.requires.sources j (omega (arith, l, was))) i (omega (arith, lt, more, is));
      destinations = λ i lt. stems_more dst_stem old new x (c.values_of-key.result.mask.dst, c.values_of-key.result.dst) self.destinations.stems.keys c.add-2.new.self.stems.keys grown
          (ap (λ (k : Key). (k.mask.dst, k.dst)) key) c.in_ok-add-2.ensures (λ j l. c.requires.destinations j (omega (arith, l, was))) i (omega (arith, lt, more, is));
    }
