-- The permits' networks are there.
use Rattle.std.proofs.Common.{◌≡◌, ℕ, ◌<◌, List, length, map, sym, ap, ◌∙◌, arith, get_or}
use Rattle.std.proofs.lemmas.List.{get_or-map, length-map}
use Rattle.policy_model.specs.Policy.{Policy}
use Rattle.policy_model.specs.Permits as plain
use Rattle.policy_model.specs.Blocks.{permit_at, no_permit}
use Rattle.permit_set.specs.Shown.{permit_of}
use Rattle.permit_set.specs.declared.permit.Permit.{Permit}
use Rattle.permit_lines.specs.Given.{AreKnown}

-- a permit by its place
pub at_place : (permits : List Permit) (k : ℕ) (q : Permit) → k < length permits → q ≡ get_or permits k q → permit_at (map permit_of permits) k ≡ permit_of q
at_place permits k q below is = get_or-map permit_of permits k q no_permit below ∙ ap permit_of (sym is)

module _ (p : Policy) (permits : List Permit) (given : AreKnown p (map permit_of permits)) (k : ℕ) (q : Permit) (below : k < length permits) (is : q ≡ get_or permits k q) where
  count : k < length (map permit_of permits)
  count = let n = length-map permits permit_of in omega (arith, below, n)

  pub src_there : q.src.net.0 < length p.nets
  src_there = let e = ap (λ (x : plain.Permit). x.src.net) (at_place permits k q below is) in let h = (given.each k count).src_end.there in omega (arith, e, h)

  pub dst_there : q.dst.net.0 < length p.nets
  dst_there = let e = ap (λ (x : plain.Permit). x.dst.net) (at_place permits k q below is) in let h = (given.each k count).dst_end.there in omega (arith, e, h)
