use Rattle.std.proofs.Common.{rules, tests}
use Rattle.std.proofs.lemmas.Iterator.Search.{any_from_yields_List}
use Rattle.std.proofs.lemmas.Iterator.Splits.{YieldsList-from_slice_split}
use Rattle.spoc_host.specs.Paths.{is_outer_part}
use Rattle.spoc_host.proofs.path.leads_out.Goals as goal

pub returns : goal.returns
returns c = any_from_yields_List is_outer_part _ _ _ c.any.ensures.ran (YieldsList-from_slice_split _ _ c.args.path.now c.split.ensures.rest c.split.ensures.done c.split.ensures.closure (λ x r q k. search (rules, tests))) (λ x r q k. search (rules, tests))
