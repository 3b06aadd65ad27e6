use Rattle.std.proofs.Common.{◌≡◌, map, take}
use Rattle.policy_model.specs.Routes.{hops_through}
use Rattle.static_routes.specs.Chains.{numbers_of}
use Rattle.static_routes.specs.Found.{found_of, with_found}
use Rattle.static_routes.proofs.gather.add_through.Given as goal

abbrev pub invariant-loop-next : goal.invariant-loop-next
invariant-loop-next l = l.found.keys ≡ with_found l.fn.found.keys (map (found_of l.r.0 l.v.0) (hops_through l.out.0 (numbers_of (take l.next-index l.nexts))))
