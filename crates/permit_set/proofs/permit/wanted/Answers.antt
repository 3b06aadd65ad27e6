use Rattle.std.proofs.Common.{◌∙◌, sym}
use Rattle.policy_model.specs.Permits.{permit_holds}
use Rattle.policy_model.proofs.Views.{list_any_map}
use Rattle.permit_set.specs.Shown.{permit_of, packet_of}
use Rattle.permit_set.proofs.permit.wanted.Goals as goal

pub returns : goal.returns
returns c = c.some_holds.ensures ∙ sym (list_any_map (λ q. permit_holds q (packet_of c.args.x.now)) permit_of c.args.all.now)
