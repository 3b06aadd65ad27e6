use Rattle.std.proofs.Common.{◌∙◌, sym, ap}
use Rattle.std.specs.Prelude.{is_none}
use Rattle.std.specs.List.{list_any}
use Rattle.policy_model.specs.Policy.{Net}
use Rattle.rule_distribute.proofs.Passing.{hides_seen}
use Rattle.rule_distribute.proofs.hidden.may_hide.Goals as goal

pub returns : goal.returns
returns c = c.hides.ensures ∙ (sym (hides_seen c.net.result.nats.now) ∙ sym (ap (λ (net : Net). list_any (λ nat. is_none nat.1) net.nats) c.net.ensures.seen))
