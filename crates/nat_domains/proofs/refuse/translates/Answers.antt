use Rattle.std.proofs.Common.{◌∙◌, ℕ, sym, ap}
use Rattle.std.specs.Prelude.{◌==◌, Option, option_map}
use Rattle.std.specs.List.{list_any}
use Rattle.spoc_base.specs.Address.{Cidr}
use Rattle.spoc_base.specs.Shown.{cidr_of}
use Rattle.spoc_base.specs.declared.address.Prefix.{Prefix}
use Rattle.spoc_base.specs.declared.ids.TagId.{TagId}
use Rattle.policy_model.specs.Policy.{Net}
use Rattle.policy_model.proofs.Views.{list_any_map}
use Rattle.nat_domains.proofs.refuse.translates.Goals as goal

pub returns : goal.returns
returns c =
    let tag = c.args.tag.0 in
    c.has_nat.ensures
    ∙ (sym (list_any_map (λ (nat : ℕ × Option Cidr). nat.0 == tag) (λ (nat : TagId × Option Prefix). (nat.0.0, option_map cidr_of nat.1)) c.net.result.nats.now)
    ∙ sym (ap (λ (net : Net). list_any (λ nat. nat.0 == tag) net.nats) c.net.ensures.seen))
