-- What is common to all dialects.
use Rattle.std.proofs.Common.{◌≡◌, Bool, true, false, not, refl}
use Rattle.std.specs.Prelude.{Option, Some, None, is_some}
use Rattle.std.proofs.lemmas.Bool.{false≢true}
use Rattle.spoc_base.specs.declared.dialect.Dialect.{Dialect}
use Rattle.spoc_base.specs.declared.dialect.Dialect.TheVariants.{Ios, Asa}
use Rattle.spoc_base.specs.Dialects.{keeps_state, places_replies}
use Rattle.policy_model.specs.Policy.{Device, device_does}

-- Replies pass in one way: by lines of their own, or by state.
one_way : (d : Dialect) → places_replies d ≡ not (keeps_state d)
one_way Ios = refl
one_way Asa = refl

pub replies_pass_one_way : (o : Option Device) → is_some o ≡ true → device_does places_replies o ≡ not (device_does keeps_state o)
replies_pass_one_way None h = absurd (false≢true h)
replies_pass_one_way (Some d) h = one_way d.dialect
