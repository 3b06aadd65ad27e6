-- Policies where no translation is in force, whose networks lie apart.
use Rattle.std.specs.Prelude.{◌≡◌, ◌≢◌, ℕ, ◌<◌, false, [], length}
use Rattle.spoc_base.specs.Address.{is_inside}
use Rattle.policy_model.specs.Policy.{Policy, net_of, iface_of}

-- no tag translates or hides a network
abbrev pub IsUntranslated : Policy → Type 0
IsUntranslated p = (n : ℕ) → n < length p.nets → (net_of p n).nats ≡ []

-- no interface binds a tag, so that none is in force anywhere
abbrev pub IsUnbound : Policy → Type 0
IsUnbound p = (i : ℕ) → i < length p.ifaces → (iface_of p i).binds ≡ []

-- no network's own prefix is part of another's
abbrev pub IsApart : Policy → Type 0
IsApart p = (n m : ℕ) → n < length p.nets → m < length p.nets → n ≢ m → is_inside (net_of p n).own (net_of p m).own ≡ false
