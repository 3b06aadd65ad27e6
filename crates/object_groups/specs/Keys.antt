-- Prefixes in a form that can be hashed.
use Rattle.std.specs.Prelude.{ℕ}
use Rattle.spoc_base.specs.declared.address.Prefix.{Prefix}

-- the address and the length
abbrev pub key_of : Prefix → ℕ × ℕ
key_of p = (p.net.0, p.len)
