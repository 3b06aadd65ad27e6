-- The words at which names are printed.
use Rattle.std.specs.Prelude.{ℕ, List}
use Rattle.std.specs.List.{All}
use Rattle.spoc_base.specs.declared.place.Named.{Named}
use Rattle.spoc_base.specs.declared.place.Named.TheVariants.{Plain, Iface}
use Rattle.spoc_ast.specs.Written.{Lexeme}
use Rattle.policy_decls.specs.Names.{Mention}
use Rattle.policy_decls.specs.Lookup.{IfaceText, iface_hardware}

-- P holds of the word of a name, and for an interface of those of its router and its network
abbrev pub HoldsOfShown : (Lexeme → Type 0) → (owner text : List ℕ) → Named → Type 0
HoldsOfShown P owner text (Plain kind span) = P (record { span = span; text = text })
HoldsOfShown P owner text (Iface router net) = P (record { span = router; text = owner }) × P (record { span = net; text = text })

-- P holds of each word at which a name is printed: its place and its bytes
abbrev pub IsShownBy : (Lexeme → Type 0) → Mention → Type 0
IsShownBy P name = HoldsOfShown P name.owner name.text name.shown

-- P holds of the words of an interface: its router, its network and its hardware
pub record IsIfaceOf (P : Lexeme → Type 0) (iface : IfaceText) : Type 0 where
  pub router : P iface.router
  pub net : P iface.net
  pub hardware : All P (iface_hardware iface)
