-- What devices of a dialect do. Whatever asks for a dialect asks one of these, but for the text of a device's file.
use Rattle.std.specs.Prelude.{Bool, true, false}
use Rattle.spoc_base.specs.declared.dialect.Dialect.{Dialect}
use Rattle.spoc_base.specs.declared.dialect.Dialect.TheVariants.{Ios, Asa}

-- it passes a reply to what one of its lists let in, whatever its lists say of the reply
abbrev pub keeps_state : Dialect → Bool
keeps_state Ios = false
keeps_state Asa = true

-- its lists have lines for replies
abbrev pub places_replies : Dialect → Bool
places_replies Ios = true
places_replies Asa = false

-- neighbouring lines of its lists are joined, with object groups at their ends
abbrev pub is_grouped : Dialect → Bool
is_grouped Ios = false
is_grouped Asa = true
