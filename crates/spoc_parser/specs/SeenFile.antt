-- What is answered for a file.
use Rattle.std.specs.Prelude.{◌≡◌, ℕ, List, [], ◌∷◌, Option, Some, None}
use Rattle.std.specs.List.{AllZip}
use Rattle.spoc_lexer.specs.Tokens.{Tok}
use Rattle.spoc_parser.specs.declared.fail.ParseFail.{ParseFail}
use Rattle.spoc_parser.specs.declared.fail.ParseFail.TheVariants.{Syntax, Memory}

-- these are the items of the run, and these tokens are left behind it
abbrev pub Ran : {A X : Type 0} → (A → X → Type 0) → List X → List Tok → Option (List A × List Tok) → Type 0
Ran R found left None = ⊥
Ran R found left (Some r) = AllZip R r.0 found × (left ≡ r.1)

-- the first of the tokens begins there
abbrev pub BeginsAt : ℕ → List Tok → Type 0
BeginsAt at [] = ⊥
BeginsAt at (t ∷ toks) = t.start ≡ at

-- a token is left behind the run, and the first one begins there
abbrev pub StopsAt : {A : Type 0} → ℕ → Option (A × List Tok) → Type 0
StopsAt at None = ⊥
StopsAt at (Some r) = BeginsAt at r.1

-- the run stops at the offset, unless memory ran out
abbrev pub FailsAt : {A : Type 0} → ParseFail → Option (A × List Tok) → Type 0
FailsAt (Syntax at) o = StopsAt at o
FailsAt Memory o = Unit {0}
