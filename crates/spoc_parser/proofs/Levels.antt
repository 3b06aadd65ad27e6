-- Sets by their levels.
use Rattle.std.proofs.Common.{◌≡◌, ◌-◌, ℕ, zero, suc, Bool, List, Result, refl, subst, arith}
use Rattle.spoc_lexer.specs.Tokens.{Tok}
use Rattle.spoc_ast.specs.declared.set.SetTree.{SetTree}
use Rattle.spoc_parser.specs.declared.fail.Stop.{Stop}
use Rattle.spoc_parser.specs.Reading.{read_term, read_set, read_set_in}
use Rattle.spoc_parser.specs.Seen.{Gives, IsSet, IsSetIn, IsTerm}

-- a set with one level more than its terms
pub set_gives : (file : ℕ) (user_stands area_stands : Bool) (depth : ℕ) (r : Result SetTree Stop) (left toks : List Tok) → (depth ≡ 0 → ⊥) → Gives (IsSet (IsTerm file (depth - 1))) r left (read_set (read_term user_stands (depth - 1) area_stands) toks) → Gives (IsSetIn file depth) r left (read_set_in user_stands depth area_stands toks)
set_gives file u a zero r left toks ne h = absurd (ne refl)
set_gives file u a (suc d) r left toks ne h = let less : suc d - 1 ≡ d = omega arith in subst (λ m. Gives (IsSet (IsTerm file m)) r left (read_set (read_term u m a) toks)) less h
