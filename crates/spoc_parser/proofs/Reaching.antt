-- Tokens that end below 2^32, by a test.
use Rattle.std.proofs.Common.{◌≡◌, ◌<◌, ◌+◌, ◌^◌, ℕ, suc, true, List, [], ◌∷◌, length, nat_lt, refl, arith}
use Rattle.std.specs.List.{list_all}
use Rattle.spoc_lexer.specs.declared.token.Token.{Token}
use Rattle.spoc_parser.specs.Reach.{AreInReach, is_in_reach}

lt_is : (a b : ℕ) → a < b → nat_lt a b ≡ true
lt_is a b h = grind (arith, h)

pub all_pass : (tokens : List Token) → AreInReach tokens → list_all is_in_reach tokens ≡ true
all_pass [] h = refl
all_pass (t ∷ tokens) h =
    let first : is_in_reach t ≡ true = lt_is (t.start + length t.text.now) (2 ^ 32) (h 0 t (omega arith)) in
    rw (first, all_pass tokens (λ k d l. h (suc k) d (omega (arith, l)))) refl
