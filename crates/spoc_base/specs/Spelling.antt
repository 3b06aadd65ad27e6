-- The bytes of words.
use Rattle.std.specs.Prelude.{ℕ, Bool, ◌||◌, ◌&&◌, ◌==◌, nat_le, List}
use Rattle.std.specs.List.{list_all}

-- letters, digits and `_ . : / -`
abbrev pub is_word_byte : ℕ → Bool
is_word_byte b =
    (nat_le 65 b && nat_le b 90) || ((nat_le 97 b && nat_le b 122) || ((nat_le 48 b && nat_le b 57)
    || (b == 95 || (b == 46 || (b == 58 || (b == 47 || b == 45))))))

-- Only such bytes stand there: no blank, and no line feed.
abbrev pub is_spelled : List ℕ → Bool
is_spelled text = list_all is_word_byte text
