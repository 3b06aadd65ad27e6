-- A word that names an interface.
use Rattle.std.proofs.Common.{refl, ◌≡◌, ◌+◌, ℕ, true, List, ◌∷◌, Option, Some, None, Ok, drop, subst}
use Rattle.std.specs.Prelude.{codes}
use Rattle.spoc_lexer.specs.Tokens.{Tok}
use Rattle.spoc_ast.specs.declared.word.PortName.{PortName}
use Rattle.spoc_parser.specs.Texts.{begins_with}
use Rattle.spoc_parser.specs.Trees.{PortItem}
use Rattle.spoc_parser.specs.Readers.{is_word, port_of, read_port, with_rest}
use Rattle.spoc_parser.specs.Seen.{Gives, IsPort, IsPerhaps}

with_some : (file : ℕ) (place : PortName) (o : Option PortItem) (rest : List Tok) → IsPerhaps (IsPort file) o (Some place) → Gives (IsPort file) (Ok place) rest (with_rest o rest)
with_some file place None rest h = absurd h
with_some file place (Some item) rest h = (h, refl)

pub port_read : (file : ℕ) (place : PortName) (t : Tok) (rest toks : List Tok) (names : List ℕ) → toks ≡ t ∷ rest → is_word t.kind ≡ true → begins_with (codes "interface:") t.text ≡ true → names ≡ drop 10 t.text → IsPerhaps (IsPort file) (port_of (record { start = t.start + 10; text = names })) (Some place) → Gives (IsPort file) (Ok place) rest (read_port toks)
port_read file place t rest toks names e w b d h =
    rw (e, w, b) (with_some file place (port_of (record { start = t.start + 10; text = drop 10 t.text })) rest (subst (λ (n : List ℕ). IsPerhaps (IsPort file) (port_of (record { start = t.start + 10; text = n })) (Some place)) d h))
