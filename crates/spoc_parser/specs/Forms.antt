-- Any word, read.
use Rattle.spoc_parser.specs.declared.forms.Form.TheVariants.{Any}
use Rattle.spoc_parser.specs.Trees.{Lexeme}
use Rattle.spoc_parser.specs.Readers.{Reader, read_word}

abbrev pub read_any_word : Reader Lexeme
read_any_word = read_word Any
