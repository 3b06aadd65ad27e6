use Rattle.std.proofs.Common.{sym, ◌∙◌}
use Rattle.spoc_lexer.specs.Seen.{seen}
use Rattle.spoc_parser.specs.Seen.{toks_of}
use Rattle.spoc_parser.proofs.Ports.{port_read}
use Rattle.spoc_parser.proofs.cursor.Source.port.Goals as goal

pub returns-in-Some-port_of-clause-gives : goal.returns-in-Some-port_of-clause-gives
returns-in-Some-port_of-clause-gives c =
    let text = c.in-Some-behind.ensures.some in
    port_read c.args.self.file c.in-Some-port_of.place (seen c.in-Some.token) (toks_of c.take.new.self.rest.now) (toks_of c.args.tokens.now.rest.now) c.in-Some-behind.names.now
    c.in-Some.ensures.token (sym c.is_word.ensures ∙ c.if-not-is_word.false) text.0 text.1 c.in-Some-port_of.ensures
