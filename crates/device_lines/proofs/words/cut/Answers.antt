use Rattle.device_lines.proofs.WordLaws.{cut_found}
use Rattle.device_lines.proofs.words.cut.Goals as goal

pub returns : goal.returns
returns c = cut_found c.args.text.now c.word_length-at.result c.word_length-at.ensures.place
