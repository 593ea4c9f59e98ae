use Rattle.view_words.proofs.WordLaws.{word_read, printable}
use Rattle.view_words.proofs.laws.word_laws.Goals as goal

pub returns : goal.returns
returns c = record { read = word_read; printable = printable }
