use Rattle.std.proofs.Common.{◌≡◌, length, map}
use Rattle.std.specs.Prelude.{string_bytes}
use Rattle.netlist_run.specs.Words.{nothing, with_words, words_seen}
use Rattle.netlist_run.proofs.words.read_words.Given as goal

abbrev pub invariant-words : goal.invariant-words
invariant-words l = with_words (words_seen l.reading) (map string_bytes l.rest) ≡ with_words nothing (map string_bytes l.words)

abbrev pub decreases-words : goal.decreases-words
decreases-words l = length l.rest
