use Rattle.std.proofs.Common.{◌≡◌, length}
use Rattle.spice_cards.specs.Seen.{words_seen}
use Rattle.netlist_run.specs.Circuits.{called}
use Rattle.netlist_run.proofs.circuits.called.Given as goal

abbrev pub invariant-words : goal.invariant-words
invariant-words l = called (words_seen l.rest) ≡ called (words_seen l.words)

abbrev pub decreases-words : goal.decreases-words
decreases-words l = length l.rest
