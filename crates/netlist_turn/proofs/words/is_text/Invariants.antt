use Rattle.std.proofs.Common.{◌≡◌, length}
use Rattle.spice_rows.specs.Names.{is_text}
use Rattle.netlist_turn.proofs.words.is_text.Given as goal

abbrev pub invariant-bytes : goal.invariant-bytes
invariant-bytes l = is_text l.right l.left ≡ is_text l.text l.word

abbrev pub decreases-bytes : goal.decreases-bytes
decreases-bytes l = length l.left
