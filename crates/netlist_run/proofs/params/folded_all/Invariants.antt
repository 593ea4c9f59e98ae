use Rattle.std.proofs.Common.{◌≡◌, ◌++◌, ℕ, length, map}
use Rattle.std.specs.Global.{Vec}
use Rattle.net_names.specs.Folding.{folded_bytes}
use Rattle.spice_cards.specs.Seen.{words_seen}
use Rattle.netlist_run.proofs.params.folded_all.Given as goal

abbrev pub invariant-words : goal.invariant-words
invariant-words l = map (λ (w : Vec ℕ). w.items) l.all.items ++ map folded_bytes (words_seen l.rest) ≡ map folded_bytes (words_seen l.words)

abbrev pub decreases-words : goal.decreases-words
decreases-words l = length l.rest
