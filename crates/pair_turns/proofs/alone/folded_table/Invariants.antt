use Rattle.std.proofs.Common.{◌≡◌, ℕ, List, length}
use Rattle.std.specs.Prelude.{◌||◌}
use Rattle.net_names.specs.Folding.{folded_bytes}
use Rattle.text_table.specs.Texts.{has_text}
use Rattle.pair_turns.specs.Alone.{has_name}
use Rattle.pair_turns.proofs.alone.folded_table.Given as goal

abbrev pub invariant-names : goal.invariant-names
invariant-names l = (name : List ℕ) → (has_text l.table (folded_bytes name) || has_name l.rest name) ≡ has_name l.names name

abbrev pub decreases-names : goal.decreases-names
decreases-names l = length l.rest
