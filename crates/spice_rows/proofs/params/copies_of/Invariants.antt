use Rattle.std.proofs.Common.{◌≡◌, length}
use Rattle.spice_cards.specs.Seen.{params_seen}
use Rattle.spice_rows.specs.Params.{copies_after, copies_of}
use Rattle.spice_rows.proofs.params.copies_of.Given as goal

abbrev pub invariant-params : goal.invariant-params
invariant-params l = copies_after l.copies (params_seen l.rest) ≡ copies_of (params_seen l.params)

abbrev pub decreases-params : goal.decreases-params
decreases-params l = length l.rest
