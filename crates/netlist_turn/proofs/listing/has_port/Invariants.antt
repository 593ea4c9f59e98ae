use Rattle.std.proofs.Common.{◌≡◌, ◌∷◌, [], length}
use Rattle.std.specs.List.{list_any}
use Rattle.spice_rows.specs.Names.{is_text}
use Rattle.netlist_turn.specs.PinsSeen.{pins_seen}
use Rattle.netlist_turn.proofs.listing.has_port.Given as goal

abbrev pub invariant-ports : goal.invariant-ports
invariant-ports l = list_any (λ p. is_text (l.letter ∷ []) p) (pins_seen l.rest) ≡ list_any (λ p. is_text (l.letter ∷ []) p) (pins_seen l.ports)

abbrev pub decreases-ports : goal.decreases-ports
decreases-ports l = length l.rest
