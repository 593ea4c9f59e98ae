use Rattle.std.proofs.Common.{◌≡◌, length}
use Rattle.std.specs.List.{list_any}
use Rattle.spice_rows.specs.Names.{is_text}
use Rattle.netlist_turn.specs.DevicesSeen.{keys_seen}
use Rattle.netlist_turn.proofs.listing.has_key.Given as goal

abbrev pub invariant-keys : goal.invariant-keys
invariant-keys l = list_any (λ k. is_text l.text k.key) (keys_seen l.rest) ≡ list_any (λ k. is_text l.text k.key) (keys_seen l.keys)

abbrev pub decreases-keys : goal.decreases-keys
decreases-keys l = length l.rest
