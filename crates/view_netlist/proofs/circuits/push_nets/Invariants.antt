use Rattle.std.proofs.Common.{◌≡◌, ◌++◌, ◌+◌, length}
use Rattle.view_netlist.specs.Circuits.{net_texts}
use Rattle.view_netlist.specs.Drawing.{plain_drawing}
use Rattle.view_netlist.proofs.circuits.push_nets.Given as goal

abbrev pub invariant-nets : goal.invariant-nets
invariant-nets l =
    (l.out.items ++ net_texts l.layers (plain_drawing l.drawing).nets l.names l.k l.rest ≡ l.initial.out.items ++ net_texts l.layers (plain_drawing l.drawing).nets l.names 0 l.names)
    × (l.k + length l.rest ≡ length l.names)

abbrev pub decreases-nets : goal.decreases-nets
decreases-nets l = length l.rest
