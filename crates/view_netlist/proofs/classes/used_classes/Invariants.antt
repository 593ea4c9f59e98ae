use Rattle.std.proofs.Common.{◌≡◌, drop, flat_map, map}
use Rattle.net_model.specs.Rows.{plain_circuit}
use Rattle.view_netlist.specs.Classes.{classes_of, first_classes, used_classes}
use Rattle.view_netlist.specs.Kinds.{class_seen}
use Rattle.view_netlist.proofs.classes.used_classes.Given as goal

abbrev pub invariant-circuits : goal.invariant-circuits
invariant-circuits l = first_classes (map class_seen l.seen.keys) (flat_map classes_of (map plain_circuit (drop l.i l.circuits))) ≡ used_classes (map plain_circuit l.circuits)
