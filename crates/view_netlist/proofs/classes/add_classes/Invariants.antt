use Rattle.std.proofs.Common.{◌≡◌, length, map}
use Rattle.net_model.specs.Rows.{plain_circuit, plain_device}
use Rattle.view_netlist.specs.Classes.{classes_of, first_classes}
use Rattle.view_netlist.specs.Kinds.{class_of, class_seen}
use Rattle.view_netlist.proofs.classes.add_classes.Given as goal

abbrev pub invariant-devices : goal.invariant-devices
invariant-devices l = first_classes (map class_seen l.seen.keys) (map class_of (map plain_device l.rest)) ≡ first_classes (map class_seen l.initial.seen.keys) (classes_of (plain_circuit l.c))

abbrev pub decreases-devices : goal.decreases-devices
decreases-devices l = length l.rest
