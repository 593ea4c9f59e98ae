use Rattle.std.proofs.Common.{◌≡◌, ◌++◌, length, map}
use Rattle.view_netlist.specs.Classes.{class_texts}
use Rattle.view_netlist.specs.Kinds.{class_seen}
use Rattle.view_netlist.proofs.classes.push_classes.Given as goal

abbrev pub invariant-classes : goal.invariant-classes
invariant-classes l = l.out.items ++ class_texts (map class_seen l.rest) ≡ l.initial.out.items ++ class_texts (map class_seen l.classes)

abbrev pub decreases-classes : goal.decreases-classes
decreases-classes l = length l.rest
