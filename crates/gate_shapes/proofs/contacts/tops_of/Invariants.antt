use Rattle.std.proofs.Common.{◌≡◌, take}
use Rattle.gate_shapes.specs.Contacts.{tops_from}
use Rattle.gate_shapes.proofs.contacts.tops_of.Given as goal

abbrev pub invariant-loop-i : goal.invariant-loop-i
invariant-loop-i l = l.tops.items ≡ tops_from 0 (take l.i l.rects)
