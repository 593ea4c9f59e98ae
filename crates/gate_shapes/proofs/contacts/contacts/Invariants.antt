use Rattle.std.proofs.Common.{◌+◌, ◌-◌, length}
use Rattle.gate_shapes.specs.Contacts.{joint_of, AreTops, ContactsSoFar}
use Rattle.gate_shapes.proofs.contacts.contacts.Given as goal

abbrev pub invariant-sides : goal.invariant-sides
invariant-sides l = record {
  tops : AreTops l.rects l.tops.items;
  far : ContactsSoFar (joint_of l.joint) l.rects l.tops.items l.i l.j l.links.items;
}

abbrev pub decreases-sides : goal.decreases-sides
decreases-sides l = (length l.tops.items - l.i) + (length l.rects - l.j)
