use Rattle.std.proofs.Common.{◌≡◌, length, map}
use Rattle.std.specs.Global.{Vec}
use Rattle.std.specs.Prelude.{Bool}
use Rattle.view_drawing.proofs.Marking.{AreMarksTo}
use Rattle.view_drawing.proofs.called.called_marks.Given as goal

abbrev pub invariant-loop : goal.invariant-loop
invariant-loop l = length l.all.items ≡ l.counter

abbrev pub invariant-loop-cell : goal.invariant-loop-cell
invariant-loop-cell l = AreMarksTo l.design l.circuits l.pins l.cell-index (map (λ (m : Vec Bool). m.items) l.all.items)
