use Rattle.std.proofs.Common.{◌≡◌, take, map}
use Rattle.net_model.specs.declared.netlist.CallRow.{CallRow}
use Rattle.net_align.specs.Marks.{marked}
use Rattle.net_align.proofs.marks.mark_called.Given as goal

abbrev pub invariant-loop-call : goal.invariant-loop-call
invariant-loop-call l = l.marks.items ≡ marked (map (λ (r : CallRow). r.circuit) (take l.call-index l.calls)) l.fn.marks.items
