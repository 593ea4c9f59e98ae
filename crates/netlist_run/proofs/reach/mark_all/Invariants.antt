use Rattle.std.proofs.Common.{◌≡◌, length}
use Rattle.netlist_run.specs.Work.{with_row}
use Rattle.netlist_run.proofs.reach.mark_all.Given as goal

abbrev pub invariant-row : goal.invariant-row
invariant-row l =
    with_row (record { marks = l.marks.items; work = l.work.items }) l.rest
    ≡ with_row (record { marks = l.fn.marks.items; work = l.fn.work.items }) l.row

abbrev pub decreases-row : goal.decreases-row
decreases-row l = length l.rest
