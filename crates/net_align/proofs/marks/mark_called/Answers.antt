use Rattle.std.proofs.Common.{◌<◌, ℕ, Bool, true, List, map, take, length, sym, ap, ◌∙◌, rules}
use Rattle.std.specs.Prelude.{slice_set}
use Rattle.net_model.specs.declared.netlist.CallRow.{CallRow}
use Rattle.net_align.specs.Marks.{marked}
use Rattle.net_align.proofs.Marking.{marked_more}
use Rattle.net_align.proofs.Rows.{map_more}
use Rattle.net_align.proofs.marks.mark_called.Goals as goal

pub loop-call-preserved : goal.loop-call-preserved
loop-call-preserved c =
    let calls = c.args.calls.now in
    let i = c.loop-call.call-index in
    let row = c.call-item.result in
    let old = c.args.marks.now.items in
    let below : i < length calls = search rules in
    ap (λ (t : List Bool). slice_set t row.circuit true) c.loop-call.invariant
    ∙ (sym (marked_more (map (λ (r : CallRow). r.circuit) (take i calls)) row.circuit old)
    ∙ ap (λ (t : List ℕ). marked t old) (sym (map_more (λ (r : CallRow). r.circuit) calls i row below c.call-item.is)))
