use Rattle.pin_phase.proofs.Cornering.{collected_at, if_ok, none_at, outside_at}
use Rattle.pin_phase.proofs.corners.pieces_at.Goals as goal

pub returns-in-Some-corner_window : goal.returns-in-Some-corner_window
returns-in-Some-corner_window g c =
    let d = g.C.Cells.design c.args.cells.now in let t = g.C.Cells.tables c.args.cells.now in
    if_ok _ _ c.collect_nets.result (λ v k. collected_at d t c.args.cell c.args.conductor c.args.at c.in-Some.hull c.in-Some-corner_window.window v.items c.in-Some.ensures.some c.in-Some-corner_window.ensures k) c.collect_nets.ensures

pub returns-in-None-corner_window : goal.returns-in-None-corner_window
returns-in-None-corner_window g c =
    outside_at (g.C.Cells.design c.args.cells.now) (g.C.Cells.tables c.args.cells.now) c.args.cell c.args.conductor c.args.at c.in-Some.hull c.new.result.items c.new.ensures.items c.in-Some.ensures.some c.in-None-corner_window.ensures

pub returns-in-None : goal.returns-in-None
returns-in-None g c =
    none_at (g.C.Cells.design c.args.cells.now) (g.C.Cells.tables c.args.cells.now) c.args.cell c.args.conductor c.args.at c.new-in-None.result.items c.new-in-None.ensures.items c.in-None.ensures.none
