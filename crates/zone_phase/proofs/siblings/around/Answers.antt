use Rattle.std.proofs.Common.{rules, FitsSigned, w64}
use Rattle.std.proofs.lemmas.Int.{to_z-of_z}
use Rattle.zone_phase.proofs.siblings.around.Goals as goal

pub begun-requires-2-clause-right : goal.begun-requires-2-clause-right
begun-requires-2-clause-right c =
    let f : FitsSigned w64 c.args.place.now.column_step.y = search rules in
    let h = c.requires.close.column_y c.args.shifts.columns.ahead c.requires.shifts.right_in in
    simp to_z-of_z h

pub begun-requires-2-clause-left : goal.begun-requires-2-clause-left
begun-requires-2-clause-left c =
    let f : FitsSigned w64 c.args.place.now.column_step.y = search rules in
    let h = c.requires.close.column_y c.args.shifts.columns.back c.requires.shifts.left_in in
    simp to_z-of_z h
