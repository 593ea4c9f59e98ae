use Rattle.std.proofs.Common.{inr, ◌^◌, rules, FitsSigned, w64}
use Rattle.std.proofs.lemmas.Int.{to_z-of_z}
use Rattle.geo_base.specs.Near.{IsWithin}
use Rattle.cell_graph.specs.Arrays.{SomeOrigin, AreOrigins}
use Rattle.cell_graph.proofs.arrays.origins_of.Goals as goal

pub returns-in_default-origins : goal.returns-in_default-origins
returns-in_default-origins c =
    let p = c.args.place.now in
    let f1 : FitsSigned w64 p.motion.dy = search rules in
    let f2 : FitsSigned w64 p.column_step.y = search rules in
    let f3 : FitsSigned w64 p.row_step.y = search rules in
    let far : SomeOrigin p.motion.dy p.column_step.y p.row_step.y p.rows p.columns (λ z. IsWithin (2 ^ 36) z → ⊥) = simp to_z-of_z at (c.in_default-origins.ensures {u = tt}) in
    inr far

pub returns : goal.returns
returns c =
    let p = c.args.place.now in
    let f1 : FitsSigned w64 p.motion.dy = search rules in
    let f2 : FitsSigned w64 p.column_step.y = search rules in
    let f3 : FitsSigned w64 p.row_step.y = search rules in
    let f4 : FitsSigned w64 p.motion.dx = search rules in
    let f5 : FitsSigned w64 p.column_step.x = search rules in
    let f6 : FitsSigned w64 p.row_step.x = search rules in
    let x = c.in-Some.x in
    let y = c.in-Some-origins.y in
    let ox : AreOrigins p.motion.dx p.column_step.x p.row_step.x p.rows p.columns x = simp to_z-of_z at (c.in-Some.ensures {u = tt}) in
    let oy : AreOrigins p.motion.dy p.column_step.y p.row_step.y p.rows p.columns y = simp to_z-of_z at (c.in-Some-origins.ensures {u = tt}) in
    record { x = ox; y = oy }
