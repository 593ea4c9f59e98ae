use Rattle.std.proofs.Common.{◌++◌, ℕ, List, pos, ap, ◌∙◌, arith}
use Rattle.std.proofs.lemmas.Result.{IfOk-equal}
use Rattle.geo_base.specs.declared.shapes.Point.{Point}
use Rattle.gds_records.specs.Records.{record_bytes}
use Rattle.gds_records.specs.Kinds.{XY}
use Rattle.gds_elements.specs.Reading.{rec}
use Rattle.gds_shapes.proofs.PointData.{point_push, all_points, all_length}
use Rattle.gds_shapes.proofs.references.write_points.Goals as goal

abbrev none : Point
none = record { x = pos 0; y = pos 0 }

pub loop-p-preserved : goal.loop-p-preserved
loop-p-preserved c = point_push c.args.ps.now c.loop-p.p-index none _ _ c.loop-p-test.true c.loop-p.invariant (c.in_ok-extend_from_slice.ensures.items ∙ ap (λ (bs : List ℕ). c.loop-p.body.items ++ bs) c.point_bytes.ensures)

pub returns : goal.returns
returns c =
    let whole = all_points c.args.ps.now c.loop-p.p-index _ _ c.deref.ensures.value c.loop-p.invariant c.loop-p-test.false in
    IfOk-equal c.write_record.result _ _ _ c.write_record.ensures.written (ap (λ (bs : List ℕ). c.args.out.now.items ++ record_bytes (rec XY 3 bs)) whole)

pub write_record-requires-clause-even : goal.write_record-requires-clause-even
write_record-requires-clause-even c = let e = all_length c.args.ps.now _ (all_points c.args.ps.now c.loop-p.p-index _ _ c.deref.ensures.value c.loop-p.invariant c.loop-p-test.false) in omega (arith, e)

pub write_record-requires-clause-short : goal.write_record-requires-clause-short
write_record-requires-clause-short c = let e = all_length c.args.ps.now _ (all_points c.args.ps.now c.loop-p.p-index _ _ c.deref.ensures.value c.loop-p.invariant c.loop-p-test.false) in let few = c.requires.few in omega (arith, e, few)
