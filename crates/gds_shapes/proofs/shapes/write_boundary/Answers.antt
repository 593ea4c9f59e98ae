use Rattle.std.proofs.Common.{◌∙◌, ℕ, List, ◌++◌, ap}
use Rattle.std.proofs.lemmas.Result.{IfOk-equal}
use Rattle.gds_records.specs.Records.{record_bytes}
use Rattle.gds_records.specs.Kinds.{BOUNDARY, LAYER, DATATYPE, XY, ENDEL}
use Rattle.gds_elements.specs.Reading.{rec}
use Rattle.gds_shapes.specs.Data.{bare, number}
use Rattle.gds_shapes.specs.Stream.{outline}
use Rattle.gds_shapes.proofs.Joined.{five}
use Rattle.gds_shapes.proofs.shapes.write_boundary.Goals as goal

pub returns : goal.returns
returns c =
    let key = c.args.key in
    IfOk-equal c.write_record-5.result _ _ _ c.write_record-5.ensures.written
    (five record_bytes (bare BOUNDARY) (number LAYER key.layer) (number DATATYPE key.datatype) (rec XY 3 (outline c.args.rect)) (bare ENDEL) _ _ _ _ _
    c.in_ok-write_record.ensures.written
    (c.in_ok-write_record-2.ensures.written ∙ ap (λ (bytes : List ℕ). c.write_record.new.out.items ++ record_bytes (rec LAYER 2 bytes)) c.to_be_bytes.ensures)
    (c.in_ok-write_record-3.ensures.written ∙ ap (λ (bytes : List ℕ). c.write_record-2.new.out.items ++ record_bytes (rec DATATYPE 2 bytes)) c.to_be_bytes-2.ensures)
    (c.in_ok-write_record-4.ensures.written ∙ ap (λ (bytes : List ℕ). c.write_record-3.new.out.items ++ record_bytes (rec XY 3 bytes)) c.outline-points.ensures))
