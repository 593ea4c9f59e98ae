use Rattle.std.proofs.Common.{◌∙◌, ℕ, List, ◌++◌, [], ◌∷◌, ap, refl}
use Rattle.gds_records.specs.Records.{record_bytes}
use Rattle.gds_records.specs.Kinds.{TEXT, LAYER, TEXTTYPE, XY, STRING, ENDEL}
use Rattle.gds_elements.specs.Reading.{rec}
use Rattle.gds_shapes.specs.Data.{bare, number, string}
use Rattle.gds_shapes.specs.References.{points}
use Rattle.chip_maker.proofs.Passed.{passed_point}
use Rattle.chip_maker.specs.Stream.{text_bytes}
use Rattle.std.proofs.lemmas.Result.{IfOk-equal}
use Rattle.chip_maker.proofs.Joined.{first, last}
use Rattle.chip_maker.proofs.elements.write_label.Goals as goal

pub returns : goal.returns
unfolding text_bytes
returns c =
    IfOk-equal c.write_record-5.result _ _ _ c.write_record-5.ensures.written
    (first (record_bytes (bare TEXT)) _ _ _ _ c.in_ok-write_record.ensures.written (
    first (record_bytes (number LAYER 5)) _ _ _ _ c.in_ok-write_record-2.ensures.written (
    first (record_bytes (number TEXTTYPE 1)) _ _ _ _ c.in_ok-write_record-3.ensures.written (
    first (record_bytes (points (record { x = c.args.x; y = c.args.y } ∷ []))) _ _ _ _ (c.in_ok-write_record-4.ensures.written ∙ ap (λ (bytes : List ℕ). c.write_record-3.new.out.items ++ record_bytes (rec XY 3 bytes)) (c.point_bytes.ensures ∙ passed_point c.args.x c.args.y c.ranges.x c.ranges.y)) (
    first (record_bytes (string STRING c.args.text.now)) _ _ _ _ c.in_ok-write_string.ensures (
    last (record_bytes (bare ENDEL)) _ _ refl))))))
