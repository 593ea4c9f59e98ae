use Rattle.std.proofs.Common.{◌≡◌, ◌∙◌, ℕ, List, ◌++◌, [], ◌∷◌, ap}
use Rattle.std.proofs.lemmas.Result.{IfOk-equal}
use Rattle.geo_base.specs.declared.shapes.Point.{Point}
use Rattle.gds_records.specs.Records.{record_bytes}
use Rattle.gds_records.specs.Kinds.{AREF, SNAME, ENDEL}
use Rattle.gds_shapes.specs.Data.{bare, string}
use Rattle.gds_shapes.specs.References.{turning, counts, points, start, column_end, row_end, stepped, reference_seen}
use Rattle.gds_shapes.proofs.Joined.{around}
use Rattle.gds_shapes.proofs.references.write_array.Goals as goal

pub returns : goal.returns
returns c =
    let r = reference_seen c.args.placed.now in
    let first = c.origin-first.ensures in
    let across : c.stepped-across.result ≡ column_end r = c.stepped-across.ensures ∙ ap (λ (p : Point). stepped p r.columns r.column_step) first in
    let along : c.stepped-along.result ≡ row_end r = c.stepped-along.ensures ∙ ap (λ (p : Point). stepped p r.rows r.row_step) first in
    IfOk-equal c.write_record-2.result _ _ _ c.write_record-2.ensures.written
    (around record_bytes (turning r.motion.turn) (bare AREF) (string SNAME r.cell) (counts r.columns r.rows) (points (start r ∷ column_end r ∷ row_end r ∷ [])) (bare ENDEL) _ _ _ _ _ _
    c.in_ok-write_record.ensures.written
    (c.in_ok-write_string.ensures ∙ ap (λ (name : List ℕ). c.write_record.new.out.items ++ record_bytes (string SNAME name)) c.bytes.ensures.same)
    c.in_ok-write_turning.ensures
    c.in_ok-write_counts.ensures
    (c.in_ok-write_points.ensures
    ∙ ap (λ (p : Point). c.write_counts.new.out.items ++ record_bytes (points (p ∷ c.stepped-across.result ∷ c.stepped-along.result ∷ []))) first
    ∙ ap (λ (p : Point). c.write_counts.new.out.items ++ record_bytes (points (start r ∷ p ∷ c.stepped-along.result ∷ []))) across
    ∙ ap (λ (p : Point). c.write_counts.new.out.items ++ record_bytes (points (start r ∷ column_end r ∷ p ∷ []))) along))
