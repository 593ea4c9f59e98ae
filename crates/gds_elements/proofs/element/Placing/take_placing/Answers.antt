use Rattle.std.proofs.Common.{◌≡◌, ℕ, List, rules, ap, ◌∙◌}
use Rattle.gds_records.specs.Records.{◌▸◌}
use Rattle.gds_records.specs.Kinds.{STRANS, ANGLE, COLROW, XY}
use Rattle.gds_elements.specs.Data.{number, side, columns_in, rows_in}
use Rattle.std.specs.Prelude.{nat_le}
use Rattle.gds_elements.specs.Meaning.{part, quarters}
use Rattle.gds_elements.specs.Reading.{rec}
use Rattle.gds_elements.proofs.element.Placing.take_placing.Goals as goal

pub returns-in_default : goal.returns-in_default
returns-in_default c = λ before form h.
    let r = rec c.args.kind form c.args.body.now in
    let strans : part STRANS before ≡ part STRANS (before ▸ r) = search rules in
    let angle : part ANGLE before ≡ part ANGLE (before ▸ r) = search rules in
    let colrow : part COLROW before ≡ part COLROW (before ▸ r) = search rules in
    let xy : part XY before ≡ part XY (before ▸ r) = search rules in
    record {
      mirrored = h.mirrored ∙ ap (λ (b : List ℕ). nat_le 32768 (number b)) strans;
      quarter = h.quarter ∙ ap (λ (b : List ℕ). quarters b) angle;
      columns = h.columns ∙ ap (λ (b : List ℕ). columns_in b) colrow;
      rows = h.rows ∙ ap (λ (b : List ℕ). rows_in b) colrow;
      column_side = h.column_side ∙ ap (λ (b : List ℕ). side b 8) xy;
      row_side = h.row_side ∙ ap (λ (b : List ℕ). side b 16) xy;
    }
