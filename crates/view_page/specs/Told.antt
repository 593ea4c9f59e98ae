-- A pair as the code has it.
use Rattle.net_model.specs.Rows.{plain_circuit}
use Rattle.view_page.specs.Remarks.{Told}
use Rattle.view_page.specs.declared.remarks.Pair.{Pair}

abbrev pub told_by : Pair → Told
told_by q = record {
  unit = q.unit;
  left_names = q.left_names.now;
  right_names = q.right_names.now;
  left = plain_circuit q.left.now;
  right = plain_circuit q.right.now;
  places = q.places.now;
}
