use Rattle.deep_tables.specs.Pins.{AreCellPins}
use Rattle.deep_tables.proofs.Finding.{downward, some_at}
use Rattle.deep_tables.proofs.Together.{right_pins}
use Rattle.deep_tables.proofs.laws.pin_table.Goals as goal

pub returns : goal.returns
returns c = record { jobs = downward AreCellPins; at = λ d r table cell right reached. some_at (AreCellPins d r cell) _ (right cell reached); right = right_pins }
