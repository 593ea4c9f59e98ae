-- What the code's records are.
use Rattle.std.specs.Prelude.{◌≡◌, ℕ, List, map, Result, Ok, Err}
use Rattle.fixed_num.specs.declared.femto.Femto.{Femto}
use Rattle.fixed_num.specs.declared.femto.ValueFault.{ValueFault}
use Rattle.spice_rows.specs.Rows as rows
use Rattle.spice_rows.specs.declared.card.CallCard.{CallCard}
use Rattle.spice_rows.specs.declared.card.CardRow.{CardRow}
use Rattle.spice_rows.specs.declared.card.CardRow.TheVariants as code
use Rattle.spice_rows.specs.declared.fault.SpiceFault.{SpiceFault}
use Rattle.spice_rows.specs.declared.fault.SpiceFault.TheVariants.{NoMemory}

abbrev pub call_seen : CallCard → rows.CallCard
call_seen r = record { line = r.line; nets = r.nets.items; circuit = r.circuit }

abbrev pub row_seen : CardRow → rows.CardRow
row_seen (code.Opens name pins) = rows.Opens name pins.items
row_seen code.Ends = rows.Ends
row_seen (code.Globals names) = rows.Globals names.items
row_seen code.Stops = rows.Stops
row_seen code.Passed = rows.Passed
row_seen (code.Device d copies) = rows.Device d copies
row_seen (code.Call r) = rows.Call (call_seen r)

-- the answer is this fault, or that there is no memory
abbrev pub SaysFault : SpiceFault → Result rows.CardRow SpiceFault → Type 0
SaysFault NoMemory read = Unit {0}
SaysFault e read = read ≡ Err e

-- the answer is what a card says or its fault, or that there is no memory
abbrev pub Says : Result CardRow SpiceFault → Result rows.CardRow SpiceFault → Type 0
Says (Ok row) read = read ≡ Ok (row_seen row)
Says (Err e) read = SaysFault e read

abbrev pub value_seen : Result Femto ValueFault → Result ℕ ValueFault
value_seen (Ok f) = Ok f.0
value_seen (Err e) = Err e

abbrev pub sizes_seen : Result (List Femto) ValueFault → Result (List ℕ) ValueFault
sizes_seen (Ok s) = Ok (map (λ (f : Femto). f.0) s)
sizes_seen (Err e) = Err e
