use Rattle.std.proofs.Common.{◌≡◌, Result, Ok, Err, None, OnOk, IfErr, map, []}
use Rattle.text_table.specs.declared.table.TextTable.{TextTable}
use Rattle.spice_rows.specs.declared.fault.SpiceFault.{SpiceFault}
use Rattle.spice_text.specs.Faults.{Lacks, IsSecond, IsCircuitsFault}
use Rattle.spice_text.specs.Search.{first_twice, SaysClash}
use Rattle.spice_text.specs.Seen.{circuit_seen}
use Rattle.spice_text.proofs.SearchLemmas.{none_second, clash_fault}
use Rattle.spice_text.proofs.faults.circuit_names.Goals as goal

pub returns-clause-apart : goal.returns-clause-apart
returns-clause-apart c = at c.known_names.result c.known_names.ensures.apart
  where
    at : (r : Result TextTable SpiceFault) → OnOk r (first_twice [] (map circuit_seen c.args.circuits.now) ≡ None) → OnOk r (Lacks (IsSecond (map circuit_seen c.args.circuits.now)))
    at (Ok t) h = none_second (map circuit_seen c.args.circuits.now) h
    at (Err e) h = h

pub returns-clause-clash : goal.returns-clause-clash
returns-clause-clash c = at c.known_names.result c.known_names.ensures.clash
  where
    at : (r : Result TextTable SpiceFault) → IfErr r (SaysClash (first_twice [] (map circuit_seen c.args.circuits.now))) → IfErr r (IsCircuitsFault (map circuit_seen c.args.circuits.now))
    at (Ok t) h = h
    at (Err e) h = clash_fault (map circuit_seen c.args.circuits.now) e h
