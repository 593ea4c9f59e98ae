-- The exit status of the program.
use Rattle.std.specs.Prelude.{ℕ}
use Rattle.netlist_run.specs.declared.status.Status.{Status}
use Rattle.netlist_run.specs.declared.status.Status.TheVariants.{Good, Refused, Outside, NoMemory}

abbrev pub code_of : Status → ℕ
code_of Good = 0
code_of Refused = 2
code_of Outside = 4
code_of NoMemory = 5
