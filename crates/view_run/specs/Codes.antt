-- The exit status of the program.
use Rattle.std.specs.Prelude.{ℕ}
use Rattle.view_run.specs.declared.status.Status.{Status}
use Rattle.view_run.specs.declared.status.Status.TheVariants.{Good, Bad, Refused, Undecided}
use Rattle.view_run.specs.declared.status.Status.TheVariants.{Outside, NoMemory}

abbrev pub code_of : Status → ℕ
code_of Good = 0
code_of Bad = 1
code_of (Refused why) = 2
code_of Undecided = 3
code_of Outside = 4
code_of NoMemory = 5
