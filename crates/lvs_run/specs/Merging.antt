-- Why what is to be compared isn't merged.
use Rattle.std.specs.Prelude.{◌≡◌, Some}
use Rattle.plain_netlist.specs.Netlist.{Netlist}
use Rattle.report_file.specs.Combined.{first_wide}
use Rattle.lvs_run.specs.Answers.{Answer, NoMemory}
use Rattle.lvs_run.specs.Outcomes.{merge_refusal}

-- one of the two is refused with this answer, or there was no memory
abbrev pub NotNarrow : (layout schematic : Netlist) → Answer → Type 0
NotNarrow layout schematic NoMemory = Unit {0}
NotNarrow layout schematic a =
    merge_refusal (first_wide layout) (first_wide schematic) ≡ Some a
