-- What the comparison in turns answers.
use Rattle.std.specs.Prelude.{◌≡◌, ℕ, Bool, List, ◌++◌}
use Rattle.match_report.specs.declared.report.Compared.{Compared}
use Rattle.plain_netlist.specs.Netlist.{Netlist}
use Rattle.report_file.specs.Compared.{IsComparison}
use Rattle.report_file.specs.Turns.{AreInTurns, EndsWith, IsTurn}
use Rattle.report_file.specs.declared.turns.Turns.{Turns}
use Rattle.rule_text.specs.Rules.{Rules}

-- the last comparison, by some lines, and the lines of the pairs taken apart before
pub record IsTaken (r : Rules) (layout : Netlist) (top : ℕ) (schematic : Netlist) (t : Turns)
    : Type 0 where
  pub same : List (List ℕ × List ℕ)
  pub turns : AreInTurns r layout top schematic same t.compared t.lines.items
  pub comparison : IsComparison r layout top schematic same t.compared

-- the lines of the last comparison stand behind the earlier ones
abbrev pub AddsLast : Rules → Compared → List ℕ → List ℕ → Type 0
AddsLast r f old new = (lines : List ℕ) × (new ≡ old ++ lines) × EndsWith r f lines

-- those of a turn do
abbrev pub AddsTurn : Rules → Compared → List Bool → List ℕ → List ℕ → Type 0
AddsTurn r f goes old new = (lines : List ℕ) × (new ≡ old ++ lines) × IsTurn r f goes lines
