-- What is shown of a schematic can be ordered by its calls.
use Rattle.std.proofs.Common.{◌≡◌, ℕ, List, Option, Some, None, subst}
use Rattle.std.proofs.lemmas.Option.{slice_get_within}
use Rattle.match_report.specs.Report.{rights_of}
use Rattle.match_report.specs.declared.report.Compared.{Compared}
use Rattle.net_align.proofs.Walking.{in_range}
use Rattle.net_model.specs.Rows.{plain_netlist}
use Rattle.net_model.proofs.CallLemmas.{cycles_law}
use Rattle.plain_netlist.specs.Netlist.{Netlist}
use Rattle.plain_netlist.specs.Sound.{CircuitCycle, IsGood, IsSoundNetlist}
use Rattle.plain_netlist.proofs.Heights.{no_fault_in_good}
use Rattle.report_file.specs.Compared.{IsComparison}
use Rattle.rule_text.specs.Rules.{Rules}
use Rattle.align_laws.proofs.Sides.{aligned_sides}
use Rattle.view_run.specs.Views.{CanBeOrdered, shown_rights}

-- of a netlist that is sound
pub sound_ordered : (nl : Netlist) → IsSoundNetlist nl → CanBeOrdered nl.circuits
sound_ordered nl h = record {
  range = in_range nl (λ c k row call. let fits = h.calls c k row call in slice_get_within nl.circuits row.circuit fits.0 fits.1);
  no_cycle = λ k turns. h.no_cycle k ((cycles_law nl k).0 turns);
}

-- and of one whose calls go down
good_ordered : (nl : Netlist) (height : ℕ → ℕ) → IsGood nl height → CanBeOrdered nl.circuits
good_ordered nl height h = record {
  range = in_range nl (λ c k row call. let fits = h.called c k row call in slice_get_within nl.circuits row.circuit fits.0 fits.1);
  no_cycle = λ k turns. no_fault_in_good nl height CircuitCycle k h (λ e. absurd cc) ((cycles_law nl k).0 turns);
}

pub shown_ordered : (r : Rules) (layout : Netlist) (top : ℕ) (schematic : Netlist) (same : List (List ℕ × List ℕ)) (o : Option Compared) → IsSoundNetlist schematic
    → IsComparison r layout top schematic same o → CanBeOrdered (shown_rights schematic o)
shown_ordered r layout top schematic same None sound h = sound_ordered schematic sound
shown_ordered r layout top schematic same (Some f) sound h =
    let a = h.0 in
    let good = (aligned_sides layout schematic top a.right_top same (plain_netlist f.left) (plain_netlist f.right) a.left_by a.right_by a.are).right_good in good_ordered (plain_netlist f.right) good.0 good.1

pub some_ordered : (nl : Netlist) (o : Option Compared) (f : Compared) → o ≡ Some f → CanBeOrdered (shown_rights nl o) → CanBeOrdered (rights_of f)
some_ordered nl o f e h = subst (λ (x : Option Compared). CanBeOrdered (shown_rights nl x)) e h

pub none_ordered : (nl : Netlist) (o : Option Compared) → o ≡ None → CanBeOrdered (shown_rights nl o) → CanBeOrdered nl.circuits
none_ordered nl o e h = subst (λ (x : Option Compared). CanBeOrdered (shown_rights nl x)) e h
