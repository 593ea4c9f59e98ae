-- What is shown, over the record that the code has of it.
use Rattle.std.specs.Prelude.{ℕ, List, ◌*◌}
use Rattle.cell_graph.specs.Linked.{cell_at}
use Rattle.match_report.specs.Gates.{name_of as cell_name}
use Rattle.net_model.specs.Rows.{plain_netlist}
use Rattle.plain_netlist.specs.Netlist.{Circuit}
use Rattle.report_file.specs.File.{all_answers}
use Rattle.rule_text.specs.Seen.{rules_seen}
use Rattle.view_cross.specs.declared.rows.Row.{Row}
use Rattle.view_file.specs.File.{IsDatabase}
use Rattle.view_run.specs.Views.{shown_lefts, shown_logs, shown_rights}
use Rattle.view_run.specs.declared.writing.Showing.{Showing}

-- the circuits of both sides
abbrev pub lefts_in : Showing → List Circuit
lefts_in s = shown_lefts (plain_netlist s.both.now.layout) s.compared.now

abbrev pub rights_in : Showing → List Circuit
rights_in s = shown_rights (plain_netlist s.both.now.schematic) s.compared.now

-- the text is the database, with these lines on bad gates and these rows of the pairs
abbrev pub IsDatabaseOf : Showing → List (List ℕ) → List (List Row) → List ℕ → Type 0
IsDatabaseOf s gates rows text =
    IsDatabase (cell_name (cell_at s.layout.now.design s.layout.now.design.top))
    (s.layout.now.header.unit_pm * 1000) (rules_seen s.rules.now) s.picture.now
    (shown_logs gates s.compared.now) (lefts_in s) (rights_in s) rows
    (all_answers s.compared.now) text
