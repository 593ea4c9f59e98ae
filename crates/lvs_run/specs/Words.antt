-- What is run of what the words after the program's name state.
use Rattle.std.specs.Prelude.{◌≡◌, ◌≢◌, ◌≤◌, ℕ, List, [], ◌∷◌, Option, Some, None, codes}
use Rattle.std.specs.Prelude.{string_bytes}
use Rattle.std.specs.Option.{option_map}
use Rattle.lvs_outside.specs.Files.{AreApart, File}
use Rattle.lvs_outside.specs.Store.{Told}
use Rattle.lvs_words.specs.Commands.{Asked, Shapes, Extract, Run, Make, Said}
use Rattle.lvs_words.specs.Commands.{said as stated_by}
use Rattle.lvs_run.specs.Chips.{chip_files, layout_at, rules_at, schematic_at, with_files}
use Rattle.lvs_run.specs.declared.words.Outputs.{Outputs as Code}
use Rattle.lvs_run.specs.declared.words.Outputs.TheVariants as code
use Rattle.lvs_run.specs.declared.words.LayoutOutputs.{LayoutOutputs}
use Rattle.lvs_run.specs.declared.words.LayoutOutputs.TheVariants as layout
use Rattle.lvs_run.specs.declared.words.ReportPaths.{ReportPaths}
use Rattle.lvs_run.specs.declared.words.Task.{Task}
use Rattle.lvs_run.specs.declared.words.Work.{Work}
use Rattle.lvs_run.specs.declared.words.Work.TheVariants as work

-- the files that a command writes: the shapes file, of `extract` and `run` the netlist's, of `run`
-- the report on the comparison with a schematic; of `make` those of a chip
pub data Outputs : Type 0 where
  ToShapes : (shapes : List ℕ) → Outputs
  ToNetlist : (shapes netlist : List ℕ) → Outputs
  ToReport : (schematic shapes netlist report : List ℕ) → Outputs
  ToChip : (n seed : ℕ) (prefix : List ℕ) → Outputs

-- the files of a command, the name of the top where the words give one, and the path of a file that
-- is written and named twice
pub record Paths : Type 0 where
  pub layout : List ℕ
  pub rules : List ℕ
  pub top : Option (List ℕ)
  pub outputs : Outputs
  pub shared : Option (List ℕ)

-- the files of `make`, which compares its chip as one of this top
abbrev pub chip_paths : (n seed : ℕ) (prefix : List ℕ) → Paths
chip_paths n seed prefix = record {
  layout = layout_at prefix;
  rules = rules_at prefix;
  top = Some (codes "TOP");
  outputs = ToChip n seed prefix;
  shared = None;
}

-- what a command's inputs are told to hold: what the store tells; of `make` the files that it makes
abbrev pub inputs_of : Outputs → (List ℕ → Told) → List ℕ → Told
inputs_of (ToShapes shapes) file = file
inputs_of (ToNetlist shapes netlist) file = file
inputs_of (ToReport schematic shapes netlist report) file = file
inputs_of (ToChip n seed prefix) file = with_files (chip_files n seed prefix) file

abbrev pub inputs : Option Paths → (List ℕ → Told) → List ℕ → Told
inputs None file = file
inputs (Some p) file = inputs_of p.outputs file

abbrev pub AreWorkers : ℕ → Type 0
AreWorkers k = (1 ≤ k) × (k ≤ 64)

-- a chip has 1 to 100,000 inverters
abbrev pub AreInverters : ℕ → Type 0
AreInverters n = (1 ≤ n) × (n ≤ 100000)

-- there are 1 to 64 workers but for `shapes`, and the files that a command with options writes have
-- different paths where none is named twice
abbrev pub IsFair : Asked → Option (List ℕ) → Type 0
IsFair (Extract layout rules shapes netlist top workers) shared =
    AreWorkers workers × (shared ≡ None → shapes ≢ netlist)
IsFair (Run layout rules schematic shapes netlist report top workers) shared =
    AreWorkers workers × (shared ≡ None
    → (shapes ≢ netlist) × (shapes ≢ report) × (netlist ≢ report))
IsFair (Make n seed workers prefix) shared = AreWorkers workers × AreInverters n
IsFair asked shared = Unit {0}

abbrev pub IsFairSaid : Said → Type 0
IsFairSaid s = IsFair s.asked s.shared

-- the command's files
abbrev pub built : Asked → Option (List ℕ) → Paths
built (Shapes layout rules shapes) shared = record {
  layout = layout;
  rules = rules;
  top = None;
  outputs = ToShapes shapes;
  shared = shared;
}
built (Extract layout rules shapes netlist top workers) shared = record {
  layout = layout;
  rules = rules;
  top = top;
  outputs = ToNetlist shapes netlist;
  shared = shared;
}
built (Run layout rules schematic shapes netlist report top workers) shared = record {
  layout = layout;
  rules = rules;
  top = top;
  outputs = ToReport schematic shapes netlist report;
  shared = shared;
}
built (Make n seed workers prefix) shared = chip_paths n seed prefix

abbrev pub built_of : Said → Paths
built_of s = built s.asked s.shared

-- the files of the command that the words state
abbrev pub said : List (List ℕ) → Option Paths
said words = option_map built_of (stated_by words)

-- a file that the command writes is named twice, by this path
abbrev pub IsSame : Option Paths → List ℕ → Type 0
IsSame None path = ⊥
IsSame (Some p) path = p.shared ≡ Some path

-- a fact of the path of the shapes file, where the command writes one
abbrev pub ForShapes : Outputs → (List ℕ → Type 0) → Type 0
ForShapes (ToShapes shapes) P = P shapes
ForShapes (ToNetlist shapes netlist) P = P shapes
ForShapes (ToReport schematic shapes netlist report) P = P shapes
ForShapes (ToChip n seed prefix) P = Unit {0}

-- the path of the schematic, where the command reads one
abbrev pub schematic_path : Outputs → Option (List ℕ)
schematic_path (ToShapes shapes) = None
schematic_path (ToNetlist shapes netlist) = None
schematic_path (ToReport schematic shapes netlist report) = Some schematic
schematic_path (ToChip n seed prefix) = Some (schematic_at prefix)

-- a fact of the path of the netlist's file, where the command writes one
abbrev pub ForNetlist : Outputs → (List ℕ → Type 0) → Type 0
ForNetlist (ToShapes shapes) P = Unit {0}
ForNetlist (ToNetlist shapes netlist) P = P netlist
ForNetlist (ToReport schematic shapes netlist report) P = P netlist
ForNetlist (ToChip n seed prefix) P = Unit {0}

abbrev pub file_at : (path text : List ℕ) → File
file_at path text = record { path = path; text = text }

-- empty files of the paths that are written, in their order
abbrev pub blank_files : Outputs → List File
blank_files (ToShapes shapes) = file_at shapes [] ∷ []
blank_files (ToNetlist shapes netlist) = file_at shapes [] ∷ file_at netlist [] ∷ []
blank_files (ToReport schematic shapes netlist report) =
    file_at shapes [] ∷ file_at netlist [] ∷ file_at report [] ∷ []
blank_files (ToChip n seed prefix) = file_at (layout_at prefix) []
    ∷ file_at (rules_at prefix) [] ∷ file_at (schematic_at prefix) [] ∷ []

-- what the code keeps of a command
abbrev pub report_outputs : List ℕ → ReportPaths → Outputs
report_outputs schematic p = ToReport schematic (string_bytes p.shapes) (string_bytes p.netlist)
    (string_bytes p.report)

abbrev pub layout_outputs : LayoutOutputs → Outputs
layout_outputs (layout.Shapes shapes) = ToShapes (string_bytes shapes)
layout_outputs (layout.Netlist shapes netlist) =
    ToNetlist (string_bytes shapes) (string_bytes netlist)

abbrev pub outputs_of : Code → Outputs
outputs_of (code.Layout outputs) = layout_outputs outputs
outputs_of (code.Report schematic paths) = report_outputs (string_bytes schematic) paths

abbrev pub paths_of : Task → Paths
paths_of t = record {
  layout = string_bytes t.layout;
  rules = string_bytes t.rules;
  top = t.top;
  outputs = outputs_of t.outputs;
  shared = option_map string_bytes t.shared;
}

abbrev pub work_paths : Work → Paths
work_paths (work.Files t) = paths_of t
work_paths (work.Chip t) = chip_paths t.n t.seed (string_bytes t.prefix)

-- its workers, and the different paths of the files that are written or the size of the chip
abbrev pub IsFairWork : Work → Type 0
IsFairWork (work.Files t) = AreWorkers t.workers
    × ((paths_of t).shared ≡ None → AreApart (blank_files (outputs_of t.outputs)))
IsFairWork (work.Chip t) = AreWorkers t.workers × AreInverters t.n
