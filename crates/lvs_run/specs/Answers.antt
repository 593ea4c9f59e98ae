-- How a run of the program ends, as plain data.
use Rattle.std.specs.Prelude.{ℕ, List, [], ◌∷◌, string_bytes}
use Rattle.gds_layout.specs.declared.layout.LayoutFault.{LayoutFault}
use Rattle.gds_layout.specs.declared.layout.LayoutFault.TheVariants as layout
use Rattle.rule_text.specs.declared.fault.RuleFault.{RuleFault}
use Rattle.rule_text.specs.declared.fault.RuleFault.TheVariants as rule
use Rattle.lvs_outside.specs.Files.{File}
use Rattle.shapes_file.specs.declared.file.Shapes.{Shapes}
use Rattle.spice_rows.specs.declared.fault.SpiceFault.{SpiceFault}
use Rattle.spice_rows.specs.declared.fault.SpiceFault.TheVariants as spice
use Rattle.pair_jobs.specs.declared.verdict.Verdict.{Verdict as Comparison}
use Rattle.pair_jobs.specs.declared.verdict.Verdict.TheVariants as comparison
use Rattle.lvs_run.specs.Chips.{chip_files}
use Rattle.lvs_run.specs.Words.{file_at}
use Rattle.lvs_run.specs.declared.output.Verdict.{Verdict}
use Rattle.lvs_run.specs.declared.output.Verdict.TheVariants as verdict
use Rattle.lvs_run.specs.declared.status.Status.{Status}
use Rattle.lvs_run.specs.declared.status.Status.TheVariants as status
use Rattle.lvs_run.specs.declared.status.Refusal.{Refusal}
use Rattle.lvs_run.specs.declared.status.Refusal.TheVariants.{Words, SamePath, Absent, TooLong}
use Rattle.lvs_run.specs.declared.status.Refusal.TheVariants.{Rules, Layout, Schematic}
use Rattle.lvs_run.specs.declared.status.Refusal.TheVariants.{Wide, MergedLayout, MergedSchematic}

-- what the summary line counts: of `shapes` the cells and the rectangles of the shapes file, of
-- `extract` these cells, the netlist's circuits and the bad gates, of `run` and `make` the compared
-- pairs too
pub data Counts : Type 0 where
  Layers : (cells rectangles : ℕ) → Counts
  Extracted : (cells circuits bad : ℕ) → Counts
  Compared : (cells circuits pairs bad : ℕ) → Counts

-- what is written, in this order, and what is counted
pub record Done : Type 0 where
  pub files : List File
  pub counts : Counts

abbrev pub nothing : Done
nothing = record { files = []; counts = Layers 0 0 }

-- of `shapes`
abbrev pub drawn : (path text : List ℕ) (cells rectangles : ℕ) → Done
drawn path text cells rectangles = record {
  files = file_at path text ∷ [];
  counts = Layers cells rectangles;
}

abbrev pub drawn_of : List ℕ → Shapes → Done
drawn_of path s = drawn path s.text.items s.cells s.rectangles

-- of `extract`: the shapes file, the netlist's, and what is counted
abbrev pub extracted : (path text netlist spelled : List ℕ) → Counts → Done
extracted path text netlist spelled counts = record {
  files = file_at path text ∷ file_at netlist spelled ∷ [];
  counts = counts;
}

-- of `run`: the shapes file, the netlist's, the report, and what is counted
abbrev pub compared : (path text netlist spelled report told : List ℕ) → Counts → Done
compared path text netlist spelled report told counts = record {
  files = file_at path text ∷ file_at netlist spelled ∷ file_at report told ∷ [];
  counts = counts;
}

-- of `make`: the chip's files, and what is counted in comparing it
abbrev pub made : (n seed : ℕ) (prefix : List ℕ) → Counts → Done
made n seed prefix counts = record { files = chip_files n seed prefix; counts = counts }

-- an answer, with the bytes of its path, with the fault of its file or with the name of a cell or
-- a circuit
pub data Answer : Type 0 where
  Good : Answer
  Bad : Answer
  RefusedWords : Answer
  RefusedSame : (path : List ℕ) → Answer
  RefusedAbsent : (path : List ℕ) → Answer
  RefusedLong : (path : List ℕ) → Answer
  RefusedRules : (fault : RuleFault) → Answer
  RefusedLayout : (fault : LayoutFault) → Answer
  RefusedSchematic : (fault : SpiceFault) → Answer
  RefusedWide : (name : List ℕ) → Answer
  RefusedMergedLayout : (name : List ℕ) → Answer
  RefusedMergedSchematic : (name : List ℕ) → Answer
  Undecided : Answer
  Outside : Answer
  NoMemory : Answer

-- of a fault of the layout, of the rules or of the schematic; one for want of memory is that
abbrev pub refused_layout : LayoutFault → Answer
refused_layout layout.NoMemory = NoMemory
refused_layout fault = RefusedLayout fault

abbrev pub refused_rules : RuleFault → Answer
refused_rules rule.NoMemory = NoMemory
refused_rules fault = RefusedRules fault

abbrev pub refused_schematic : SpiceFault → Answer
refused_schematic spice.NoMemory = NoMemory
refused_schematic fault = RefusedSchematic fault

abbrev pub refused : Refusal → Answer
refused Words = RefusedWords
refused (SamePath path) = RefusedSame (string_bytes path)
refused (Absent path) = RefusedAbsent (string_bytes path)
refused (TooLong path) = RefusedLong (string_bytes path)
refused (Rules fault) = RefusedRules fault
refused (Layout fault) = RefusedLayout fault
refused (Schematic fault) = RefusedSchematic fault
refused (Wide name) = RefusedWide name
refused (MergedLayout name) = RefusedMergedLayout name
refused (MergedSchematic name) = RefusedMergedSchematic name

-- of a run that writes its files
abbrev pub verdict_of : Verdict → Answer
verdict_of verdict.Good = Good
verdict_of verdict.Bad = Bad
verdict_of verdict.Undecided = Undecided

-- of a comparison
abbrev pub comparison_answer : Comparison → Answer
comparison_answer comparison.Match = Good
comparison_answer comparison.Mismatch = Bad
comparison_answer comparison.Undecided = Undecided

-- the answer of a run that writes its files
abbrev pub IsVerdict : Answer → Type 0
IsVerdict Good = Unit {0}
IsVerdict Bad = Unit {0}
IsVerdict Undecided = Unit {0}
IsVerdict a = ⊥

abbrev pub answer_of : Status → Answer
answer_of status.Good = Good
answer_of status.Bad = Bad
answer_of (status.Refused why) = refused why
answer_of status.Undecided = Undecided
answer_of status.Outside = Outside
answer_of status.NoMemory = NoMemory
