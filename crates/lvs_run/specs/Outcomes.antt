-- What a run comes to where the files are told: its answer, and what it writes.
use Rattle.std.specs.Prelude.{◌≡◌, ◌⊎◌, ℕ, ◌<◌, ◌≤◌, List, [], ◌∷◌, length, Option, Some, None}
use Rattle.lvs_outside.specs.Store.{Told, Untold, NoFile, Holds}
use Rattle.lvs_outside.specs.Loops.{limit}
use Rattle.gds_layout.specs.declared.layout.Layout.{Layout}
use Rattle.gds_layout.specs.declared.layout.LayoutFault.{LayoutFault}
use Rattle.gds_layout.specs.declared.layout.LayoutFault.TheVariants as layout
use Rattle.run_layout.specs.RunLayout.{IsRunFault, IsRunLayout}
use Rattle.rule_text.specs.declared.fault.RuleFault.{RuleFault}
use Rattle.rule_text.specs.Rules.{Rules}
use Rattle.rule_text.specs.Reading.{Means, IsFirstFault}
use Rattle.rule_text.specs.Sound.{IsSound}
use Rattle.shapes_file.specs.File.{IsNarrow, IsShapesFile, IsWide}
use Rattle.layout_shapes.specs.Written.{name_of}
use Rattle.cell_graph.specs.Linked.{cell_at}
use Rattle.netlist_file.specs.File.{IsNetlistFile}
use Rattle.deep_tables.specs.declared.gates.BadGate.{BadGate}
use Rattle.plain_netlist.specs.Netlist.{Netlist}
use Rattle.net_align.specs.Compared.{AreCalleesFirst, IsAlignable}
use Rattle.pair_jobs.specs.declared.verdict.Verdict.{Verdict}
use Rattle.report_file.specs.Combined.{compared_of, wide_name}
use Rattle.report_file.specs.File.{IsReportFile}
use Rattle.spice_rows.specs.Sizes.{read_limit}
use Rattle.spice_rows.specs.declared.fault.SpiceFault.{SpiceFault}
use Rattle.spice_rows.specs.declared.fault.SpiceFault.TheVariants as spice
use Rattle.spice_text.specs.Means.{Means as SpiceMeans, IsFirstFault as IsFirstSpiceFault}
use Rattle.lvs_run.specs.Words.{Outputs, Paths, ToShapes, ToNetlist, ToReport, ToChip}
use Rattle.lvs_run.specs.Words.{schematic_path}
use Rattle.lvs_run.specs.Answers.{Done, Counts, Extracted, Compared, drawn, extracted, compared}
use Rattle.lvs_run.specs.Answers.{made, Answer, Good, Bad, comparison_answer}
use Rattle.lvs_run.specs.Answers.{RefusedWords, RefusedSame, RefusedAbsent, RefusedLong}
use Rattle.lvs_run.specs.Answers.{RefusedRules, RefusedLayout, RefusedSchematic}
use Rattle.lvs_run.specs.Answers.{RefusedWide, RefusedMergedLayout, RefusedMergedSchematic}

-- the words state a command of these paths, and no file that it writes is named twice
pub record Runs (said : Option Paths) (p : Paths) : Type 0 where
  pub stated : said ≡ Some p
  pub apart : p.shared ≡ None

-- it is told that the path's file holds these bytes, and they aren't too many
pub record HasFile (file : List ℕ → Told) (path bytes : List ℕ) : Type 0 where
  pub told : file path ≡ Holds bytes
  pub short : length bytes ≤ limit

-- the command's rule file means these rules
pub record ReadsRules (said : Option Paths) (file : List ℕ → Told) (p : Paths)
    (r : Rules) : Type 0 where
  pub runs : Runs said p
  pub bytes : List ℕ
  pub held : HasFile file p.rules bytes
  pub means : Means bytes r

-- and the layout of its stream, from the cell that the words name or else the only one that none
-- refers to, with the rules' selections, is this one
pub record ReadsLayout (said : Option Paths) (file : List ℕ → Told) (p : Paths) (r : Rules)
    (l : Layout) : Type 0 where
  pub rules : ReadsRules said file p r
  pub bytes : List ℕ
  pub held : HasFile file p.layout bytes
  pub read : IsRunLayout bytes p.top r l

-- the stream's first fault, or the first of its cells' names and references, or that of the rules'
-- selections; no want of memory
abbrev pub IsFirstLayoutFault : List ℕ → Option (List ℕ) → Rules → LayoutFault → Type 0
IsFirstLayoutFault bytes top r layout.NoMemory = ⊥
IsFirstLayoutFault bytes top r fault = IsRunFault bytes top r fault

-- what is written is the shapes file of the layout by the rules
pub record IsDrawn (l : Layout) (r : Rules) (path : List ℕ) (done : Done) : Type 0 where
  pub text : List ℕ
  pub cells : ℕ
  pub rectangles : ℕ
  pub file : IsShapesFile l r text cells rectangles
  pub whole : done ≡ drawn path text cells rectangles

-- the answer of a run that isn't compared with anything: Bad where there is a bad gate
abbrev pub gates_answer : List BadGate → Answer
gates_answer [] = Good
gates_answer (b ∷ bs) = Bad

-- what is written is the shapes file and the netlist's file of the layout by the rules, with the
-- numbers of cells, circuits and bad gates, and the answer is that of the bad gates
pub record IsExtracted (l : Layout) (r : Rules) (path netlist_path : List ℕ) (a : Answer)
    (done : Done) : Type 0 where
  pub text : List ℕ
  pub cells : ℕ
  pub rectangles : ℕ
  pub file : IsShapesFile l r text cells rectangles
  pub netlist : Netlist
  pub top : ℕ
  pub bad : List BadGate
  pub spelled : List ℕ
  pub netlist_file : IsNetlistFile l r netlist top bad spelled
  pub answer : a ≡ gates_answer bad
  pub whole : done ≡ extracted path text netlist_path spelled
      (Extracted cells (length netlist.circuits) (length bad))

-- the answer and what is written by the command with these outputs, of a layout and rules
abbrev pub IsDone : Outputs → Layout → Rules → Answer → Done → Type 0
IsDone (ToShapes shapes) l r a done = (a ≡ Good) × IsDrawn l r shapes done
IsDone (ToNetlist shapes netlist) l r a done = IsExtracted l r shapes netlist a done
IsDone (ToReport schematic shapes netlist report) l r a done = ⊥
IsDone (ToChip n seed prefix) l r a done = ⊥

-- what a layout's netlist and a schematic must be to be compared by the rules
pub record AreComparable (r : Rules) (one other : Netlist) : Type 0 where
  pub rules : IsSound r
  pub layout : IsAlignable one
  pub order : AreCalleesFirst one
  pub schematic : IsAlignable other

-- the refusal of a layout and a schematic of which the one, or else the other, has a circuit of
-- this name with alike transistors that are too wide for one
abbrev pub merge_refusal : (layout schematic : Option (List ℕ)) → Option Answer
merge_refusal (Some name) schematic = Some (RefusedMergedLayout name)
merge_refusal None (Some name) = Some (RefusedMergedSchematic name)
merge_refusal None None = None

-- by rules that combine devices the netlist of the layout's circuits, or else the schematic, is
-- refused with this answer
pub record IsTooWide (l : Layout) (r : Rules) (schematic : Netlist) (a : Answer) : Type 0 where
  pub netlist : Netlist
  pub top : ℕ
  pub bad : List BadGate
  pub spelled : List ℕ
  pub netlist_file : IsNetlistFile l r netlist top bad spelled
  pub refused : merge_refusal (wide_name r netlist) (wide_name r schematic) ≡ Some a

-- a layout's netlist file by the rules, and the report on comparing the netlist with a schematic,
-- both as they are compared by the rules, where neither is too wide for that; with the numbers of
-- these cells, of circuits, pairs and bad gates, and the answer is that of the comparison
pub record IsReported (l : Layout) (r : Rules) (schematic : Netlist) (cells : ℕ)
    (spelled report : List ℕ) (counts : Counts) (a : Answer) : Type 0 where
  pub netlist : Netlist
  pub top : ℕ
  pub bad : List BadGate
  pub netlist_file : IsNetlistFile l r netlist top bad spelled
  pub pairs : ℕ
  pub verdict : Verdict
  pub comparable : AreComparable r netlist schematic
  pub narrow : merge_refusal (wide_name r netlist) (wide_name r schematic) ≡ None
  pub report_file : IsReportFile l.design r (compared_of r netlist) top bad
      (compared_of r schematic) report pairs verdict
  pub answer : a ≡ comparison_answer verdict
  pub counted : counts ≡ Compared cells (length netlist.circuits) pairs (length bad)

-- what is written is the shapes file, the netlist's file and the report
pub record IsCompared (l : Layout) (r : Rules) (schematic : Netlist)
    (path netlist_path report_path : List ℕ) (a : Answer) (done : Done) : Type 0 where
  pub text : List ℕ
  pub cells : ℕ
  pub rectangles : ℕ
  pub file : IsShapesFile l r text cells rectangles
  pub spelled : List ℕ
  pub report : List ℕ
  pub counts : Counts
  pub reported : IsReported l r schematic cells spelled report counts a
  pub whole : done ≡ compared path text netlist_path spelled report_path report counts

-- what is written is the chip, and the answer and what is counted are those of the report on it,
-- which isn't written
pub record IsMade (l : Layout) (r : Rules) (schematic : Netlist) (n seed : ℕ) (prefix : List ℕ)
    (a : Answer) (done : Done) : Type 0 where
  pub spelled : List ℕ
  pub report : List ℕ
  pub counts : Counts
  pub reported : IsReported l r schematic (length l.design.order) spelled report counts a
  pub whole : done ≡ made n seed prefix counts

-- the same of a command that compares with a schematic
abbrev pub IsDoneBeside : Outputs → Layout → Rules → Netlist → Answer → Done → Type 0
IsDoneBeside (ToReport schematic shapes netlist report) l r nl a done =
    IsCompared l r nl shapes netlist report a done
IsDoneBeside (ToChip n seed prefix) l r nl a done = IsMade l r nl n seed prefix a done
IsDoneBeside _ l r nl a done = ⊥

-- the layout has no shapes file, and is refused with this answer by the first cell that is too wide
-- for one
pub record IsTooFar (l : Layout) (r : Rules) (a : Answer) : Type 0 where
  pub cell : ℕ
  pub wide : IsWide l r cell
  pub answer : a ≡ RefusedWide (name_of (cell_at l.design cell))

-- a command that writes a shapes file and reads no schematic is refused with this answer
abbrev pub RefusesAlone : Outputs → Layout → Rules → Answer → Type 0
RefusesAlone (ToShapes shapes) l r a = IsTooFar l r a
RefusesAlone (ToNetlist shapes netlist) l r a = IsTooFar l r a
RefusesAlone _ l r a = ⊥

-- a command that compares with a schematic is refused with this answer: one that writes a shapes
-- file for a cell that is too wide, and else for what is to be compared
abbrev pub RefusesBeside : Outputs → Layout → Rules → Netlist → Answer → Type 0
RefusesBeside (ToReport schematic shapes netlist report) l r nl a =
    IsTooFar l r a ⊎ (IsNarrow l r × IsTooWide l r nl a)
RefusesBeside (ToChip n seed prefix) l r nl a = IsTooWide l r nl a
RefusesBeside _ l r nl a = ⊥

-- the first fault of a schematic's bytes, whose sizes are limited; no want of memory
abbrev pub IsFirstSchematicFault : List ℕ → SpiceFault → Type 0
IsFirstSchematicFault bytes spice.NoMemory = ⊥
IsFirstSchematicFault bytes fault = IsFirstSpiceFault read_limit bytes fault

-- the layout is read, and the command reads a schematic of this path too
pub record Compares (said : Option Paths) (file : List ℕ → Told) (p : Paths) (r : Rules)
    (l : Layout) (path : List ℕ) : Type 0 where
  pub reads : ReadsLayout said file p r l
  pub beside : schematic_path p.outputs ≡ Some path

-- The answer, and what is written where nothing is refused. The words are looked at first, then the
-- paths, the rule file, the layout and the schematic, then whether a shapes file that is to be
-- written has room for the layout, then what is compared, and the first of them that is refused
-- gives the answer. Nothing is said where a file that comes next isn't told.
pub data IsOutcome (said : Option Paths) (file : List ℕ → Told) (a : Answer) (done : Done) :
    Type 0 where
  WrongWords : said ≡ None → a ≡ RefusedWords → IsOutcome said file a done
  SamePath : (p : Paths) (path : List ℕ) → said ≡ Some p → p.shared ≡ Some path
      → a ≡ RefusedSame path → IsOutcome said file a done
  NoRules : (p : Paths) → Runs said p → file p.rules ≡ NoFile → a ≡ RefusedAbsent p.rules
      → IsOutcome said file a done
  LongRules : (p : Paths) (bytes : List ℕ) → Runs said p → file p.rules ≡ Holds bytes
      → limit < length bytes → a ≡ RefusedLong p.rules → IsOutcome said file a done
  BadRules : (p : Paths) (bytes : List ℕ) (fault : RuleFault) → Runs said p
      → HasFile file p.rules bytes → IsFirstFault bytes fault → a ≡ RefusedRules fault
      → IsOutcome said file a done
  NoLayout : (p : Paths) (r : Rules) → ReadsRules said file p r → file p.layout ≡ NoFile
      → a ≡ RefusedAbsent p.layout → IsOutcome said file a done
  LongLayout : (p : Paths) (r : Rules) (bytes : List ℕ) → ReadsRules said file p r
      → file p.layout ≡ Holds bytes → limit < length bytes → a ≡ RefusedLong p.layout
      → IsOutcome said file a done
  BadLayout : (p : Paths) (r : Rules) (bytes : List ℕ) (fault : LayoutFault)
      → ReadsRules said file p r → HasFile file p.layout bytes
      → IsFirstLayoutFault bytes p.top r fault → a ≡ RefusedLayout fault
      → IsOutcome said file a done
  Made : (p : Paths) (r : Rules) (l : Layout) → ReadsLayout said file p r l
      → IsDone p.outputs l r a done → IsOutcome said file a done
  TooFar : (p : Paths) (r : Rules) (l : Layout) → ReadsLayout said file p r l
      → RefusesAlone p.outputs l r a → IsOutcome said file a done
  NoSchematic : (p : Paths) (r : Rules) (l : Layout) (path : List ℕ) → Compares said file p r l path
      → file path ≡ NoFile → a ≡ RefusedAbsent path → IsOutcome said file a done
  LongSchematic : (p : Paths) (r : Rules) (l : Layout) (path bytes : List ℕ)
      → Compares said file p r l path → file path ≡ Holds bytes → limit < length bytes
      → a ≡ RefusedLong path → IsOutcome said file a done
  BadSchematic : (p : Paths) (r : Rules) (l : Layout) (path bytes : List ℕ) (fault : SpiceFault)
      → Compares said file p r l path → HasFile file path bytes
      → IsFirstSchematicFault bytes fault → a ≡ RefusedSchematic fault
      → IsOutcome said file a done
  TooWide : (p : Paths) (r : Rules) (l : Layout) (path bytes : List ℕ) (nl : Netlist)
      → Compares said file p r l path → HasFile file path bytes → SpiceMeans read_limit bytes nl
      → RefusesBeside p.outputs l r nl a → IsOutcome said file a done
  MadeBeside : (p : Paths) (r : Rules) (l : Layout) (path bytes : List ℕ) (nl : Netlist)
      → Compares said file p r l path → HasFile file path bytes → SpiceMeans read_limit bytes nl
      → IsDoneBeside p.outputs l r nl a done → IsOutcome said file a done
  UntoldRules : (p : Paths) → Runs said p → file p.rules ≡ Untold → IsOutcome said file a done
  UntoldLayout : (p : Paths) (r : Rules) → ReadsRules said file p r → file p.layout ≡ Untold
      → IsOutcome said file a done
  UntoldSchematic : (p : Paths) (r : Rules) (l : Layout) (path : List ℕ)
      → Compares said file p r l path → file path ≡ Untold → IsOutcome said file a done
