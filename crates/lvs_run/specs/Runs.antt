-- What each answer of a run says of the depot and the sink that it was lent, whatever they tell.
use Rattle.std.specs.Prelude.{◌≡◌, ◌⊎◌, ℕ, ◌+◌, ◌<◌, List, Option, Some, None, length}
use Rattle.lvs_outside.specs.Store.{Store, Told, Untold, NoFile, Holds, Open, Closed, Reading}
use Rattle.lvs_outside.specs.Store.{Writing, SameFiles, appended}
use Rattle.lvs_outside.specs.Summary.{SinkState}
use Rattle.lvs_outside.specs.Loops.{limit}
use Rattle.gds_layout.specs.declared.layout.LayoutFault.{LayoutFault}
use Rattle.rule_text.specs.declared.fault.RuleFault.{RuleFault}
use Rattle.run_layout.specs.RunLayout.{IsRunLayout}
use Rattle.gds_layout.specs.declared.layout.Layout.{Layout}
use Rattle.plain_netlist.specs.Netlist.{Netlist}
use Rattle.rule_text.specs.Reading.{Means, IsFirstFault as IsFirstRuleFault}
use Rattle.rule_text.specs.Rules.{Rules}
use Rattle.spice_rows.specs.Sizes.{read_limit}
use Rattle.spice_text.specs.Means.{Means as SpiceMeans}
use Rattle.spice_rows.specs.declared.fault.SpiceFault.{SpiceFault}
use Rattle.lvs_run.specs.Chips.{chip_files, layout_text, rules_text, schematic_text, with_files}
use Rattle.lvs_run.specs.Words.{Outputs, Paths, ToShapes, ToNetlist, ToReport, ToChip}
use Rattle.lvs_run.specs.Words.{IsSame, schematic_path}
use Rattle.lvs_outside.specs.Files.{File, AreWritten}
use Rattle.lvs_run.specs.Answers.{Done, Answer, Good, Bad, RefusedWords, RefusedSame}
use Rattle.lvs_run.specs.Answers.{RefusedAbsent, RefusedLong, RefusedRules, RefusedLayout}
use Rattle.lvs_run.specs.Answers.{RefusedSchematic, RefusedWide, RefusedMergedLayout}
use Rattle.lvs_run.specs.Answers.{RefusedMergedSchematic}
use Rattle.lvs_run.specs.Answers.{Undecided, Outside, NoMemory, IsVerdict}
use Rattle.lvs_run.specs.Lines.{line_of}
use Rattle.lvs_run.specs.Outcomes.{IsFirstLayoutFault, IsFirstSchematicFault, IsTooWide}

-- faults of the depot and of the sink, an empty take being one
abbrev pub depot_faults : Store → ℕ
depot_faults s = s.faults + s.empty_takes

abbrev pub sink_faults : SinkState → ℕ
sink_faults s = s.faults + s.empty_takes

-- a count of faults rose in the call, or neither did
abbrev pub HaveRisen : Store → Store → SinkState → SinkState → Type 0
HaveRisen old new before after = (depot_faults old < depot_faults new)
    ⊎ (sink_faults before < sink_faults after)

pub record HaveStood (old new : Store) (before after : SinkState) : Type 0 where
  pub depot : depot_faults new ≡ depot_faults old
  pub sink : sink_faults after ≡ sink_faults before

-- the answer is Outside exactly where a count of faults rose
abbrev pub ShowsFaults : Answer → Store → Store → SinkState → SinkState → Type 0
ShowsFaults Outside old new before after = HaveRisen old new before after
ShowsFaults a old new before after = HaveStood old new before after

-- a command with these outputs may end with this answer where it writes them: `shapes` with Good,
-- `extract` with Good or Bad, `run` and `make` with each of the three
abbrev pub MayEnd : Outputs → Answer → Type 0
MayEnd (ToShapes shapes) a = a ≡ Good
MayEnd (ToNetlist shapes netlist) a = (a ≡ Good) ⊎ (a ≡ Bad)
MayEnd (ToReport schematic shapes netlist report) a = IsVerdict a
MayEnd (ToChip n seed prefix) a = IsVerdict a

-- the words state such a command, and no file that it writes is named twice
abbrev pub EndsWith : Option Paths → Answer → Type 0
EndsWith None a = ⊥
EndsWith (Some p) a = (p.shared ≡ None) × MayEnd p.outputs a

-- the path is an input of the command
abbrev pub IsInputPath : Option Paths → List ℕ → Type 0
IsInputPath None path = ⊥
IsInputPath (Some p) path = (p.shared ≡ None) × ((path ≡ p.rules) ⊎ ((path ≡ p.layout)
    ⊎ (schematic_path p.outputs ≡ Some path)))

-- a fact of the files that a command reads, or of the chip that it makes
abbrev pub OfInput : Outputs → (files : Type 0) → (chip : ℕ → ℕ → List ℕ → Type 0) → Type 0
OfInput (ToShapes shapes) files chip = files
OfInput (ToNetlist shapes netlist) files chip = files
OfInput (ToReport schematic shapes netlist report) files chip = files
OfInput (ToChip n seed prefix) files chip = chip n seed prefix

-- where the file is told, it is there and too long
abbrev pub IsLong : Told → Type 0
IsLong Untold = Unit {0}
IsLong NoFile = ⊥
IsLong (Holds bytes) = limit < length bytes

-- the path stands open, with more bytes read than are taken
abbrev pub IsReadTooFar : Open → List ℕ → Type 0
IsReadTooFar Closed path = ⊥
IsReadTooFar (Reading p n) path = (p ≡ path) × (limit < n)
IsReadTooFar (Writing p n) path = ⊥

-- an input of the path is too long
abbrev pub IsTooLong : Option Paths → Open → List ℕ → Type 0
IsTooLong None o path = ⊥
IsTooLong (Some p) o path = OfInput p.outputs (IsReadTooFar o path)
    (λ n seed prefix. IsLong (with_files (chip_files n seed prefix) (λ q. NoFile) path))

-- where the file is told, it has this many bytes
abbrev pub HasLength : Told → ℕ → Type 0
HasLength Untold n = Unit {0}
HasLength NoFile n = ⊥
HasLength (Holds bytes) n = length bytes ≡ n

-- the path stands open, read to its end
abbrev pub IsReadWhole : Open → Store → List ℕ → Type 0
IsReadWhole Closed s path = ⊥
IsReadWhole (Reading p n) s path = (p ≡ path) × HasLength (s.file path) n
IsReadWhole (Writing p n) s path = ⊥

-- the command's rules, its layout or its schematic were read to their end; those of a chip have the
-- fault
abbrev pub AreRulesRead : Option Paths → Store → Store → RuleFault → Type 0
AreRulesRead None old new fault = ⊥
AreRulesRead (Some p) old new fault = (p.shared ≡ None)
    × OfInput p.outputs (IsReadWhole new.opened old p.rules)
    (λ n seed prefix. IsFirstRuleFault rules_text fault)

abbrev pub IsChipFault : ℕ → ℕ → Option (List ℕ) → LayoutFault → Type 0
IsChipFault n seed top fault = (r : Rules) × Means rules_text r
    × IsFirstLayoutFault (layout_text n seed) top r fault

abbrev pub IsLayoutRead : Option Paths → Store → Store → LayoutFault → Type 0
IsLayoutRead None old new fault = ⊥
IsLayoutRead (Some p) old new fault = (p.shared ≡ None)
    × OfInput p.outputs (IsReadWhole new.opened old p.layout)
    (λ n seed prefix. IsChipFault n seed p.top fault)

abbrev pub IsSchematicRead : Option Paths → Store → Store → SpiceFault → Type 0
IsSchematicRead None old new fault = ⊥
IsSchematicRead (Some p) old new fault = (p.shared ≡ None) × ((path : List ℕ)
    × (schematic_path p.outputs ≡ Some path)
    × OfInput p.outputs (IsReadWhole new.opened old path)
    (λ n seed prefix. IsFirstSchematicFault (schematic_text n seed) fault))

-- a chip's rules combine devices, and its layout or its schematic is refused for it
pub record IsWideChip (n seed : ℕ) (top : Option (List ℕ)) (a : Answer) : Type 0 where
  pub rules : Rules
  pub means : Means rules_text rules
  pub layout : Layout
  pub read : IsRunLayout (layout_text n seed) top rules layout
  pub schematic : Netlist
  pub meant : SpiceMeans read_limit (schematic_text n seed) schematic
  pub wide : IsTooWide layout rules schematic a

-- all inputs of a comparison were read to their end, the schematic last; those of a chip are
-- refused
abbrev pub AreAllRead : Option Paths → Store → Store → Answer → Type 0
AreAllRead None old new a = ⊥
AreAllRead (Some p) old new a = (p.shared ≡ None) × ((path : List ℕ)
    × (schematic_path p.outputs ≡ Some path)
    × OfInput p.outputs (IsReadWhole new.opened old path)
    (λ n seed prefix. IsWideChip n seed p.top a))

-- the command writes a shapes file, and the last of its inputs was read to its end
abbrev pub IsLastRead : Outputs → (layout : List ℕ) → Store → Store → Type 0
IsLastRead (ToShapes shapes) layout old new = IsReadWhole new.opened old layout
IsLastRead (ToNetlist shapes netlist) layout old new = IsReadWhole new.opened old layout
IsLastRead (ToReport schematic shapes netlist report) layout old new =
    IsReadWhole new.opened old schematic
IsLastRead (ToChip n seed prefix) layout old new = ⊥

-- the same of the command that the words state, which names no file twice
abbrev pub AreInputsRead : Option Paths → Store → Store → Type 0
AreInputsRead None old new = ⊥
AreInputsRead (Some p) old new = (p.shared ≡ None) × IsLastRead p.outputs p.layout old new

-- there was one absent answer, for this path, and nothing was opened after it
pub record WasAbsent (old new : Store) (path : List ℕ) : Type 0 where
  pub one : new.absent ≡ old.absent + 1
  pub last : new.last_absent ≡ path
  pub closed : new.opened ≡ Closed

-- the depot stands as it was: no file was opened, asked for or written
abbrev pub IsUntouched : Store → Store → Type 0
IsUntouched old new = new ≡ old

-- what stands behind an answer: each refusal has its cause, and other answers come only without
-- one; no file is opened for words that are refused
abbrev pub HasCauseIn : Option Paths → Store → Store → Answer → Type 0
HasCauseIn said old new Good = EndsWith said Good × (new.absent ≡ old.absent)
HasCauseIn said old new Bad = EndsWith said Bad × (new.absent ≡ old.absent)
HasCauseIn said old new RefusedWords = (said ≡ None) × IsUntouched old new
HasCauseIn said old new (RefusedSame path) = IsSame said path × IsUntouched old new
HasCauseIn said old new (RefusedAbsent path) = IsInputPath said path × WasAbsent old new path
HasCauseIn said old new (RefusedLong path) = IsInputPath said path × IsTooLong said new.opened path
    × (new.absent ≡ old.absent)
HasCauseIn said old new (RefusedRules fault) = AreRulesRead said old new fault
    × (new.absent ≡ old.absent)
HasCauseIn said old new (RefusedLayout fault) = IsLayoutRead said old new fault
    × (new.absent ≡ old.absent)
HasCauseIn said old new (RefusedSchematic fault) = IsSchematicRead said old new fault
    × (new.absent ≡ old.absent)
HasCauseIn said old new (RefusedWide name) = AreInputsRead said old new × (new.absent ≡ old.absent)
HasCauseIn said old new (RefusedMergedLayout name) =
    AreAllRead said old new (RefusedMergedLayout name) × (new.absent ≡ old.absent)
HasCauseIn said old new (RefusedMergedSchematic name) =
    AreAllRead said old new (RefusedMergedSchematic name) × (new.absent ≡ old.absent)
HasCauseIn said old new Undecided = EndsWith said Undecided
    × (new.absent ≡ old.absent)
HasCauseIn said old new Outside = Unit {0}
HasCauseIn said old new NoMemory = Unit {0}

-- no file was started, and none of those that are told changed
pub record StartsNone (old new : Store) : Type 0 where
  pub write_calls : new.write_calls ≡ old.write_calls
  pub left_open : new.left_open ≡ old.left_open
  pub files : SameFiles old new

-- all files were written and none was left open
pub record WritesAll (old new : Store) (files : List File) : Type 0 where
  pub written : AreWritten old new files
  pub left_open : new.left_open ≡ old.left_open

-- what was written by each answer but Outside
abbrev pub Leaves : Store → Store → List File → Answer → Type 0
Leaves old new files Good = WritesAll old new files
Leaves old new files Bad = WritesAll old new files
Leaves old new files Undecided = WritesAll old new files
Leaves old new files Outside = Unit {0}
Leaves old new files a = StartsNone old new

-- the sink took the answer's line, and nothing where memory ran out; Outside says nothing of it
-- here
abbrev pub Says : Answer → Done → SinkState → SinkState → Type 0
Says Outside done before after = Unit {0}
Says NoMemory done before after = (after.told ≡ before.told) × (after.write_calls
    ≡ before.write_calls)
Says a done before after = after.told ≡ appended before.told (line_of a done)
