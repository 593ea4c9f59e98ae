-- What came of reading input files whole, before anything is written.
use Rattle.std.specs.Prelude.{◌≡◌, ◌⊎◌, ◌<◌, ◌≤◌, ℕ, List, length, Option, Some}
use Rattle.lvs_outside.specs.Store.{Store, Told, Untold, NoFile, Holds, IsAbsent, IsThere}
use Rattle.lvs_outside.specs.Store.{Reading}
use Rattle.lvs_outside.specs.Loops.{limit}
use Rattle.gds_layout.specs.declared.layout.Layout.{Layout}
use Rattle.plain_netlist.specs.Netlist.{Netlist}
use Rattle.rule_text.specs.Rules.{Rules}
use Rattle.spice_rows.specs.Sizes.{read_limit}
use Rattle.spice_text.specs.Means.{Means as SpiceMeans}
use Rattle.rule_text.specs.Reading.{IsFirstFault as IsFirstRuleFault}
use Rattle.shapes_file.specs.File.{IsNarrow}
use Rattle.lvs_run.specs.Words.{Outputs, Paths, ForNetlist, ForShapes, inputs, inputs_of}
use Rattle.lvs_outside.specs.Files.{AreApart, files_of}
use Rattle.lvs_run.specs.Answers.{Done, Answer, Good, RefusedAbsent, RefusedLong, RefusedRules}
use Rattle.lvs_run.specs.Answers.{RefusedLayout, RefusedSchematic, RefusedWide}
use Rattle.lvs_run.specs.Answers.{RefusedMergedLayout}
use Rattle.lvs_run.specs.Answers.{RefusedMergedSchematic, Outside, NoMemory, refused}
use Rattle.lvs_run.specs.Answers.{verdict_of}
use Rattle.lvs_run.specs.Runs.{IsLong, IsReadTooFar, WasAbsent, StartsNone, HasCauseIn}
use Rattle.lvs_run.specs.Lines.{line_of}
use Rattle.lvs_run.specs.Outcomes.{IsOutcome, IsDone, IsDoneBeside, IsFirstLayoutFault}
use Rattle.lvs_run.specs.Outcomes.{IsFirstSchematicFault, IsTooFar, IsTooWide}
use Rattle.lvs_run.specs.Flat.{IsFlatNetlist, IsFlatText, ListsAs}
use Rattle.lvs_run.specs.Verdicts.{HasVerdicts, IsMatchOf, ListsReport}
use Rattle.lvs_run.specs.declared.input.Stop.{Stop}
use Rattle.lvs_run.specs.declared.input.Stop.TheVariants as stop
use Rattle.lvs_run.specs.declared.output.Output.{Output}

-- the answer of a run that stops
abbrev pub stopped : Stop → Answer
stopped (stop.Refused why) = refused why
stopped stop.Outside = Outside
stopped stop.NoMemory = NoMemory

-- nothing was written, and no empty take was counted
pub record Quiet (old new : Store) : Type 0 where
  pub starts : StartsNone old new
  pub empty_takes : new.empty_takes ≡ old.empty_takes

-- the depot's faults rose exactly with the answer Outside
abbrev pub DepotFaults : Answer → Store → Store → Type 0
DepotFaults Outside old new = old.faults < new.faults
DepotFaults a old new = new.faults ≡ old.faults

-- where the file is told, these bytes are all of it, and not too many
abbrev pub IsInput : List ℕ → Told → Type 0
IsInput bytes Untold = Unit {0}
IsInput bytes NoFile = ⊥
IsInput bytes (Holds all) = (bytes ≡ all) × (length all ≤ limit)

-- the file is there and stands open at its beginning
pub record IsOpened (old new : Store) (path : List ℕ) : Type 0 where
  pub there : IsThere (old.file path)
  pub opened : new.opened ≡ Reading path 0
  pub absent : new.absent ≡ old.absent
  pub faults : new.faults ≡ old.faults

-- the file was read whole, and stands open
pub record Got (old new : Store) (path bytes : List ℕ) : Type 0 where
  pub told : IsInput bytes (old.file path)
  pub opened : new.opened ≡ Reading path (length bytes)
  pub absent : new.absent ≡ old.absent
  pub faults : new.faults ≡ old.faults

-- why it wasn't
abbrev pub NotGot : Store → Store → List ℕ → Answer → Type 0
NotGot old new path (RefusedAbsent p) = (p ≡ path) × IsAbsent (old.file path)
    × WasAbsent old new path
NotGot old new path (RefusedLong p) = (p ≡ path) × IsLong (old.file path)
    × IsReadTooFar new.opened path × (new.absent ≡ old.absent)
NotGot old new path Outside = Unit {0}
NotGot old new path NoMemory = Unit {0}
NotGot old new path a = ⊥

-- the depot shows what an input is refused for, and its faults
pub record Refuses (old new : Store) (path : List ℕ) (a : Answer) : Type 0 where
  pub why : NotGot old new path a
  pub faults : DepotFaults a old new

-- the file was read whole, and its bytes have this fact
pub record ReadAs (old new : Store) (path : List ℕ) (P : List ℕ → Type 0) : Type 0 where
  pub bytes : List ℕ
  pub got : Got old new path bytes
  pub is : P bytes

-- why the rule file gave no rules
abbrev pub NoRules : Store → Store → List ℕ → Answer → Type 0
NoRules old new path (RefusedRules fault) = ReadAs old new path
    (λ bytes. IsFirstRuleFault bytes fault)
NoRules old new path a = NotGot old new path a

-- why the layout's file gave no layout
abbrev pub NoLayout : Store → Store → List ℕ → Option (List ℕ) → Rules → Answer → Type 0
NoLayout old new path top r (RefusedLayout fault) = ReadAs old new path
    (λ bytes. IsFirstLayoutFault bytes top r fault)
NoLayout old new path top r a = NotGot old new path a

pub record RefusesRules (old new : Store) (path : List ℕ) (a : Answer) : Type 0 where
  pub why : NoRules old new path a
  pub faults : DepotFaults a old new

pub record RefusesLayout (old new : Store) (path : List ℕ) (top : Option (List ℕ)) (r : Rules)
    (a : Answer) : Type 0 where
  pub why : NoLayout old new path top r a
  pub faults : DepotFaults a old new

-- why the schematic's file gave no netlist
abbrev pub NoSchematic : Store → Store → List ℕ → Answer → Type 0
NoSchematic old new path (RefusedSchematic fault) = ReadAs old new path
    (λ bytes. IsFirstSchematicFault bytes fault)
NoSchematic old new path a = NotGot old new path a

pub record RefusesSchematic (old new : Store) (path : List ℕ) (a : Answer) : Type 0 where
  pub why : NoSchematic old new path a
  pub faults : DepotFaults a old new

-- a run ends for a cell of this name that is too wide, or for want of memory
abbrev pub IsStopFor : List ℕ → Answer → Type 0
IsStopFor name NoMemory = Unit {0}
IsStopFor name a = a ≡ RefusedWide name

-- a layout is refused with this answer for its shapes file, or there was no memory for it
abbrev pub NotWide : Layout → Rules → Answer → Type 0
NotWide l r NoMemory = Unit {0}
NotWide l r a = IsTooFar l r a

-- a comparison is refused with this answer, or there was no memory for it
abbrev pub NotMerged : Layout → Rules → Netlist → Answer → Type 0
NotMerged l r nl NoMemory = Unit {0}
NotMerged l r nl a = IsTooWide l r nl a

-- the same of one whose shapes file is written
abbrev pub NotForRun : Layout → Rules → Netlist → Answer → Type 0
NotForRun l r nl NoMemory = Unit {0}
NotForRun l r nl a = IsTooFar l r a ⊎ (IsNarrow l r × IsTooWide l r nl a)

-- the schematic was read, and the comparison with it is refused
abbrev pub IsWideBeside : Layout → Rules → Store → Store → List ℕ → Answer → Type 0
IsWideBeside l r old new path a = ReadAs old new path
    (λ bytes. (nl : Netlist) × SpiceMeans read_limit bytes nl
    × (IsTooFar l r a ⊎ (IsNarrow l r × IsTooWide l r nl a)))

-- why there is nothing to write of a comparison with the schematic's file
abbrev pub NoComparison : Layout → Rules → Store → Store → List ℕ → Answer → Type 0
NoComparison l r old new path (RefusedWide name) =
    IsWideBeside l r old new path (RefusedWide name)
NoComparison l r old new path (RefusedMergedLayout name) =
    IsWideBeside l r old new path (RefusedMergedLayout name)
NoComparison l r old new path (RefusedMergedSchematic name) =
    IsWideBeside l r old new path (RefusedMergedSchematic name)
NoComparison l r old new path a = NoSchematic old new path a

pub record RefusesComparison (l : Layout) (r : Rules) (old new : Store) (path : List ℕ)
    (a : Answer) : Type 0 where
  pub why : NoComparison l r old new path a
  pub faults : DepotFaults a old new

-- what there is to write by the command with these outputs, of a layout and rules
pub record IsOutput (outputs : Outputs) (l : Layout) (r : Rules) (o : Output) : Type 0 where
  pub done : Done
  pub files : files_of o.files.items ≡ done.files
  pub apart : AreApart done.files
  pub is : IsDone outputs l r (verdict_of o.verdict) done
  pub line : o.line.items ≡ line_of (verdict_of o.verdict) done

-- what there is to write by the command with these outputs, of a layout, rules and a schematic
pub record IsOutputBeside (outputs : Outputs) (l : Layout) (r : Rules) (nl : Netlist)
    (o : Output) : Type 0 where
  pub done : Done
  pub files : files_of o.files.items ≡ done.files
  pub apart : AreApart done.files
  pub is : IsDoneBeside outputs l r nl (verdict_of o.verdict) done
  pub line : o.line.items ≡ line_of (verdict_of o.verdict) done

-- a schematic was read, and there is this to write of the comparison with it
pub record IsBeside (outputs : Outputs) (l : Layout) (r : Rules) (old new : Store)
    (path : List ℕ) (o : Output) : Type 0 where
  pub netlist : Netlist
  pub read : ReadAs old new path (λ bytes. SpiceMeans read_limit bytes netlist)
  pub output : IsOutputBeside outputs l r netlist o

-- the outcome of these told files, of an answer that comes of them
abbrev pub ComesOf : Option Paths → (List ℕ → Told) → Answer → Type 0
ComesOf said file Outside = Unit {0}
ComesOf said file NoMemory = Unit {0}
ComesOf said file a = (done : Done) → IsOutcome said file a done

-- a run that stops before it writes: the depot shows the cause and its faults, and the told files
-- come to it
pub record Stops (said : Option Paths) (old new : Store) (a : Answer) : Type 0 where
  pub cause : HasCauseIn said old new a
  pub faults : DepotFaults a old new
  pub comes : ComesOf said (inputs said old.file) a

-- what a run has to write, after both inputs were taken
pub record IsReady (said : Option Paths) (old new : Store) (o : Output) : Type 0 where
  pub paths : Paths
  pub stated : said ≡ Some paths
  pub done : Done
  pub files : files_of o.files.items ≡ done.files
  pub apart : AreApart done.files
  pub cause : HasCauseIn said old new (verdict_of o.verdict)
  pub faults : new.faults ≡ old.faults
  pub line : o.line.items ≡ line_of (verdict_of o.verdict) done
  pub comes : IsOutcome said (inputs said old.file) (verdict_of o.verdict) done
  pub flat : ForShapes paths.outputs
      (λ path. ListsAs done.files path (IsFlatText old.file paths))
  pub netlist : ForNetlist paths.outputs
      (λ path. ListsAs done.files path (IsFlatNetlist old.file paths (verdict_of o.verdict)))
  pub verdicts : ListsReport (inputs_of paths.outputs old.file) paths done.files
      (HasVerdicts (verdict_of o.verdict))
  pub matched : verdict_of o.verdict ≡ Good
      → ListsReport (inputs_of paths.outputs old.file) paths done.files IsMatchOf
