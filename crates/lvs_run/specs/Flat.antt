-- What the files that a run writes show of the flat layout, where the files are told.
use Rattle.std.specs.Prelude.{◌≡◌, ◌⊎◌, ◌↔◌, ℕ, List, [], ◌∷◌, Option, Some, None}
use Rattle.lvs_outside.specs.Loops.{IsFile}
use Rattle.lvs_outside.specs.Store.{Store, Told, Holds}
use Rattle.lvs_outside.specs.Files.{File}
use Rattle.gds_layout.specs.declared.layout.Layout.{Layout}
use Rattle.run_layout.specs.RunLayout.{IsRunLayout}
use Rattle.shapes_file.specs.Flat.{CoversFlat}
use Rattle.rule_text.specs.Rules.{Rules}
use Rattle.rule_text.specs.Reading.{Means}
use Rattle.cell_graph.specs.Linked.{plain}
use Rattle.deep_tables.specs.declared.gates.BadGate.{BadGate}
use Rattle.flat_layout.specs.GateTables.{GateSquare}
use Rattle.netlist_file.specs.Flat.{HasNoBadGate, IsBadFlatGate, ShowsFlat}
use Rattle.plain_netlist.specs.Netlist.{Netlist}
use Rattle.rule_layers.specs.Meaning.{device_rules, wiring_of}
use Rattle.lvs_run.specs.Words.{Outputs, Paths, ToNetlist, ForNetlist, ForShapes}
use Rattle.lvs_run.specs.Answers.{Answer, Good, Bad, IsVerdict}
use Rattle.flat_layout.specs.declared.cause.GateCause.{GateCause}

-- the list has a file of this path, and this is a fact of its text
abbrev pub ListsAs : List File → List ℕ → (List ℕ → Type 0) → Type 0
ListsAs [] path P = ⊥
ListsAs (f ∷ fs) path P = ((f.path ≡ path) × P f.text) ⊎ ListsAs fs path P

-- where it is told, the file holds a text of which this is a fact
pub record HoldsAs (told : Told) (P : List ℕ → Type 0) : Type 0 where
  pub text : List ℕ
  pub held : IsFile text told
  pub is : P text

-- the words state a command, and this is a fact of its files
abbrev pub OfStated : Option Paths → (Paths → Type 0) → Type 0
OfStated None P = ⊥
OfStated (Some p) P = P p

-- the rules' bytes mean rules, the layout's bytes are read as a layout, whose further layers show
-- the rules' flat selections, and this is a fact of both
pub record IsOfRead (rules stream : List ℕ) (top : Option (List ℕ)) (P : Layout → Rules → Type 0)
    : Type 0 where
  pub rule_set : Rules
  pub meant : Means rules rule_set
  pub layout : Layout
  pub read : IsRunLayout stream top rule_set layout
  pub is : P layout rule_set

-- the same of the told files, the rules' first; nothing is said where one isn't told
abbrev pub WhereTold : Told → Told → Option (List ℕ) → (Layout → Rules → Type 0) → Type 0
WhereTold (Holds rules) (Holds layout) top P = IsOfRead rules layout top P
WhereTold _ _ top P = Unit {0}

-- the same of what the store tells of the command's inputs
abbrev pub OfInputs : (List ℕ → Told) → Paths → (Layout → Rules → Type 0) → Type 0
OfInputs file p P = WhereTold (file p.rules) (file p.layout) p.top P

-- the text covers exactly the flat rules' unit squares of the layout
abbrev pub IsFlatText : (List ℕ → Told) → Paths → List ℕ → Type 0
IsFlatText file p text = OfInputs file p (λ l r. CoversFlat l r text)

-- after each answer of a run that writes its files the shapes file, where the command writes one,
-- holds such a text
abbrev pub WritesFlat : Option Paths → Store → Store → Answer → Type 0
WritesFlat said old new a = IsVerdict a → OfStated said (λ p. ForShapes p.outputs
    (λ path. HoldsAs (new.file path) (IsFlatText old.file p)))

-- a gate of the flat layout is bad
abbrev pub HasBadGate : Layout → Rules → Type 0
HasBadGate l r = (g : GateSquare) × (cause : GateCause)
    × IsBadFlatGate (plain l.design) (wiring_of r) (device_rules r) g cause

-- the answer is Good exactly where no gate of the flat layout is bad, and Bad exactly where one is
pub record IsOfGates (l : Layout) (r : Rules) (a : Answer) : Type 0 where
  pub good : (a ≡ Good) ↔ HasNoBadGate (plain l.design) (wiring_of r) (device_rules r)
  pub bad : (a ≡ Bad) ↔ HasBadGate l r

-- so it is after `extract`; a comparison is Good only where no gate is bad
abbrev pub TellsGates : Outputs → Layout → Rules → Answer → Type 0
TellsGates (ToNetlist shapes netlist) l r a = IsOfGates l r a
TellsGates o l r a = a ≡ Good → HasNoBadGate (plain l.design) (wiring_of r) (device_rules r)

-- The text, read as SPICE, means one netlist. Its last circuit is the top's and expands to the
-- netlist of the flat layout: its devices are the good gates of the flat top, and their nets the
-- regions of the flat top. The command's answer tells whether the flat layout has bad gates.
pub record IsNetlistOf (o : Outputs) (l : Layout) (r : Rules) (a : Answer) (text : List ℕ) :
    Type 0 where
  pub netlist : Netlist
  pub circuit : ℕ
  pub bad : List BadGate
  pub shows : ShowsFlat l r text netlist circuit bad
  pub gates : TellsGates o l r a

abbrev pub IsFlatNetlist : (List ℕ → Told) → Paths → Answer → List ℕ → Type 0
IsFlatNetlist file p a text = OfInputs file p (λ l r. IsNetlistOf p.outputs l r a text)

-- and the netlist's file, where the command writes one, such a text
abbrev pub WritesNetlist : Option Paths → Store → Store → Answer → Type 0
WritesNetlist said old new a = IsVerdict a → OfStated said (λ p. ForNetlist p.outputs
    (λ path. HoldsAs (new.file path) (IsFlatNetlist old.file p a)))
