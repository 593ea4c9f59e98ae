-- The summary line of each answer.
use Rattle.std.specs.Prelude.{ℕ, List, [], ◌∷◌, ◌++◌, codes}
use Rattle.std.specs.Fmt.{decimal}
use Rattle.net_names.specs.Escapes.{escaped}
use Rattle.cell_graph.specs.declared.drafts.LinkFault.{LinkFault}
use Rattle.cell_graph.specs.declared.drafts.LinkFault.TheVariants.{TooManyCells, DuplicateCell}
use Rattle.cell_graph.specs.declared.drafts.LinkFault.TheVariants.{NoSuchCell, Cycle, TooDeep}
use Rattle.cell_graph.specs.declared.drafts.LinkFault.TheVariants.{NoTop, TopUnclear}
use Rattle.cell_graph.specs.declared.drafts.LinkFault.TheVariants.{CoordinateRange}
use Rattle.cell_graph.specs.declared.drafts.LinkFault.TheVariants as link
use Rattle.gds_elements.specs.declared.library.GdsFault.TheVariants as gds
use Rattle.gds_layout.specs.declared.layout.LayoutFault.{LayoutFault}
use Rattle.gds_layout.specs.declared.layout.LayoutFault.TheVariants as layout
use Rattle.rule_text.specs.declared.fault.RuleFault.{RuleFault}
use Rattle.rule_text.specs.declared.fault.RuleFault.TheVariants.{UnknownStatement, BadForm}
use Rattle.rule_text.specs.declared.fault.RuleFault.TheVariants.{UnknownName, NameTwice}
use Rattle.rule_text.specs.declared.fault.RuleFault.TheVariants.{NotConductor, TooManyLayers}
use Rattle.rule_text.specs.declared.fault.RuleFault.TheVariants.{NotText}
use Rattle.rule_text.specs.declared.fault.RuleFault.TheVariants as rule
use Rattle.fixed_num.specs.declared.femto.ValueFault.{ValueFault}
use Rattle.fixed_num.specs.declared.femto.ValueFault.TheVariants as value
use Rattle.lvs_run.specs.declared.output.Verdict.{Verdict}
use Rattle.lvs_run.specs.declared.output.Verdict.TheVariants as verdict
use Rattle.spice_rows.specs.declared.fault.SpiceFault.{SpiceFault}
use Rattle.spice_rows.specs.declared.fault.SpiceFault.TheVariants as spice
use Rattle.lvs_run.specs.Answers.{Counts, Layers, Extracted, Compared, Done}
use Rattle.lvs_run.specs.Answers.{Answer, Good, Bad, Undecided}
use Rattle.lvs_run.specs.Answers.{RefusedWords, RefusedSame, RefusedAbsent, RefusedLong}
use Rattle.lvs_run.specs.Answers.{RefusedRules, RefusedLayout, RefusedSchematic}
use Rattle.lvs_run.specs.Answers.{RefusedWide, RefusedMergedLayout, RefusedMergedSchematic}

-- a fault's number and its line; of a byte that no text has, its offset
abbrev pub rule_place : RuleFault → List ℕ
rule_place (UnknownStatement line) = codes "30 line " ++ decimal line
rule_place (BadForm line) = codes "31 line " ++ decimal line
rule_place (UnknownName line) = codes "32 line " ++ decimal line
rule_place (NameTwice line) = codes "33 line " ++ decimal line
rule_place (NotConductor line) = codes "34 line " ++ decimal line
rule_place (TooManyLayers line) = codes "35 line " ++ decimal line
rule_place (NotText offset) = codes "36 offset " ++ decimal offset
rule_place rule.NoMemory = []

-- a fault's number and the cells that it names
abbrev pub link_place : LinkFault → List ℕ
link_place (DuplicateCell name) = codes "20 cell " ++ escaped name
link_place (NoSuchCell name) = codes "21 cell " ++ escaped name
link_place (Cycle name) = codes "22 cell " ++ escaped name
link_place (TopUnclear one other) =
    codes "23 cell " ++ escaped one ++ codes " cell " ++ escaped other
link_place NoTop = codes "24"
link_place (CoordinateRange name) = codes "25 cell " ++ escaped name
link_place TooManyCells = codes "26"
link_place (TooDeep name) = codes "27 cell " ++ escaped name
link_place link.NoMemory = []

-- a fault's number, its record's and its offset; of one of the cells' names and references, the
-- cells that it names
abbrev pub layout_place : LayoutFault → List ℕ
layout_place (layout.Gds (gds.Bad number index offset)) = decimal number ++ codes " record "
    ++ decimal index ++ codes " offset " ++ decimal offset
layout_place (layout.Gds gds.NoMemory) = []
layout_place (layout.Link fault) = link_place fault
layout_place layout.NoMemory = []

-- a fault's number and its line, of a value also why it is none; of a circuit that calls itself the
-- circuit's name
abbrev pub value_number : ValueFault → ℕ
value_number value.NotNumber = 1
value_number value.TooFine = 2
value_number value.TooLarge = 3

abbrev pub schematic_place : SpiceFault → List ℕ
schematic_place (spice.NoSuchCircuit line) = codes "41 line " ++ decimal line
schematic_place (spice.CircuitCycle name) = codes "42 circuit " ++ escaped name
schematic_place (spice.PinCount line) = codes "43 line " ++ decimal line
schematic_place (spice.NameClash line) = codes "44 line " ++ decimal line
schematic_place (spice.UnknownCard line) = codes "50 line " ++ decimal line
schematic_place (spice.BadLine line) = codes "51 line " ++ decimal line
schematic_place (spice.ParameterRefused line) = codes "52 line " ++ decimal line
schematic_place (spice.Value line fault) =
    codes "53 line " ++ decimal line ++ codes " value " ++ decimal (value_number fault)
schematic_place (spice.NotClosed line) = codes "54 line " ++ decimal line
schematic_place spice.NoMemory = []

-- what a comparison came to
abbrev pub verdict_word : Verdict → List ℕ
verdict_word verdict.Good = codes "match"
verdict_word verdict.Bad = codes "mismatch"
verdict_word verdict.Undecided = codes "undecided"

-- the line of a run that writes its files, with what it counts, and of a comparison with what it
-- came to
abbrev pub counts_line : (verdict : List ℕ) → Counts → List ℕ
counts_line verdict (Layers cells rectangles) = codes "shapes cells " ++ decimal cells
    ++ codes " rectangles " ++ decimal rectangles ++ 10 ∷ []
counts_line verdict (Extracted cells circuits bad) = codes "extracted cells " ++ decimal cells
    ++ codes " circuits " ++ decimal circuits ++ codes " bad " ++ decimal bad ++ 10 ∷ []
counts_line verdict (Compared cells circuits pairs bad) = verdict ++ codes " cells "
    ++ decimal cells ++ codes " circuits " ++ decimal circuits ++ codes " pairs " ++ decimal pairs
    ++ codes " bad " ++ decimal bad ++ 10 ∷ []

-- the line of each answer; others have none
abbrev pub line_of : Answer → Done → List ℕ
line_of Good done = counts_line (verdict_word verdict.Good) done.counts
line_of Bad done = counts_line (verdict_word verdict.Bad) done.counts
line_of Undecided done = counts_line (verdict_word verdict.Undecided) done.counts
line_of RefusedWords done = codes "refused words" ++ 10 ∷ []
line_of (RefusedSame path) done = codes "refused same " ++ escaped path ++ 10 ∷ []
line_of (RefusedAbsent path) done = codes "refused absent " ++ escaped path ++ 10 ∷ []
line_of (RefusedLong path) done = codes "refused long " ++ escaped path ++ 10 ∷ []
line_of (RefusedRules fault) done = codes "refused rules " ++ rule_place fault ++ 10 ∷ []
line_of (RefusedLayout fault) done = codes "refused layout " ++ layout_place fault ++ 10 ∷ []
line_of (RefusedSchematic fault) done = codes "refused schematic " ++ schematic_place fault
    ++ 10 ∷ []
line_of (RefusedWide name) done = codes "refused layout 28 cell " ++ escaped name ++ 10 ∷ []
line_of (RefusedMergedLayout name) done = codes "refused merge layout " ++ escaped name ++ 10 ∷ []
line_of (RefusedMergedSchematic name) done = codes "refused merge schematic " ++ escaped name
    ++ 10 ∷ []
line_of a done = []
