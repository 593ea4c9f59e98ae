-- The database of a layout, rules and a schematic.
use Rattle.std.specs.Prelude.{◌≡◌, ℕ, ◌*◌, Bool, true, false, List, [], Option, Some, None, length, map, slice_get}
use Rattle.call_order.specs.Order.{AreInRange, ReachesItself}
use Rattle.cell_graph.specs.Linked.{cell_at, height_at, plain}
use Rattle.deep_flow.specs.Bad.{told_gates}
use Rattle.deep_flow.specs.Extracted.{IsNetlistOfCells}
use Rattle.deep_tables.specs.Circuits.{AreAllTables}
use Rattle.deep_tables.specs.Gates.{gates_of}
use Rattle.deep_tables.specs.Nets.{AreRightNets}
use Rattle.deep_tables.specs.Pins.{pins_of}
use Rattle.deep_tables.specs.declared.gates.BadGate.{BadGate}
use Rattle.deep_tables.specs.declared.gates.CellGates.{CellGates}
use Rattle.deep_tables.specs.declared.layers.CellLayers.{CellLayers}
use Rattle.deep_tables.specs.declared.nets.CellNets.{CellNets}
use Rattle.deep_tables.specs.declared.pins.CellPins.{CellPins}
use Rattle.flat_layout.specs.Circuits.{AreCircuitCells}
use Rattle.flat_layout.specs.Layout.{IsReached}
use Rattle.flat_layout.specs.Nets.{Tables}
use Rattle.gds_layout.specs.declared.layout.Layout.{Layout}
use Rattle.lvs_run.specs.Answers.{Answer, NoMemory}
use Rattle.lvs_run.specs.Outcomes.{merge_refusal}
use Rattle.match_report.specs.Gates.{name_of as cell_name}
use Rattle.match_report.specs.Pairs.{name_of}
use Rattle.match_report.specs.Report.{answers_of, lefts_of, rights_of}
use Rattle.match_report.specs.declared.report.Compared.{Compared}
use Rattle.merge_laws.specs.Grouped.{merged_netlist}
use Rattle.net_model.specs.Faults.{called_by}
use Rattle.pair_jobs.specs.Verdict.{IsRunVerdict}
use Rattle.pair_jobs.specs.declared.verdict.Verdict.{Verdict}
use Rattle.net_model.specs.Rows.{plain_netlist}
use Rattle.part_origins.specs.Made.{AllOrigins}
use Rattle.part_origins.specs.Origins.{HaveOrigins}
use Rattle.plain_netlist.specs.Netlist.{Circuit, Netlist}
use Rattle.plain_netlist.specs.Sound.{IsSoundNetlist}
use Rattle.report_file.specs.Combined.{compared_of, wide_name}
use Rattle.report_file.specs.File.{all_answers, pair_count}
use Rattle.report_file.specs.Taken.{IsTaken}
use Rattle.report_file.specs.declared.turns.Turns.{Turns}
use Rattle.rule_layers.specs.Meaning.{wiring_of}
use Rattle.rule_text.specs.Rules.{Rules}
use Rattle.rule_text.specs.Seen.{rules_seen}
use Rattle.view_drawing.specs.Calls.{called_in}
use Rattle.view_drawing.specs.declared.source.Source.{Source}
use Rattle.view_cross.specs.declared.rows.Row.{Row}
use Rattle.view_cross.specs.Whole.{AreWhole}
use Rattle.view_file.specs.File.{IsDatabase}
use Rattle.view_file.specs.declared.layout.Picture.{Picture}
use Rattle.view_shapes.specs.ReadLaws.{Called}
use Rattle.view_labels.specs.Logs.{gate_log, pair_logs}
use Rattle.view_page.specs.Page.{IsPage, book}
use Rattle.view_page.specs.declared.places.Places.{Places}
use Rattle.view_pairs.specs.Proposals.{AreProposed}
use Rattle.view_picture.specs.Picture.{IsAnsweredPicture, IsPicture}
use Rattle.view_shapes.specs.declared.pieces.ShowFault.{ShowFault}
use Rattle.view_shapes.specs.declared.pieces.ShowFault.TheVariants as fault
use Rattle.view_run.specs.declared.found.Cells.{Cells}
use Rattle.view_run.specs.Ends.{AsRun, End, TooFar}
use Rattle.view_run.specs.Found.{HasCells}
use Rattle.view_run.specs.Lines.{view_line}
use Rattle.view_run.specs.Places.{drawing_places, plain_places}

-- these tables, and the cells with circuits, are those of the layout by the rules
pub record AreCellsOf (l : Layout) (r : Rules) (s : Source) (cells : List ℕ) : Type 0 where
  pub design : s.design.now ≡ l.design
  pub rules : rules_seen s.rules.now ≡ r
  pub tables : AreAllTables l.header.unit_pm (plain l.design) r s.layers.now s.nets.now s.gates.now
      s.pins.now s.circuits.now
  pub cells_are : AreCircuitCells (plain l.design) (height_at l.design) (gates_of s.gates.now) cells

-- the picture of these circuits, over these nets, by where their parts are from in the netlist that
-- was aligned
pub record IsPictureBy (s : Source) (t : Tables) (called : Called) (cells : List ℕ)
    (names : List (List ℕ)) (written shown : Netlist) (p : Picture) : Type 0 where
  pub origins : AllOrigins
  pub have : HaveOrigins written shown origins
  pub picture : IsPicture s t called cells names written.circuits origins shown.circuits p

-- the picture of these circuits of the layout, by right nets, of which those are called that are
-- drawn pins of cells with circuits
pub record IsPictureOf (l : Layout) (r : Rules) (s : Source) (cells : List ℕ)
    (names : List (List ℕ)) (written shown : Netlist) (p : Picture) : Type 0 where
  pub nets : Tables
  pub right : AreRightNets (plain l.design) (wiring_of r) nets
  pub called : Called
  pub pins : (cell b : ℕ) → IsReached (plain l.design) cell
      → called cell b ≡ called_in s.circuits.now (pins_of s.pins.now) cell b
  pub picture : IsPictureBy s nets called cells names written shown p

-- the picture of these circuits over the cells that the code has
pub record ArePictured (l : Layout) (r : Rules) (c : Cells) (names : List (List ℕ))
    (written shown : Netlist) (p : Picture) : Type 0 where
  pub source : Source
  pub cells : List ℕ
  pub are : AreCellsOf l r source cells
  pub layers : source.layers.now ≡ c.tables.gated.layers
  pub nets : source.nets.now ≡ c.tables.gated.nets
  pub gates : source.gates.now ≡ c.tables.gated.gates
  pub pins : source.pins.now ≡ c.tables.pins
  pub picture : IsPictureOf l r source cells names written shown p

-- calls go to circuits of the list, and none calls itself, at once or through others
pub record CanBeOrdered (cs : List Circuit) : Type 0 where
  pub range : AreInRange (map called_by cs)
  pub no_cycle : (k : ℕ) → ReachesItself (map called_by cs) k → ⊥

-- the end of a run for which nothing is drawn
abbrev pub view_answer : ShowFault → End
view_answer fault.TooFar = TooFar
view_answer fault.NoMemory = AsRun NoMemory

-- what is shown of a layout's netlist and of a schematic: what was compared at last; where the top
-- has no partner, both as they are
abbrev pub shown_left : Netlist → Option Compared → Netlist
shown_left nl None = nl
shown_left nl (Some c) = plain_netlist c.left

abbrev pub shown_right : Netlist → Option Compared → Netlist
shown_right nl None = nl
shown_right nl (Some c) = plain_netlist c.right

abbrev pub shown_lefts : Netlist → Option Compared → List Circuit
shown_lefts nl compared = (shown_left nl compared).circuits

abbrev pub shown_rights : Netlist → Option Compared → List Circuit
shown_rights nl compared = (shown_right nl compared).circuits

-- the circuits that were compared, in pairs by their numbers; none where nothing was
abbrev pub compared_lefts : Option Compared → List Circuit
compared_lefts None = []
compared_lefts (Some c) = lefts_of c

abbrev pub compared_rights : Option Compared → List Circuit
compared_rights None = []
compared_rights (Some c) = rights_of c

abbrev pub shown_logs : List (List ℕ) → Option Compared → List (List (List ℕ))
shown_logs gates None = []
shown_logs gates (Some c) = pair_logs (lefts_of c) gates (answers_of c)

abbrev pub names_of : Netlist → List (List ℕ)
names_of nl = map (λ (c : Circuit). c.name) nl.circuits

-- the layout's netlist with the number of the top's circuit, and its bad gates, by these tables
pub record IsNetlistFound (l : Layout) (r : Rules) (layers : List (Option CellLayers))
    (nets : List (Option CellNets)) (gates : List (Option CellGates))
    (pins : List (Option CellPins)) (nl : Netlist) (top : ℕ) (bad : List BadGate) : Type 0 where
  pub of_cells : IsNetlistOfCells l.header.unit_pm l.design r layers nets gates pins nl top
  pub sound : IsSoundNetlist nl
  pub told : bad ≡ told_gates r gates l.design.order

-- by rules that combine devices the layout's netlist, or else the schematic, is refused with this
-- answer
pub record IsTooWide (l : Layout) (r : Rules) (schematic : Netlist) (a : Answer) : Type 0 where
  pub cells : Cells
  pub are : HasCells l r cells
  pub netlist : Netlist
  pub top : ℕ
  pub bad : List BadGate
  pub found : IsNetlistFound l r cells.tables.gated.layers cells.tables.gated.nets
      cells.tables.gated.gates cells.tables.pins netlist top bad
  pub refused : merge_refusal (wide_name r netlist) (wide_name r schematic) ≡ Some a

-- each circuit has one of the other side, and an answer
pub record ArePaired (c : Compared) : Type 0 where
  pub rights : length (rights_of c) ≡ length (lefts_of c)
  pub answers : length (answers_of c) ≡ length (lefts_of c)

abbrev pub AreAllPaired : Option Compared → Type 0
AreAllPaired None = Unit {0}
AreAllPaired (Some c) = ArePaired c

-- these are the partners that are proposed for what was compared
abbrev pub AreRowsOf : Rules → Option Compared → List (List Row) → Type 0
AreRowsOf r None rows = rows ≡ []
AreRowsOf r (Some c) rows = AreProposed (lefts_of c) (rights_of c) r.tells_pins rows

abbrev pub AreWholeRows : Option Compared → List (List Row) → Type 0
AreWholeRows None rows = rows ≡ []
AreWholeRows (Some c) rows = AreWhole (lefts_of c) (rights_of c) rows

-- the page of these rows of what was compared, with the places of what is drawn
pub record IsPageOf (unit : ℕ) (p : Picture) (compared : Option Compared) (rows : List (List Row))
    (text : List ℕ) : Type 0 where
  pub places : List Places
  pub drawn : map plain_places places ≡ map drawing_places p.drawings.items
  pub page : IsPage (book unit p.names.circuits.items (compared_lefts compared)
      (compared_rights compared) places) rows text

-- the page if it is asked for
abbrev pub IsPageAsked : Bool → ℕ → Picture → Option Compared → List (List Row)
    → Option (List ℕ) → Type 0
IsPageAsked false unit p compared rows page = page ≡ None
IsPageAsked true unit p compared rows page =
    (text : List ℕ) × (page ≡ Some text) × IsPageOf unit p compared rows text

-- the circuits were merged once more before they were answered
abbrev pub again_in : Option Compared → Bool
again_in None = false
again_in (Some c) = c.merged_again

-- the same answers, over both sides merged once more
pub record IsMergedAgain (c a : Compared) : Type 0 where
  pub left : plain_netlist a.left ≡ merged_netlist (plain_netlist c.left)
  pub right : plain_netlist a.right ≡ merged_netlist (plain_netlist c.right)
  pub answers : a.answers ≡ c.answers

-- what is shown of what was compared, over the picture of the aligned circuits: their circuits as
-- they were answered, and the picture of those
pub data IsShown (o s : Option Compared) (p q : Picture) : Type 0 where
  AsAligned : again_in o ≡ false → s ≡ o → q ≡ p → IsShown o s p q
  Again : (c a : Compared) → o ≡ Some c → c.merged_again ≡ true → s ≡ Some a → IsMergedAgain c a
      → IsAnsweredPicture (lefts_of a) (lefts_of c) p q → IsShown o s p q

-- of what was compared, over this picture, the text is the database, and the page is the page if it
-- is asked for
pub record AreWritten (l : Layout) (r : Rules) (p : Picture) (one two : Netlist)
    (compared : Option Compared) (top : ℕ) (bad : List BadGate) (paged : Bool)
    (text : List ℕ) (page : Option (List ℕ)) : Type 0 where
  pub rows : List (List Row)
  pub proposed : AreRowsOf r compared rows
  pub database : IsDatabase (cell_name (cell_at l.design l.design.top))
      (l.header.unit_pm * 1000) r p
      (shown_logs (gate_log l.design (name_of (slice_get one.circuits top)) bad) compared)
      (shown_lefts one compared) (shown_rights two compared) rows (all_answers compared) text
  pub page_is : IsPageAsked paged l.header.unit_pm p compared rows page

-- the same of the circuits as they were answered, over the picture of the aligned ones
pub record AreShown (l : Layout) (r : Rules) (p : Picture) (one two : Netlist)
    (compared : Option Compared) (top : ℕ) (bad : List BadGate) (paged : Bool)
    (text : List ℕ) (page : Option (List ℕ)) : Type 0 where
  pub shown : Option Compared
  pub picture : Picture
  pub is : IsShown compared shown p picture
  pub written : AreWritten l r picture one two shown top bad paged text page

-- the text is the database of the layout and the schematic by the rules, the page is the page of
-- them if it is asked for, v is what they come to, and the line says so
pub record IsView (l : Layout) (r : Rules) (schematic : Netlist) (paged : Bool) (v : Verdict)
    (text : List ℕ) (page : Option (List ℕ)) (line : List ℕ) : Type 0 where
  pub source : Source
  pub cells : List ℕ
  pub are : AreCellsOf l r source cells
  pub netlist : Netlist
  pub top : ℕ
  pub bad : List BadGate
  pub found : IsNetlistFound l r source.layers.now source.nets.now source.gates.now
      source.pins.now netlist top bad
  pub turns : Turns
  pub narrow : merge_refusal (wide_name r netlist) (wide_name r schematic) ≡ None
  pub taken : IsTaken r (compared_of r netlist) top (compared_of r schematic) turns
  pub verdict : IsRunVerdict (length bad) (all_answers turns.compared) v
  pub picture : Picture
  pub drawn : IsPictureOf l r source cells (names_of netlist) (compared_of r netlist)
      (shown_left (compared_of r netlist) turns.compared) picture
  pub written : AreShown l r picture (compared_of r netlist) (compared_of r schematic)
      turns.compared top bad paged text page
  pub line_is : line ≡ view_line v (length netlist.circuits) (pair_count turns.compared)
      (length bad)
