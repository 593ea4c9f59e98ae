-- What is made of a layout and a schematic, or why nothing is.
use Rattle.std.proofs.Common.{◌≡◌, ◌<◌, ◌*◌, ◌∙◌, ℕ, Bool, true, false, cond, List, Option, length, refl, sym, ap, subst, arith}
use Rattle.std.proofs.lemmas.List.{length-map}
use Rattle.std.proofs.lemmas.Option.{slice_get_within}
use Rattle.cell_graph.specs.Linked.{Linked, cell_at, plain}
use Rattle.deep_flow.specs.Extracted.{IsNetlistOfCells}
use Rattle.deep_tables.specs.declared.gates.BadGate.{BadGate}
use Rattle.deep_tables.specs.declared.gates.CellGates.{CellGates}
use Rattle.deep_tables.specs.declared.layers.CellLayers.{CellLayers}
use Rattle.deep_tables.specs.declared.nets.CellNets.{CellNets}
use Rattle.deep_tables.specs.declared.pins.CellPins.{CellPins}
use Rattle.gds_layout.specs.declared.layout.Layout.{Layout}
use Rattle.match_report.specs.Gates.{name_of as cell_name}
use Rattle.match_report.specs.declared.report.Compared.{Compared}
use Rattle.merge_laws.specs.Grouped.{merged_circuit, merged_netlist}
use Rattle.net_align.specs.Compared.{AreCalleesFirst, IsAlignable}
use Rattle.net_model.specs.Rows.{plain_circuit, plain_netlist}
use Rattle.net_model.specs.declared.netlist.Netlist.{Netlist as Code}
use Rattle.pair_jobs.specs.Verdict.{IsRunVerdict}
use Rattle.pair_jobs.specs.declared.verdict.Verdict.{Verdict}
use Rattle.plain_netlist.specs.Netlist.{Netlist}
use Rattle.report_file.proofs.Combined.{compared_alignable, compared_order}
use Rattle.report_file.specs.Combined.{CombinedAlignableLaw, compared_of}
use Rattle.report_file.specs.File.{all_answers, pair_count}
use Rattle.report_file.specs.Taken.{IsTaken}
use Rattle.report_file.specs.declared.turns.Turns.{Turns}
use Rattle.rule_text.specs.Rules.{Rules}
use Rattle.view_cross.specs.declared.rows.Row.{Row}
use Rattle.view_file.specs.File.{IsDatabase}
use Rattle.view_file.specs.declared.layout.Picture.{Picture}
use Rattle.view_labels.specs.Logs.{gate_log}
use Rattle.view_run.specs.Ends.{End}
use Rattle.view_run.specs.Found.{AreCompared, HasFound, Memory, NotCompared, Wide}
use Rattle.view_run.specs.Lines.{view_line}
use Rattle.view_drawing.specs.Devices.{areas_of}
use Rattle.view_drawing.specs.declared.source.Source.{Source}
use Rattle.view_picture.specs.declared.drawings.Sketch.{Sketch}
use Rattle.view_run.specs.Views.{AreCellsOf, ArePictured, AreShown, IsNetlistFound, IsView, names_of, shown_left, shown_lefts, shown_logs, shown_rights, view_answer}
use Rattle.view_run.specs.Far.{HasFarAligned, HasFarBy, IsTooFar, NotMade}
use Rattle.view_run.specs.Far as refusals
use Rattle.view_run.specs.Sketched.{IsSketchOf}
use Rattle.view_run.specs.declared.found.Found.{Found}
use Rattle.view_shapes.specs.declared.pieces.ShowFault.{ShowFault}
use Rattle.view_shapes.specs.declared.pieces.ShowFault.TheVariants as faults
use Rattle.view_run.specs.declared.merging.Both.{Both}

-- ---- the top's circuit is one

pub top_there : (unit : ℕ) (d : Linked) (r : Rules) (layers : List (Option CellLayers)) (nets : List (Option CellNets)) (gates : List (Option CellGates)) (pins : List (Option CellPins)) (nl : Netlist) (top : ℕ)
    → IsNetlistOfCells unit d r layers nets gates pins nl top → top < length nl.circuits
top_there unit d r layers nets gates pins nl top h =
    let lt = slice_get_within h.tables.cells top (plain d).top h.top_is in
    let e = h.right.circuits.count in omega (arith, lt, e)

same_length : (r : Rules) (nl : Netlist) → length (compared_of r nl).circuits ≡ length nl.circuits
same_length r nl = step r.combine
  where
    step : (b : Bool) → length (cond b (merged_netlist nl) nl).circuits ≡ length nl.circuits
    step true = length-map nl.circuits merged_circuit
    step false = refl

pub top_compared : (r : Rules) (nl : Netlist) (m : Code) (top : ℕ) → plain_netlist m ≡ compared_of r nl → top < length nl.circuits → top < length m.circuits.items
top_compared r nl m top e lt =
    let same = length-map m.circuits.items plain_circuit in
    let as_long = ap (λ (n : Netlist). length n.circuits) e ∙ same_length r nl in omega (arith, same, as_long, lt)

-- ---- what is compared can be

module _ {r : Rules} {nl other : Netlist} {b : Both} (both : AreCompared r nl other b) where
  pub layout_alignable : CombinedAlignableLaw → IsAlignable nl → IsAlignable (plain_netlist b.layout)
  layout_alignable law h = subst (λ (n : Netlist). IsAlignable n) (sym both.layout_is) (compared_alignable r nl law h)

  pub schematic_alignable : CombinedAlignableLaw → IsAlignable other → IsAlignable (plain_netlist b.schematic)
  schematic_alignable law h = subst (λ (n : Netlist). IsAlignable n) (sym both.schematic_is) (compared_alignable r other law h)

  pub layout_ordered : AreCalleesFirst nl → AreCalleesFirst (plain_netlist b.layout)
  layout_ordered h = subst (λ (n : Netlist). AreCalleesFirst n) (sym both.layout_is) (compared_order r nl h)

  pub top_of_both : (top : ℕ) → top < length nl.circuits → top < length b.layout.circuits.items
  top_of_both top lt = top_compared r nl b.layout top both.layout_is lt

-- what can't be drawn isn't made
pub not_drawn : (l : Layout) (r : Rules) (schematic : Netlist) (fault : ShowFault) (e : End) → e ≡ view_answer fault → (fault ≡ faults.TooFar → IsTooFar l r schematic) → NotMade l r schematic e
not_drawn l r schematic faults.TooFar e same far = refusals.Far (far refl) same
not_drawn l r schematic faults.NoMemory e same far = refusals.Memory same

-- ---- the same of equal names, gates, rows and numbers

pub database_as : (l : Layout) (r : Rules) (p : Picture) (one two : Netlist) (o : Option Compared) (name top : List ℕ) (gates bad : List BadGate) (lists rows : List (List Row)) (text : List ℕ) → name ≡ top → gates ≡ bad → lists ≡ rows
    → IsDatabase (cell_name (cell_at l.design l.design.top)) (l.header.unit_pm * 1000) r p (shown_logs (gate_log l.design name gates) o) (shown_lefts one o) (shown_rights two o) lists (all_answers o) text
    → IsDatabase (cell_name (cell_at l.design l.design.top)) (l.header.unit_pm * 1000) r p (shown_logs (gate_log l.design top bad) o) (shown_lefts one o) (shown_rights two o) rows (all_answers o) text
database_as l r p one two o name top gates bad lists rows text same_name same_gates same_lists h =
    let Is : List ℕ → List BadGate → List (List Row) → Type 0 = λ n gs ls. IsDatabase (cell_name (cell_at l.design l.design.top)) (l.header.unit_pm * 1000) r p (shown_logs (gate_log l.design n gs) o) (shown_lefts one o) (shown_rights two o) ls (all_answers o) text in
    subst (λ (ls : List (List Row)). Is top bad ls) same_lists (subst (λ (gs : List BadGate). Is top gs lists) same_gates (subst (λ (n : List ℕ). Is n gates lists) same_name h))

pub line_as : (line : List ℕ) (v : Verdict) (a b c circuits pairs bad : ℕ) → a ≡ circuits → b ≡ pairs → c ≡ bad → line ≡ view_line v a b c → line ≡ view_line v circuits pairs bad
line_as line v a b c circuits pairs bad e f g h = rw (sym e, sym f, sym g) h

-- ---- by what was found

module _ (l : Layout) (r : Rules) (schematic : Netlist) (f : Found) (found : HasFound l r f) where
  netlist_found : IsNetlistFound l r f.cells.tables.gated.layers f.cells.tables.gated.nets f.cells.tables.gated.gates f.cells.tables.pins (plain_netlist f.netlist) f.top f.bad.items
  netlist_found = record { of_cells = found.of_cells; sound = found.sound; told = found.told }

  pub not_made : (e : End) → NotCompared r (plain_netlist f.netlist) schematic e → NotMade l r schematic e
  not_made e (Wide a refused same) = refusals.Wide a
      (record { cells = f.cells; are = found.cells; netlist = plain_netlist f.netlist; top = f.top; bad = f.bad.items; found = netlist_found; refused = refused }) same
  not_made e (Memory same) = refusals.Memory same

  -- ---- what is made over the netlists that are compared
  module _ (t : Turns) (p : Picture) (paged : Bool) (text : List ℕ) (page : Option (List ℕ)) where
    pub record Made (one other : Netlist) : Type 0 where
      pub taken : IsTaken r one f.top other t
      pub drawn : ArePictured l r f.cells (names_of (plain_netlist f.netlist)) one (shown_left one t.compared) p
      pub written : AreShown l r p one other t.compared f.top f.bad.items paged text page

    pub is_view : (b : Both) (v : Verdict) (line : List ℕ) → AreCompared r (plain_netlist f.netlist) schematic b → Made (plain_netlist b.layout) (plain_netlist b.schematic) → IsRunVerdict (length f.bad.items) (all_answers t.compared) v
        → line ≡ view_line v (length (plain_netlist f.netlist).circuits) (pair_count t.compared) (length f.bad.items) → IsView l r schematic paged v text page line
    is_view b v line both made verdict line_is =
        let nl = plain_netlist f.netlist in
        let m = subst (λ (n : Netlist). Made (compared_of r nl) n) both.schematic_is (subst (λ (n : Netlist). Made n (plain_netlist b.schematic)) both.layout_is made) in
        let d = m.drawn in
        let s = d.source in
        let by_layers = subst (λ (xs : List (Option CellLayers)). IsNetlistFound l r xs f.cells.tables.gated.nets f.cells.tables.gated.gates f.cells.tables.pins nl f.top f.bad.items) (sym d.layers) netlist_found in
        let by_nets = subst (λ (xs : List (Option CellNets)). IsNetlistFound l r s.layers.now xs f.cells.tables.gated.gates f.cells.tables.pins nl f.top f.bad.items) (sym d.nets) by_layers in
        let by_gates = subst (λ (xs : List (Option CellGates)). IsNetlistFound l r s.layers.now s.nets.now xs f.cells.tables.pins nl f.top f.bad.items) (sym d.gates) by_nets in
        record {
          source = s;
          cells = d.cells;
          are = d.are;
          netlist = nl;
          top = f.top;
          bad = f.bad.items;
          found = subst (λ (xs : List (Option CellPins)). IsNetlistFound l r s.layers.now s.nets.now s.gates.now xs nl f.top f.bad.items) (sym d.pins) by_gates;
          turns = t;
          narrow = both.narrow;
          taken = m.taken;
          verdict = verdict;
          picture = p;
          drawn = d.picture;
          written = m.written;
          line_is = line_is;
        }

  -- ---- what is too far of the netlists that are compared
  module _ (t : Turns) (s : Source) (cells : List ℕ) (sketch : Sketch) where
    pub record FarMade (one other : Netlist) : Type 0 where
      pub taken : IsTaken r one f.top other t
      pub sketched : IsSketchOf l r s cells (names_of (plain_netlist f.netlist)) one sketch
      pub by : HasFarBy one (shown_left one t.compared) sketch.drawings.items (areas_of sketch.regions.regions.items)

    pub far_aligned : (b : Both) → AreCompared r (plain_netlist f.netlist) schematic b → AreCellsOf l r s cells → s.layers.now ≡ f.cells.tables.gated.layers → s.nets.now ≡ f.cells.tables.gated.nets → s.gates.now ≡ f.cells.tables.gated.gates
        → s.pins.now ≡ f.cells.tables.pins → FarMade (plain_netlist b.layout) (plain_netlist b.schematic) → HasFarAligned l r schematic
    far_aligned b both are layers nets gates pins made =
        let nl = plain_netlist f.netlist in
        let m = subst (λ (n : Netlist). FarMade (compared_of r nl) n) both.schematic_is (subst (λ (n : Netlist). FarMade n (plain_netlist b.schematic)) both.layout_is made) in
        let by_layers = subst (λ (xs : List (Option CellLayers)). IsNetlistFound l r xs f.cells.tables.gated.nets f.cells.tables.gated.gates f.cells.tables.pins nl f.top f.bad.items) (sym layers) netlist_found in
        let by_nets = subst (λ (xs : List (Option CellNets)). IsNetlistFound l r s.layers.now xs f.cells.tables.gated.gates f.cells.tables.pins nl f.top f.bad.items) (sym nets) by_layers in
        let by_gates = subst (λ (xs : List (Option CellGates)). IsNetlistFound l r s.layers.now s.nets.now xs f.cells.tables.pins nl f.top f.bad.items) (sym gates) by_nets in
        record {
          source = s;
          cells = cells;
          are = are;
          netlist = nl;
          top = f.top;
          bad = f.bad.items;
          found = subst (λ (xs : List (Option CellPins)). IsNetlistFound l r s.layers.now s.nets.now s.gates.now xs nl f.top f.bad.items) (sym pins) by_gates;
          turns = t;
          narrow = both.narrow;
          taken = m.taken;
          sketch = sketch;
          sketched = m.sketched;
          by = m.by;
        }
