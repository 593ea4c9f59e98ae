-- What a netlist file shows of the flat layout.
use Rattle.std.proofs.Common.{ℕ, List, None, map, sym, ap, ◌∙◌}
use Rattle.cell_graph.specs.Laws.{OrderLaw}
use Rattle.cell_graph.specs.Linked.{height_at, plain}
use Rattle.deep_flow.specs.Bad.{told_bad}
use Rattle.deep_tables.specs.Nets.{tables_of}
use Rattle.flat_laws.specs.FlatGates.{FlatGatesLaw}
use Rattle.flat_laws.specs.GateLaws.{SameGateLaw}
use Rattle.flat_layout.specs.GateTables.{GateEntry, all_bad_gates}
use Rattle.headline_laws.specs.FlatNetlist.{FlatCorrespondsLaw}
use Rattle.netlist_file.specs.Flat.{ShowsFlatLaw}
use Rattle.netlist_file.proofs.Classes.{classed}
use Rattle.netlist_file.proofs.Showing.{all_bad, all_told, no_bad}
use Rattle.netlist_file.proofs.Topmost.{last}
use Rattle.rule_layers.specs.Meaning.{device_rules, wiring_of}
use Rattle.netlist_file.specs.Extracted.{ExtractedMeansLaw}
use Rattle.spice_text.specs.Laws.{OneMeaningLaw}
use Rattle.table_laws.specs.BadLaws.{BadListedLaw}

pub shows_flat : ExtractedMeansLaw → OneMeaningLaw → FlatCorrespondsLaw → FlatGatesLaw → SameGateLaw → BadListedLaw → OrderLaw → ShowsFlatLaw
shows_flat text_means one corresponds gates_law same lists order l r nl top bad text sound f =
    let d = plain l.design in
    let w = wiring_of r in
    let t = tables_of r f.layers f.nets in
    let rules = device_rules r in
    let unit = l.header.unit_pm in
    let level = height_at l.design in
    let c = f.of_cells.tables in
    let right = f.of_cells.right in
    let means = text_means d w t c nl rules unit level text right (classed r sound.formed) f.spelled f.sound f.written in
    let all = gates_law d w t rules c.gates level right.levels.lower right.gates in
    let told = f.told ∙ ap (λ (g : ℕ → List GateEntry). map (told_bad r) (all_bad_gates g l.design.order)) (sym f.of_cells.gates_are) in
    record {
      means = means;
      only = λ other m. one None text other nl m means;
      last = last d level c.gates c.cells top right.levels right.cells f.of_cells.top_is ∙ sym right.circuits.count;
      nets = t;
      circuits = c;
      level = level;
      right = right;
      top_is = f.of_cells.top_is;
      same = corresponds d w t c nl rules unit level right top f.of_cells.top_is;
      told = all_told l.design w t r c.gates bad f.design order lists same all told;
      all_bad = all_bad l.design w t r c.gates bad f.design order lists same all told;
      no_bad = no_bad l.design w t r c.gates bad f.design order lists same all told;
    }
