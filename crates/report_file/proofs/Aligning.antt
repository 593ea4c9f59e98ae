-- Extracted netlists, and those that are read, can be aligned.
use Rattle.std.proofs.Common.{ℕ, List, [], ap, sym, subst, ◌∙◌, arith}
use Rattle.std.specs.Prelude.{slice_get}
use Rattle.flat_laws.proofs.Planned.{item_at}
use Rattle.flat_layout.specs.Circuits.{cell_name}
use Rattle.flat_layout.specs.Expanded.{AreTablesRight, CircuitTables}
use Rattle.flat_layout.specs.Gates.{Rule}
use Rattle.flat_layout.specs.Layout.{Design}
use Rattle.flat_layout.specs.Nets.{Tables}
use Rattle.flat_layout.specs.Regions.{Wiring}
use Rattle.plain_netlist.specs.Netlist.{Circuit, Netlist, IsCircuit}
use Rattle.report_file.proofs.Folded.{IsFolded, apart_folded, folded_names}
use Rattle.report_file.proofs.Read.{names_folded}
use Rattle.report_file.specs.Alignable.{ExtractedAlignableLaw, ReadAlignableLaw}
use Rattle.spice_text.proofs.NeedLemmas.{get_listed}
use Rattle.spice_text.proofs.NormalLemmas.{row_of}
use Rattle.spice_text.specs.Circuits.{all_of, names_of}
use Rattle.table_laws.specs.NameLaws.{ExtractedGoodLaw}

cell_named : (d : Design) (w : Wiring) (t : Tables) (g : CircuitTables) (nl : Netlist) (rules : List Rule) (unit : ℕ) (level : ℕ → ℕ) → AreTablesRight d w t g nl rules unit level
    → (n : ℕ) (c : Circuit) → IsCircuit nl n c → IsFolded c.name
cell_named d w t g nl rules unit level h n c is =
    let r = item_at nl.circuits g.cells n c (sym h.circuits.count) is in
    folded_names (cell_name d) [] 1 g.cells n c.name (h.circuits.each n r.0 c r.1 is).has_name

pub extracted_alignable : ExtractedGoodLaw → ExtractedAlignableLaw
extracted_alignable good d w t g nl rules unit level h sound =
    let both = good d w t g nl rules unit level h in
    (record { sound = sound; normal = both.1; names = apart_folded nl sound (cell_named d w t g nl rules unit level h) }, both.0.lower)

pub read_alignable : ReadAlignableLaw
read_alignable limit bytes nl means sound normal =
    let all = all_of means.cards in
    let folded : (k : ℕ) (x : Circuit) → IsCircuit nl k x → IsFolded x.name = λ k x is.
    let r = row_of (names_of all) means.netlist.needed 0 k k all x (omega arith) (sym (ap (λ (xs : List Circuit). slice_get xs k) means.netlist.rows) ∙ is) in
    let named = names_folded limit bytes means.cards means.read r.0 (get_listed all k r.0 r.1) in
    subst (λ (y : Circuit). IsFolded y.name) (sym r.2) named in
    record { sound = sound; normal = normal; names = apart_folded nl sound folded }
