-- A stream has more bytes than rectangles.
use Rattle.std.proofs.Common.{◌≡◌, ℕ, ◌+◌, ◌≤◌, ◌<◌, List, [], ◌∷◌, ◌++◌, map, length, ap, ◌∙◌, arith}
use Rattle.std.specs.List.{flat_map, sum_by}
use Rattle.std.proofs.lemmas.Grind.{flat_map-append}
use Rattle.std.proofs.lemmas.List.{length-append}
use Rattle.std.proofs.lemmas.List.Sums.{sum_by-cons}
use Rattle.geo_base.specs.declared.layer.LayerKey.{LayerKey}
use Rattle.geo_base.specs.declared.shapes.Rect.{Rect}
use Rattle.gds_records.specs.Records.{Rec, record_bytes}
use Rattle.gds_records.specs.Kinds.{BOUNDARY, LAYER, DATATYPE, XY, ENDEL, ENDLIB, ENDSTR, BGNSTR, STRNAME}
use Rattle.gds_elements.specs.Reading.{rec}
use Rattle.gds_shapes.specs.Data.{bare, number, numbers, string}
use Rattle.gds_shapes.specs.References.{reference}
use Rattle.gds_shapes.specs.Stream.{Heading, boundary, header, layer, library_bytes, outline, structure}
use Rattle.rule_text.specs.Rules.{Rules}
use Rattle.rule_text.specs.declared.rules.Output.{Output}
use Rattle.deep_tables.specs.declared.layers.CellLayers.{CellLayers}
use Rattle.std.specs.Prelude.{Option, None}
use Rattle.gds_layout.specs.declared.layout.Layout.{Layout}
use Rattle.layout_shapes.specs.Wide.{IsFirstWide}
use Rattle.layout_shapes.specs.Written.{IsWritten, drawn, heading_of, line_of}
use Rattle.cell_graph.specs.Linked.{IsOrder, plain}
use Rattle.deep_tables.specs.Layers.{AreLayers}
use Rattle.shapes_file.specs.File.{IsShapesFile, count_in}
use Rattle.shapes_file.proofs.Same.{same_cells}

-- how many bytes these records are
abbrev size : List Rec → ℕ
size rs = length (flat_map record_bytes rs)

size_both : (rs ts : List Rec) → size (rs ++ ts) ≡ size rs + size ts
size_both rs ts = ap (λ (bs : List ℕ). length bs) (flat_map-append record_bytes rs ts) ∙ length-append (flat_map record_bytes rs) (flat_map record_bytes ts)

size_first : (r : Rec) (rs : List Rec) → 0 < size (r ∷ rs)
size_first r rs = let e = length-append (record_bytes r) (flat_map record_bytes rs) in omega (arith, e)

size_behind : (r : Rec) (rs : List Rec) → size rs ≤ size (r ∷ rs)
size_behind r rs = let e = length-append (record_bytes r) (flat_map record_bytes rs) in omega (arith, e)

rects : (key : LayerKey) (rs : List Rect) → length rs ≤ size (flat_map (boundary key) rs)
rects key [] = omega arith
rects key (r ∷ rs) =
    let here = size_both (boundary key r) (flat_map (boundary key) rs) in
    let some : 0 < size (boundary key r) = size_first (bare BOUNDARY) (number LAYER key.layer ∷ number DATATYPE key.datatype ∷ rec XY 3 (outline r) ∷ bare ENDEL ∷ []) in
    let more = rects key rs in
    omega (arith, here, some, more)

lines : (table : List (Option CellLayers)) (cell : ℕ) (os : List Output) → sum_by (λ o. length (line_of table cell o).1) os ≤ size (flat_map layer (map (line_of table cell) os))
lines table cell [] = omega arith
lines table cell (o ∷ os) =
    let f : Output → ℕ = λ o. length (line_of table cell o).1 in
    let sum = sum_by-cons f o os in
    let here = size_both (layer (line_of table cell o)) (flat_map layer (map (line_of table cell) os)) in
    let first = rects (line_of table cell o).0 (line_of table cell o).1 in
    let more = lines table cell os in
    omega (arith, sum, here, first, more)

cells : (l : Layout) (r : Rules) (table : List (Option CellLayers)) (cs : List ℕ) → sum_by (count_in table r) cs ≤ size (flat_map structure (map (drawn l r table) cs))
cells l r table [] = omega arith
cells l r table (c ∷ cs) =
    let d = drawn l r table c in
    let sum = sum_by-cons (count_in table r) c cs in
    let here = size_both (structure d) (flat_map structure (map (drawn l r table) cs)) in
    let body = flat_map reference d.refs ++ flat_map layer d.layers in
    let end = bare ENDSTR ∷ [] in
    let dates = size_behind (numbers BGNSTR d.dates) (string STRNAME d.name ∷ body ++ end) in
    let name = size_behind (string STRNAME d.name) (body ++ end) in
    let ended = size_both body end in
    let behind = size_both (flat_map reference d.refs) (flat_map layer d.layers) in
    let first = lines table c r.outputs in
    let more = cells l r table cs in
    omega (arith, sum, here, dates, name, ended, behind, first, more)

-- no stream has more rectangles than bytes
pub fewer : (l : Layout) (r : Rules) (table : List (Option CellLayers)) (heading : Heading) (cs : List ℕ) → sum_by (count_in table r) cs ≤ length (library_bytes heading (map (drawn l r table) cs))
fewer l r table heading cs =
    let all = flat_map structure (map (drawn l r table) cs) in
    let whole = size_both (header heading) (all ++ bare ENDLIB ∷ []) in
    let ended = size_both all (bare ENDLIB ∷ []) in
    let few = cells l r table cs in
    omega (arith, whole, ended, few)

-- ---- the cells of a layout

-- what is counted is fewer than the bytes
pub room : (l : Layout) (r : Rules) (table : List (Option CellLayers)) (text : List ℕ) → IsOrder l.design → IsWritten l r table text → sum_by (count_in table r) l.design.order ≤ length text
room l r table text order written =
    let same = (same_cells l.design (count_in table r) written.cells order written.reached).0 in
    let few = fewer l r table (heading_of l.header) written.cells in
    let bytes = ap length written.exact in
    omega (arith, same, few, bytes)

pub made : (l : Layout) (r : Rules) (table : List (Option CellLayers)) (text : List ℕ) (cells rectangles : ℕ) → IsOrder l.design → AreLayers (plain l.design) r table → IsFirstWide l.design r table None → IsWritten l r table text
    → cells ≡ length l.design.order → rectangles ≡ sum_by (count_in table r) l.design.order → IsShapesFile l r text cells rectangles
made l r table text n rectangles order are narrow written e f =
    let same = same_cells l.design (count_in table r) written.cells order written.reached in
    record { table = table; layers = are; narrow = narrow; written = written; cell_count = e ∙ same.1; rectangle_count = f ∙ same.0 }
