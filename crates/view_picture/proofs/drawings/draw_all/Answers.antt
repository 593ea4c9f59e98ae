use Rattle.std.proofs.Common.{◌-◌, ℕ, List, Option, drop, length, map, subst, sym, take}
use Rattle.net_model.specs.Rows.{plain_circuit}
use Rattle.plain_netlist.specs.Netlist.{Circuit}
use Rattle.view_drawing.specs.Devices.{areas_of}
use Rattle.view_drawing.specs.Drawn.{listed_tables}
use Rattle.view_drawing.proofs.Placing.{added_twice, front, nil_of}
use Rattle.view_netlist.specs.Drawing.{Drawn, plain_drawing}
use Rattle.view_shapes.specs.Shown.{called_by}
use Rattle.view_picture.specs.Picture.{IsDrawnIn, plain_drawings}
use Rattle.view_picture.proofs.Picturing.{Goes, goes_end, goes_on}
use Rattle.view_picture.proofs.drawings.draw_all.Goals as goal

pub circuits-preserved : goal.circuits-preserved
circuits-preserved c =
    let s = c.args.given.source in
    let t = listed_tables c.args.given.lists.now in
    let called = called_by c.args.given.lists.now.called.items in
    let cells = c.args.given.cells.now in
    let texts = c.args.table.now in
    let shown = c.args.shown.now in
    let rest = c.circuits.rest.now in
    let left = c.left-item.result in
    let more = take (length rest - 1) (drop 1 rest) in
    let now = areas_of c.circuits.regions.regions.items in
    let new = areas_of c.draw_in.new.regions.regions.items in
    let out = plain_drawings c.circuits.out.items in
    let all = map plain_circuit c.args.lefts.now in
    let v = plain_drawing c.in_ok-drawing.drawing in
    let here = subst (λ (l : List Circuit). Goes s t called cells texts shown now l out all) (front plain_circuit rest left c.in-len1-up.len_at_least c.left-item.is) c.circuits.invariant.goes in
    let drawn = subst (λ (cell : Option ℕ). IsDrawnIn s t called shown cell (plain_circuit left) new v) c.shown_cell-cell.ensures c.in_ok-drawing.ensures.drawn in
    let next = goes_on s t called cells texts shown now new (plain_circuit left) (map plain_circuit more) v out all c.in_ok-drawing.ensures.added drawn here in
    record {
      added = added_twice _ now new c.circuits.invariant.added c.in_ok-drawing.ensures.added;
      small_regions = λ h. c.in_ok-drawing.ensures.small_regions (c.circuits.invariant.small_regions h);
      small = c.in_ok-keep.ensures.small c.circuits.invariant.small;
      goes = subst (λ (l : List Drawn). Goes s t called cells texts shown new (map plain_circuit more) l all) (sym c.in_ok-keep.ensures.kept) next;
    }

pub returns-clause-drawn : goal.returns-clause-drawn
returns-clause-drawn c =
    goes_end c.args.given.source (listed_tables c.args.given.lists.now) (called_by c.args.given.lists.now.called.items) c.args.given.cells.now c.args.table.now c.args.shown.now (areas_of c.circuits.regions.regions.items)
    (map plain_circuit c.circuits.rest.now) (plain_drawings c.circuits.out.items) (map plain_circuit c.args.lefts.now) (nil_of plain_circuit c.circuits.rest.now c.in_default.len_below) c.circuits.invariant.goes
