use Rattle.std.proofs.Common.{◌≡◌, ◌∙◌, map, length, sym, ap, arith}
use Rattle.std.proofs.Math.ListN.{get_or-map}
use Rattle.std.proofs.lemmas.List.{length-map}
use Rattle.deep_tables.specs.Nets.{plain_item}
use Rattle.circuit_phase.specs.Placed.{is_child_marked}
use Rattle.circuit_phase.proofs.Children.{marked_next}
use Rattle.circuit_phase.proofs.placed.mark_placed.Goals as goal

pub loop-i-preserved : goal.loop-i-preserved
loop-i-preserved g c =
    let raw = c.args.nets.now.items.items in
    let items = map plain_item raw in
    let test = is_child_marked (g.P.Placed.pins c.args.placed.now) (g.P.Placed.drawn c.args.placed.now) c.args.cells.now in
    let item = c.index.result.now in
    let long : length items ≡ length raw = length-map raw plain_item in
    let same = c.requires.numbers in
    let n = c.loop-i.i in
    marked_next test items c.args.nets.now.net_of.items c.args.marks.now c.loop-i.marks c.mark_if.new.marks n (plain_item item) c.index-in-loop-i.result.now c.is_child_marked-wanted.result
    (omega (arith, long)) (omega (arith, long, same)) (ap plain_item c.index.ensures ∙ sym (get_or-map plain_item raw n item)) c.index-in-loop-i.ensures c.is_child_marked-wanted.ensures c.mark_if.ensures.count c.mark_if.ensures.marked c.loop-i.invariant
