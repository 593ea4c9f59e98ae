use Rattle.std.proofs.Common.{◌≡◌, ◌∙◌, ◌&&◌, ◌==◌, false, Bool, List, ℕ, ap, get_or, length, replicate, sym, arith}
use Rattle.std.specs.List.{list_all}
use Rattle.cell_graph.specs.declared.cells.Place.{Place}
use Rattle.net_phase.proofs.Marks.{no_marks, one_mark}
use Rattle.net_phase.proofs.bare.bare_cells.Goals as goal
use Rattle.net_phase.proofs.bare.bare_cells.Goals.{else-is_bare_over, then-is_bare_over}
use Rattle.net_phase.specs.Own.{own_at, rect_lists}

pub loop-cell-init : goal.loop-cell-init
loop-cell-init c =
    let filled : c.in_ok-marks.marks.items ≡ replicate c.cells.result false = c.in_ok-marks.ensures.items_if_clones_equal (λ y e. e) in
    no_marks c.args.design.now (rect_lists c.args.own.now) c.args.conductor c.cells.result c.in_ok-marks.marks.items filled c.cells.ensures

pub loop-cell-preserved : goal.loop-cell-preserved
loop-cell-preserved c = elim c.if-is_bare_over.branch [
  | then-is_bare_over w ↦
      let d = c.args.design.now in
      let all = rect_lists c.args.own.now in
      let n = c.loop-cell.cell-index in
      let cell = get_or c.order-cell-items.result.now n 0 in
      let long = ap (λ (o : List ℕ). length o) c.order-cell-items.ensures in
      let at : cell ≡ get_or d.order n 0 = ap (λ (o : List ℕ). get_or o n 0) c.order-cell-items.ensures in
      let inside = c.sound.ensures.order.inside n (omega (arith, long)) in
      let test = sym (c.is_bare_over.ensures ∙ ap (λ (l : List Bool). (length (own_at all cell c.args.conductor) == 0) && list_all (λ (p : Place). get_or l p.cell false) c.places.result.now) c.deref.ensures.value) ∙ w.if-is_bare_over.true in
      rw w.marks-is (one_mark d all c.args.conductor cell c.places.result.now c.loop-cell.marks.items (omega (arith, at, inside)) c.places.ensures test c.loop-cell.invariant)
  | else-is_bare_over w ↦ rw w.marks-is c.loop-cell.invariant
]
