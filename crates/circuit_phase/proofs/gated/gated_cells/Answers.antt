use Rattle.std.proofs.Common.{◌≡◌, ◌∙◌, ◌||◌, Bool, ℕ, List, Some, get_or, length, slice_get, subst, ap, arith}
use Rattle.cell_graph.proofs.Bridge.{lower}
use Rattle.cell_graph.specs.declared.cells.Place.{Place}
use Rattle.deep_tables.specs.Gates.{gates_of}
use Rattle.circuit_phase.specs.Gated.{has_good, has_marked}
use Rattle.circuit_phase.proofs.Gating.{all_cells, gates_read, one_cell}
use Rattle.circuit_phase.proofs.gated.gated_cells.Goals as goal

pub is_gated-marked-requires : goal.is_gated-marked-requires
is_gated-marked-requires c = λ i p at.
    let cell = get_or c.order-cell-items.result.now c.loop-cell.cell-index 0 in
    let less = (lower c.args.design.now cell i p c.sound.ensures (subst (λ (l : List Place). slice_get l i ≡ Some p) c.places.ensures at)).0 in
    let same = ap (λ (l : List Bool). length l) c.deref.ensures.value in
    let count = c.loop-cell.invariant.count in
    omega (arith, less, same, count)

pub loop-cell-preserved : goal.loop-cell-preserved
loop-cell-preserved c =
    let d = c.args.design.now in
    let n = c.loop-cell.cell-index in
    let cell = get_or c.order-cell-items.result.now n 0 in
    let gates = c.of.result.now in
    let long = ap (λ (l : List ℕ). length l) c.order-cell-items.ensures in
    let at = ap (λ (l : List ℕ). get_or l n 0) c.order-cell-items.ensures in
    let found = c.is_gated-marked.ensures
    ∙ ap (λ (l : List Bool). has_good gates || has_marked l c.places.result.now) c.deref.ensures.value
    ∙ ap (λ (l : List Place). has_good gates || has_marked c.loop-cell.marks.items l) c.places.ensures in
    one_cell d (gates_of c.args.gates.now) n cell c.loop-cell.marks.items gates c.is_gated-marked.result c.sound.ensures (omega (arith, long)) at (gates_read c.args.gates.now cell gates c.of.ensures) found c.loop-cell.invariant

pub returns-clause-marked : goal.returns-clause-marked
returns-clause-marked c =
    let long = ap (λ (l : List ℕ). length l) c.order-cell-items.ensures in
    all_cells c.args.design.now (gates_of c.args.gates.now) c.loop-cell.cell-index c.loop-cell.marks.items c.sound.ensures (omega (arith, long)) c.loop-cell.invariant
