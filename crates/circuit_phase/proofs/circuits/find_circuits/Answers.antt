use Rattle.std.proofs.Common.{◌≡◌, ℕ, List, Some, slice_get, get_or, length, subst, sym}
use Rattle.std.proofs.lemmas.Option.{slice_get-get_or}
use Rattle.cell_graph.proofs.Ordered.{order}
use Rattle.cell_graph.specs.Linked.{height_at}
use Rattle.deep_tables.specs.Gates.{gates_of}
use Rattle.deep_tables.specs.Positions.{AreApartBelow}
use Rattle.circuit_phase.proofs.Numbers.{cells_apart, cells_within}
use Rattle.circuit_phase.proofs.circuits.find_circuits.Goals as goal

pub positions-requires-clause-numbers : goal.positions-requires-clause-numbers
positions-requires-clause-numbers c =
    let d = c.args.design.now in
    let are = c.in_ok-cells.ensures (height_at d) (order d c.sound.ensures) in
    let apart = cells_apart d (gates_of c.args.gates.now) c.in_ok-cells.cells.items c.sound.ensures are in
    subst (λ n. AreApartBelow n c.deref.result.now) (sym c.cells.ensures) (subst (λ (l : List ℕ). AreApartBelow (length d.cells) l) (sym c.deref.ensures.value) apart)

pub cell_names-requires : goal.cell_names-requires
cell_names-requires c =
    let d = c.args.design.now in
    let are = c.in_ok-cells.ensures (height_at d) (order d c.sound.ensures) in
    λ i lt. cells_within d (gates_of c.args.gates.now) c.in_ok-cells.cells.items c.sound.ensures are i (get_or c.deref-2.result.now i 0)
    (subst (λ (l : List ℕ). slice_get l i ≡ Some (get_or c.deref-2.result.now i 0)) c.deref-2.ensures.value (slice_get-get_or c.deref-2.result.now i 0 lt))

pub returns-clause-cells : goal.returns-clause-cells
returns-clause-cells c = let d = c.args.design.now in c.in_ok-cells.ensures (height_at d) (order d c.sound.ensures)
