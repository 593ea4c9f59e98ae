use Rattle.std.proofs.Common.{◌∙◌, ℕ, List, [], refl, ap, arith}
use Rattle.flat_layout.specs.Names.{circuit_ending, circuit_names, circuit_needs}
use Rattle.circuit_phase.specs.Names.{folded_names}
use Rattle.std.specs.Borrow.{Bor}
use Rattle.net_names.specs.Folding.{folded_bytes}
use Rattle.circuit_phase.proofs.Endings.{circuit_asks, name_more, names_end, names_long, name_at}
use Rattle.circuit_phase.proofs.names.circuit_names.Goals as goal

pub loop-i-init : goal.loop-i-init
loop-i-init c = rw c.new-names.ensures.items (rw c.new-earlier.ensures refl)

pub loop-i-preserved : goal.loop-i-preserved
loop-i-preserved c =
    let long = names_long c.args.cells.now in
    let added = c.in_ok-push_circuit_name.ensures in
    name_more circuit_needs circuit_ending circuit_asks c.loop-i.earlier c.push_circuit_name.new.earlier c.loop-i.i (folded_names c.args.cells.now) c.loop-i.names.items c.push_circuit_name.new.names.items _ _ (circuit_names [] 1 (folded_names c.args.cells.now))
    (omega arith) (ap (λ (b : Bor (List ℕ)). folded_bytes b.now) c.index-cells-i.is ∙ name_at c.args.cells.now c.loop-i.i c.index-cells-i.result (omega arith)) refl added.earlier added.names c.loop-i.invariant

pub returns : goal.returns
returns c =
    let long = names_long c.args.cells.now in
    names_end circuit_needs circuit_ending c.loop-i.earlier c.loop-i.i (folded_names c.args.cells.now) c.loop-i.names.items (circuit_names [] 1 (folded_names c.args.cells.now)) (omega arith) c.loop-i.invariant
