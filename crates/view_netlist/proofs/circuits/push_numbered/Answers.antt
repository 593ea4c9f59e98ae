use Rattle.std.proofs.Common.{sym, subst}
use Rattle.net_model.specs.Rows.{plain_circuit}
use Rattle.view_netlist.specs.Circuits.{IsCircuitText}
use Rattle.view_netlist.specs.Drawing.{Drawn, IsSmallDrawing}
use Rattle.view_netlist.proofs.Drawings.{drawn_small}
use Rattle.view_netlist.proofs.Numbered.{there}
use Rattle.view_netlist.proofs.circuits.push_numbered.Goals as goal

pub push_circuit-requires : goal.push_circuit-requires
push_circuit-requires c = subst IsSmallDrawing (sym c.drawing_at-drawing.ensures) (drawn_small c.args.drawings.now c.args.k c.requires.small)

pub returns : goal.returns
returns c =
    let text = c.in_ok-push_circuit.ensures in
    let x = plain_circuit c.index-circuits-k.result in (
      text.0,
      text.1,
      (
        x,
        there c.args.circuits.now c.args.k c.index-circuits-k.result c.requires.there c.index-circuits-k.is,
        subst (λ (e : Drawn). IsCircuitText c.args.names.now e c.args.k x text.0) c.drawing_at-drawing.ensures text.2,
      ),
    )
