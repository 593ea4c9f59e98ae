use Rattle.rule_text.specs.Seen.{rules_seen}
use Rattle.deep_flow.proofs.Drawing.{filled, has_own}
use Rattle.view_run.proofs.found.find_all.Goals as goal

pub find_circuits-requires-clause-own : goal.find_circuits-requires-clause-own
find_circuits-requires-clause-own g c κs within =
    let found = c.in_ok-found in
    has_own c.args.layout.now.design (rules_seen c.args.rules.now) found.found.gated.layers found.found.gated.nets found.ensures.layers found.ensures.nets

pub returns : goal.returns
returns g c =
    let l = c.args.layout.now in
    let r = rules_seen c.args.rules.now in
    let a = c.in_ok-found.found.gated in
    let made = c.in_ok-found.ensures in
    let drawn = c.in_ok-drawn.ensures in
    let h = filled l.header.unit_pm l.design r a c.in_ok-found.found.pins c.in_ok-circuits.circuits c.in_ok-cells.cells.items c.sound.ensures made.layers made.nets made.gates made.pins
    c.in_ok-circuits.ensures c.in_ok-cells.ensures in
    record {
      cells = record { tables = h.all; cells = h.cells_are };
      of_cells = drawn.netlist;
      sound = drawn.sound;
      normal = drawn.normal;
      told = drawn.bad;
    }
