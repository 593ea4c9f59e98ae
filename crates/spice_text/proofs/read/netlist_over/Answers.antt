use Rattle.std.proofs.Common.{◌∙◌, ap, map, List, ℕ}
use Rattle.std.specs.Global.{Vec}
use Rattle.call_order.specs.Order.{lists}
use Rattle.spice_text.specs.Means.{rows_from}
use Rattle.spice_text.specs.Seen.{circuit_seen}
use Rattle.spice_text.specs.Table.{needed_of}
use Rattle.spice_text.proofs.read.netlist_over.Goals as goal

pub returns : goal.returns
returns c =
    let names = c.args.names.now in
    let cs = map circuit_seen c.args.circuits.items in
    c.in_ok-circuits.ensures
    ∙ ap (λ (x : List (Vec ℕ)). rows_from names (needed_of (lists x) c.deref-2.result.now) 0 cs) c.deref.ensures.value
    ∙ ap (λ (x : List (List ℕ)). rows_from names (needed_of (lists c.args.needs.now.rows.items) x) 0 cs) c.deref-2.ensures.value
