use Rattle.std.proofs.Common.{refl}
use Rattle.std.proofs.lemmas.Result.{IfOk-weaker}
use Rattle.net_model.specs.Rows.{plain_netlist}
use Rattle.spice_text.proofs.MeansLemmas.{netlist_is}
use Rattle.spice_text.proofs.read.netlist.Goals as goal

pub needs_of-requires : goal.needs_of-requires
needs_of-requires c = c.requires

pub returns : goal.returns
returns c =
    let needs = c.in_ok-needs.needs in
    let cards = c.args.cards in
    let has = c.in_ok-needs.ensures in
    IfOk-weaker c.netlist_over.result _ _ (λ n h.
    netlist_is cards.circuits.items cards.circuits.items cards.circuits.items cards.globals.items cards.globals.items needs.globals.table needs.globals.table needs.globals.names.items
    cards.names needs.rows.items needs.rows.items (plain_netlist n) refl refl refl
    has.table refl has.globals.names refl c.requires.texts has.rows h) c.netlist_over.ensures
