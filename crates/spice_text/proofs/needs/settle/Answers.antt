use Rattle.spice_text.proofs.NeedLemmas.{row_set}
use Rattle.spice_text.proofs.needs.settle.Goals as goal

pub returns : goal.returns
returns c = row_set c.args.circuits.now c.args.calls.now c.args.globals.now.table c.args.rows.now.items c.deref-2.result.now c.args.k c.index-circuits-k.result c.index-calls-k.result c.in_ok-row.row c.deref.result.now
    c.requires.circuit c.requires.called c.index-circuits-k.is c.index-calls-k.is c.deref.ensures.value c.deref-2.ensures.value c.in_ok-row.ensures
