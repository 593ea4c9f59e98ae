use Rattle.std.proofs.Common.{map, slice_get, ◌∙◌}
use Rattle.plain_netlist.specs.Netlist.{CallRow as PlainCall}
use Rattle.net_model.specs.Tests.{is_other_count}
use Rattle.net_model.specs.Rows.{plain_circuit, plain_call}
use Rattle.text_table.proofs.TableLemmas.{any_of}
use Rattle.net_model.proofs.ranges.has_other_call.Goals as goal

pub returns : goal.returns
returns c =
    c.some_other_count.ensures ∙ any_of (λ (r : PlainCall). is_other_count (slice_get (map plain_circuit c.args.circuits.now) r.circuit) r) plain_call c.args.rows.now
