use Rattle.std.proofs.Common.{◌∙◌}
use Rattle.plain_netlist.specs.Netlist.{CallRow as PlainCall}
use Rattle.net_model.specs.Tests.{is_out}
use Rattle.net_model.specs.Rows.{plain_call}
use Rattle.text_table.proofs.TableLemmas.{any_of}
use Rattle.net_model.proofs.ranges.has_call_of_none.Goals as goal

pub returns : goal.returns
returns c =
    c.some_call_of_none.ensures ∙ any_of (λ (r : PlainCall). is_out c.args.count r.circuit) plain_call c.args.rows.now
