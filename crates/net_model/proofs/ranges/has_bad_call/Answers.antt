use Rattle.std.proofs.Common.{◌∙◌}
use Rattle.net_model.specs.Tests.{is_bad_call}
use Rattle.net_model.specs.Rows.{plain_call}
use Rattle.text_table.proofs.TableLemmas.{any_of}
use Rattle.net_model.proofs.ranges.has_bad_call.Goals as goal

pub returns : goal.returns
returns c =
    c.some_bad_call.ensures ∙ any_of (is_bad_call c.args.count) plain_call c.args.rows.now
