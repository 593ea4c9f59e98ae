use Rattle.std.proofs.Common.{◌∙◌}
use Rattle.net_model.specs.Tests.{is_bad_device}
use Rattle.net_model.specs.Rows.{plain_device}
use Rattle.text_table.proofs.TableLemmas.{any_of}
use Rattle.net_model.proofs.ranges.has_bad_device.Goals as goal

pub returns : goal.returns
returns c =
    c.some_bad_device.ensures ∙ any_of (is_bad_device c.args.count) plain_device c.args.rows.now
