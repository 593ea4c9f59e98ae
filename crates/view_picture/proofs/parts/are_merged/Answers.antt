use Rattle.std.proofs.Common.{◌∙◌, List, ap, map, subst}
use Rattle.device_merge.specs.Merging.{IsMerged}
use Rattle.net_model.specs.Rows.{plain_device}
use Rattle.net_model.specs.declared.netlist.DeviceRow.{DeviceRow}
use Rattle.view_picture.proofs.Parting.{merged_if, wide_not}
use Rattle.view_picture.proofs.parts.are_merged.Goals as goal

pub returns-in-Some : goal.returns-in-Some
returns-in-Some c =
    let rows = map plain_device c.args.rows.now in
    let others = map plain_device c.args.others.now in
    let is = subst (IsMerged others) c.in-Some.is c.in_ok-made.ensures in
    merged_if c.same_devices.result rows others (map plain_device c.deref.result.now) (ap (λ (l : List DeviceRow). map plain_device l) c.deref.ensures.value ∙ is.0) is.1 c.same_devices.ensures

pub returns-in-None : goal.returns-in-None
returns-in-None c =
    let others = map plain_device c.args.others.now in
    wide_not (map plain_device c.args.rows.now) others (subst (IsMerged others) c.in-None.is c.in_ok-made.ensures)
