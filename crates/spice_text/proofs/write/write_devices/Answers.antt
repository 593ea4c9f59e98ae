use Rattle.std.proofs.Common.{◌+◌, [], map, drop, subst, refl, List}
use Rattle.std.proofs.lemmas.List.{drop_all}
use Rattle.plain_netlist.specs.Netlist.{DeviceRow as PlainDevice}
use Rattle.net_model.specs.Rows.{plain_device}
use Rattle.net_model.specs.declared.netlist.DeviceRow.{DeviceRow}
use Rattle.spice_text.specs.Written.{AreTexts, IsDeviceText, HasWritten}
use Rattle.spice_text.proofs.WriteLemmas.{more, done, split, start}
use Rattle.spice_text.proofs.write.write_devices.Goals as goal

pub devices-init : goal.devices-init
devices-init c = start (AreTexts (IsDeviceText c.args.nets.now) 1 (map plain_device c.args.devices.now)) c.args.out.now.items

pub devices-preserved : goal.devices-preserved
devices-preserved c =
    let whole = AreTexts (IsDeviceText c.args.nets.now) 1 (map plain_device c.args.devices.now) in
    let x = c.index-devices-i.result in
    let rest = map plain_device (drop (c.devices.i + 1) c.args.devices.now) in
    more (IsDeviceText c.args.nets.now) (c.devices.i + 1) (plain_device x) rest whole c.args.out.now.items c.devices.out.items c.write_device.new.out.items
    (subst (λ (ds : List PlainDevice). HasWritten (AreTexts (IsDeviceText c.args.nets.now) (c.devices.i + 1) ds) whole c.args.out.now.items c.devices.out.items)
    (split plain_device c.args.devices.now c.devices.i x c.devices-test.true c.index-devices-i.is) c.devices.invariant)
    c.in_ok-write_device.ensures

pub returns : goal.returns
returns c =
    let whole = AreTexts (IsDeviceText c.args.nets.now) 1 (map plain_device c.args.devices.now) in
    done (AreTexts (IsDeviceText c.args.nets.now) (c.devices.i + 1) []) whole c.args.out.now.items c.devices.out.items refl
    (subst (λ (ds : List DeviceRow). HasWritten (AreTexts (IsDeviceText c.args.nets.now) (c.devices.i + 1) (map plain_device ds)) whole c.args.out.now.items c.devices.out.items)
    (drop_all c.devices.i c.args.devices.now c.devices-test.false) c.devices.invariant)
