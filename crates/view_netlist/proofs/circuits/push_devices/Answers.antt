use Rattle.std.proofs.Common.{◌+◌, ◌<◌, ◌≤◌, [], map, drop, subst, refl, List, length, arith}
use Rattle.std.proofs.lemmas.List.{drop_all}
use Rattle.plain_netlist.specs.Netlist.{DeviceRow as PlainDevice}
use Rattle.net_model.specs.Rows.{plain_device}
use Rattle.net_model.specs.declared.netlist.DeviceRow.{DeviceRow}
use Rattle.spice_text.specs.Written.{AreTexts, HasWritten}
use Rattle.spice_text.proofs.WriteLemmas.{more, done, split, start}
use Rattle.view_netlist.specs.Circuits.{IsDeviceText}
use Rattle.view_netlist.proofs.circuits.push_devices.Goals as goal

pub devices-init : goal.devices-init
devices-init c = start (AreTexts (IsDeviceText c.args.places.now) 0 (map plain_device c.args.devices.now)) c.args.out.now.items

pub devices-preserved : goal.devices-preserved
devices-preserved c =
    let whole = AreTexts (IsDeviceText c.args.places.now) 0 (map plain_device c.args.devices.now) in
    let x = c.index-devices-i.result in
    let rest = map plain_device (drop (c.devices.i + 1) c.args.devices.now) in
    let few = c.in_ok-count.ensures.ok in
    let lt : c.devices.i < length c.args.devices.now = omega (arith, few, c.devices-test.true) in
    more (IsDeviceText c.args.places.now) c.devices.i (plain_device x) rest whole c.args.out.now.items c.devices.out.items c.push_device.new.out.items
    (subst (λ (ds : List PlainDevice). HasWritten (AreTexts (IsDeviceText c.args.places.now) c.devices.i ds) whole c.args.out.now.items c.devices.out.items)
    (split plain_device c.args.devices.now c.devices.i x lt c.index-devices-i.is) c.devices.invariant)
    c.in_ok-push_device.ensures

pub returns : goal.returns
returns c =
    let whole = AreTexts (IsDeviceText c.args.places.now) 0 (map plain_device c.args.devices.now) in
    let few = c.in_ok-count.ensures.ok in
    let end : length c.args.devices.now ≤ c.devices.i = omega (arith, few, c.devices-test.false) in
    done (AreTexts (IsDeviceText c.args.places.now) c.devices.i []) whole c.args.out.now.items c.devices.out.items refl
    (subst (λ (ds : List DeviceRow). HasWritten (AreTexts (IsDeviceText c.args.places.now) c.devices.i (map plain_device ds)) whole c.args.out.now.items c.devices.out.items)
    (drop_all c.devices.i c.args.devices.now end) c.devices.invariant)
