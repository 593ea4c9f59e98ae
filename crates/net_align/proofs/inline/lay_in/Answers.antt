use Rattle.std.proofs.Common.{◌≡◌, ℕ, ◌+◌, ◌<◌, List, ◌++◌, map, drop, length, slice_index, ap, ap₂, ◌∙◌, rules}
use Rattle.plain_netlist.specs.Netlist.{DeviceRow, CallRow}
use Rattle.align_laws.specs.Lists.{net_at_pin}
use Rattle.align_laws.specs.Flat.{call_through}
use Rattle.plain_netlist.specs.Devices.{row_over}
use Rattle.net_model.specs.Rows.{plain_device, plain_call}
use Rattle.net_align.specs.Laid.{name_below, stands, device_put, call_put}
use Rattle.net_align.proofs.Laying.{parts_same, devices_put, calls_put}
use Rattle.net_align.proofs.inline.lay_in.Goals as goal

pub returns : goal.returns
returns c =
    let flat = c.args.flat.now in
    let inner = c.args.inner.now in
    let pins = c.args.call.now.nets.items in
    let behind : c.len.result ≡ length flat.nets.items = search rules in
    let to : (i : ℕ) → i < length inner.nets.items → slice_index c.in_ok-to.to.items i ≡ stands pins (length flat.nets.items) i
    = λ i low. c.in_ok-to.ensures.each i (let l = low in search rules) ∙ ap₂ (λ (ps : List ℕ) (b : ℕ). net_at_pin ps (λ m. b + m) i) c.deref.ensures.value behind in
    let nets : c.add_nets.new.nets.items ≡ flat.nets.items ++ map (name_below c.args.k) (drop (length pins) inner.nets.items) = search rules in
    let devices : map plain_device c.add_devices.new.devices.items ≡ map plain_device flat.devices.items ++ map (device_put (slice_index c.in_ok-to.to.items)) inner.devices.items = search rules in
    let calls : map plain_call c.add_calls.new.calls.items ≡ map plain_call flat.calls.items ++ map (call_put (slice_index c.in_ok-to.to.items)) inner.calls.items = search rules in
    parts_same flat.name flat.pins.items c.add_nets.new.nets.items (flat.nets.items ++ map (name_below c.args.k) (drop (length pins) inner.nets.items))
    (map plain_device c.add_devices.new.devices.items) (map plain_device flat.devices.items ++ map (row_over (stands pins (length flat.nets.items))) (map plain_device inner.devices.items))
    (map plain_call c.add_calls.new.calls.items) (map plain_call flat.calls.items ++ map (call_through (stands pins (length flat.nets.items))) (map plain_call inner.calls.items))
    nets
    (devices ∙ ap (λ (t : List DeviceRow). map plain_device flat.devices.items ++ t) (devices_put (slice_index c.in_ok-to.to.items) (stands pins (length flat.nets.items)) (length inner.nets.items) inner.devices.items to c.requires.devices))
    (calls ∙ ap (λ (t : List CallRow). map plain_call flat.calls.items ++ t) (calls_put (slice_index c.in_ok-to.to.items) (stands pins (length flat.nets.items)) (length inner.nets.items) inner.calls.items to c.requires.calls))
