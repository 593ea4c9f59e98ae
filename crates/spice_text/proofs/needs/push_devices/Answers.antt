use Rattle.std.proofs.Common.{rules, ◌≡◌, ◌≤◌, ◌-◌, ◌∷◌, ◌∙◌, ap, sym, ℕ, List, length, take, drop}
use Rattle.std.specs.Prelude.{flat_map}
use Rattle.spice_rows.specs.Rows.{DeviceCard}
use Rattle.spice_text.specs.Needs.{device_nets}
use Rattle.spice_text.specs.Table.{with_numbers}
use Rattle.spice_text.proofs.Firsts.{first_and_rest}
use Rattle.spice_text.proofs.NumberLemmas.{numbers_append}
use Rattle.spice_text.proofs.needs.push_devices.Goals as goal

pub devices-preserved : goal.devices-preserved
devices-preserved c =
    let rest = c.devices.rest.now in
    let item = c.device-item.result in
    let globals = c.args.globals.now in
    let some : 1 ≤ length rest = search rules in
    let more = take (length rest - 1) (drop 1 rest) in
    let e : rest ≡ item ∷ more = first_and_rest rest item some c.device-item.is in
    let out = c.devices.out.items in
    ap (λ (t : List ℕ). with_numbers globals t (flat_map device_nets more)) c.in_ok-push_device.ensures
    ∙ sym (numbers_append globals out (device_nets item) (flat_map device_nets more))
    ∙ ap (λ (ds : List DeviceCard). with_numbers globals out (flat_map device_nets ds)) (sym e)
    ∙ c.devices.invariant
