use Rattle.std.proofs.Common.{rules, ◌≡◌, ◌≤◌, ◌-◌, ◌∷◌, ◌∙◌, ap, sym, ℕ, List, length, take, drop}
use Rattle.std.specs.Prelude.{flat_map}
use Rattle.spice_rows.specs.Rows.{DeviceCard}
use Rattle.spice_text.specs.Needs.{first_seen, device_nets}
use Rattle.spice_text.proofs.Firsts.{first_and_rest}
use Rattle.spice_text.proofs.NeedLemmas.{seen_append}
use Rattle.spice_text.proofs.nets.Nets.see_devices.Goals as goal

pub devices-preserved : goal.devices-preserved
devices-preserved c =
    let rest = c.devices.rest.now in
    let item = c.device-item.result in
    let some : 1 ≤ length rest = search rules in
    let more = take (length rest - 1) (drop 1 rest) in
    let e : rest ≡ item ∷ more = first_and_rest rest item some c.device-item.is in
    let seen = c.devices.self.table in (
      c.in_ok-see_device.ensures.names,
      ap (λ (t : List (List ℕ)). first_seen t (flat_map device_nets more)) c.in_ok-see_device.ensures.table
          ∙ sym (seen_append seen (device_nets item) (flat_map device_nets more))
          ∙ ap (λ (ds : List DeviceCard). first_seen seen (flat_map device_nets ds)) (sym e)
          ∙ c.devices.invariant.1,
    )
