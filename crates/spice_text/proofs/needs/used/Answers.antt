use Rattle.std.proofs.Common.{◌∙◌, ap, map, [], List, ℕ}
use Rattle.std.specs.Prelude.{flat_map}
use Rattle.spice_rows.specs.Rows.{DeviceCard}
use Rattle.spice_rows.specs.declared.card.CallCard.{CallCard}
use Rattle.spice_rows.specs.Seen.{call_seen}
use Rattle.spice_text.specs.Needs.{device_nets}
use Rattle.spice_text.specs.Table.{with_numbers, with_calls}
use Rattle.spice_text.specs.Seen.{circuit_seen}
use Rattle.spice_text.proofs.NumberLemmas.{numbers_used}
use Rattle.spice_text.proofs.needs.used.Goals as goal

pub returns : goal.returns
returns c =
    let globals = c.args.globals.now in
    let devices = flat_map device_nets c.args.c.now.devices.items in
    c.in_ok-push_calls.ensures
    ∙ ap (λ (t : List ℕ). with_calls globals t (map call_seen c.deref-2.result.now))
    (c.in_ok-push_devices.ensures
    ∙ ap (λ (s : List ℕ). with_numbers globals s (flat_map device_nets c.deref.result.now)) c.new-out.ensures.items
    ∙ ap (λ (xs : List DeviceCard). with_numbers globals [] (flat_map device_nets xs)) c.deref.ensures.value)
    ∙ ap (λ (xs : List CallCard). with_calls globals (with_numbers globals [] devices) (map call_seen xs)) c.deref-2.ensures.value
    ∙ numbers_used globals (circuit_seen c.args.c.now)
