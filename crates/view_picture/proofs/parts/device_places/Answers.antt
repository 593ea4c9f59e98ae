use Rattle.std.proofs.Common.{◌≡◌, ◌∙◌, ℕ, List, ap, map, refl}
use Rattle.base_laws.proofs.Tests.{not_both}
use Rattle.std.specs.Global.{Vec}
use Rattle.device_merge.specs.Parts.{place_lists, places_of}
use Rattle.merge_laws.specs.Grouped.{groups}
use Rattle.net_model.specs.Rows.{plain_device}
use Rattle.view_netlist.specs.declared.drawing.DevicePlace.{DevicePlace}
use Rattle.view_picture.specs.Parts.{Merged, Others, Same, first_places}
use Rattle.view_picture.proofs.parts.device_places.Goals as goal

pub returns-then-same_devices-clause-places : goal.returns-then-same_devices-clause-places
returns-then-same_devices-clause-places c = Same (c.same_devices.ensures.0 c.if-same_devices.true) refl

pub returns-then-is_merged-clause-places : goal.returns-then-is_merged-clause-places
returns-then-is_merged-clause-places c =
    let parts : place_lists c.deref-then-is_merged.result.now ≡ map places_of (groups (map plain_device c.args.others.now)) = ap (λ (l : List (Vec ℕ)). place_lists l) c.deref-then-is_merged.ensures.value ∙ c.in_ok-parts.ensures in
    Merged (c.in_ok-is_merged.ensures.0 c.if-is_merged.true)
    (c.in_ok-firsts.ensures.places ∙ (ap (λ (l : List DevicePlace). first_places l (place_lists c.deref-then-is_merged.result.now)) c.deref.ensures.value ∙ ap (λ (ls : List (List ℕ)). first_places c.args.places.items ls) parts))

pub returns-clause-places : goal.returns-clause-places
returns-clause-places c =
    Others (λ e. not_both c.same_devices.result (c.same_devices.ensures.1 e) c.if-same_devices.false)
    (λ m. not_both c.in_ok-is_merged.is_merged (c.in_ok-is_merged.ensures.1 m) c.if-is_merged.false) c.new.ensures.items
