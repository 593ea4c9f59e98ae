use Rattle.std.proofs.Common.{◌≡◌, [], ℕ, List, inr, map, length, refl, sym, subst, ap, ap₂, ◌∙◌, rules, arith}
use Rattle.std.specs.Prelude.{slice_index_or, flat_map}
use Rattle.call_order.specs.Order.{lists}
use Rattle.plain_netlist.specs.Lists.{IsListed}
use Rattle.net_model.specs.Rows.{plain_call, plain_device, plain_circuit}
use Rattle.net_model.specs.declared.netlist.DeviceRow.{DeviceRow as Device}
use Rattle.net_model.specs.declared.netlist.CallRow.{CallRow as Call}
use Rattle.net_align.specs.Laid.{AreBelow, device_put}
use Rattle.net_align.specs.Sights.{IsNumbering, firsts, sights, new_of, place_in, short_call}
use Rattle.net_align.proofs.Seeing.{numbered_low, first_in, new_is_place}
use Rattle.net_align.proofs.Shortened.{pins_same, devices_same, calls_same, cut_same}
use Rattle.net_align.proofs.cut.cut.Goals as goal

pub names_at-requires : goal.names_at-requires
names_at-requires c i low =
    let nets = c.in_ok-nets.nets in
    let all = numbered_low nets.list.items c.len.result nets.places.items c.in_ok-nets.ensures.places in
    let list : c.deref-3.result.now ≡ nets.list.items = c.deref-3.ensures.value in
    let names : length c.deref-2.result.now ≡ c.len.result = search rules in
    let below : AreBelow c.deref-3.result.now c.len.result = subst (λ (t : List ℕ). AreBelow t c.len.result) (sym list) all in
    let b = below i low in
    omega (arith, b, names)

pub returns : goal.returns
returns c =
    let flat = c.args.flat.now in
    let x = plain_circuit flat in
    let numbers = c.args.numbers.now in
    let held = lists c.args.held.now in
    let own = c.args.own.now in
    let nets = c.in_ok-nets.nets in
    let s = sights numbers held own x in
    let seen : c.deref.result.now ≡ s = c.deref.ensures.value ∙ c.in_ok-seen.ensures in
    let list : nets.list.items ≡ firsts s = c.in_ok-nets.ensures.list ∙ ap firsts seen in
    let places : IsNumbering (firsts s) c.len.result nets.places.items = subst (λ (t : List ℕ). IsNumbering t c.len.result nets.places.items) list c.in_ok-nets.ensures.places in
    let to = new_of nets.places.items in
    let same : (n : ℕ) → IsListed n s → to n ≡ place_in (firsts s) n = λ n h. new_is_place (firsts s) c.len.result nets.places.items places n (first_in s [] n (inr h)) in
    let names : c.in_ok-names_at.field-0.items ≡ map (λ n. slice_index_or x.nets n []) (firsts s) =
    c.in_ok-names_at.ensures ∙ ap₂ (λ (t : List (List ℕ)) (l : List ℕ). map (λ n. slice_index_or t n []) l) c.deref-2.ensures.value (c.deref-3.ensures.value ∙ list) in
    let pins : c.in_ok-renumbered.field-0.items ≡ map (place_in (firsts s)) own = c.in_ok-renumbered.ensures ∙ pins_same numbers held own x to same in
    let devices : map plain_device c.in_ok-cut_devices.field-0.items ≡ _ =
    c.in_ok-cut_devices.ensures ∙ (ap (λ (t : List Device). map (device_put to) t) c.deref-4.ensures.value ∙ devices_same numbers held own x to same flat.devices.items refl) in
    let calls : map plain_call c.in_ok-cut_calls.field-0.items ≡ _ =
    c.in_ok-cut_calls.ensures ∙ (ap (λ (t : List Call). flat_map (short_call numbers held to) (map plain_call t)) c.deref-5.ensures.value ∙ calls_same numbers held own x to same) in
    let name : c.in_ok-try_clone.field-0 ≡ x.name = search rules in
    cut_same numbers held own x c.in_ok-try_clone.field-0 c.in_ok-names_at.field-0.items c.in_ok-renumbered.field-0.items (map plain_device c.in_ok-cut_devices.field-0.items) (map plain_call c.in_ok-cut_calls.field-0.items) name names pins devices calls
