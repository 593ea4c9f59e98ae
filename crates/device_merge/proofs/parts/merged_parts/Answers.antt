use Rattle.std.proofs.Common.{◌≡◌, ◌-◌, ◌≤◌, suc, List, [], ◌∷◌, length, map, take, drop, subst, ap, arith, rules, Vec, Global, ℕ}
use Rattle.base_laws.proofs.Lists.{none_left}
use Rattle.net_model.specs.declared.netlist.DeviceRow.{DeviceRow as Held}
use Rattle.net_model.specs.Rows.{plain_device}
use Rattle.device_merge.specs.Parts.{place_lists}
use Rattle.device_merge.specs.declared.parts.Parting.{Parting}
use Rattle.device_merge.proofs.Going.{first_and_rest}
use Rattle.device_merge.proofs.Parted.{IsGoing, begun, ended, further}
use Rattle.device_merge.proofs.parts.merged_parts.Goals as goal

pub devices-init : goal.devices-init
devices-init c =
    let all = map plain_device c.args.devices.now in
    let first : Parting = record { keys = c.new.result; places = c.new-2.result } in
    (begun first all (record { keys = c.new.ensures; places = ap (λ (ls : List (Vec ℕ Global)). place_lists ls) c.new-2.ensures.items }), omega arith)

pub devices-preserved : goal.devices-preserved
devices-preserved c =
    let all = map plain_device c.args.devices.now in
    let rest = c.devices.rest.now in
    let some : 1 ≤ length rest = search rules in
    let more = take (length rest - 1) (drop 1 rest) in
    let e : rest ≡ c.row-item.result ∷ more = first_and_rest rest c.row-item.result some c.row-item.is in
    let l : length rest ≡ suc (length more) = ap (λ (rs : List Held). length rs) e in
    let sum = c.devices.invariant.1 in (
      further c.devices.parting c.add.new.self c.devices.place all (map plain_device more) (plain_device c.row-item.result)
          (subst (λ (rs : List Held). IsGoing c.devices.parting c.devices.place all (map plain_device rs)) e c.devices.invariant.0) c.in_ok-add.ensures,
      omega arith,
    )

pub returns : goal.returns
returns c =
    let all = map plain_device c.args.devices.now in
    let low = c.in_default.len_below in
    let none : c.devices.rest.now ≡ [] = none_left c.devices.rest.now (omega arith) in
    ended c.devices.parting c.devices.place all
    (subst (λ (rs : List Held). IsGoing c.devices.parting c.devices.place all (map plain_device rs)) none c.devices.invariant.0)
