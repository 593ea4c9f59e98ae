use Rattle.std.proofs.Common.{◌≡◌, ◌-◌, ◌≤◌, List, ◌∷◌, length, map, take, drop, subst, rules}
use Rattle.net_model.specs.declared.netlist.DeviceRow.{DeviceRow as Held}
use Rattle.net_model.specs.Rows.{plain_device}
use Rattle.device_merge.proofs.Going.{IsGoing, first_and_rest, further, stopped}
use Rattle.device_merge.proofs.groups.merge_up_to.Goals as goal

pub returns-then-not-branch : goal.returns-then-not-branch
returns-then-not-branch c =
    let all = map plain_device c.args.devices.now in
    let rest = c.devices.rest.now in
    let some : 1 ≤ length rest = search rules in
    let more = take (length rest - 1) (drop 1 rest) in
    let e : rest ≡ c.row-item.result ∷ more = first_and_rest rest c.row-item.result some c.row-item.is in
    stopped c.args.most c.devices.merging all (map plain_device more) (plain_device c.row-item.result) (subst (λ (rs : List Held). IsGoing c.args.most c.devices.merging all (map plain_device rs)) e c.devices.invariant) (c.in_ok-add.ensures.wide c.if-not-branch.true)

pub devices-preserved : goal.devices-preserved
devices-preserved c =
    let all = map plain_device c.args.devices.now in
    let rest = c.devices.rest.now in
    let some : 1 ≤ length rest = search rules in
    let more = take (length rest - 1) (drop 1 rest) in
    let e : rest ≡ c.row-item.result ∷ more = first_and_rest rest c.row-item.result some c.row-item.is in
    further c.args.most c.devices.merging c.add.new.self all (map plain_device more) (plain_device c.row-item.result) (subst (λ (rs : List Held). IsGoing c.args.most c.devices.merging all (map plain_device rs)) e c.devices.invariant) c.in_ok-add.ensures.most (c.in_ok-add.ensures.added c.if-not-branch.false)
