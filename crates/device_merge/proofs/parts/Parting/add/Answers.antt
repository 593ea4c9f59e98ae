use Rattle.std.proofs.Common.{◌<◌, ◌≤◌, length, refl, arith}
use Rattle.net_model.specs.Rows.{plain_device}
use Rattle.device_merge.specs.Merging.{placed}
use Rattle.device_merge.specs.declared.parts.Parting.{Parting}
use Rattle.device_merge.proofs.Parted.{begun_parting, joined_parting, last_place}
use Rattle.device_merge.proofs.parts.Parting.add.Goals as goal

pub returns-then-at-len : goal.returns-then-at-len
returns-then-at-len c gs h =
    let count = c.len.ensures in
    let inside = c.if-at-len.true in
    let long = c.args.self.now.places.ok.0 in
    let low : c.place-at.result < length c.args.self.now.places.items = omega arith in
    let new : Parting = record { keys = c.args.self.now.keys; places = c.join.new.places } in
    joined_parting c.args.self.now new gs (placed c.args.place (plain_device c.args.row.now)) c.place-at.result h (c.place-at.ensures gs h.keys) low refl c.in_ok-join.ensures

pub returns : goal.returns
returns c gs h =
    let row = plain_device c.args.row.now in
    let count = c.len.ensures in
    let out = c.if-at-len.false in
    let long = c.args.self.now.places.ok.0 in
    let high : length c.args.self.now.places.items ≤ c.place-at.result = omega arith in
    let is = c.place-at.ensures gs h.keys in
    let last = last_place c.args.self.now gs row c.place-at.result h is high in
    let new : Parting = record { keys = c.add.new.self; places = c.join-2.new.places } in
    begun_parting c.args.self.now new gs (placed c.args.place row) c.place-at.result h is last (c.in_ok-add.ensures gs h.keys last c.args.place) c.in_ok-join-2.ensures
