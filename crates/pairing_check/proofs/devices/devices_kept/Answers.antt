use Rattle.std.proofs.Common.{map, slice_index, arith, sym, ◌∙◌, true≢false}
use Rattle.net_model.specs.Rows.{plain_device}
use Rattle.match_laws.specs.Circuits.{IsDeviceImage}
use Rattle.match_parts.proofs.Read.{row}
use Rattle.pairing_check.proofs.Rows.{more, broken, all}
use Rattle.pairing_check.proofs.devices.devices_kept.Goals as goal

pub is_device_image-requires : goal.is_device_image-requires
is_device_image-requires c = c.requires.nets c.loop-k.k _ (row plain_device c.args.left.now.devices.items c.loop-k.k c.index.result.now (omega arith) c.index.ensures)

pub returns-then-not-is_device_image : goal.returns-then-not-is_device_image
returns-then-not-is_device_image c =
    let a = row plain_device c.args.left.now.devices.items c.loop-k.k c.index.result.now (omega arith) c.index.ensures in
    let low = c.requires.onto c.loop-k.k (omega arith) in
    let b = row plain_device c.args.right.now.devices.items (slice_index c.args.devices.now c.loop-k.k) c.index-image.result.now low c.index-image.ensures in
    broken (IsDeviceImage c.args.nets.now) (map plain_device c.args.left.now.devices.items) (map plain_device c.args.right.now.devices.items) c.args.devices.now c.loop-k.k _ _ a b
    (λ p. true≢false (sym (c.is_device_image.ensures.1 p) ∙ c.if-not-is_device_image.true))

pub loop-k-preserved : goal.loop-k-preserved
loop-k-preserved c =
    let a = row plain_device c.args.left.now.devices.items c.loop-k.k c.index.result.now (omega arith) c.index.ensures in
    let low = c.requires.onto c.loop-k.k (omega arith) in
    let b = row plain_device c.args.right.now.devices.items (slice_index c.args.devices.now c.loop-k.k) c.index-image.result.now low c.index-image.ensures in
    let p = c.is_device_image.ensures.0 c.if-not-is_device_image.false in
    more (IsDeviceImage c.args.nets.now) (map plain_device c.args.left.now.devices.items) (map plain_device c.args.right.now.devices.items) c.args.devices.now c.loop-k.k _ _ c.loop-k.invariant a b p

pub returns : goal.returns
returns c = all plain_device (IsDeviceImage c.args.nets.now) c.args.left.now.devices.items (map plain_device c.args.right.now.devices.items) c.args.devices.now c.loop-k.k (omega arith) c.loop-k.invariant
