use Rattle.std.proofs.Common.{rules, ◌≡◌, ◌<◌, pos, ◌-ℤ◌, w64, arith, to_z}
use Rattle.std.proofs.lemmas.Int.{to_z-of_z, to_z_pos}
use mir.Val.{SFits}
use Rattle.run_layout.proofs.Ranges.{by_high, by_low}
use Rattle.run_layout.proofs.far.stays_near.Goals as goal

pub returns-then-room-low : goal.returns-then-room-low
returns-then-room-low c =
    let n = c.args.reach in
    let small = c.requires.reach in
    let big : n < 9223372036854775808 = omega (arith, small) in
    let cast : to_z w64 n ≡ pos n = to_z_pos w64 n big in
    let fits : SFits w64 (pos 68719476736 -ℤ pos n) = search rules in
    let less : SFits w64 (pos 0 -ℤ (pos 68719476736 -ℤ pos n)) = search rules in
    let fl : SFits w64 c.args.low = search rules in
    let fh : SFits w64 c.args.high = search rules in
    let room = to_z-of_z w64 (pos 68719476736 -ℤ pos n) fits in
    let neg = to_z-of_z w64 (pos 0 -ℤ (pos 68719476736 -ℤ pos n)) less in
    let low = to_z-of_z w64 c.args.low fl in
    let high = to_z-of_z w64 c.args.high fh in
    let e = rw (cast, room, neg, low) at c.if-room-low.true in
    rw (cast, room, high) (by_high c.args.low c.args.high n c.requires.low c.requires.high e)

pub returns-else-room-low : goal.returns-else-room-low
returns-else-room-low c =
    let n = c.args.reach in
    let small = c.requires.reach in
    let big : n < 9223372036854775808 = omega (arith, small) in
    let cast : to_z w64 n ≡ pos n = to_z_pos w64 n big in
    let fits : SFits w64 (pos 68719476736 -ℤ pos n) = search rules in
    let less : SFits w64 (pos 0 -ℤ (pos 68719476736 -ℤ pos n)) = search rules in
    let fl : SFits w64 c.args.low = search rules in
    let room = to_z-of_z w64 (pos 68719476736 -ℤ pos n) fits in
    let neg = to_z-of_z w64 (pos 0 -ℤ (pos 68719476736 -ℤ pos n)) less in
    let low = to_z-of_z w64 c.args.low fl in
    let e = rw (cast, room, neg, low) at c.if-room-low.false in
    rw (cast, room, neg, low, e) (by_low c.args.low c.args.high n e)
