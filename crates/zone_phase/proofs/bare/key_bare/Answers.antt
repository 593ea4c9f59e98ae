use Rattle.std.proofs.Common.{◌^◌, arith}
use Rattle.zone_phase.proofs.Baring.{bared}
use Rattle.zone_phase.proofs.Nearby.{held_near, rects_within, wider_set}
use Rattle.zone_phase.proofs.bare.key_bare.Goals as goal

pub collect_in-requires-clause-near : goal.collect_in-requires-clause-near
collect_in-requires-clause-near c =
    let zone = c.args.zone.now in
    rects_within (2 ^ 39) zone c.rects.ensures.sound
    (wider_set (2 ^ 37) (2 ^ 39) zone (omega arith) (held_near c.args.used.now.margin c.args.used.now.design.now c.args.used.now.cell zone c.sound.ensures c.requires.used.margin (λ q e. ((c.requires.zone q).0 e).1)))

pub returns : goal.returns
returns c = λ canonical.
    bared c.args.used.now.margin c.args.used.now.design.now c.args.key c.args.used.now.cell c.args.zone.now c.in_ok-flat.flat c.in_ok-bare.bare (c.sound.ensures.hulls.each c.args.used.now.cell) c.requires.covered
    c.rects.ensures.canonical c.requires.zone c.in_ok-flat.ensures c.in_ok-bare.ensures canonical
