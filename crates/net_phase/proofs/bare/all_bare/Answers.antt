use Rattle.std.proofs.Common.{refl, arith}
use Rattle.net_phase.proofs.Listing.{long_push}
use Rattle.net_phase.proofs.Marks.{more_bare, none_bare}
use Rattle.net_phase.proofs.bare.all_bare.Goals as goal
use Rattle.net_phase.specs.Own.{rect_lists}

pub loop-conductor-init : goal.loop-conductor-init
loop-conductor-init c = rw c.new-all.ensures.items (record { long = refl; right = none_bare c.args.design.now (rect_lists c.args.own.now) })

pub loop-conductor-preserved : goal.loop-conductor-preserved
loop-conductor-preserved c =
    let h = c.loop-conductor.invariant in
    let old = c.loop-conductor.all.items in
    let marks = c.in_ok-marks.marks in
    let long = long_push old marks in
    let had = h.long in
    rw c.in_ok-push.ensures.items (record {
      long = omega (arith, long, had);
      right = more_bare c.args.design.now (rect_lists c.args.own.now) c.loop-conductor.conductor old marks h.long h.right c.in_ok-marks.ensures;
    })
