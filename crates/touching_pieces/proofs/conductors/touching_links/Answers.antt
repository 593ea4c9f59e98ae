use Rattle.std.proofs.Common.{◌≡◌, ℕ, arith, subst}
use Rattle.touching_pieces.proofs.Joining.{none_yet, none_tied, conductor_more, all_conductors}
use Rattle.touching_pieces.proofs.conductors.touching_links.Goals as goal
use Rattle.touching_pieces.specs.Pairs.{AreOf}

pub loop-conductor-init : goal.loop-conductor-init
loop-conductor-init c = rw c.new-out.ensures.items (none_yet c.args.joins.now c.args.pieces.now)

pub loop-conductor-preserved : goal.loop-conductor-preserved
loop-conductor-preserved c = conductor_more c.args.joins.now c.args.pieces.now c.loop-conductor.conductor c.loop-conductor.out.items c.link_conductor.new.out.items c.loop-conductor.invariant c.in_ok-link_conductor.ensures

pub returns : goal.returns
returns c =
    let e : c.args.conductors ≡ c.loop-conductor.conductor = omega arith in
    all_conductors c.args.joins.now c.args.pieces.now c.loop-conductor.conductor c.loop-conductor.out.items (subst (λ (n : ℕ). AreOf n c.args.pieces.now) e c.requires) c.loop-conductor.invariant

pub returns-then-pieces-lt2 : goal.returns-then-pieces-lt2
returns-then-pieces-lt2 c = none_tied c.args.joins.now c.args.pieces.now c.new-out.result.items (omega arith) c.new-out.ensures.items
