use Rattle.std.proofs.Common.{get_or, subst, sym}
use Rattle.flat_layout.specs.Layers.{Binary, Empty}
use Rattle.layer_phase.specs.Names.{IsFlatIn}
use Rattle.layer_phase.proofs.Flattening.{flat_of_two}
use Rattle.layer_phase.proofs.flats.two_flats.Goals as goal

pub returns : goal.returns
returns c = λ d cell looks trees h.
    let x = get_or trees c.args.a Empty in let y = get_or trees c.args.b Empty in
    subst (IsFlatIn d cell looks (Binary c.args.op x y)) (sym c.own.ensures)
    (flat_of_two d cell looks c.args.op x y c.set_at-first.result.now c.set_at-second.result.now c.in_ok-set.set c.in_ok-set.ensures
    (subst (IsFlatIn d cell looks x) (sym c.set_at-first.ensures) (h c.args.a)) (subst (IsFlatIn d cell looks y) (sym c.set_at-second.ensures) (h c.args.b)))
