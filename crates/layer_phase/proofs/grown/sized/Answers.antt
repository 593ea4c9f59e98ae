use Rattle.std.proofs.Common.{◌≡◌, ◌↔◌, rules, w64, true, subst}
use mir.Val.{SFits}
use Rattle.std.proofs.lemmas.Int.{to_z-of_z}
use Rattle.geo_base.specs.declared.shapes.Square.{Square}
use Rattle.rect_sets.specs.Rects.{covers}
use Rattle.flat_layout.specs.Plane.{IsSized}
use Rattle.layer_phase.proofs.Around.{of_size}
use Rattle.layer_phase.proofs.grown.sized.Goals as goal

pub returns-clause-squares : goal.returns-clause-squares
returns-clause-squares c =
    let f : SFits w64 c.from.result = search rules in
    let h = simp to_z-of_z at c.in_ok-wide.ensures.squares in
    of_size c.args.by c.args.set.now c.in_ok-wide.wide c.rects-rects.ensures.sound
    (λ s. subst (λ d. (covers c.in_ok-wide.wide s ≡ true) ↔ IsSized d (λ (q : Square). covers c.args.set.now q ≡ true) s) c.from.ensures (h s))
