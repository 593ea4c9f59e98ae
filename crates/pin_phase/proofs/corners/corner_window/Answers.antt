use Rattle.std.proofs.Common.{◌≡◌, true, subst}
use Rattle.geo_base.specs.declared.shapes.Rect.{Rect}
use Rattle.cell_context.specs.Arrays.{IsMeet}
use Rattle.pin_phase.proofs.Cornering.{corner_at, window_of}
use Rattle.pin_phase.proofs.corners.corner_window.Goals as goal

pub returns-then-not-is_at : goal.returns-then-not-is_at
returns-then-not-is_at c q i k =
    let is : c.is_at.result ≡ true = c.is_at.ensures.1 (corner_at c.args.at c.args.frame.now q i k) in
    let z : ⊥ = cc in z

pub returns : goal.returns
returns c = window_of c.args.at c.args.frame.now c.meet.result c.requires (subst (λ (r : Rect). IsMeet r c.args.frame.now c.meet.result) c.around.ensures c.meet.ensures)
