use Rattle.geo_base.specs.Motions.{moved_square}
use Rattle.net_walk.proofs.Insides.{in_inside}
use Rattle.net_walk.proofs.whole.is_covered.Goals as goal

pub returns-in-None : goal.returns-in-None
returns-in-None g c = λ e k x m h. absurd (c.in-None.ensures.none k x m h)

pub returns-in-Some : goal.returns-in-Some
returns-in-Some g c = λ e k x m h.
    let inside = c.is_inside.ensures.inside.0 e in
    in_inside c.in-Some.span c.args.rect.now (moved_square c.args.element.now.motion m) (record { rect = c.in-Some.ensures.some.rect; x1 = inside.x1; x2 = inside.x2; y1 = inside.y1; y2 = inside.y2 }) (c.in-Some.ensures.some.all k x m h)
