use Rattle.std.proofs.Common.{◌≡◌, ◌^◌, sym, subst}
use Rattle.geo_base.specs.Rects.{moved_rect}
use Rattle.cell_graph.specs.Arrays.{AreOriginsOf}
use Rattle.cell_graph.specs.Linked.{IsRectWithin, HullIsSound, IsHull}
use Rattle.cell_graph.proofs.Sweeping.{still, still_near, span_is}
use Rattle.cell_graph.proofs.spans.span_of.Goals as goal

pub swept-requires-clause-near : goal.swept-requires-clause-near
swept-requires-clause-near c =
    let h = c.in-Some.hull in
    let is : c.rect.result ≡ moved_rect (still c.args.place.now.motion.turn) h = c.rect.ensures.corners in
    let hull : IsHull h = subst HullIsSound c.in-Some.is c.requires.hull in
    subst (IsRectWithin (2 ^ 36)) (sym is) (still_near c.args.place.now.motion.turn h hull.near)

pub returns : goal.returns
returns c =
    let h = c.in-Some.hull in
    let t = c.rect.result in
    let is : t ≡ moved_rect (still c.args.place.now.motion.turn) h = c.rect.ensures.corners in
    let origins : AreOriginsOf c.args.place.now c.in-Some-origins_of.origins = c.in-Some-origins_of.ensures {u = tt} in
    (h, c.in-Some.is, span_is c.args.place.now h t c.swept.result c.in-Some-origins_of.origins is origins c.swept.ensures)
