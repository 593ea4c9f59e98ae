use Rattle.std.proofs.Common.{ap, ◌∙◌, sym, ◌++◌, List}
use Rattle.std.proofs.lemmas.List.{append-nil}
use Rattle.geo_base.specs.declared.shapes.Point.{Point}
use Rattle.gds_elements.specs.Data.{points_of}
use Rattle.gds_elements.proofs.PointLemmas.{goes_on, no_more}
use Rattle.gds_elements.proofs.points.points.Goals as goal

pub loop-rest-preserved : goal.loop-rest-preserved
loop-rest-preserved c =
    rw c.in_ok-push.ensures.items (goes_on c.loop-rest.points.items (points_of c.args.body.now) c.loop-rest.rest.now c.first_point.result c.loop-rest-test.true c.first_point.ensures c.loop-rest.invariant)

pub returns : goal.returns
returns c =
    sym (append-nil c.loop-rest.points.items) ∙ ap (λ (ps : List Point). c.loop-rest.points.items ++ ps) (sym (no_more c.loop-rest.rest.now c.loop-rest-test.false)) ∙ c.loop-rest.invariant
