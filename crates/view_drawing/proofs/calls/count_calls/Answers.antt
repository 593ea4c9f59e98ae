use Rattle.std.proofs.Common.{◌≡◌, ◌+◌, ◌∙◌, List, [], ◌∷◌, ap, arith, drop, get_or, length, length-append}
use Rattle.std.proofs.lemmas.Option.{slice_get-get_or}
use Rattle.geo_base.specs.declared.motion.Motion.{Motion}
use Rattle.net_walk.proofs.Walking.{no_element}
use Rattle.net_walk.specs.declared.cells.Element.{Element}
use Rattle.view_drawing.proofs.Fars.{called_one}
use Rattle.view_drawing.proofs.Placing.{drop_at}
use Rattle.view_drawing.specs.Calls.{called_motions}
use Rattle.view_drawing.proofs.calls.count_calls.Goals as goal

pub elements-preserved : goal.elements-preserved
elements-preserved c =
    let table = c.args.circuits.now in
    let es = c.args.elements.now in
    let k = c.elements.k in
    let e = get_or es k no_element in
    let rest = drop (k + 1) es in
    let step : drop k es ≡ e ∷ rest = drop_at es k e (slice_get-get_or es k no_element c.elements-test.true) in
    let both : length (called_motions table (drop k es)) ≡ length (called_motions table (e ∷ [])) + length (called_motions table rest)
    = ap (λ (l : List Element). length (called_motions table l)) step ∙ ap (λ (l : List Motion). length l) (called_one table e rest) ∙ length-append (called_motions table (e ∷ [])) (called_motions table rest) in
    let so_far = c.elements.invariant.0 in
    let below = c.elements.invariant.1 in
    let one = c.count_call-count.ensures.calls in
    let most = c.count_call-count.ensures.most in
    (omega (arith, both, so_far, one), omega (arith, below, most))
